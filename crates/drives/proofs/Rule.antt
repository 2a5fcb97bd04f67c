-- The rule after a round: what its relief leaves, and what comes next.
-- Assumes nothing.
use mathlib.Core.Path.{◌≡◌, refl, sym, ap, ◌∙◌}
use mathlib.Core.Bool.{Bool, true, false, cond}
use Prim.Native.Nat.{ℕ, zero, suc, ◌+◌, ◌-◌, ◌*◌, ◌≤◌, ◌<◌}
use native.Mathlib.Omega.{arith}
use borrow.Author.Tests.{eq-eqb, ne_eqb}
use lib.ListN.{replicate}
use Rattle.std.specs.declared.ops.ControlFlow.{ControlFlow}
use Rattle.std.specs.declared.ops.ControlFlow.TheVariants.{Break, Continue}
use Rattle.std.specs.declared.result.Result.TheVariants.{Ok, Err}
use Rattle.base.specs.declared.Refusal.{Refusal}
use Rattle.base.specs.Refusals.{number_of}
use Rattle.lane.specs.declared.Lane.{Lane}
use Rattle.lane.specs.State.{World, world}
use Rattle.relief.specs.declared.Enlargement.{Enlargement}
use Rattle.relief.specs.Relief as relief
use Rattle.schedule.specs.Running.{Running, running, relief_in, has_grown, relieves}
use Rattle.drives.specs.declared.End.{End}
use Rattle.drives.specs.Drive.{Next, ends, goes, end_of, by_relief, next_after, left_after, round, Drive, driven, spent, rounds, drove, result, done}
use Rattle.drives.specs.Parts.{next_of, gain_of, Ruled}

-- what a relief leaves that enlarged, or did not
pub left_is : (moved : ℕ) (w : World) (l : Lane) (b : Bool) → b ≡ has_grown (relief_in w) → l ≡ (relief.relieve_of w.lane (replicate 16 0)).lane
    → (grown : ℕ) → running (world l w.cells) moved (grown + cond b 1 0) ≡ left_after (running w moved grown)
unfolding relieves
left_is moved w l b e f grown = rw (e, f) (by (has_grown (relief_in w)))
  where
    by : (t : Bool) → running (world (relief.relieve_of w.lane (replicate 16 0)).lane w.cells) moved (grown + cond t 1 0)
        ≡ running (world (relief.relieve_of w.lane (replicate 16 0)).lane w.cells) moved (cond t (grown + 1) grown)
    by true = refl
    by false = let z : grown ≡ grown + 0 = omega arith in rw (← z)

-- after a round with a move it goes on
pub goes_on : (moved : ℕ) (w : World) (l : Lane) (b : Bool) → (moved ≡ 0 → ⊥) → b ≡ has_grown (relief_in w) → l ≡ (relief.relieve_of w.lane (replicate 16 0)).lane
    → Ruled moved w (Continue b) (world l w.cells)
goes_on moved w l b h e f = record { follows = λ grown. rw (ne_eqb moved 0 h); leaves = left_is moved w l b e f }

-- after one without, a relief that enlarged goes on
pub grows : (moved : ℕ) (w : World) (l : Lane) (a : Enlargement) → moved ≡ 0 → relief.told (Ok a) ≡ relief_in w → l ≡ (relief.relieve_of w.lane (replicate 16 0)).lane
    → Ruled moved w (Continue true) (world l w.cells)
grows moved w l a z e f =
    record { follows = λ grown. rw (eq-eqb moved 0 z, ← e); leaves = left_is moved w l true (ap has_grown e) f }

-- and one that was refused ends it
pub stops : (moved : ℕ) (w : World) (l : Lane) (r : Refusal) (d : End) → moved ≡ 0 → relief.told (Err r) ≡ relief_in w → ends (end_of d) ≡ by_relief (relief.refused (number_of r))
    → l ≡ (relief.relieve_of w.lane (replicate 16 0)).lane
    → Ruled moved w (Break d) (world l w.cells)
stops moved w l r d z e q f =
    record { follows = λ grown. rw (eq-eqb moved 0 z, ← e) q; leaves = left_is moved w l false (ap has_grown e) f }

-- ---- the rounds that are left
-- what follows: the drive ends, or k rounds at most come after n
abbrev pub onward : Next → ℕ → ℕ → Running → Drive
onward (ends e) k n r = driven e n r
onward goes k n r = rounds k n r

pub round_more : (k n : ℕ) (r : Running) → rounds (suc k) n r ≡ onward (next_after (round r)) k (n + 1) (left_after (round r))
round_more k n r = go (next_after (round r)) refl
  where
    go : (x : Next) → next_after (round r) ≡ x → rounds (suc k) n r ≡ onward x k (n + 1) (left_after (round r))
    go (ends e) q = rw (q, rounds)
    go goes q = rw (q, rounds)

-- the moves of the round before are counted in no other
moves_apart : (P k n : ℕ) (w : World) (m m' g : ℕ) → done P (rounds k n (running w m g)) ≡ done P (rounds k n (running w m' g))
moves_apart P zero n w m m' g = refl
moves_apart P (suc k) n w m m' g = refl

module _ (P most made enlarged : ℕ) (w w' : World) (moved : ℕ) (h : made < most) (e : (m g : ℕ) → round (running w m g) ≡ running w' moved g) where
  more : (x : ControlFlow End Bool) (w'' : World) → Ruled moved w' x w'' → (m : ℕ)
      → rounds (most - made) made (running w m enlarged) ≡ onward (next_of x) (most - (made + 1)) (made + 1) (running w'' moved (enlarged + gain_of x))
  more x w'' r m =
      let s : most - made ≡ suc (most - (made + 1)) = omega arith in
      let k : ℕ = most - (made + 1) in
      ap (λ (j : ℕ). rounds j made (running w m enlarged)) s
      ∙ round_more k made (running w m enlarged)
      ∙ ap (λ (y : Running). onward (next_after y) k (made + 1) (left_after y)) (e m enlarged)
      ∙ ap (λ (n : Next). onward n k (made + 1) (left_after (running w' moved enlarged))) (sym (r.follows enlarged))
      ∙ ap (onward (next_of x) k (made + 1)) (sym (r.leaves enlarged))

  -- it goes on
  pub one_more_round : (grew : Bool) (w'' : World) → Ruled moved w' (Continue grew) w'' → (m m' : ℕ)
      → done P (rounds (most - (made + 1)) (made + 1) (running w'' m (enlarged + cond grew 1 0))) ≡ done P (rounds (most - made) made (running w m' enlarged))
  one_more_round grew w'' r m m' =
      moves_apart P (most - (made + 1)) (made + 1) w'' m moved (enlarged + cond grew 1 0) ∙ ap (done P) (sym (more (Continue grew) w'' r m'))

  -- it ends
  pub last_round : (d : End) (w'' : World) → Ruled moved w' (Break d) w'' → (m : ℕ)
      → result (drove (end_of d) (P * (made + 1)) enlarged) w'' ≡ done P (rounds (most - made) made (running w m enlarged))
  last_round d w'' r m =
      let z : enlarged ≡ enlarged + 0 = omega arith in
      ap (λ (g : ℕ). result (drove (end_of d) (P * (made + 1)) g) w'') z ∙ ap (done P) (sym (more (Break d) w'' r m))

-- no round is left
pub no_round : (P most made m g : ℕ) (w : World) → most ≤ made → made ≤ most → result (drove spent (P * most) g) w ≡ done P (rounds (most - made) made (running w m g))
no_round P most made m g w h k =
    let z : most - made ≡ 0 = omega arith in
    let e : most ≡ made = omega arith in
    rw (z, e)
