-- Rounds of any picks, with a relief after each but the last: what the loops keep.
-- Assumes nothing.
use mathlib.Core.Path.{◌≡◌, refl, sym, ap, ◌∙◌}
use mathlib.Core.Bool.{Bool, true, false, cond, not, ◌&&◌, true≢false}
use mathlib.Core.List.{List}
use mir.Val.{bool_byte}
use Prim.Native.Nat.{ℕ, zero, suc, ◌+◌, ◌-◌, ◌≤◌, ◌<◌}
use native.Mathlib.Numerals.{add-one}
use native.Mathlib.Omega.{arith}
use borrow.Author.Tests.{eq-eqb, ne_eqb}
use lib.Dec.{eqb}
use lib.ListN.{length, get_or, drop, drop_of_length-le, replicate}
use lib.Seq.{drop-cons}
use Rattle.lane.specs.declared.Lane.{Lane}
use Rattle.lane.specs.State.{World, world}
use Rattle.lane.specs.Pick.{step_for, pick_in, has_moved, pick_all, unpicked}
use Rattle.relief.specs.Relief.{Relief, relieve_of}
use Rattle.relief.proofs.Enlarged.{relief_cases}
use Rattle.schedule.specs.Running.{Running, running, picks, relief_in, has_grown, relieves}
use Rattle.schedule.proofs.Through.{through, through_is}
use Rattle.drives.specs.Series.{round_of, idle, series, pick_rounds}
use Rattle.drives.proofs.Turns.{picks_is}

-- ---- a round, pick by pick
pub pick_more : (ps : List ℕ) (i m g : ℕ) (w w' : World) (b : Bool) → i < length ps → w' ≡ pick_in (get_or ps i 0) w → b ≡ has_moved (step_for (get_or ps i 0) w).outcome
    → through (drop (i + 1) ps) (running w' (m + bool_byte b) g) ≡ through (drop i ps) (running w m g)
pick_more ps i m g w w' b h e f =
    let c : through (drop i ps) (running w m g) ≡ through (drop (i + 1) ps) (picks (get_or ps i 0) (running w m g)) = rw (drop-cons ps i 0 h, add-one) in
    sym (c ∙ ap (through (drop (i + 1) ps)) (picks_is (get_or ps i 0) m g w w' b e f))

-- no pick is left: the round was these moves
pub picked_all : (ps : List ℕ) (i moved g m : ℕ) (w w' : World) → length ps ≤ i → through (drop i ps) (running w' moved g) ≡ through ps (running w 0 g)
    → round_of ps (running w m g) ≡ running w' moved g
picked_all ps i moved g m w w' h e =
    let d : through (drop i ps) (running w' moved g) ≡ running w' moved g = rw (drop_of_length-le ps h) in
    let z : 0 + (pick_all ps (unpicked w)).moved ≡ (pick_all ps (unpicked w)).moved = omega arith in
    ap (λ (k : ℕ). running (pick_all ps (unpicked w)).world k g) (sym z) ∙ sym (through_is ps w 0 g) ∙ sym e ∙ d

-- ---- the rounds, one at a time
-- the moves of the round before are not asked
moves_over : (k : ℕ) (ps : List ℕ) (w : World) (moved moved' grown : ℕ) → pick_rounds k ps (running w moved grown) ≡ pick_rounds k ps (running w moved' grown)
moves_over zero ps w moved moved' grown = refl
moves_over (suc k) ps w moved moved' grown = refl

-- an idle round is followed by none
idle_round : (left : ℕ) (ps : List ℕ) (r : Running) → idle (round_of ps r) ≡ true → pick_rounds left ps r ≡ series (round_of ps r) left
idle_round zero ps r e = refl
idle_round (suc left) ps r e = rw e

next_round : (left : ℕ) (ps : List ℕ) (r : Running) → idle (round_of ps r) ≡ false → pick_rounds (suc left) ps r ≡ pick_rounds left ps (relieves (round_of ps r))
next_round left ps r e = rw e

-- a relief that enlarged nothing leaves the lane as it was
ungrown : (l : Lane) (buffer : List ℕ) → has_grown (relieve_of l buffer).answer ≡ false → (relieve_of l buffer).lane ≡ l
ungrown l buffer =
    relief_cases (λ (r : Relief). has_grown r.answer ≡ false → r.lane ≡ l) l buffer (λ k e. refl) (λ ring c b s e t. absurd (true≢false t))

-- what a relief leaves that enlarged, or did not
relief_is : (m g : ℕ) (w : World) (l : Lane) (b : Bool) → b ≡ has_grown (relief_in w) → l ≡ (relieve_of w.lane (replicate 16 0)).lane
    → relieves (running w m g) ≡ running (world l w.cells) m (g + bool_byte b)
unfolding relieves
relief_is m g w l b e f = rw (e, f) (by (has_grown (relief_in w)))
  where
    by : (t : Bool) → running (world (relieve_of w.lane (replicate 16 0)).lane w.cells) m (cond t (g + 1) g)
        ≡ running (world (relieve_of w.lane (replicate 16 0)).lane w.cells) m (g + bool_byte t)
    by true = refl
    by false = let z : g ≡ g + 0 = omega arith in rw (← z)

-- a round with a move, or whose relief enlarged, is not idle
busy_is : (moved : ℕ) (b : Bool) → (moved ≡ 0 → b ≡ true) → (eqb moved 0 && not b) ≡ false
busy_is zero b h = rw (h refl)
busy_is (suc moved) b h = let n : suc moved ≡ 0 → ⊥ = omega arith in rw (ne_eqb (suc moved) 0 n)

-- so many rounds are made, and the round after them left w' and moved so many processes
module _ (ps : List ℕ) (again made enlarged moved m : ℕ) (w w' : World) (e : round_of ps (running w m enlarged) ≡ running w' moved enlarged) where
  -- no more may follow
  pub last_of : again ≤ made → pick_rounds (again - made) ps (running w m enlarged) ≡ series (running w' moved enlarged) 0
  last_of h = let z : again - made ≡ 0 = omega arith in rw z (ap (λ (r : Running). series r 0) e)

  module _ (l : Lane) (b : Bool) (f : b ≡ has_grown (relief_in w')) (g : l ≡ (relieve_of w'.lane (replicate 16 0)).lane) where
    -- it had no move, and its relief enlarged nothing
    pub idle_of : moved ≡ 0 → b ≡ false → pick_rounds (again - made) ps (running w m enlarged) ≡ series (running (world l w'.cells) moved enlarged) (again - made)
    idle_of z n =
        let q : has_grown (relief_in w') ≡ false = sym f ∙ n in
        let i : idle (running w' moved enlarged) ≡ true = rw (eq-eqb moved 0 z, q) in
        let s : l ≡ w'.lane = g ∙ ungrown w'.lane (replicate 16 0) q in
        idle_round (again - made) ps (running w m enlarged) (ap idle e ∙ i)
        ∙ ap (λ (r : Running). series r (again - made)) e
        ∙ ap (λ (x : Lane). series (running (world x w'.cells) moved enlarged) (again - made)) (sym s)

    -- it had one, or its relief enlarged
    pub more_of : made < again → (moved ≡ 0 → b ≡ true) → (m' : ℕ)
        → pick_rounds (again - (made + 1)) ps (running (world l w'.cells) m' (enlarged + bool_byte b)) ≡ pick_rounds (again - made) ps (running w m enlarged)
    more_of h n m' =
        let k : ℕ = again - (made + 1) in
        let s : again - made ≡ suc (again - (made + 1)) = omega arith in
        let i : idle (running w' moved enlarged) ≡ false = ap (λ (t : Bool). eqb moved 0 && not t) (sym f) ∙ busy_is moved b n in
        moves_over k ps (world l w'.cells) m' moved (enlarged + bool_byte b)
        ∙ ap (pick_rounds k ps) (sym (relief_is moved enlarged w' l b f g))
        ∙ ap (λ (r : Running). pick_rounds k ps (relieves r)) (sym e)
        ∙ sym (next_round k ps (running w m enlarged) (ap idle e ∙ i))
        ∙ ap (λ (j : ℕ). pick_rounds j ps (running w m enlarged)) (sym s)
