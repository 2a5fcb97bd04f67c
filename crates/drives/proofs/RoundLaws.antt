-- The rounds of a drive: a round is the picks 0 to P − 1; rounds, each followed by its relief, go on until one is idle or none is left; the rule after
-- the last of them says how the drive ends.
-- Assumes nothing.
use mathlib.Core.Path.{◌≡◌, refl, sym, ap, ◌∙◌, subst}
use mathlib.Core.Logic.{◌⊎◌, inl, inr, ⊎_elim}
use mathlib.Core.Bool.{Bool, true, false, cond, not, ◌&&◌, true≢false}
use mathlib.Core.List.{List, [], ◌∷◌}
use Prim.Native.Nat.{ℕ, zero, suc, ◌+◌, ◌-◌, ◌*◌, ◌≤◌, ◌<◌}
use native.Mathlib.Omega.{arith}
use lib.Dec.{eqb}
use lib.IntN.{ℤ}
use lib.ListN.{length, get_or, take, length-take}
use lib.Seq.{get_or-take}
use Rattle.std.specs.declared.ops.ControlFlow.{ControlFlow}
use Rattle.base.specs.Lists.{values}
use Rattle.base.proofs.Lists.{table_at}
use Rattle.network.specs.declared.Network.{Network}
use Rattle.lane.specs.declared.Lane.{Lane}
use Rattle.lane.specs.State.{World, world}
use Rattle.lane.specs.Pick.{pick_all, unpicked}
use Rattle.relief.specs.Relief.{Told, enlarged, refused}
use Rattle.schedule.specs.Running.{Running, running, begun, picks, relief_in, has_grown, relieves}
use Rattle.schedule.proofs.Ready.{Ready, ready_all, ready_relieves}
use Rattle.schedule.proofs.Through.{through, through_is}
use Rattle.drives.specs.declared.End.{End}
use Rattle.drives.specs.Drive as drive
use Rattle.drives.specs.Drive.{turns, round, by_relief, next_after, left_after, Drive, driven, rounds, drove, result, done}
use Rattle.drives.specs.Parts.{next_of, gain_of, Ruled, end_by}
use Rattle.drives.specs.Series.{round_of, idle, Series, series, pick_rounds}
use Rattle.drives.proofs.Rule.{onward, round_more, left_is}

-- ---- the picks of a round
-- the picks of a round of all sixteen processes; of fewer, the first so many of them
abbrev pub order : List ℕ
order = 0 ∷ 1 ∷ 2 ∷ 3 ∷ 4 ∷ 5 ∷ 6 ∷ 7 ∷ 8 ∷ 9 ∷ 10 ∷ 11 ∷ 12 ∷ 13 ∷ 14 ∷ 15 ∷ []

abbrev numbers : ℕ → ℕ → List ℕ
numbers p n = values (λ (k : ℕ). k) p n

order_is : numbers 0 16 ≡ order
unfolding values
order_is = refl

turns_through : (n k p : ℕ) (r : Running) → k ≤ n → turns p k r ≡ through (take k (numbers p n)) r
unfolding values
turns_through n zero p r h = refl
turns_through zero (suc k) p r h = absurd (omega arith)
turns_through (suc n) (suc k) p r h = turns_through n k (suc p) (picks p r) (omega arith)

order_low : (P : ℕ) → P ≤ 16 → (k : ℕ) → k < length (take P order) → get_or (take P order) k 0 < P
order_low P h k l =
    let m : k < P = omega (arith, length-take P order) in
    let e : get_or (take P order) k 0 ≡ k = get_or-take P order k 0 m ∙ ap (λ (l : List ℕ). get_or l k 0) (sym order_is) ∙ table_at (λ (j : ℕ). j) 16 k 0 (omega arith) in
    rw e m

-- ---- a round and the rule after it
-- the rule after rounds of which n were made
abbrev pub ruled : Series → ℕ → Drive
ruled q n = onward (next_after q.last) q.left n (left_after q.last)

-- a round that is not idle goes on
busy_goes : (b : Bool) (a : Told) → (b && not (has_grown a)) ≡ false → cond b (by_relief a) drive.goes ≡ drive.goes
busy_goes true (enlarged k c) e = refl
busy_goes true (refused k) e = absurd (true≢false e)
busy_goes false a e = refl

-- an idle one does not
abbrev onwards : drive.Next → Bool
onwards (drive.ends e) = false
onwards drive.goes = true

-- whatever the number of its refusal
refused_ends : (k : ℕ) → onwards (by_relief (refused k)) ≡ false
refused_ends k = by (eqb k 14) refl
  where
    by : (t : Bool) → eqb k 14 ≡ t → onwards (by_relief (refused k)) ≡ false
    by true e = rw e refl
    by false e = rw e refl

idle_ends : (b : Bool) (a : Told) → (b && not (has_grown a)) ≡ true → cond b (by_relief a) drive.goes ≡ drive.goes → ⊥
idle_ends true (enlarged k c) e q = true≢false (sym e)
idle_ends true (refused k) e q = true≢false (sym (ap onwards q) ∙ refused_ends k)
idle_ends false a e q = true≢false (sym e)

-- ---- how rounds end: no more may follow, or the last one was idle
series_ends : (j : ℕ) (ps : List ℕ) (r : Running) → ((pick_rounds j ps r).left ≤ j) × (((pick_rounds j ps r).left ≡ 0) ⊎ (idle (pick_rounds j ps r).last ≡ true))
series_ends zero ps r = (omega arith, inl refl)
series_ends (suc j) ps r = by (idle (round_of ps r)) _ refl (series_ends j ps (relieves (round_of ps r)))
  where
    by : (b : Bool) (q : Series) → idle (round_of ps r) ≡ b → (q.left ≤ j) × ((q.left ≡ 0) ⊎ (idle q.last ≡ true))
        → ((cond b (series (round_of ps r) (suc j)) q).left ≤ suc j) × (((cond b (series (round_of ps r) (suc j)) q).left ≡ 0) ⊎ (idle (cond b (series (round_of ps r) (suc j)) q).last ≡ true))
    by true q e t = (omega arith, inr e)
    by false q e t = (omega (arith, t.0), t.1)

-- ---- the rule after a round does not hang on the cells, nor on earlier enlargements
-- a round that moved so many processes and left a lane
abbrev pub round_on : Lane → ℕ → Running
round_on l moved = running (world l []) moved 0

left_on : (l : Lane) (cells : List ℤ) (moved grown : ℕ)
    → left_after (running (world l cells) moved grown) ≡ running (world (left_after (round_on l moved)).world.lane cells) moved (grown + (left_after (round_on l moved)).grown)
unfolding relieves
left_on l cells moved grown = sym (left_is moved (world l cells) _ (has_grown (relief_in (world l cells))) refl refl grown)

-- so the rule there is the rule with any cells, whatever was enlarged before
pub ruled_on : (l l' : Lane) (moved : ℕ) (next : ControlFlow End Bool)
    → next_of next ≡ next_after (round_on l moved)
    → l' ≡ (left_after (round_on l moved)).world.lane
    → gain_of next ≡ (left_after (round_on l moved)).grown
    → (cells : List ℤ) → Ruled moved (world l cells) next (world l' cells)
ruled_on l l' moved next e f g cells = record { follows = λ grown. e; leaves = λ grown. rw (f, g) (sym (left_on l cells moved grown)) }

-- ---- the rounds of a drive are those, and the rule after the last of them
module _ (P : ℕ) (n : Network) (high : P ≤ 16) (same : P ≡ n.processes) where
  -- each pick of a round names a process
  pub round_low : (k : ℕ) → k < length (take P order) → get_or (take P order) k 0 < n.processes
  round_low k l = rw (← same) (order_low P high k l)

  round_is : (r : Running) → Ready n r.world → round r ≡ round_of (take P order) r
  round_is r s =
      let e : P ≡ r.world.lane.network.processes = same ∙ ap (λ (m : Network). m.processes) (sym s.same) in
      let w : World = r.world in
      ap (λ (k : ℕ). turns 0 k (running w 0 r.grown)) (sym e) ∙ turns_through 16 P 0 (running w 0 r.grown) high
      ∙ ap (λ (l : List ℕ). through (take P l) (running w 0 r.grown)) order_is
      ∙ through_is (take P order) w 0 r.grown
      ∙ ap (λ (m : ℕ). running (pick_all (take P order) (unpicked w)).world m r.grown) (let z : 0 + (pick_all (take P order) (unpicked w)).moved ≡ (pick_all (take P order) (unpicked w)).moved = omega arith in z)

  ready_round : (r : Running) → Ready n r.world → Ready n (round_of (take P order) r).world
  ready_round r s = ready_all n (take P order) (unpicked r.world) round_low s

  -- one round, of which k may follow
  one_round : (k made : ℕ) (r : Running) → Ready n r.world → rounds (suc k) made r ≡ ruled (series (round_of (take P order) r) k) (made + 1)
  one_round k made r s = round_more k made r ∙ ap (λ (x : Running). onward (next_after x) k (made + 1) (left_after x)) (round_is r s)

  -- suc j rounds at most are the series of j at most after a first one, and then the rule after its last
  pub rounds_are : (j made : ℕ) (r : Running) → Ready n r.world
      → rounds (suc j) made r ≡ ruled (pick_rounds j (take P order) r) (made + (suc j - (pick_rounds j (take P order) r).left))
  rounds_are zero made r s = one_round 0 made r s
  rounds_are (suc j) made r s =
      by (idle x) _ refl (rounds_are j (made + 1) (relieves x) (ready_relieves n x (ready_round r s))) (series_ends j (take P order) (relieves x)).0
    where
      x : Running
      x = round_of (take P order) r

      by : (b : Bool) (q : Series) → idle x ≡ b
          → rounds (suc j) (made + 1) (relieves x) ≡ ruled q (made + 1 + (suc j - q.left))
          → q.left ≤ j
          → rounds (suc (suc j)) made r ≡ ruled (cond b (series x (suc j)) q) (made + (suc (suc j) - (cond b (series x (suc j)) q).left))
      by true q b e l = one_round (suc j) made r s ∙ ap (ruled (series x (suc j))) (omega arith)
      by false q b e l =
          one_round (suc j) made r s
          ∙ ap (λ (y : drive.Next). onward y (suc j) (made + 1) (left_after x)) (busy_goes (eqb x.moved 0) (relief_in x.world) b)
          ∙ e
          ∙ ap (ruled q) (omega arith)

  -- ---- a drive of some rounds
  module _ (j : ℕ) {w : World} (s : Ready n w) {l : Lane} {cells : List ℤ} {moved grown left : ℕ}
      (e : pick_rounds j (take P order) (begun w) ≡ series (running (world l cells) moved grown) left) where
    ended : (left ≡ 0) ⊎ (idle (running (world l cells) moved grown) ≡ true)
    ended = subst (λ (q : Series). (q.left ≡ 0) ⊎ (idle q.last ≡ true)) e (series_ends j (take P order) (begun w)).1

    -- where it would go on, no round is left
    ends_by : (x : drive.Next) → x ≡ next_after (running (world l cells) moved grown) → (k : ℕ) (v : Running) → onward x left k v ≡ driven (end_by x) k v
    ends_by (drive.ends y) q k v = refl
    ends_by drive.goes q k v = ⊎_elim (λ z. rw z) (λ i. absurd (idle_ends (eqb moved 0) (relief_in (world l cells)) i (sym q))) ended

    -- the drive ends as the rule after the last round of the series has it, and as spent where that would go on
    pub rounds_end : {next : ControlFlow End Bool} {l' : Lane} → Ruled moved (world l cells) next (world l' cells)
        → result (drove (end_by (next_of next)) (P * (suc j - left)) (grown + gain_of next)) (world l' cells) ≡ done P (rounds (suc j) 0 (begun w))
    rounds_end {next} {l'} r =
        let x : Running = running (world l cells) moved grown in
        let k : ℕ = suc j - left in
        let m : 0 + k ≡ k = omega arith in
        sym
        (ap (done P)
        (rounds_are j 0 (begun w) s
        ∙ ap (λ (q : Series). ruled q (0 + (suc j - q.left))) e
        ∙ ap (ruled (series x left)) m
        ∙ ap (λ (y : drive.Next). onward y left k (left_after x)) (sym (r.follows grown))
        ∙ ends_by (next_of next) (r.follows grown) k (left_after x)
        ∙ ap (driven (end_by (next_of next)) k) (sym (r.leaves grown))))
