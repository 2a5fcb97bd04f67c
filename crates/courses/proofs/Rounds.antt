-- A round of a drive, with the relief after it, is a list of steps; and by what happened in it, it ends or goes on.
-- Assumes nothing.
use mathlib.Core.Path.{◌≡◌, refl, sym, ap, ◌∙◌, subst⁻¹}
use mathlib.Core.Logic.{◌⊎◌, inl, inr}
use mathlib.Core.List.{[], ◌∷◌}
use Prim.Native.Nat.{ℕ, zero, suc, ◌+◌, ◌≤◌}
use native.Mathlib.Decide.{ℕ_discrete}
use native.Mathlib.Omega.{arith}
use borrow.Author.Tests.{eq-eqb, ne_eqb}
use Rattle.network.specs.declared.Network.{Network}
use Rattle.lane.specs.State.{World}
use Rattle.relief.specs.Relief.{Told, enlarged, refused, NoOther}
use Rattle.schedule.specs.Running.{Running, picks, relief_in}
use Rattle.schedule.proofs.Ready.{Ready}
use Rattle.drives.specs.Drive.{turns, afresh, round, settled, ceiling, ends, goes, next_after, left_after}
use Rattle.kahn.specs.Calls.{pick}
use Rattle.kahn.specs.Steps.{call, inner_relief}
use Rattle.courses.specs.Courses.{turn_steps, picked_to, moved_over, round_steps, GoesOn, Stops}
use Rattle.courses.proofs.Inside.{ready_steps, Makes, makes_none, makes_both, makes_relief, makes_pick}

module _ (n : Network) where
  -- ---- its picks
  pub makes_turns : (k p : ℕ) (r : Running) → Ready n r.world → p + k ≤ n.processes → Makes (turn_steps p k) r (turns p k r)
  makes_turns zero p r s h = makes_none r
  makes_turns (suc k) p r s h =
      let m = makes_pick n p r s (omega arith) in
      let t : Ready n (picks p r).world = rw m.world (ready_steps n (call (pick p) ∷ []) r.world s) in
      makes_both (call (pick p) ∷ []) (turn_steps (suc p) k) r (picks p r) (turns (suc p) k (picks p r)) m (makes_turns k (suc p) (picks p r) t (omega arith))

  pub makes_round : (r : Running) → Ready n r.world → Makes (turn_steps 0 n.processes) (afresh r) (round r)
  makes_round r s =
      subst⁻¹ (λ (P : ℕ). Makes (turn_steps 0 n.processes) (afresh r) (turns 0 P (afresh r))) (ap (λ (m : Network). m.processes) s.same)
      (makes_turns n.processes 0 (afresh r) s (omega arith))

  -- ---- with the relief after them
  pub makes_after : (r : Running) → Ready n r.world → Makes (round_steps n.processes) (afresh r) (left_after (round r))
  makes_after r s = makes_both (turn_steps 0 n.processes) (inner_relief ∷ []) (afresh r) (round r) (left_after (round r)) (makes_round r s) (makes_relief (round r))

-- ---- what follows: x is there after its picks
module _ (P : ℕ) (w : World) (x : Running) (same : x.world ≡ picked_to P w) (moves : x.moved ≡ moved_over P w) where
  -- by its moves and its relief
  abbrev pub After : Type 0
  After = (GoesOn P w × (next_after x ≡ goes)) ⊎ ((Stops 13 P w × (next_after x ≡ ends settled)) ⊎ (Stops 14 P w × (next_after x ≡ ends ceiling)))

  pub by_moves : NoOther (relief_in x.world) → After
  by_moves t = go (ℕ_discrete x.moved 0) (relief_in x.world) refl t
    where
      go : Dec (x.moved ≡ 0) → (a : Told) → relief_in x.world ≡ a → NoOther a → After
      go (no z) a q t = inl (inl (λ e. z (moves ∙ e)), rw (ne_eqb x.moved 0 z))
      go (yes z) (enlarged k c) q t = inl (inr (k, c, ap relief_in (sym same) ∙ q), rw (eq-eqb x.moved 0 z, q))
      go (yes z) (refused k) q (inl t) = inr (inl ((omega (arith, moves, z), ap relief_in (sym same) ∙ q ∙ ap refused t), rw (eq-eqb x.moved 0 z, q, t)))
      go (yes z) (refused k) q (inr t) = inr (inr ((omega (arith, moves, z), ap relief_in (sym same) ∙ q ∙ ap refused t), rw (eq-eqb x.moved 0 z, q, t)))
