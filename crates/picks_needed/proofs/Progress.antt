-- A round after which a drive goes on has a move or an enlargement: so many rounds that went on made as many of both together, at least.
-- Assumes nothing.
use mathlib.Core.Path.{ap, ◌∙◌}
use mathlib.Core.Logic.{inl, inr}
use mathlib.Core.List.{[], ◌∷◌}
use Prim.Native.Nat.{ℕ, zero, suc, ◌+◌, ◌≤◌, ◌<◌}
use native.Mathlib.Omega.{arith}
use Rattle.lane.specs.State.{World}
use Rattle.schedule.specs.Running.{has_grown}
use Rattle.kahn.specs.Calls.{count_one}
use Rattle.kahn.specs.Steps.{inner_relief, enlarges, after, moved_in, grown_in}
use Rattle.kahn.proofs.Lists.{moved_append, grown_append}
use Rattle.courses.specs.Courses.{turn_steps, picked_to, moved_over, round_steps, beginning, course_steps, GoesOn}
use Rattle.courses.proofs.Inside.{enlarges_is}

module _ (P : ℕ) where
  round_adds : (w : World) → GoesOn P w → 1 ≤ moved_in (round_steps P) w + grown_in (round_steps P) w
  round_adds w g =
      omega (arith, moved_append (turn_steps 0 P) (inner_relief ∷ []) w, grown_append (turn_steps 0 P) (inner_relief ∷ []) w, at g)
    where
      at : GoesOn P w → 1 ≤ moved_over P w + count_one (enlarges (picked_to P w).lane)
      at (inl z) = omega arith
      at (inr e) =
          let y = ap count_one (enlarges_is (picked_to P w).lane ∙ ap has_grown e.2) in
          omega (arith, y)

  pub rounds_add : (k : ℕ) (w : World) → ((i : ℕ) → i < k → GoesOn P (beginning P i w)) → k ≤ moved_in (course_steps P k) w + grown_in (course_steps P k) w
  rounds_add zero w g = omega arith
  rounds_add (suc k) w g =
      omega (
        arith,
        round_adds w (g 0 (omega arith)),
        rounds_add k (after (round_steps P) w) (λ i h. g (suc i) (omega arith)),
        moved_append (round_steps P) (course_steps P k) w,
        grown_append (round_steps P) (course_steps P k) w,
      )
