-- Demand 3 with bursts, whole: the statements of specs/Theorem.antt, from `one_board_holds` and `any_spare_fits` of the lists written out.
-- Assumes nothing.
use mathlib.Core.Path.{sym, ap, ◌∙◌, subst}
use mathlib.Core.List.{List}
use Prim.Native.Nat.{ℕ}
use native.Mathlib.Omega.{arith}
use lib.IntN.{ℤ}
use Rattle.network.specs.declared.Network.{Network}
use Rattle.lane.specs.State.{World, process_of}
use Rattle.kahn.specs.Plain.{without_capacities, plain_after}
use Rattle.kahn.specs.Steps as steps
use Rattle.kahn.specs.Boards.{Prefix, board}
use Rattle.kahn.specs.Theorem as kahn
use Rattle.kahn.proofs.Whole.{one_board_holds, any_spare_fits}
use Rattle.with_bursts.specs.Acts.{Act, taken, written_out}
use Rattle.with_bursts.specs.Theorem.{BurstsAreSteps, OnTheWay, FairAsSteps, Holds, OneBoardWithBursts, AnySpareFitsWithBursts}
use Rattle.with_bursts.proofs.Written.{same, written_append}
use Rattle.with_bursts.proofs.Fairly as fairly

pub bursts_are_steps : BurstsAreSteps
bursts_are_steps = same

pub on_the_way : OnTheWay
on_the_way = written_append

pub fair_as_steps : FairAsSteps
fair_as_steps = fairly.exactly

-- what holds of the list written out holds of the list of acts
holds : (n : Network) (input : ℕ → List ℤ) (acts : List Act) (w : World) → kahn.Holds n input (written_out acts) w → Holds n input acts w
holds n input acts w h =
    let s = same acts w in
    record {
      takes = λ c. subst (λ (l : List ℤ). Prefix (taken acts w c) l) (s.sends c) (subst (λ (l : List ℤ). Prefix l (steps.sent (written_out acts) w c)) (s.takes c) (h.sends.takes c));
      sends =
          λ rounds enough c.
          subst (λ (l : List ℤ). Prefix l ((plain_after (without_capacities n) input rounds).sent c)) (s.sends c) (h.sends.sends rounds (omega (arith, s.moves)) c);
      rests =
          λ r rounds enough.
          let a = h.rests ((fair_as_steps n input acts w).rest.0 r) rounds (omega (arith, s.moves)) in
          record {
            sends = λ c. sym (s.sends c) ∙ a.sends c;
            processes = λ p l. ap (λ (x : World). process_of x.lane p) (sym s.left) ∙ a.processes p l;
          };
    }

pub one_board_with_bursts : OneBoardWithBursts
one_board_with_bursts f n reads cells many input acts fair =
    let w : World = board n cells in
    holds n input acts w (one_board_holds f n reads cells many input (written_out acts) ((fair_as_steps n input acts w).fair.0 fair))

pub any_spare_fits_with_bursts : AnySpareFitsWithBursts
any_spare_fits_with_bursts f₁ f₂ n₁ n₂ r₁ r₂ alike cells₁ cells₂ many₁ many₂ input acts₁ acts₂ fair₁ fair₂ rest₁ rest₂ =
    let w₁ : World = board n₁ cells₁ in
    let w₂ : World = board n₂ cells₂ in
    let x₁ = fair_as_steps n₁ input acts₁ w₁ in
    let x₂ = fair_as_steps n₂ input acts₂ w₂ in
    let s₁ = same acts₁ w₁ in
    let s₂ = same acts₂ w₂ in
    let d = any_spare_fits f₁ f₂ n₁ n₂ r₁ r₂ alike cells₁ cells₂ many₁ many₂ input (written_out acts₁) (written_out acts₂) (x₁.fair.0 fair₁) (x₂.fair.0 fair₂) in
    let a = d.agree (x₁.rest.0 rest₁) (x₂.rest.0 rest₂) in
    record {
      sends = λ c. sym (s₁.sends c) ∙ a.sends c ∙ s₂.sends c;
      processes =
          λ p l. ap (λ (x : World). process_of x.lane p) (sym s₁.left) ∙ a.processes p l ∙ ap (λ (x : World). process_of x.lane p) s₂.left;
    }
