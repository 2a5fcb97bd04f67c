-- `passing::passes` meets its contract: a test that fails refutes one of the facts of a network that passes, and where all before the last hold, the answer
-- is that of the instructions.
-- Assumes nothing.
use mathlib.Core.Path.{◌≡◌, sym, ◌∙◌}
use native.Mathlib.Omega.{arith}
use Rattle.std.specs.declared.result.Result.TheVariants.{Ok}
use Rattle.base.proofs.Conjunction.{both_true, between_true, good_is}
use Rattle.network.specs.Rules.{slots}
use Rattle.network.proofs.Slot.{right_at, ends_within}
use Rattle.network.proofs.Passed.{refused}
use Rattle.passing.proofs.passes.Goals as goal

pub returns-then-total-gt1016 : goal.returns-then-total-gt1016
returns-then-total-gt1016 c = sym (refused _ (λ q. omega (arith, q.total_high)))

pub code_right-requires : goal.code_right-requires
code_right-requires c =
    let n = c.args.net.now in
    let sizes = both_true _ _ (sym c.sizes_right.ensures ∙ c.if-not-sizes_right.false) in
    let good : slots n ≡ Ok tt = good_is _ (sym c.slots_right.ensures ∙ c.if-not-slots_right.false) in (
      (between_true 1 n.processes 16 sizes.0).1,
      (between_true 1 n.channels 32 sizes.1).1,
      λ p h. let r = right_at n good p h in (r.low, r.high, omega (arith, ends_within n good p h)),
    )
