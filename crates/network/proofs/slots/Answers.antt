use mathlib.Core.Path.{◌≡◌, sym, ◌∙◌}
use mathlib.Core.Bool.{false}
use native.Mathlib.Omega.{arith}
use Rattle.base.specs.Tests.{need}
use Rattle.base.proofs.Tests.{stop}
use Rattle.network.specs.Rules.{slot_right, slots}
use Rattle.network.proofs.slots.Goals as goal

pub returns-then-not-slot_right : goal.returns-then-not-slot_right
unfolding slots
returns-then-not-slot_right c =
    let n = c.args.net.now in
    let l = c.loop-p in
    let wrong : slot_right n l.p ≡ false = cc in
    sym (stop (λ k. need (slot_right n k) k) l.p n.processes l.p (omega arith) (rw wrong)) ∙ l.invariant.0
