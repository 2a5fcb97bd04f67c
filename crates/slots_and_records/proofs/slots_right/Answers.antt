use mathlib.Core.Path.{◌≡◌}
use mathlib.Core.Bool.{cond}
use native.Mathlib.Omega.{arith}
use Rattle.network.specs.Rules.{slot_right}
use Rattle.network.proofs.Slot.{due_next}
use Rattle.flags.proofs.Clean.{one_on, unless_zero_lem}
use Rattle.slots_and_records.proofs.slots_right.Goals as goal

pub loop-p-preserved : goal.loop-p-preserved
loop-p-preserved c =
    let l = c.loop-p in
    let f = slot_right c.args.net.now in
    let told : c.unless-wrong.result ≡ cond (f l.p) 0 1 = cc in
    let next = due_next c.args.net.now l.p in
    (one_on f 0 l.p l.p l.wrong c.unless-wrong.result (omega arith) l.invariant.0 (rw told (unless_zero_lem (f l.p))), cc)
