use Rattle.std.proofs.Common.{sym, ◌∙◌, arith, rules, get_or, pos}
use Rattle.base.specs.Tests.{need}
use Rattle.base.proofs.Tests.{on, stop, over}
use Rattle.process.proofs.Numbers.{null, not_null}
use Rattle.sound_parts.proofs.unused_registers.Invariants.{zero_at}
use Rattle.sound_parts.proofs.unused_registers.Goals as goal

pub returns-then-lane-r-ne0 : goal.returns-then-lane-r-ne0
returns-then-lane-r-ne0 c =
    let l = c.loop-r in
    sym (stop (λ k. need (zero_at c.args.lane.now k) k) l.r 128 l.r (omega arith) (rw (not_null (get_or c.args.lane.now.registers c.loop-r.r (pos 0)) c.if-lane-r-ne0.true))) ∙ l.invariant

pub loop-r-preserved : goal.loop-r-preserved
loop-r-preserved c =
    let l = c.loop-r in
    on (λ k. need (zero_at c.args.lane.now k) k) l.r 128 (omega arith) (rw (null (get_or c.args.lane.now.registers c.loop-r.r (pos 0)) (search rules) c.if-lane-r-ne0.false)) ∙ l.invariant

pub returns : goal.returns
returns c =
    let l = c.loop-r in
    sym (over (λ k. need (zero_at c.args.lane.now k) k) l.r 128 (omega arith)) ∙ l.invariant
