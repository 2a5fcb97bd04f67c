use Rattle.std.proofs.Common.{sym, ◌∙◌, arith}
use Rattle.base.specs.Tests.{need}
use Rattle.base.proofs.Tests.{on, stop, over}
use Rattle.sound_parts.proofs.unused_standings.Invariants.{zero_at}
use Rattle.sound_parts.proofs.unused_standings.Goals as goal

pub returns-then-not-standing_zero : goal.returns-then-not-standing_zero
returns-then-not-standing_zero c =
    let l = c.loop-p in
    sym (stop (λ k. need (zero_at c.args.lane.now k) k) l.p 16 l.p (omega arith) (rw (sym c.standing_zero.ensures ∙ c.if-not-standing_zero.true))) ∙ l.invariant

pub loop-p-preserved : goal.loop-p-preserved
loop-p-preserved c =
    let l = c.loop-p in
    on (λ k. need (zero_at c.args.lane.now k) k) l.p 16 (omega arith) (rw (sym c.standing_zero.ensures ∙ c.if-not-standing_zero.false)) ∙ l.invariant

pub returns : goal.returns
returns c =
    let l = c.loop-p in
    sym (over (λ k. need (zero_at c.args.lane.now k) k) l.p 16 (omega arith)) ∙ l.invariant
