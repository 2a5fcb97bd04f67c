use Rattle.std.proofs.Common.{sym, ◌∙◌, arith}
use Rattle.base.specs.Tests.{need}
use Rattle.base.proofs.Tests.{on, stop, over}
use Rattle.sound_parts.proofs.unused_channels.Invariants.{zero_at}
use Rattle.sound_parts.proofs.unused_channels.Goals as goal

pub returns-then-not-channel_zero : goal.returns-then-not-channel_zero
returns-then-not-channel_zero c =
    let l = c.loop-c in
    sym (stop (λ k. need (zero_at c.args.lane.now k) k) l.c 32 l.c (omega arith) (rw (sym c.channel_zero.ensures ∙ c.if-not-channel_zero.true))) ∙ l.invariant

pub loop-c-preserved : goal.loop-c-preserved
loop-c-preserved c =
    let l = c.loop-c in
    on (λ k. need (zero_at c.args.lane.now k) k) l.c 32 (omega arith) (rw (sym c.channel_zero.ensures ∙ c.if-not-channel_zero.false)) ∙ l.invariant

pub returns : goal.returns
returns c =
    let l = c.loop-c in
    sym (over (λ k. need (zero_at c.args.lane.now k) k) l.c 32 (omega arith)) ∙ l.invariant
