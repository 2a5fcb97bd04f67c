-- `lane_sound::sound` meets its contract: each test is the one of its part of the lane, and where all places are in use none has to be zero.
-- Assumes nothing.
use Rattle.std.proofs.Common.{sym, ◌∙◌}
use Rattle.lane.specs.State.{ended_at}
use Rattle.lane_sound.proofs.Parts.{bad_ends, rest_left, all_used}
use Rattle.lane_sound.proofs.sound.Goals as goal

pub returns-then-not-ends : goal.returns-then-not-ends
returns-then-not-ends c =
    sym (bad_ends c.args.lane.now (sym c.passes.ensures ∙ c.if-not-passes.false) (sym c.positions.ensures ∙ c.if-not-positions.false)
    (sym c.limits.ensures ∙ c.if-not-limits.false) (sym (c.ends.ensures (ended_at c.args.lane.now) c.marks.ensures) ∙ c.if-not-ends.true))

pub returns-then-whole : goal.returns-then-whole
returns-then-whole c =
    c.if-whole.true
    ∙ sym (rest_left c.args.lane.now (sym c.passes.ensures ∙ c.if-not-passes.false) (sym c.positions.ensures ∙ c.if-not-positions.false)
    (sym c.limits.ensures ∙ c.if-not-limits.false) (sym (c.ends.ensures (ended_at c.args.lane.now) c.marks.ensures) ∙ c.if-not-ends.false)
    ∙ all_used c.args.lane.now (sym c.whole.ensures ∙ c.if-whole.true))

pub returns-else-whole : goal.returns-else-whole
returns-else-whole c =
    c.rest_zero.ensures
    ∙ sym (rest_left c.args.lane.now (sym c.passes.ensures ∙ c.if-not-passes.false) (sym c.positions.ensures ∙ c.if-not-positions.false)
    (sym c.limits.ensures ∙ c.if-not-limits.false) (sym (c.ends.ensures (ended_at c.args.lane.now) c.marks.ensures) ∙ c.if-not-ends.false))
