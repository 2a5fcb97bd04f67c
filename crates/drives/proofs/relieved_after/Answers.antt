-- `drives::relieved_after` meets its contract.
-- Assumes nothing.
use Rattle.lane.specs.State.{world}
use Rattle.drives.proofs.Rule.{goes_on, grows, stops}
use Rattle.drives.proofs.relieved_after.Goals as goal

pub returns-then-moved-ne0-clause-rule : goal.returns-then-moved-ne0-clause-rule
returns-then-moved-ne0-clause-rule c =
    λ cells. goes_on c.args.moved (world c.args.sound.now.lane cells) _ c.ease_in.result c.if-moved-ne0.true c.ease_in.ensures.answered c.ease_in.ensures.left

pub returns-in-Ok-clause-rule : goal.returns-in-Ok-clause-rule
returns-in-Ok-clause-rule c =
    λ cells. grows c.args.moved (world c.args.sound.now.lane cells) _ c.in-Ok.field-0 c.if-moved-ne0.false (rw c.in-Ok.is at c.relieve_in.ensures.answered) c.relieve_in.ensures.left

pub returns-in-Err-clause-rule : goal.returns-in-Err-clause-rule
returns-in-Err-clause-rule c =
    λ cells.
    stops c.args.moved (world c.args.sound.now.lane cells) _ c.in-Err.refusal c.end_by.result c.if-moved-ne0.false (rw c.in-Err.is at c.relieve_in.ensures.answered) c.end_by.ensures c.relieve_in.ensures.left
