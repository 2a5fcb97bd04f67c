-- `lent_picks::moves` meets its contract: a pick moved exactly where its answer says so.
-- Assumes nothing.
use mathlib.Core.Path.{sym, ◌∙◌}
use Rattle.lane.specs.State.{world}
use Rattle.lent_picks.proofs.One.{moves_by, not_moved}
use Rattle.lent_picks.proofs.moves.Goals as goal

pub returns-in-Moved : goal.returns-in-Moved
returns-in-Moved c = let m = moves_by c.args.p (world c.args.sound.now.lane c.args.cells.now) (world c.pick_one.new.sound.lane c.pick_one.new.cells) c.pick_one.result c.pick_one.ensures in (m.0, rw c.in-Moved.is at m.1, m.2)

pub returns-in_default : goal.returns-in_default
returns-in_default c = let m = moves_by c.args.p (world c.args.sound.now.lane c.args.cells.now) (world c.pick_one.new.sound.lane c.pick_one.new.cells) c.pick_one.result c.pick_one.ensures in (m.0, sym (not_moved c.pick_one.result c.in_default.not-Moved) ∙ m.1, m.2)
