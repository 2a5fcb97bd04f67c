-- `drives::series::rounds_in` meets its contract: the rounds that are left lead from what came before to where all of them do.
-- Assumes nothing.
use mathlib.Core.Path.{◌≡◌}
use Prim.Native.Nat.{◌-◌, ◌≤◌}
use Rattle.lane.specs.State.{world}
use Rattle.schedule.specs.Running.{running, begun}
use Rattle.drives.specs.Series.{pick_rounds}
use Rattle.drives.proofs.series.rounds_in.Given as goal

abbrev pub invariant-loop-made : goal.invariant-loop-made
invariant-loop-made l =
    (pick_rounds (l.again - l.made) l.picks (running (world l.sound.lane l.cells) 0 l.enlarged) ≡ pick_rounds l.again l.picks (begun (world l.fn.sound.lane l.fn.cells)))
    × (l.sound.lane.network ≡ l.fn.sound.lane.network)
    × (l.enlarged ≤ l.made)
    × (l.made ≤ l.again)
