-- `drives::series::round_of` meets its contract: the picks that are left lead from what came before to where all of them do.
-- Assumes nothing.
use mathlib.Core.Path.{◌≡◌}
use Prim.Native.Nat.{ℕ, ◌≤◌}
use lib.ListN.{drop}
use Rattle.lane.specs.State.{world}
use Rattle.schedule.specs.Running.{running}
use Rattle.schedule.proofs.Through.{through}
use Rattle.drives.proofs.series.round_of.Given as goal

abbrev pub invariant-loop-p : goal.invariant-loop-p
invariant-loop-p l =
    (l.sound.lane.network ≡ l.fn.sound.lane.network)
    × (l.moved ≤ l.p-index)
    × ((g : ℕ) → through (drop l.p-index l.picks) (running (world l.sound.lane l.cells) l.moved g) ≡ through l.picks (running (world l.fn.sound.lane l.fn.cells) 0 g))
