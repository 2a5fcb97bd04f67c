-- `drives::round` meets its contract: the picks that are left make the round of what came before.
-- Assumes nothing.
use mathlib.Core.Path.{◌≡◌}
use Prim.Native.Nat.{ℕ, ◌-◌, ◌≤◌}
use Rattle.lane.specs.State.{world}
use Rattle.schedule.specs.Running.{running}
use Rattle.drives.specs.Drive.{turns, round}
use Rattle.drives.proofs.round.Given as goal

abbrev pub invariant-loop-p : goal.invariant-loop-p
invariant-loop-p l =
    (l.sound.lane.network ≡ l.fn.sound.lane.network)
    × (l.moved ≤ l.p)
    × ((m g : ℕ) → turns l.p (l.fn.sound.lane.network.processes - l.p) (running (world l.sound.lane l.cells) l.moved g) ≡ round (running (world l.fn.sound.lane l.fn.cells) m g))
