-- `drives::rounds` meets its contract: the rounds that are left make the drive of what came before.
-- Assumes nothing.
use mathlib.Core.Path.{◌≡◌}
use Prim.Native.Nat.{ℕ, ◌-◌, ◌≤◌}
use Rattle.lane.specs.State.{world}
use Rattle.schedule.specs.Running.{running, begun}
use Rattle.drives.specs.Drive.{rounds, done}
use Rattle.drives.proofs.rounds.Given as goal

abbrev pub invariant-loop-made : goal.invariant-loop-made
invariant-loop-made l =
    (l.sound.lane.network ≡ l.fn.sound.lane.network)
    × (l.enlarged ≤ l.made)
    × (l.made ≤ l.most)
    × ((m : ℕ) → done l.fn.sound.lane.network.processes (rounds (l.most - l.made) l.made (running (world l.sound.lane l.cells) m l.enlarged))
    ≡ done l.fn.sound.lane.network.processes (rounds l.most 0 (begun (world l.fn.sound.lane l.fn.cells))))
