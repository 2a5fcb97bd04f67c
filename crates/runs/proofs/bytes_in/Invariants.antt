-- `runs::bytes_in` meets its contract. The loop's invariant: the bytes that are left make the run of what came before.
-- Assumes nothing.
use mathlib.Core.Path.{◌≡◌}
use Prim.Native.Nat.{◌+◌, ◌≤◌}
use lib.ListN.{drop}
use Rattle.lane.specs.State.{world}
use Rattle.schedule.specs.Running.{running, begun}
use Rattle.runs.specs.Run.{bytes_run}
use Rattle.runs.proofs.bytes_in.Given as goal

abbrev pub invariant-loop-byte : goal.invariant-loop-byte
invariant-loop-byte l =
    (l.sound.lane.network ≡ l.fn.sound.lane.network)
    × (l.ran.moved + l.ran.enlarged ≤ l.byte-index)
    × (bytes_run (drop l.byte-index l.picks) (running (world l.sound.lane l.cells) l.ran.moved l.ran.enlarged) ≡ bytes_run l.picks (begun (world l.fn.sound.lane l.fn.cells)))
