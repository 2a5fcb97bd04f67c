-- `waits::some_wants_room` meets its contract. The loop's invariant: whether one of the processes that are left does is whether one of all does.
-- Assumes nothing.
use Rattle.std.proofs.Common.{◌≡◌, ◌-◌}
use Rattle.waits.specs.Parts.{some_wants_room}
use Rattle.waits.proofs.some_wants_room.Given as goal

abbrev pub invariant-loop-q : goal.invariant-loop-q
invariant-loop-q l =
    let n = l.sound.lane.network.processes in some_wants_room l.sound.lane l.q (n - l.q) ≡ some_wants_room l.sound.lane 0 n
