-- `rings::first_ring` meets its contract. The invariant of the loop over processes: no process passed is on a ring with a full wait below 256, and the flag
-- says whether one is on a ring with any; a process that was stripped is on none. That of the walk: what it passed so far, which began on a ring.
-- Assumes nothing.
use Prim.Native.Nat.{◌-◌}
use Rattle.rings.specs.Arrays.{points_in, number_in}
use Rattle.rings.proofs.Walk.{Passed, Trail}
use Rattle.rings.proofs.first_ring.Given as goal

abbrev pub invariant-loop-start : goal.invariant-loop-start
invariant-loop-start l = Passed (points_in l.points l.count) (number_in l.full) l.count l.start l.ceiling

abbrev pub invariant-loop-at : goal.invariant-loop-at
invariant-loop-at l =
    Trail (points_in l.points l.count) (number_in l.full) (number_in l.channel) l.count l.members l.start l.at l.length l.least l.grown

abbrev pub decreases-loop-at : goal.decreases-loop-at
decreases-loop-at l = 16 - l.length
