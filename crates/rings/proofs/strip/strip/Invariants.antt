-- `rings::strip::strip` meets its contract. The outer loop's invariant: of the processes passed those that are left are pointed to. The inner one's: but for
-- the one that goes next. Its measure: how many are pointed to.
-- Assumes nothing.
use Prim.Native.Nat.{◌<◌}
use Rattle.rings.specs.Arrays.{points_in}
use Rattle.rings.proofs.Strips.{Stripping, Goes, pointed_to}
use Rattle.rings.proofs.strip.strip.Given as goal

abbrev pub invariant-loop-at : goal.invariant-loop-at
invariant-loop-at l = (l.at < l.count) × Goes (points_in l.points l.count) l.count l.pointing l.start l.at

abbrev pub decreases-loop-at : goal.decreases-loop-at
decreases-loop-at l = pointed_to l.pointing

abbrev pub invariant-loop-start : goal.invariant-loop-start
invariant-loop-start l = Stripping (points_in l.points l.count) l.count l.pointing l.start
