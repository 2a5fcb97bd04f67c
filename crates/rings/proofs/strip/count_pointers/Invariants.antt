-- `rings::strip::count_pointers` meets its contract. The loop's invariant: the pointers of the processes passed are counted.
-- Assumes nothing.
use Rattle.rings.specs.Arrays.{points_in}
use Rattle.rings.proofs.Strips.{Counted}
use Rattle.rings.proofs.strip.count_pointers.Given as goal

abbrev pub invariant-loop-p : goal.invariant-loop-p
invariant-loop-p l = Counted (points_in l.points l.count) l.count l.pointing l.p
