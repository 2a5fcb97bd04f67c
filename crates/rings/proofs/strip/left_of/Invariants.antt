-- `rings::strip::left_of` meets its contract. The loop's invariant: of the processes passed it is told whether one left points to them.
-- Assumes nothing.
use mathlib.Core.Bool.{false, not}
use lib.Dec.{eqb}
use lib.ListN.{get_or, replicate}
use Rattle.base.proofs.Lists.{Filled}
use Rattle.rings.proofs.strip.left_of.Given as goal

abbrev pub invariant-loop-p : goal.invariant-loop-p
invariant-loop-p l = Filled (λ k. not (eqb (get_or l.pointing k 0) 0)) false (replicate 16 false) l.p l.left
