-- `rings::strip::all_pointed` meets its contract. The loop's invariant: of the numbers passed it is told whether nobody points to them.
-- Assumes nothing.
use mathlib.Core.Bool.{false}
use lib.Dec.{eqb}
use lib.ListN.{get_or, replicate}
use Rattle.base.proofs.Lists.{Filled}
use Rattle.rings.proofs.strip.all_pointed.Given as goal

abbrev pub invariant-loop-p : goal.invariant-loop-p
invariant-loop-p l = Filled (λ k. eqb (get_or l.pointing k 0) 0) false (replicate 16 false) l.p l.alone
