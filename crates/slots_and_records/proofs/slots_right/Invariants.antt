-- `slots_and_records::slots_right` meets its contract. The loop's invariant: none was found wrong exactly where those passed are right, and `due` is
-- where slot p must start.
-- Assumes nothing.
use mathlib.Core.Path.{◌≡◌}
use lib.Dec.{eqb}
use Rattle.base.specs.Tests.{first_bad, is_good}
use Rattle.network.specs.Rules.{due_start, slot_right}
use Rattle.slots_and_records.proofs.slots_right.Given as goal

abbrev pub invariant-loop-p : goal.invariant-loop-p
invariant-loop-p l = (eqb l.wrong 0 ≡ is_good (first_bad (slot_right l.net) 0 l.p)) × (l.due ≡ due_start l.net l.p)
