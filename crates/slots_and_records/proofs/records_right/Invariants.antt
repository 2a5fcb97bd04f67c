-- `slots_and_records::records_right` meets its contract. The loop's invariant: none was found wrong exactly where those passed are right.
-- Assumes nothing.
use mathlib.Core.Path.{◌≡◌}
use lib.Dec.{eqb}
use Rattle.base.specs.Tests.{first_bad, is_good}
use Rattle.network.specs.Rules.{record_right}
use Rattle.slots_and_records.proofs.records_right.Given as goal

abbrev pub invariant-loop-c : goal.invariant-loop-c
invariant-loop-c l = eqb l.wrong 0 ≡ is_good (first_bad (record_right l.net) 0 l.c)
