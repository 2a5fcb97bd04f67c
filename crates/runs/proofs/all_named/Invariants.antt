-- `runs::all_named` meets its contract. The loop's invariant: nothing was laid down exactly where the bytes passed are right.
-- Assumes nothing.
use mathlib.Core.Path.{◌≡◌}
use lib.Dec.{eqb}
use Rattle.base.specs.Tests.{first_bad, is_good}
use Rattle.runs.specs.Run.{named}
use Rattle.runs.proofs.all_named.Given as goal

abbrev pub invariant-loop-byte : goal.invariant-loop-byte
invariant-loop-byte l = eqb l.wrong 0 ≡ is_good (first_bad (named l.picks l.processes) 0 l.byte-index)
