-- `slots_and_records::all_zero` meets its contract. The loop's invariant: nothing was found exactly where the bytes passed are zero.
-- Assumes nothing.
use mathlib.Core.Path.{◌≡◌}
use Prim.Native.Nat.{◌-◌}
use lib.Dec.{eqb}
use Rattle.base.specs.Tests.{first_bad, is_good, is_zero}
use Rattle.slots_and_records.proofs.all_zero.Given as goal

abbrev pub invariant-loop-i : goal.invariant-loop-i
invariant-loop-i l = eqb l.all 0 ≡ is_good (first_bad (is_zero l.code) l.a (l.i - l.a))
