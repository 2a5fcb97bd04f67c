-- `bench::tests::all_from_outside` meets its contract. The loop's invariant: the records that are left give the answer of all of them.
-- Assumes nothing.
use mathlib.Core.Path.{◌≡◌}
use Prim.Native.Nat.{◌-◌}
use Rattle.base.specs.Tests.{first_bad}
use Rattle.bench_rules.specs.Input.{records}
use Rattle.bench.specs.Bench.{from_outside}
use Rattle.bench.proofs.tests.all_from_outside.Given as goal

abbrev pub invariant-loop-i : goal.invariant-loop-i
invariant-loop-i l = first_bad (from_outside l.network l.input) l.i (records l.input - l.i) ≡ first_bad (from_outside l.network l.input) 0 (records l.input)
