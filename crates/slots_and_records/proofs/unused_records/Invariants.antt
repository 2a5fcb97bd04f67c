-- `slots_and_records::unused_records` meets its contract. The loop's invariant: the records that are left give the answer of all of them.
-- Assumes nothing.
use mathlib.Core.Path.{◌≡◌}
use Prim.Native.Nat.{◌-◌}
use Rattle.base.specs.Tests.{first_bad}
use Rattle.network.specs.Rules.{record_zero, unused_records}
use Rattle.slots_and_records.proofs.unused_records.Given as goal

abbrev pub invariant-loop-c : goal.invariant-loop-c
invariant-loop-c l = first_bad (record_zero l.net) l.c (32 - l.c) ≡ unused_records l.net
