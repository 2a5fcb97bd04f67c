-- `network::records` meets its contract. The loop's invariant: the records that are left give the answer of all of them.
-- Assumes nothing.
use mathlib.Core.Path.{◌≡◌}
use Prim.Native.Nat.{◌-◌}
use Rattle.base.specs.Tests.{first_bad}
use Rattle.network.specs.Rules.{record_right, records}
use Rattle.network.proofs.records.Given as goal

abbrev pub invariant-loop-c : goal.invariant-loop-c
invariant-loop-c l = first_bad (record_right l.net) l.c (l.net.channels - l.c) ≡ records l.net
