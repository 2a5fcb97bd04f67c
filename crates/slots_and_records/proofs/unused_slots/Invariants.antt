-- `slots_and_records::unused_slots` meets its contract. The loop's invariant: the slots that are left give the answer of all of them.
-- Assumes nothing.
use mathlib.Core.Path.{◌≡◌}
use Prim.Native.Nat.{◌-◌}
use Rattle.base.specs.Tests.{first_bad}
use Rattle.network.specs.Rules.{slot_zero, unused_slots}
use Rattle.slots_and_records.proofs.unused_slots.Given as goal

abbrev pub invariant-loop-p : goal.invariant-loop-p
invariant-loop-p l = first_bad (slot_zero l.net) l.p (16 - l.p) ≡ unused_slots l.net
