-- `network::slots` meets its contract. The loop's invariant: the slots that are left give the answer of all of them, and `due` is where slot p must
-- start.
-- Assumes nothing.
use mathlib.Core.Path.{◌≡◌}
use Prim.Native.Nat.{◌-◌}
use Rattle.base.specs.Tests.{first_bad}
use Rattle.network.specs.Rules.{due_start, slot_right, slots}
use Rattle.network.proofs.slots.Given as goal

abbrev pub invariant-loop-p : goal.invariant-loop-p
invariant-loop-p l = (first_bad (slot_right l.net) l.p (l.net.processes - l.p) ≡ slots l.net) × (l.due ≡ due_start l.net l.p)
