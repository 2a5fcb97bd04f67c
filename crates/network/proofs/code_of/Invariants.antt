-- `network::code_of` meets its contract. The loop's invariant: the fields of the instructions that are left give the answer of all of them. What the
-- last one alone is asked comes after them (`last_after`).
-- Assumes nothing.
use mathlib.Core.Path.{◌≡◌}
use Prim.Native.Nat.{◌-◌}
use Rattle.base.specs.Tests.{first_bad}
use Rattle.network.proofs.InParts.{fields_at}
use Rattle.network.proofs.code_of.Given as goal

abbrev pub invariant-loop-i : goal.invariant-loop-i
invariant-loop-i l = first_bad (fields_at l.net l.p) l.i (l.end - l.i) ≡ first_bad (fields_at l.net l.p) l.start l.count
