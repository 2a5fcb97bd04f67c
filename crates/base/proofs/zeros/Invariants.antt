-- `base::zeros` meets its contract. The loop's invariant: the places that are left give the answer of all of them.
-- Assumes nothing.
use mathlib.Core.Path.{◌≡◌}
use Prim.Native.Nat.{◌-◌}
use Rattle.base.specs.Tests.{first_bad, is_zero}
use Rattle.base.proofs.zeros.Given as goal

abbrev pub invariant-loop-i : goal.invariant-loop-i
invariant-loop-i l = first_bad (is_zero l.s) l.i (l.e - l.i) ≡ first_bad (is_zero l.s) l.a (l.e - l.a)
