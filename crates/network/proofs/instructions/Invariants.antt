-- `network::instructions` meets its contract. The loop's invariant: the processes that are left give the answer of all of them.
-- Assumes nothing.
use mathlib.Core.Path.{◌≡◌}
use Prim.Native.Nat.{◌-◌}
use Rattle.base.specs.Tests.{in_turn}
use Rattle.network.specs.Rules.{code_of, instructions}
use Rattle.network.proofs.instructions.Given as goal

abbrev pub invariant-loop-p : goal.invariant-loop-p
invariant-loop-p l = in_turn (code_of l.net) l.p (l.net.processes - l.p) ≡ instructions l.net
