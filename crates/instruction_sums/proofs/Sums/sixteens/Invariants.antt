-- `instruction_sums::Sums::sixteens` meets its contract. The loop's invariant: `all` has the answer of the instructions passed, k times sixteen.
-- Assumes nothing.
use Prim.Native.Nat.{◌*◌}
use Rattle.instruction_sums.specs.Sums.{flags, clean_at}
use Rattle.flags.proofs.Clean.{Tells}
use Rattle.instruction_sums.proofs.Sums.sixteens.Given as goal

abbrev pub invariant-loop-k : goal.invariant-loop-k
invariant-loop-k l = Tells flags (clean_at l.self.code.now l.self.opcodes.now l.self.channels.now) l.start (16 * l.k) l.all
