-- `passing::code_right` meets its contract. The loop's invariant: the words laid over one another have the answers of the processes passed, and the table
-- by the opcode is that of process p, if it had as many instructions as the process before.
-- Assumes nothing.
use mathlib.Core.Path.{◌≡◌}
use Prim.Native.Nat.{◌≤◌}
use Rattle.base.specs.Lists.{table}
use Rattle.instruction_sums.specs.Sums.{flags}
use Rattle.instruction_words.specs.Words.{opcode_word}
use Rattle.flags.proofs.Clean.{Tells}
use Rattle.passing.proofs.Codes.{all_right, last_right}
use Rattle.passing.proofs.code_right.Given as goal

abbrev pub invariant-loop-p : goal.invariant-loop-p
invariant-loop-p l =
    (l.before ≤ 256) × (l.opcodes ≡ table 256 (opcode_word l.before l.p)) × Tells flags (all_right l.net) 0 l.p l.all
    × Tells 247 (last_right l.net) 0 l.p l.last
