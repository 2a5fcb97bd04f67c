-- How a code is tested without a jump. An instruction is weighed as one number, op + 256 a + 65536 b + 16777216 c, and two tables add to it, one by its
-- opcode and one by its field b (`instruction_words/specs/Words`). With them each field has digits of its own: what the opcode's word adds to a field is
-- what is missing from its limit to the next power of two, so that a field beyond its limit carries into a digit that is otherwise zero, a flag. The field
-- a has flags among its own digits too, above those of a register. The contract of `passing::passes` does not cite this.
-- Assumes nothing.
use Rattle.std.specs.Prelude.{Bool, List, ℕ, ◌+◌, ◌*◌, ◌<◌, get_or}
use Rattle.flags.specs.Clean.{clean}
use Rattle.network.specs.declared.Instruction.{Instruction}
use Rattle.network.specs.Code.{instruction_at}

-- an instruction as one number
abbrev pub weighed : Instruction → ℕ
weighed i = i.op + 256 * i.a + 0x10000 * i.b + 0x1000000 * i.c

-- instruction i of a code, with what the tables add for its opcode and for its field b
abbrev pub sum_at : List ℕ → List ℕ → List ℕ → ℕ → ℕ
sum_at code opcodes channels i =
    weighed (instruction_at code i) + get_or opcodes (instruction_at code i).op 0 + get_or channels (instruction_at code i).b 0

-- the flags, binary digits 5, 11 to 15, 23, 32, 38, 46, 53, 59 and 62. The fields between them: from digit 0 the channel's receiver against the process,
-- from 8 the field a, from 24 c, from 33 the sender, from 40 b, from 48 the receiver again, the other way about, from 54 the sender again, and from 61
-- whether b is short, below 32, where the opcode asks for that
abbrev pub flags : ℕ
flags = 0x482040410080F820

abbrev pub clean_at : List ℕ → List ℕ → List ℕ → ℕ → Bool
clean_at code opcodes channels i = clean flags (sum_at code opcodes channels i)

-- a table whose entries leave room for the sum
abbrev pub Small : List ℕ → Type 0
Small words = (k : ℕ) → get_or words k 0 < 0x7000000000000000
