-- Document 01, "The lane file": when a network passes the file's rules. The reader's refusals 3 to 7 and the test of a network cite these.
-- Assumes nothing.
use Rattle.std.specs.Prelude.{Bool, cond, not, ◌&&◌, ◌||◌, ℕ, ◌+◌, ◌-◌, ◌*◌, ◌/◌, eqb, ltb, leb, get_or}
use Rattle.base.specs.Tests.{Verdict, first_bad, in_turn, is_good, between, is_zero}
use Rattle.network.specs.declared.Network.{Network}
use Rattle.network.specs.declared.Instruction.{Instruction}
use Rattle.network.specs.Code.{instruction_at, stands_right}

-- the fields of a network, by process and by channel
abbrev pub start_of : Network → ℕ → ℕ
start_of n p = get_or n.first p 0

abbrev pub count_of : Network → ℕ → ℕ
count_of n p = get_or n.count p 0

abbrev pub sender_of : Network → ℕ → ℕ
sender_of n c = get_or n.sender c 0

abbrev pub receiver_of : Network → ℕ → ℕ
receiver_of n c = get_or n.receiver c 0

abbrev pub capacity_of : Network → ℕ → ℕ
capacity_of n c = get_or n.capacity c 0

-- "255 is outside"
abbrev pub outside : ℕ
outside = 255

-- ---- processes
-- "P, processes, 1 to 16; C, channels, 1 to 32"
abbrev pub processes_right : ℕ → Bool
processes_right p = between 1 p 16

abbrev pub channels_right : ℕ → Bool
channels_right c = between 1 c 32

-- where the process before p ended: "Process 0 starts at instruction 0, each next where the one before ended."
abbrev pub end_of : Network → ℕ → ℕ
end_of n p = start_of n p + count_of n p

abbrev pub due_start : Network → ℕ → ℕ
due_start n p = cond (eqb p 0) 0 (end_of n (p - 1))

-- "Counts are 1 to 256."
abbrev pub slot_right : Network → ℕ → Bool
slot_right n p = eqb (start_of n p) (due_start n p) && between 1 (count_of n p) 256

unfoldable pub slots : Network → Verdict
slots n = first_bad (slot_right n) 0 n.processes

-- the total of the counts, where the slots are right: where the last process ends
abbrev pub total : Network → ℕ
total n = due_start n n.processes

-- "K is the total divided by 127, rounded up."
abbrev pub blocks_for : ℕ → ℕ
blocks_for instructions = (instructions + 126) / 127

-- ---- channels
abbrev pub end_right : ℕ → ℕ → Bool
end_right e processes = ltb e processes || eqb e outside

-- "Sender and receiver may be the same process, never both outside. Capacity is 1 to 256."
unfoldable pub ends_right : ℕ → ℕ → ℕ → ℕ → Bool
ends_right sender receiver capacity processes =
    end_right sender processes && end_right receiver processes && not (eqb sender outside && eqb receiver outside) && between 1 capacity 256

abbrev pub record_right : Network → ℕ → Bool
record_right n c = ends_right (sender_of n c) (receiver_of n c) (capacity_of n c) n.processes

unfoldable pub records : Network → Verdict
records n = first_bad (record_right n) 0 n.channels

-- ---- instructions
-- process p is the receiver of channel c, its sender
abbrev pub receives : Network → ℕ → ℕ → Bool
receives n p c = ltb c n.channels && eqb (receiver_of n c) p

abbrev pub sends : Network → ℕ → ℕ → Bool
sends n p c = ltb c n.channels && eqb (sender_of n c) p

-- instruction i, of process p
abbrev pub instruction_of : Network → ℕ → Instruction
instruction_of n i = instruction_at n.code i

unfoldable pub instruction_right : Network → ℕ → ℕ → Bool
instruction_right n p i =
    stands_right (eqb (i + 1) (end_of n p)) (count_of n p) (receives n p (instruction_of n i).b) (sends n p (instruction_of n i).b) (instruction_of n i)

-- the instructions of process p, by their numbers in the file
unfoldable pub code_of : Network → ℕ → Verdict
code_of n p = first_bad (instruction_right n p) (start_of n p) (count_of n p)

unfoldable pub instructions : Network → Verdict
instructions n = in_turn (code_of n) 0 n.processes

-- ---- what must be zero
-- "The rest to 509 is zero, as are slots beyond P and records beyond C."
abbrev pub slot_zero : Network → ℕ → Bool
slot_zero n p = eqb (start_of n p) 0 && eqb (count_of n p) 0

abbrev pub record_zero : Network → ℕ → Bool
record_zero n c = eqb (sender_of n c) 0 && eqb (receiver_of n c) 0 && eqb (capacity_of n c) 0

unfoldable pub unused_slots : Network → Verdict
unused_slots n = first_bad (slot_zero n) n.processes (16 - n.processes)

unfoldable pub unused_records : Network → Verdict
unused_records n = first_bad (record_zero n) n.channels (32 - n.channels)

-- "Unused instructions are zero."
unfoldable pub unused_code : Network → Verdict
unused_code n = first_bad (is_zero n.code) (4 * total n) (4064 - 4 * total n)

abbrev pub unused_zero : Network → Bool
unused_zero n = is_good (unused_slots n) && is_good (unused_records n) && is_good (unused_code n)

-- ---- the network passes the file's rules; "K, code blocks, 1 to 8": it is at least 1, since a process has an instruction
unfoldable pub passes : Network → Bool
passes n =
    processes_right n.processes && channels_right n.channels && is_good (slots n) && leb (blocks_for (total n)) 8 && is_good (records n)
    && unused_zero n
    && is_good (instructions n)
