-- The words that two tables add to a weighed instruction, one by its opcode and one by its field b. How the sum is read, and which of its digits are flags,
-- is said in `instruction_sums/specs/Sums`. The contract of `passing::passes` does not cite this.
-- Assumes nothing.
use Rattle.std.specs.Prelude.{cond, List, [], ◌∷◌, ℕ, ◌+◌, ◌-◌, ◌*◌, min, ltb, get_or}

-- ---- by the opcode
-- what is added to the fields a, b and c
abbrev pub room : ℕ → ℕ → ℕ → ℕ
room a b c = 256 * a + 0x1000000 * c + 0x10000000000 * b

-- what is added to a field a that must be zero: seven, so that 1 and more reach the flags from digit 11 on, and seven ones above the field, so that a carry
-- out of it reaches the flag at 23. To one that must be below 8 nothing is added
abbrev pub no_field : ℕ
no_field = 0x7F07

-- all opcodes but 1 ask for a short b, and add three; a short b adds one. Four leaves digit 62 clear, three does not
abbrev pub asked : ℕ
asked = 0x6000000000000000

abbrev pub short : ℕ
short = 0x2000000000000000

-- a number and what it lacks to 31, in digits of their own, as receiver and as sender. The digits of a process and those of a channel's end carry, the
-- first if the end's number is the higher, the second if it is the lower
abbrev pub receiving : ℕ → ℕ
receiving e = e + 0x1000000000000 * (31 - e)

abbrev pub sending : ℕ → ℕ
sending e = 0x200000000 * e + 0x40000000000000 * (31 - e)

-- what is added where the opcode is none: two from digit 61 on, which is a flag whether b is short or not, and digits that make no difference
abbrev pub no_opcode : ℕ
no_opcode = 0x4040404040404040

-- what the opcode o adds in process p, which has so many instructions. In b limits of 0 and 7 leave 63 and 56, in c 255 and 248, a target leaves 256 less
-- the count. The opcode itself is taken off, but for opcode 1
unfoldable pub opcode_word : ℕ → ℕ → ℕ → ℕ
opcode_word count p o =
    get_or (
    (asked + room no_field 63 255)
    ∷ 0
    ∷ (asked + room 0 56 255 - 2)
    ∷ (asked + room 0 56 248 - 3)
    ∷ (asked + room 0 56 248 - 4)
    ∷ (asked + room 0 56 248 - 5)
    ∷ (asked + room 0 56 248 - 6)
    ∷ (asked + room 0 56 248 - 7)
    ∷ (asked + room no_field 63 (256 - count) - 8)
    ∷ (asked + room 0 63 (256 - count) - 9)
    ∷ (asked + room 0 63 (256 - count) - 10)
    ∷ (asked + room 0 0 (256 - count) + receiving (31 - p) - 11)
    ∷ (asked + room 0 0 255 + sending (31 - p) - 12)
    ∷ (asked + room no_field 0 255 + sending (31 - p) - 13)
    ∷ []
    ) o no_opcode

-- ---- by the field b
-- a b that is not short keeps its place, from digit 16 on; from 128 on its highest digit, which is a flag, is taken off
abbrev pub long_word : ℕ → ℕ
long_word b = cond (ltb b 128) 0 0x1FF800000

-- a short b is taken off where it stands and put on from digit 40. Where it is no channel it has 30, which is no process, at both ends
abbrev pub plain_word : ℕ → ℕ
plain_word b = cond (ltb b 32) (short + receiving 30 + sending 30 + 0xFFFFFF0000 * b) (long_word b)

-- the process at an end of channel b, 30 if there is none
abbrev pub end_at : List ℕ → ℕ → ℕ → ℕ
end_at ends channels b = cond (ltb b channels) (min (get_or ends b 0) 30) 30

unfoldable pub channel_word : List ℕ → List ℕ → ℕ → ℕ → ℕ
channel_word receiver sender channels b =
    cond (ltb b 32) (short + receiving (end_at receiver channels b) + sending (end_at sender channels b) + 0xFFFFFF0000 * b) (long_word b)
