-- Document 01, "Bench listing": "in.bin (records: channel byte, four-byte value)".
-- Assumes nothing.
use Rattle.std.specs.Prelude.{cond, List, [], ◌∷◌, ℕ, zero, suc, ◌+◌, ◌-◌, ◌*◌, ◌/◌, eqb, ltb, length, get_or, ℤ, pos, negsuc}
use Rattle.base.specs.Lists.{table, word_at}

-- how many records there are
abbrev pub records : List ℕ → ℕ
records input = length input / 5

-- the channel of record i
abbrev pub channel_at : List ℕ → ℕ → ℕ
channel_at input i = get_or input (5 * i) 0

-- a number of 32 bits as a signed one
abbrev pub signed32 : ℕ → ℤ
signed32 n = cond (ltb n 2147483648) (pos n) (negsuc (4294967295 - n))

-- the value of record i: "bytes of a number stand highest first"
abbrev pub value_at : List ℕ → ℕ → ℤ
value_at input i = signed32 (65536 * word_at input (5 * i + 1) + word_at input (5 * i + 3))

-- the values for channel c among k records, from record i on
abbrev pub input_from : List ℕ → ℕ → ℕ → ℕ → List ℤ
input_from input c i zero = []
input_from input c i (suc k) =
    cond (eqb (channel_at input i) c) (value_at input i ∷ input_from input c (suc i) k) (input_from input c (suc i) k)

-- what is left for channel c where record i is the next to look at
abbrev pub left_from : List ℕ → ℕ → ℕ → List ℤ
left_from input c i = input_from input c i (records input - i)

-- the same of each channel, whose next records these are
unfoldable pub left_at : List ℕ → List ℕ → List (List ℤ)
left_at input next = table 32 (λ c. left_from input c (get_or next c 0))
