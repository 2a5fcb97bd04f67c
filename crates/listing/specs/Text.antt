-- Document 01, "Bench listing": the lines of a listing, and their text in ASCII.
-- Assumes nothing.
use Rattle.std.specs.Prelude.{cond, List, [], ◌∷◌, ◌++◌, ℕ, zero, suc, ◌+◌, ◌/◌, ◌%◌, ltb, ℤ, pos, negsuc}
use Rattle.listing.specs.declared.Status.{Status}
use Rattle.listing.specs.declared.Status.TheVariants.{Stop, Fault, Empty, Full, Run}

-- "Lines: `out channel value`, `end channel` (first time), `grow channel capacity` (the new one); at last per process `proc number condition moves`"
pub data Line : Type 0 where
  out : ℕ → ℤ → Line
  end : ℕ → Line
  grow : ℕ → ℕ → Line
  proc : ℕ → Status → ℕ → Line

-- a number in decimal that has at most so many digits
abbrev pub decimal : ℕ → ℕ → List ℕ
decimal zero n = []
decimal (suc k) n = cond (ltb n 10) ((48 + n) ∷ []) (decimal k (n / 10) ++ ((48 + n % 10) ∷ []))

-- a signed 32-bit number, with an ASCII minus
abbrev pub integer : ℤ → List ℕ
integer (pos n) = decimal 10 n
integer (negsuc n) = 45 ∷ decimal 10 (n + 1)

-- "condition stop, fault, .., empty or full .., else run"
abbrev pub word : Status → List ℕ
word Stop = 115 ∷ 116 ∷ 111 ∷ 112 ∷ []
word Fault = 102 ∷ 97 ∷ 117 ∷ 108 ∷ 116 ∷ []
word Empty = 101 ∷ 109 ∷ 112 ∷ 116 ∷ 121 ∷ []
word Full = 102 ∷ 117 ∷ 108 ∷ 108 ∷ []
word Run = 114 ∷ 117 ∷ 110 ∷ []

-- `out`, `end`, `grow`, `proc`, each with the space after it
abbrev pub out_word : List ℕ
out_word = 111 ∷ 117 ∷ 116 ∷ 32 ∷ []

abbrev pub end_word : List ℕ
end_word = 101 ∷ 110 ∷ 100 ∷ 32 ∷ []

abbrev pub grow_word : List ℕ
grow_word = 103 ∷ 114 ∷ 111 ∷ 119 ∷ 32 ∷ []

abbrev pub proc_word : List ℕ
proc_word = 112 ∷ 114 ∷ 111 ∷ 99 ∷ 32 ∷ []

abbrev pub space : List ℕ
space = 32 ∷ []

abbrev pub newline : List ℕ
newline = 10 ∷ []

-- channels and processes have at most two digits, a capacity three, 64-bit moves twenty
unfoldable pub line_text : Line → List ℕ
line_text (out c v) = out_word ++ decimal 2 c ++ space ++ integer v ++ newline
line_text (end c) = end_word ++ decimal 2 c ++ newline
line_text (grow c capacity) = grow_word ++ decimal 2 c ++ space ++ decimal 3 capacity ++ newline
line_text (proc p status moves) = proc_word ++ decimal 2 p ++ space ++ word status ++ space ++ decimal 20 moves ++ newline

-- lines one after the other
abbrev pub text : List Line → List ℕ
text [] = []
text (l ∷ ls) = line_text l ++ text ls
