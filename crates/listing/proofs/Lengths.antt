-- How long a line can be: a number of at most k digits takes at most k bytes, so each kind of line has a bound of its own.
-- Assumes nothing.
use mathlib.Core.Bool.{Bool, true, false, cond}
use mathlib.Core.List.{[], ◌∷◌, ◌++◌}
use Prim.Native.Nat.{ℕ, zero, suc, ◌+◌, ◌/◌, ◌%◌, ◌≤◌}
use native.Mathlib.Omega.{arith}
use lib.Dec.{ltb}
use lib.IntN.{ℤ, pos, negsuc}
use lib.ListN.{length, length-append}
use Rattle.listing.specs.declared.Status.{Status}
use Rattle.listing.specs.declared.Status.TheVariants.{Stop, Fault, Empty, Full, Run}
use Rattle.listing.specs.Text.{decimal, integer, word, line_text, out, end, grow, proc}

pub decimal_short : (k n : ℕ) → length (decimal k n) ≤ k
decimal_short zero n = omega arith
decimal_short (suc k) n = by (ltb n 10) (decimal_short k (n / 10))
  where
    by : (t : Bool) → length (decimal k (n / 10)) ≤ k → length (cond t ((48 + n) ∷ []) (decimal k (n / 10) ++ ((48 + n % 10) ∷ []))) ≤ suc k
    by true h = omega arith
    by false h = simp length-append (omega arith)

pub integer_short : (v : ℤ) → length (integer v) ≤ 11
integer_short (pos n) = omega (arith, decimal_short 10 n)
integer_short (negsuc n) = omega (arith, decimal_short 10 (n + 1))

pub word_short : (s : Status) → length (word s) ≤ 5
word_short Stop = omega arith
word_short Fault = omega arith
word_short Empty = omega arith
word_short Full = omega arith
word_short Run = omega arith

pub out_short : (c : ℕ) (v : ℤ) → length (line_text (out c v)) ≤ 19
unfolding line_text
out_short c v = simp length-append (omega (arith, decimal_short 2 c, integer_short v))

pub end_short : (c : ℕ) → length (line_text (end c)) ≤ 7
unfolding line_text
end_short c = simp length-append (omega (arith, decimal_short 2 c))

pub grow_short : (c k : ℕ) → length (line_text (grow c k)) ≤ 12
unfolding line_text
grow_short c k = simp length-append (omega (arith, decimal_short 2 c, decimal_short 3 k))

pub proc_short : (p : ℕ) (s : Status) (m : ℕ) → length (line_text (proc p s m)) ≤ 35
unfolding line_text
proc_short p s m = simp length-append (omega (arith, decimal_short 2 p, word_short s, decimal_short 20 m))
