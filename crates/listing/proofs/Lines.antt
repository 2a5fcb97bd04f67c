-- Each kind of line as the parts that are written one after another: a number by itself is written with as many digits as it has.
-- Assumes nothing.
use mathlib.Core.Path.{◌≡◌}
use mathlib.Core.List.{◌++◌}
use Prim.Native.Nat.{ℕ, ◌+◌, ◌≤◌, ◌<◌, ◌^◌}
use native.Mathlib.Omega.{arith}
use lib.IntN.{ℤ}
use lib.ListN.{length, length-append}
use Rattle.listing.specs.declared.Status.{Status}
use Rattle.listing.specs.Number.{number}
use Rattle.listing.specs.Text.{integer, word, out_word, end_word, grow_word, proc_word, space, newline, line_text, out, end, grow, proc}
use Rattle.listing.proofs.Decimal.{number_few}

pub out_parts : (c : ℕ) (v : ℤ) → c < 32 → line_text (out c v) ≡ out_word ++ number c ++ space ++ integer v ++ newline
unfolding line_text
out_parts c v h = rw (number_few 1 c (omega arith) (omega arith))

pub end_parts : (c : ℕ) → c < 32 → line_text (end c) ≡ end_word ++ number c ++ newline
unfolding line_text
end_parts c h = rw (number_few 1 c (omega arith) (omega arith))

pub grow_parts : (c k : ℕ) → c < 32 → k ≤ 256 → line_text (grow c k) ≡ grow_word ++ number c ++ space ++ number k ++ newline
unfolding line_text
grow_parts c k h l = rw (number_few 1 c (omega arith) (omega arith), number_few 2 k (omega arith) (omega arith))

pub proc_parts : (p : ℕ) (s : Status) (m : ℕ) → p < 16 → m < 2 ^ 64 → line_text (proc p s m) ≡ proc_word ++ number p ++ space ++ word s ++ space ++ number m ++ newline
unfolding line_text
proc_parts p s m h l = rw (number_few 1 p (omega arith) (omega arith), number_few 19 m l (omega arith))

-- ---- and how long they are
pub out_length : (c : ℕ) (v : ℤ) → c < 32 → length (line_text (out c v)) ≡ 6 + length (number c) + length (integer v)
out_length c v h = rw (out_parts c v h) (simp length-append (omega arith))

pub end_length : (c : ℕ) → c < 32 → length (line_text (end c)) ≡ 5 + length (number c)
end_length c h = rw (end_parts c h) (simp length-append (omega arith))

pub grow_length : (c k : ℕ) → c < 32 → k ≤ 256 → length (line_text (grow c k)) ≡ 7 + length (number c) + length (number k)
grow_length c k h l = rw (grow_parts c k h l) (simp length-append (omega arith))

pub proc_length : (p : ℕ) (s : Status) (m : ℕ) → p < 16 → m < 2 ^ 64 → length (line_text (proc p s m)) ≡ 8 + length (number p) + length (word s) + length (number m)
proc_length p s m h l = rw (proc_parts p s m h l) (simp length-append (omega arith))
