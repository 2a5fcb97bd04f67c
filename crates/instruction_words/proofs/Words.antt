-- Laws of single words: that of no opcode; the process at an end of a channel; and that the words of both tables leave room for the sum.
-- Assumes nothing.
use mathlib.Core.Path.{◌≡◌}
use mathlib.Core.Bool.{Bool, true, false, cond, ◌&&◌}
use mathlib.Core.List.{List}
use Prim.Native.Nat.{ℕ, zero, suc, ◌+◌, ◌*◌, ◌≤◌, ◌<◌, min, zero-le, suc-le-suc}
use native.Mathlib.Decide.{dec_lt}
use native.Mathlib.Omega.{arith}
use borrow.Author.Tests.{lt-ltb, le-ltb, eqb-true, eq-eqb, ne_eqb}
use lib.Dec.{eqb, ltb}
use lib.ListN.{get_or, get_or-eq_default}
use Rattle.base.proofs.Conjunction.{iff}
use Rattle.instruction_words.specs.Words.{short, receiving, sending, no_opcode, opcode_word, long_word, end_at, channel_word}

-- ---- by a number
-- a family at each number below k
abbrev pub Below : ℕ → (ℕ → Type 0) → Type 0
Below zero P = Unit
Below (suc k) P = P 0 × Below k (λ n. P (suc n))

pub by_number : (k : ℕ) (P : ℕ → Type 0) → Below k P → (o : ℕ) → (k ≤ o → P o) → P o
by_number zero P below o rest = rest zero-le
by_number (suc k) P below zero rest = below.0
by_number (suc k) P below (suc o) rest = by_number k (λ n. P (suc n)) below.1 o (λ h. rest (suc-le-suc h))

pub opcode_none : (count p o : ℕ) → 14 ≤ o → opcode_word count p o ≡ no_opcode
unfolding opcode_word
opcode_none count p o h = rw get_or-eq_default

opcodes_small : (count p : ℕ) → p < 16 → Below 14 (λ o. opcode_word count p o < 0x7000000000000000)
unfolding opcode_word
opcodes_small count p h = omega arith

pub opcode_small : (count p o : ℕ) → p < 16 → opcode_word count p o < 0x7000000000000000
opcode_small count p o h =
    by_number 14 (λ n. opcode_word count p n < 0x7000000000000000) (opcodes_small count p h) o (λ l. rw (opcode_none count p o l) (omega arith))

-- ---- by the field b
module _ (ends : List ℕ) (channels b : ℕ) where
  pub end_low : end_at ends channels b ≤ 30
  end_low = go (ltb b channels)
    where
      go : (there : Bool) → cond there (min (get_or ends b 0) 30) 30 ≤ 30
      go true = omega arith
      go false = omega arith

  -- 30 is no process
  pub end_is : (p : ℕ) → p < 16 → eqb (end_at ends channels b) p ≡ (ltb b channels && eqb (get_or ends b 0) p)
  end_is p h = go (ltb b channels)
    where
      go : (there : Bool) → eqb (cond there (min (get_or ends b 0) 30) 30) p ≡ (there && eqb (get_or ends b 0) p)
      go true = iff _ _ (omega (arith, eqb-true, eq-eqb)) (omega (arith, eqb-true, eq-eqb))
      go false = ne_eqb 30 p (omega arith)

  pub end_none : channels ≤ b → end_at ends channels b ≡ 30
  end_none h = rw (le-ltb b channels h)

-- what is added for b, where r and s are the ends of the channel that it names
abbrev pub word : ℕ → ℕ → ℕ → ℕ
word r s b = cond (ltb b 32) (short + receiving r + sending s + 0xFFFFFF0000 * b) (long_word b)

pub long_low : (b : ℕ) → long_word b ≤ 0x1FF800000
long_low b = go (ltb b 128)
  where
    go : (lower : Bool) → cond lower 0 0x1FF800000 ≤ 0x1FF800000
    go true = omega arith
    go false = omega arith

pub channel_small : (receiver sender : List ℕ) (channels b : ℕ) → channel_word receiver sender channels b < 0x7000000000000000
unfolding channel_word
channel_small receiver sender channels b = go (dec_lt b 32)
  where
    go : Dec (b < 32) → word (end_at receiver channels b) (end_at sender channels b) b < 0x7000000000000000
    go (yes h) = rw (lt-ltb b 32 h) (omega (arith, end_low receiver channels b, end_low sender channels b))
    go (no h) = rw (le-ltb b 32 (omega arith)) (omega (arith, long_low b))
