-- The division is linear over exclusive or, so eight bits can be done at once by a table.
-- Assumes nothing.
use mathlib.Core.Path.{◌≡◌, refl, sym, ap, ap₂, ◌∙◌}
use mathlib.Core.Bool.{Bool, true, false, cond}
use mathlib.Core.List.{List}
use Prim.Native.Nat.{ℕ, zero, suc, ◌+◌, ◌-◌, ◌*◌, ◌/◌, ◌%◌, ◌≤◌, ◌<◌}
use native.Mathlib.Omega.{arith}
use native.Mathlib.Nat.{add-zero}
use native.Mathlib.Numerals.{add-one}
use borrow.Author.Tests.{ltb-true, ltb-false}
use lib.Bits.{bit_xor, xor_zero_r, xor_comm, xor_lt, xor_shr, xor_mod, xor_block, xor_shifted}
use lib.Dec.{ltb}
use lib.ListN.{length, drop, get_or, drop_of_length-le}
use lib.Seq.{drop-cons}
use lib.Pow.{split}
use Rattle.block_check.specs.Crc.{bit, bits, byte, entries, from, crc}
use Rattle.base.specs.Lists.{values}
use Rattle.base.proofs.Lists.{table_at, table_same}
use Rattle.block_check.proofs.Xor.{digit, xor_cross, xor_double}

-- a bit's step without a case
flat : ℕ → ℕ
flat c = bit_xor (c * 2 % 65536) (c / 32768 * 4129)

bit_flat : (c : ℕ) → c < 65536 → bit c ≡ flat c
unfolding flat
bit_flat c h = go (ltb c 32768) refl
  where
    go : (t : Bool) → ltb c 32768 ≡ t → cond t (c * 2) (bit_xor (c * 2 - 65536) 4129) ≡ bit_xor (c * 2 % 65536) (c / 32768 * 4129)
    go true e =
        let l : c < 32768 = ltb-true _ _ e in
        let m : c * 2 % 65536 ≡ c * 2 = omega arith in
        let q : c / 32768 ≡ 0 = omega arith in
        rw (m, q, xor_zero_r)
    go false e =
        let l : 32768 ≤ c = ltb-false _ _ e in
        let m : c * 2 % 65536 ≡ c * 2 - 65536 = omega arith in
        let q : c / 32768 ≡ 1 = omega arith in
        rw (m, q)

flat_lt : (c : ℕ) → c < 65536 → flat c < 65536
unfolding flat
flat_lt c h = xor_lt 16 (c * 2 % 65536) (c / 32768 * 4129) (omega arith) (omega arith)

pub bit_lt : (c : ℕ) → c < 65536 → bit c < 65536
bit_lt c h = rw (bit_flat c h) (flat_lt c h)

poly_xor : (x y : ℕ) → x < 2 → y < 2 → bit_xor x y * 4129 ≡ bit_xor (x * 4129) (y * 4129)
poly_xor x y hx hy =
    digit (λ x. bit_xor x y * 4129 ≡ bit_xor (x * 4129) (y * 4129)) refl
    (digit (λ y. bit_xor 1 y * 4129 ≡ bit_xor (1 * 4129) (y * 4129)) refl refl y hy) x hx

flat_xor : (a b : ℕ) → a < 65536 → b < 65536 → flat (bit_xor a b) ≡ bit_xor (flat a) (flat b)
unfolding flat
flat_xor a b ha hb =
    ap₂ bit_xor
    (ap (λ (x : ℕ). x % 65536) (xor_double a b) ∙ xor_mod (a * 2) (b * 2) 16)
    (ap (λ (x : ℕ). x * 4129) (xor_shr a b 15) ∙ poly_xor (a / 32768) (b / 32768) (omega arith) (omega arith))
    ∙ xor_cross (a * 2 % 65536) (b * 2 % 65536) (a / 32768 * 4129) (b / 32768 * 4129)

bit_linear : (a b : ℕ) → a < 65536 → b < 65536 → bit (bit_xor a b) ≡ bit_xor (bit a) (bit b)
bit_linear a b ha hb =
    bit_flat (bit_xor a b) (xor_lt 16 a b ha hb) ∙ flat_xor a b ha hb ∙ ap₂ bit_xor (sym (bit_flat a ha)) (sym (bit_flat b hb))

-- the division is linear
pub bits_xor : (n a b : ℕ) → a < 65536 → b < 65536 → bits n (bit_xor a b) ≡ bit_xor (bits n a) (bits n b)
bits_xor zero a b ha hb = refl
bits_xor (suc n) a b ha hb = ap (bits n) (bit_linear a b ha hb) ∙ bits_xor n (bit a) (bit b) (bit_lt a ha) (bit_lt b hb)

-- what has the upper half empty is only shifted: computed at each of the 256
shifted : (l : ℕ) → l < 256 → bits 8 l ≡ l * 256
unfolding values
shifted = table_same 256 (bits 8) (λ l. l * 256) refl

-- the byte goes to the upper half
halves : (c b : ℕ) → bit_xor c (b * 256) ≡ bit_xor (bit_xor (c / 256) b * 256) (c % 256)
halves c b =
    ap₂ bit_xor (sym (split c 8)) (sym (add-zero (b * 256)))
    ∙ xor_block 8 (c / 256) b (c % 256) 0 (omega arith) (omega arith)
    ∙ ap (λ (x : ℕ). bit_xor (c / 256) b * 256 + x) (xor_zero_r (c % 256))
    ∙ sym (xor_shifted (bit_xor (c / 256) b) 8 (c % 256) (omega arith))

-- eight bits at once
pub law : (c b : ℕ) → c < 65536 → b < 256
    → byte c b ≡ bit_xor (c * 256 % 65536) (get_or entries (bit_xor (c / 256) b) 0)
law c b hc hb =
    let h : bit_xor (c / 256) b < 256 = xor_lt 8 (c / 256) b (omega arith) hb in
    ap (bits 8) (halves c b)
    ∙ bits_xor 8 (bit_xor (c / 256) b * 256) (c % 256) (omega arith) (omega arith)
    ∙ ap₂ bit_xor (sym (table_at (λ h. bits 8 (h * 256)) 256 (bit_xor (c / 256) b) 0 h))
    (shifted (c % 256) (omega arith) ∙ omega arith)
    ∙ xor_comm (get_or entries (bit_xor (c / 256) b) 0) (c * 256 % 65536)

-- a turn of the loop
pub turn : (c : ℕ) (bs : List ℕ) (i : ℕ) → i < length bs → from (byte c (get_or bs i 0)) (drop (i + 1) bs) ≡ from c (drop i bs)
turn c bs i h = rw (add-one, drop-cons bs i 0)

-- nothing is left
pub done : (c : ℕ) (bs : List ℕ) (i : ℕ) → length bs ≤ i → from c (drop i bs) ≡ from 65535 bs → c ≡ crc bs
unfolding crc
done c bs i h e = sym (ap (from c) (drop_of_length-le bs h)) ∙ e
