-- A sum of eight digits is clean of the flags exactly where each digit is clean of its own: seven of one flag, where they are below it, the second of
-- six. The digits stand where the fields of a weighed instruction do, each with room for its flags.
-- Assumes nothing.
use mathlib.Core.Path.{◌≡◌, refl, ap, ◌∙◌}
use mathlib.Core.Bool.{false, ◌&&◌, and-false}
use Prim.Native.Nat.{ℕ, ◌+◌, ◌*◌, ◌<◌}
use native.Mathlib.Omega.{arith}
use lib.Dec.{ltb}
use Rattle.flags.specs.Clean.{clean}
use Rattle.flags.proofs.Digits.{split_off, below}
use Rattle.instruction_sums.specs.Sums.{flags}

-- the digit of the field a: five flags above the three digits of a register, and one at the top, of what is carried out of the field
abbrev pub field_flags : ℕ
field_flags = 0x80F8

pub clean_field : (x d : ℕ) → x < 256 → d < 256 → clean field_flags (d + 256 * x) ≡ (ltb d 8 && ltb x 128)
clean_field x d h l =
    let e : d + 256 * x ≡ x * 256 + d = omega arith in
    ap (clean field_flags) e ∙ split_off 8 x d 0x80 0xF8 _ _ (omega arith) l (omega arith) (below 5 3 d l) (below 1 7 x h)

-- the sum of the digits
abbrev pub digits : ℕ → ℕ → ℕ → ℕ → ℕ → ℕ → ℕ → ℕ → ℕ
digits d0 d1 d2 d3 d4 d5 d6 d7 =
    d0 + 0x100 * d1 + 0x1000000 * d2 + 0x200000000 * d3 + 0x10000000000 * d4 + 0x1000000000000 * d5 + 0x40000000000000 * d6 + 0x2000000000000000 * d7

pub clean_digits : (d0 d1 d2 d3 d4 d5 d6 d7 : ℕ) → d0 < 64 → d1 < 65536 → d2 < 512 → d3 < 64 → d4 < 128 → d5 < 64 → d6 < 64
    → clean flags (digits d0 d1 d2 d3 d4 d5 d6 d7)
    ≡ (ltb d0 32 && (clean field_flags d1 && (ltb d2 256 && (ltb d3 32 && (ltb d4 64 && (ltb d5 32 && (ltb d6 32 && clean 2 d7)))))))
clean_digits d0 d1 d2 d3 d4 d5 d6 d7 h0 h1 h2 h3 h4 h5 h6 =
    let x6 : ℕ = d7 * 128 + d6 in
    let x5 : ℕ = x6 * 64 + d5 in
    let x4 : ℕ = x5 * 256 + d4 in
    let x3 : ℕ = x4 * 128 + d3 in
    let x2 : ℕ = x3 * 512 + d2 in
    let x1 : ℕ = x2 * 65536 + d1 in
    let e : digits d0 d1 d2 d3 d4 d5 d6 d7 ≡ x1 * 256 + d0 = omega arith in
    ap (clean flags) e
    ∙ split_off 8 x1 d0 0x482040410080F8 32 _ _ (omega arith) (omega arith) (omega arith) (below 1 5 d0 h0)
    (split_off 16 x2 d1 0x4820404100 field_flags _ _ (omega arith) (omega arith) (omega arith) refl
    (split_off 9 x3 d2 0x24102020 256 _ _ (omega arith) (omega arith) (omega arith) (below 1 8 d2 h2)
    (split_off 7 x4 d3 0x482040 32 _ _ (omega arith) (omega arith) (omega arith) (below 1 5 d3 h3)
    (split_off 8 x5 d4 0x4820 64 _ _ (omega arith) (omega arith) (omega arith) (below 1 6 d4 h4)
    (split_off 6 x6 d5 0x120 32 _ _ (omega arith) (omega arith) (omega arith) (below 1 5 d5 h5)
    (split_off 7 d7 d6 2 32 _ _ (omega arith) (omega arith) (omega arith) (below 1 5 d6 h6) refl))))))

-- the top digit alone, above any others
pub top_unclean : (low d7 : ℕ) → low < 0x2000000000000000 → clean 2 d7 ≡ false → clean flags (low + 0x2000000000000000 * d7) ≡ false
top_unclean low d7 h u =
    let e : low + 0x2000000000000000 * d7 ≡ d7 * 0x2000000000000000 + low = omega arith in
    ap (clean flags) e
    ∙ split_off 61 d7 low 2 0x82040410080F820 _ false (omega arith) h (omega arith) refl u
    ∙ and-false (clean 0x82040410080F820 low)
