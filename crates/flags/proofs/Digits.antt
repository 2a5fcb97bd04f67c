-- Digits side by side in one number: it is clean of its flags exactly where each digit is clean of its own. One digit after the other is split off from
-- below; a digit whose flags are its highest is clean where it is below them.
-- Assumes nothing.
use mathlib.Core.Path.{◌≡◌, refl, sym, ap, ap₂, ◌∙◌}
use mathlib.Core.Bool.{Bool, true, ◌&&◌}
use Prim.Native.Nat.{ℕ, zero, suc, ◌+◌, ◌-◌, ◌*◌, ◌/◌, ◌%◌, ◌^◌, ◌<◌}
use native.Mathlib.Nat.{mod-eq_of_lt, div-eq_of_lt, div-lt_iff_lt-mul, add-zero}
use native.Mathlib.Omega.{arith}
use borrow.Author.Tests.{ltb-true, lt-ltb, eqb-true, eq-eqb, ne_eqb}
use lib.Bits.{bit_and, and_block, and_high}
use lib.Dec.{eqb, ltb}
use lib.Pow.{pow_pos}
use Rattle.base.proofs.Conjunction.{iff}
use Rattle.flags.specs.Clean.{clean}

-- a sum is zero where both parts are
sum_zero : (x k y : ℕ) → 0 < k → eqb (x * k + y) 0 ≡ (eqb y 0 && eqb x 0)
sum_zero x k zero h = iff _ _ (λ e. product x (eqb-true _ _ e)) (λ e. rw (eqb-true x 0 e) (eq-eqb (0 * k + 0) 0 (omega arith)))
  where
    product : (x : ℕ) → x * k + 0 ≡ 0 → eqb x 0 ≡ true
    product zero e = refl
    product (suc x) e = absurd (omega arith)
sum_zero x k (suc y) h = ne_eqb (x * k + suc y) 0 (λ e. omega arith) ∙ sym (rw (ne_eqb (suc y) 0 (λ e. omega arith)))

-- one digit of k binary digits, split off from below
pub split_off : (k x d mask flag : ℕ) (low high : Bool) → 0 < 2 ^ k → d < 2 ^ k → flag < 2 ^ k → clean flag d ≡ low → clean mask x ≡ high
    → clean (mask * 2 ^ k + flag) (x * 2 ^ k + d) ≡ (low && high)
split_off k x d mask flag low high h l m e f =
    ap (λ (n : ℕ). eqb n 0) (and_block k x mask d flag l m) ∙ sum_zero (bit_and x mask) (2 ^ k) (bit_and d flag) h
    ∙ ap₂ (λ (a b : Bool). a && b) e f

-- a digit is clean of j flags, the lowest of them at k, where it is below that
pub below : (j k d : ℕ) → d < 2 ^ j * 2 ^ k → clean (2 ^ (j + k) - 2 ^ k) d ≡ ltb d (2 ^ k)
below j k d h =
    let x : ℕ = d / 2 ^ k in
    let e : x % 2 ^ j ≡ x = mod-eq_of_lt ((div-lt_iff_lt-mul (pow_pos k)).1 h) in
    ap (λ (n : ℕ). eqb n 0) (and_high d j k ∙ ap (λ (n : ℕ). n * 2 ^ k) e ∙ sym (add-zero (x * 2 ^ k)))
    ∙ sum_zero x (2 ^ k) 0 (pow_pos k)
    ∙ iff (eqb x 0) (ltb d (2 ^ k))
    (λ t. let z : x ≡ 0 = eqb-true x 0 t in lt-ltb d (2 ^ k) (omega (arith, (div-lt_iff_lt-mul {k = 2 ^ k} {x = d} {y = 1} (pow_pos k)).0 (omega arith))))
    (λ t. eq-eqb x 0 (div-eq_of_lt (ltb-true d (2 ^ k) t)))
