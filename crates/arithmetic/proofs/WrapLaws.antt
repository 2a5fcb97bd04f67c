-- Laws of `wrap`: it gives the one number of 32 bits that differs by a multiple of 2^32, so sums, differences and products of wrapped numbers wrap to the wrapped ones.
-- Assumes nothing.
use mathlib.Core.Path.{◌≡◌, refl, sym, ap, ◌∙◌}
use Prim.Native.Nat.{ℕ, zero, suc, ◌-◌, ◌*◌, ◌%◌, ◌<◌, ◌≤◌}
use native.Mathlib.Omega.{arith}
use native.Mathlib.Decide.{dec_lt}
use lib.IntN.{ℤ, pos, negsuc, suc_ℤ, pred_ℤ, neg_ℤ, ◌+ℤ◌, ◌-ℤ◌, ◌*ℤ◌, +ℤ_idr, +ℤ_comm, +ℤ_assoc, -ℤ-+ℤ_cancel, *ℤ_comm, suc_ℤ-*ℤ, pred_ℤ-*ℤ}
use lib.Signed.{mag, shr_z}
use mir.Syntax.{w32}
use mir.Val.{SFits, to_z}
use mir.Facts.{to_z_pos}
use Rattle.std.specs.Int.{int_wrap}
use borrow.Author.Tests.{lt-ltb, le-ltb}
use Rattle.arithmetic.specs.Wrap.{residue, centred, wrap}
use Rattle.arithmetic.proofs.Integers.{induct, by_difference, distribute, associate, carry, exchange, left_by, down_whole}

-- ---- a remainder below 2^32, and the number of 32 bits that it stands for
pub residue_below : (z : ℤ) → residue z < 4294967296
unfolding residue
residue_below (pos n) = omega arith
residue_below (negsuc n) = omega arith

pub centred_low : (r : ℕ) → r < 2147483648 → centred r ≡ pos r
unfolding centred
centred_low r h = rw (lt-ltb r 2147483648 h)

centred_less : (r : ℕ) → 2147483648 ≤ r → centred r ≡ pos r -ℤ pos 4294967296
unfolding centred
centred_less r h = rw (le-ltb r 2147483648 h)

less : (r : ℕ) → r < 4294967296 → pos r -ℤ pos 4294967296 ≡ negsuc (4294967295 - r)
less r h = by_difference (λ z. z ≡ negsuc (4294967295 - r)) r 4294967296 (λ l. ap negsuc (omega arith)) (λ l. absurd (omega arith))

pub centred_high : (r : ℕ) → 2147483648 ≤ r → r < 4294967296 → centred r ≡ negsuc (4294967295 - r)
centred_high r l h = centred_less r l ∙ less r h

fits : (r : ℕ) → r < 4294967296 → Dec (r < 2147483648) → mag (centred r) < 2147483648
fits r h (yes l) = rw (centred_low r l) l
fits r h (no l) = rw (centred_high r (omega arith) h) (omega arith)

pub wrap_fits : (z : ℤ) → SFits w32 (wrap z)
unfolding wrap
wrap_fits z = record { sfits = fits (residue z) (residue_below z) (dec_lt _ _) }

-- a number of 32 bits stays
same : (z : ℤ) → mag z < 2147483648 → wrap z ≡ z
unfolding wrap residue
same (pos n) h = let e : n % 4294967296 ≡ n = omega arith in rw e (centred_low n h)
same (negsuc n) h =
    let e : 4294967295 - n % 4294967296 ≡ 4294967295 - n = omega arith in
    rw e (centred_high (4294967295 - n) (omega arith) (omega arith) ∙ ap negsuc (omega arith))

pub wrap_same : {z : ℤ} → SFits w32 z → wrap z ≡ z
wrap_same {z} h = same z h.sfits

-- ---- what is wrapped differs by a multiple of 2^32
left_residue : (z : ℤ) → left_by z 4294967295 ≡ residue z
unfolding residue
left_residue (pos n) = refl
left_residue (negsuc n) = refl

divided : (z : ℤ) → z ≡ pos (residue z) +ℤ shr_z z 4294967296 *ℤ pos 4294967296
divided z =
    down_whole z 4294967295 ∙ +ℤ_comm (pos 4294967296 *ℤ shr_z z 4294967296) (pos (left_by z 4294967295))
    ∙ ap (λ u. pos (left_by z 4294967295) +ℤ u) (*ℤ_comm (pos 4294967296) (shr_z z 4294967296)) ∙ ap (λ (n : ℕ). pos n +ℤ shr_z z 4294967296 *ℤ pos 4294967296) (left_residue z)

differs : (z : ℤ) → Dec (residue z < 2147483648) → (k : ℤ) × (z ≡ wrap z +ℤ k *ℤ pos 4294967296)
unfolding wrap
differs z (yes l) = (shr_z z 4294967296, divided z ∙ ap (λ u. u +ℤ shr_z z 4294967296 *ℤ pos 4294967296) (sym (centred_low (residue z) l)))
differs z (no l) = (suc_ℤ (shr_z z 4294967296), divided z ∙ sym (ap (λ u. centred (residue z) +ℤ u) (suc_ℤ-*ℤ (shr_z z 4294967296) (pos 4294967296)) ∙ ap (λ u. u +ℤ (shr_z z 4294967296 *ℤ pos 4294967296 +ℤ pos 4294967296)) (centred_less (residue z) (omega arith)) ∙ carry (pos (residue z)) (shr_z z 4294967296 *ℤ pos 4294967296) (pos 4294967296)))

pub wrap_differs : (z : ℤ) → (k : ℤ) × (z ≡ wrap z +ℤ k *ℤ pos 4294967296)
wrap_differs z = differs z (dec_lt _ _)

-- ---- and numbers that differ so wrap alike
turn : (z : ℤ) → residue (z +ℤ pos 4294967296) ≡ residue z
unfolding residue
turn (pos n) = omega arith
turn (negsuc n) = by_difference (λ z. residue z ≡ 4294967295 - n % 4294967296) 4294967296 (suc n) (λ l. omega arith) (λ l. omega arith)

turns : (z k : ℤ) → residue (z +ℤ k *ℤ pos 4294967296) ≡ residue z
turns z k = induct (λ k. residue (z +ℤ k *ℤ pos 4294967296) ≡ residue z) (ap residue (+ℤ_idr z)) up down k
  where
    up : (k : ℤ) → residue (z +ℤ k *ℤ pos 4294967296) ≡ residue z → residue (z +ℤ suc_ℤ k *ℤ pos 4294967296) ≡ residue z
    up k h =
        ap (λ u. residue (z +ℤ u)) (suc_ℤ-*ℤ k (pos 4294967296)) ∙ ap residue (sym (+ℤ_assoc z (k *ℤ pos 4294967296) (pos 4294967296)))
        ∙ turn (z +ℤ k *ℤ pos 4294967296) ∙ h

    back : (u : ℤ) → residue (u -ℤ pos 4294967296) ≡ residue u
    back u = sym (turn (u -ℤ pos 4294967296)) ∙ ap residue (-ℤ-+ℤ_cancel u (pos 4294967296))

    down : (k : ℤ) → residue (z +ℤ k *ℤ pos 4294967296) ≡ residue z → residue (z +ℤ pred_ℤ k *ℤ pos 4294967296) ≡ residue z
    down k h =
        ap (λ u. residue (z +ℤ u)) (pred_ℤ-*ℤ k (pos 4294967296)) ∙ ap residue (sym (+ℤ_assoc z (k *ℤ pos 4294967296) (negsuc 4294967295)))
        ∙ back (z +ℤ k *ℤ pos 4294967296) ∙ h

pub wrap_alike : (z k : ℤ) → wrap (z +ℤ k *ℤ pos 4294967296) ≡ wrap z
unfolding wrap
wrap_alike z k = ap centred (turns z k)

-- so the number of 32 bits is the only one
pub wrap_unique : (x z k : ℤ) → SFits w32 x → z ≡ x +ℤ k *ℤ pos 4294967296 → wrap z ≡ x
wrap_unique x z k h e = ap wrap e ∙ wrap_alike x k ∙ wrap_same h

-- ---- sums, differences and products of wrapped numbers
pub wrap_sum_left : (x y : ℤ) → wrap (wrap x +ℤ y) ≡ wrap (x +ℤ y)
wrap_sum_left x y = go (wrap_differs x)
  where
    go : (k : ℤ) × (x ≡ wrap x +ℤ k *ℤ pos 4294967296) → wrap (wrap x +ℤ y) ≡ wrap (x +ℤ y)
    go d = sym (ap (λ u. wrap (u +ℤ y)) d.1 ∙ ap wrap (exchange (wrap x) (d.0 *ℤ pos 4294967296) y) ∙ wrap_alike (wrap x +ℤ y) d.0)

pub wrap_sum_right : (x y : ℤ) → wrap (x +ℤ wrap y) ≡ wrap (x +ℤ y)
wrap_sum_right x y = ap wrap (+ℤ_comm x (wrap y)) ∙ wrap_sum_left y x ∙ ap wrap (+ℤ_comm y x)

pub wrap_sum : (x y : ℤ) → wrap (wrap x +ℤ wrap y) ≡ wrap (x +ℤ y)
wrap_sum x y = wrap_sum_left x (wrap y) ∙ wrap_sum_right x y

pub wrap_product_left : (x y : ℤ) → wrap (wrap x *ℤ y) ≡ wrap (x *ℤ y)
wrap_product_left x y = go (wrap_differs x)
  where
    slide : (k : ℤ) → k *ℤ pos 4294967296 *ℤ y ≡ k *ℤ y *ℤ pos 4294967296
    slide k = associate k (pos 4294967296) y ∙ ap (λ u. k *ℤ u) (*ℤ_comm (pos 4294967296) y) ∙ sym (associate k y (pos 4294967296))

    go : (k : ℤ) × (x ≡ wrap x +ℤ k *ℤ pos 4294967296) → wrap (wrap x *ℤ y) ≡ wrap (x *ℤ y)
    go d =
        sym (ap (λ u. wrap (u *ℤ y)) d.1 ∙ ap wrap (distribute (wrap x) (d.0 *ℤ pos 4294967296) y)
        ∙ ap (λ u. wrap (wrap x *ℤ y +ℤ u)) (slide d.0) ∙ wrap_alike (wrap x *ℤ y) (d.0 *ℤ y))

pub wrap_product_right : (x y : ℤ) → wrap (x *ℤ wrap y) ≡ wrap (x *ℤ y)
wrap_product_right x y = ap wrap (*ℤ_comm x (wrap y)) ∙ wrap_product_left y x ∙ ap wrap (*ℤ_comm y x)

pub wrap_product : (x y : ℤ) → wrap (wrap x *ℤ wrap y) ≡ wrap (x *ℤ y)
wrap_product x y = wrap_product_left x (wrap y) ∙ wrap_product_right x y

-- a difference is a sum with the negated number, and that a product by −1
negated : (y : ℤ) → wrap (neg_ℤ (wrap y)) ≡ wrap (neg_ℤ y)
negated y = ap wrap (times (wrap y)) ∙ wrap_product_left y (negsuc zero) ∙ ap wrap (sym (times y))
  where
    times : (u : ℤ) → neg_ℤ u ≡ u *ℤ negsuc zero
    times (pos n) = let e : n ≡ n * suc zero = omega arith in ap (λ (m : ℕ). neg_ℤ (pos m)) e
    times (negsuc n) = ap pos (omega arith)

pub wrap_difference : (x y : ℤ) → wrap (wrap x -ℤ wrap y) ≡ wrap (x -ℤ y)
wrap_difference x y =
    wrap_sum_left x (neg_ℤ (wrap y)) ∙ sym (wrap_sum_right x (neg_ℤ (wrap y))) ∙ ap (λ u. wrap (x +ℤ u)) (negated y) ∙ wrap_sum_right x (neg_ℤ y)

-- ---- the library's word for it: the low 32 bits, read as signed
read : (r : ℕ) → r < 4294967296 → Dec (r < 2147483648) → to_z w32 r ≡ centred r
read r h (yes l) = to_z_pos w32 l ∙ sym (centred_low r l)
read r h (no l) =
    let e : to_z w32 r ≡ negsuc (4294967295 - r) = rw (le-ltb r 2147483648 (omega arith)) (ap negsuc (omega arith)) in
    e ∙ sym (centred_high r (omega arith) h)

pub wrap_is : (z : ℤ) → int_wrap w32 z ≡ wrap z
unfolding int_wrap wrap residue
wrap_is (pos n) = read (n % 4294967296) (omega arith) (dec_lt _ _)
wrap_is (negsuc n) = read (4294967295 - n % 4294967296) (omega arith) (dec_lt _ _)
