-- Laws of integers that the library does not have: induction up and down, cases on a difference, the size of a negated number, the product distributes
-- and associates, a quotient rounded down and what it leaves over.
-- Assumes nothing.
use mathlib.Core.Path.{◌≡◌, refl, sym, ap, ◌∙◌}
use mathlib.Core.Bool.{Bool, true, false, cond}
use Prim.Native.Nat.{ℕ, zero, suc, ◌+◌, ◌-◌, ◌*◌, ◌/◌, ◌%◌, ◌<◌, ◌≤◌}
use native.Mathlib.Nat.{div-add-mod, mod-lt, mul-suc, zero-lt-suc}
use lib.Dec.{ltb}
use native.Mathlib.Omega.{arith}
use lib.IntN.{ℤ, pos, negsuc, suc_ℤ, pred_ℤ, neg_ℤ, nat_abs, sub_ℕ, ◌+ℤ◌, ◌-ℤ◌, ◌*ℤ◌, +ℤ_idr, +ℤ_comm, +ℤ_assoc, +ℤ-suc_ℤ, +ℤ-pred_ℤ, +ℤ-neg_ℤ_cancel, -ℤ-+ℤ_cancel, zero-*ℤ, suc_ℤ-*ℤ, pred_ℤ-*ℤ, neg_ℤ-neg_ℤ}
use lib.Signed.{mag, shr_z}
use borrow.Author.Tests.{ltb-true, ltb-false}

pub induct : (P : ℤ → Type 0) → P (pos zero) → ((k : ℤ) → P k → P (suc_ℤ k)) → ((k : ℤ) → P k → P (pred_ℤ k)) → (k : ℤ) → P k
induct P z up down (pos zero) = z
induct P z up down (pos (suc n)) = up (pos n) (induct P z up down (pos n))
induct P z up down (negsuc zero) = down (pos zero) z
induct P z up down (negsuc (suc n)) = down (negsuc n) (induct P z up down (negsuc n))

by_test : (P : ℤ → Type 0) (t : Bool) (a b : ℤ) → (t ≡ true → P a) → (t ≡ false → P b) → P (cond t a b)
by_test P true a b f g = f refl
by_test P false a b f g = g refl

-- a difference of two naturals is negative or it is not
pub by_difference : (P : ℤ → Type 0) (a b : ℕ) → (a < b → P (negsuc (b - suc a))) → (b ≤ a → P (pos (a - b))) → P (sub_ℕ a b)
by_difference P a b f g = by_test P (ltb a b) _ _ (λ e. f (ltb-true a b e)) (λ e. g (ltb-false a b e))

pub mag_negate : (r a : ℕ) → r ≤ suc a → mag (neg_ℤ (pos r)) ≤ a
mag_negate zero a h = omega arith
mag_negate (suc r) a h = omega arith

pub negate_product : (x y : ℤ) → neg_ℤ x *ℤ y ≡ neg_ℤ (x *ℤ y)
negate_product (pos zero) y = zero-*ℤ y ∙ sym (ap neg_ℤ (zero-*ℤ y))
negate_product (pos (suc n)) (pos k) = refl
negate_product (pos (suc n)) (negsuc k) = sym (neg_ℤ-neg_ℤ _)
negate_product (negsuc n) (pos k) = sym (neg_ℤ-neg_ℤ _)
negate_product (negsuc n) (negsuc k) = refl

pub nat_abs_negate : (n : ℕ) → nat_abs (neg_ℤ (pos n)) ≡ n
nat_abs_negate zero = refl
nat_abs_negate (suc n) = refl

-- (x + y) z = x z + y z
pub distribute : (x y z : ℤ) → (x +ℤ y) *ℤ z ≡ x *ℤ z +ℤ y *ℤ z
distribute x y z = induct (λ k. (x +ℤ k) *ℤ z ≡ x *ℤ z +ℤ k *ℤ z) base up down y
  where
    base : (x +ℤ pos zero) *ℤ z ≡ x *ℤ z +ℤ pos zero *ℤ z
    base = ap (λ u. u *ℤ z) (+ℤ_idr x) ∙ sym (+ℤ_idr (x *ℤ z)) ∙ ap (λ u. x *ℤ z +ℤ u) (sym (zero-*ℤ z))

    up : (k : ℤ) → (x +ℤ k) *ℤ z ≡ x *ℤ z +ℤ k *ℤ z → (x +ℤ suc_ℤ k) *ℤ z ≡ x *ℤ z +ℤ suc_ℤ k *ℤ z
    up k h =
        ap (λ u. u *ℤ z) (+ℤ-suc_ℤ x k) ∙ suc_ℤ-*ℤ (x +ℤ k) z ∙ ap (λ u. u +ℤ z) h
        ∙ +ℤ_assoc (x *ℤ z) (k *ℤ z) z ∙ ap (λ u. x *ℤ z +ℤ u) (sym (suc_ℤ-*ℤ k z))

    down : (k : ℤ) → (x +ℤ k) *ℤ z ≡ x *ℤ z +ℤ k *ℤ z → (x +ℤ pred_ℤ k) *ℤ z ≡ x *ℤ z +ℤ pred_ℤ k *ℤ z
    down k h =
        ap (λ u. u *ℤ z) (+ℤ-pred_ℤ x k) ∙ pred_ℤ-*ℤ (x +ℤ k) z ∙ ap (λ u. u -ℤ z) h
        ∙ +ℤ_assoc (x *ℤ z) (k *ℤ z) (neg_ℤ z) ∙ ap (λ u. x *ℤ z +ℤ u) (sym (pred_ℤ-*ℤ k z))

pub associate : (x y z : ℤ) → (x *ℤ y) *ℤ z ≡ x *ℤ (y *ℤ z)
associate x y z = induct (λ k. (k *ℤ y) *ℤ z ≡ k *ℤ (y *ℤ z)) base up down x
  where
    base : (pos zero *ℤ y) *ℤ z ≡ pos zero *ℤ (y *ℤ z)
    base = ap (λ u. u *ℤ z) (zero-*ℤ y) ∙ zero-*ℤ z ∙ sym (zero-*ℤ (y *ℤ z))

    up : (k : ℤ) → (k *ℤ y) *ℤ z ≡ k *ℤ (y *ℤ z) → (suc_ℤ k *ℤ y) *ℤ z ≡ suc_ℤ k *ℤ (y *ℤ z)
    up k h =
        ap (λ u. u *ℤ z) (suc_ℤ-*ℤ k y) ∙ distribute (k *ℤ y) y z ∙ ap (λ u. u +ℤ y *ℤ z) h ∙ sym (suc_ℤ-*ℤ k (y *ℤ z))

    down : (k : ℤ) → (k *ℤ y) *ℤ z ≡ k *ℤ (y *ℤ z) → (pred_ℤ k *ℤ y) *ℤ z ≡ pred_ℤ k *ℤ (y *ℤ z)
    down k h =
        ap (λ u. u *ℤ z) (pred_ℤ-*ℤ k y) ∙ distribute (k *ℤ y) (neg_ℤ y) z ∙ ap (λ u. (k *ℤ y) *ℤ z +ℤ u) (negate_product y z)
        ∙ ap (λ u. u -ℤ y *ℤ z) h ∙ sym (pred_ℤ-*ℤ k (y *ℤ z))

-- (x − m) + (y + m) = x + y
pub carry : (x y m : ℤ) → (x -ℤ m) +ℤ (y +ℤ m) ≡ x +ℤ y
carry x y m =
    ap (λ u. (x -ℤ m) +ℤ u) (+ℤ_comm y m) ∙ sym (+ℤ_assoc (x -ℤ m) m y) ∙ ap (λ u. u +ℤ y) (-ℤ-+ℤ_cancel x m)

-- (x + m) + y = (x + y) + m
pub exchange : (x m y : ℤ) → (x +ℤ m) +ℤ y ≡ (x +ℤ y) +ℤ m
exchange x m y = +ℤ_assoc x m y ∙ ap (λ u. x +ℤ u) (+ℤ_comm m y) ∙ sym (+ℤ_assoc x y m)

-- what was taken away and added again: from x = a + b, b = x − a
pub rest_of : (x a b : ℤ) → x ≡ a +ℤ b → x -ℤ a ≡ b
rest_of x a b e = ap (λ u. u -ℤ a) (e ∙ +ℤ_comm a b) ∙ +ℤ-neg_ℤ_cancel b a

-- ---- by a divisor c + 1 the quotient rounded down leaves over a natural below it
abbrev pub left_by : ℤ → ℕ → ℕ
left_by (pos a) c = a % suc c
left_by (negsuc a) c = c - a % suc c

pub left_below : (x : ℤ) (c : ℕ) → left_by x c < suc c
left_below (pos a) c = mod-lt a (omega arith)
left_below (negsuc a) c = omega arith

owed : (a n : ℕ) → negsuc (a + n) +ℤ pos n ≡ negsuc a
owed a n = by_difference (λ z. z ≡ negsuc a) n (suc (a + n)) (λ l. ap negsuc (omega arith)) (λ l. absurd (omega arith))

pub down_whole : (x : ℤ) (c : ℕ) → x ≡ pos (suc c) *ℤ shr_z x (suc c) +ℤ pos (left_by x c)
down_whole (pos a) c = ap pos (sym (div-add-mod a (suc c)))
down_whole (negsuc a) c =
    let e : suc c * suc (a / suc c) ≡ suc (a + (c - a % suc c)) = omega (arith, div-add-mod a (suc c), mod-lt a (zero-lt-suc c), mul-suc (suc c) (a / suc c)) in
    rw e (sym (owed a (c - a % suc c)))
