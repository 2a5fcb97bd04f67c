-- Laws of quotient and remainder: they are a division, and the only one; that they are numbers of 32 bits; the answer in each case.
-- Assumes nothing.
use mathlib.Core.Path.{◌≡◌, refl, sym, ap, subst, ◌∙◌}
use mathlib.Core.Bool.{Bool, true, false}
use mathlib.Core.Logic.{◌⊎◌, inl, inr}
use Prim.Native.Nat.{ℕ, zero, suc, ◌*◌, ◌<◌}
use native.Mathlib.Nat.{div-le_self, div-lt_self}
use native.Mathlib.Omega.{arith}
use lib.Dec.{T}
use lib.IntN.{ℤ, pos, negsuc, neg_ℤ, nat_abs, pos-ne-negsuc, ◌+ℤ◌, ◌-ℤ◌, ◌*ℤ◌, +ℤ_idl, +ℤ_idr, +ℤ_invr, +ℤ_comm, +ℤ-neg_ℤ_cancel, -ℤ-+ℤ_cancel, neg_ℤ-+ℤ, neg_ℤ-neg_ℤ, *ℤ_comm}
use lib.Signed.{mag, non_neg, nat_abs-le, shr_z}
use mir.Syntax.{w32}
use mir.Val.{SFits}
use Rattle.std.proofs.lemmas.Int.{unsigned_abs-mul}
use Rattle.arithmetic.specs.Wrap.{wrap}
use Rattle.arithmetic.specs.Quotient.{Quotient, value, faults, unless_zero, floor_of, quotient_of, remainder_of, Division}
use Rattle.arithmetic.proofs.Integers.{by_difference, nat_abs_negate, negate_product, distribute, exchange, rest_of, left_by, left_below, down_whole}
use Rattle.arithmetic.proofs.WrapLaws.{wrap_same}

-- ---- the quotient rounded down and what it leaves over are a division
abbrev left_over : ℤ → ℤ → ℤ
left_over x (pos zero) = x
left_over x (pos (suc c)) = pos (left_by x c)
left_over x (negsuc c) = neg_ℤ (pos (left_by (neg_ℤ x) c))

negative_sign : (n : ℕ) → (neg_ℤ (pos n) ≡ pos 0) ⊎ (non_neg (neg_ℤ (pos n)) ≡ false)
negative_sign zero = inl refl
negative_sign (suc n) = inr refl

floored : (x y : ℤ) → (y ≡ pos 0 → ⊥) → Division x y (floor_of x y) (left_over x y)
unfolding floor_of
floored x (pos zero) n = absurd (n refl)
floored x (pos (suc c)) n = record { whole = down_whole x c; small = left_below x c; sign = inr refl }
floored x (negsuc c) n =
    record {
      whole =
          sym (neg_ℤ-neg_ℤ x) ∙ ap neg_ℤ (down_whole (neg_ℤ x) c)
          ∙ neg_ℤ-+ℤ (pos (suc c) *ℤ shr_z (neg_ℤ x) (suc c)) (pos (left_by (neg_ℤ x) c))
          ∙ ap (λ u. u +ℤ neg_ℤ (pos (left_by (neg_ℤ x) c))) (sym (negate_product (pos (suc c)) (shr_z (neg_ℤ x) (suc c))));
      small = rw (nat_abs_negate (left_by (neg_ℤ x) c)) (left_below (neg_ℤ x) c);
      sign = negative_sign (left_by (neg_ℤ x) c);
    }

-- ---- and the only one: two divisions differ by a multiple of y that is smaller than y
-- a remainder that is not negative beside one that is: it is zero
opposed : (a b : ℕ) (t : Bool) → (pos a ≡ pos 0) ⊎ (true ≡ t) → (negsuc b ≡ pos 0) ⊎ (false ≡ t) → a ≡ 0
opposed a b t (inl e) s = ap nat_abs e
opposed a b t (inr e) (inl f) = absurd (pos-ne-negsuc 0 b (sym f))
opposed a b t (inr e) (inr f) = absurd (subst T (e ∙ sym f) tt)

near : (n : ℕ) (t : Bool) (r s : ℤ) → nat_abs r < n → nat_abs s < n → (r ≡ pos 0) ⊎ (non_neg r ≡ t) → (s ≡ pos 0) ⊎ (non_neg s ≡ t) → nat_abs (s -ℤ r) < n
near n t (pos zero) (pos b) hr hs d e = omega arith
near n t (pos (suc a)) (pos b) hr hs d e = by_difference (λ z. nat_abs z < n) b (suc a) (λ l. omega arith) (λ l. omega arith)
near n t (negsuc a) (negsuc b) hr hs d e = by_difference (λ z. nat_abs z < n) (suc a) (suc b) (λ l. omega arith) (λ l. omega arith)
near n t (pos a) (negsuc b) hr hs d e = rw (opposed a b t d e, +ℤ_idr (negsuc b)) hs
near n t (negsuc a) (pos b) hr hs d e = let z : b ≡ 0 = opposed b a t e d in omega arith

none : (n m : ℕ) → n * m < n → m ≡ 0
none n zero h = refl
none n (suc m) h = absurd (omega arith)

zero_only : (z : ℤ) → nat_abs z ≡ 0 → z ≡ pos 0
zero_only (pos n) e = ap pos e
zero_only (negsuc n) e = absurd (omega arith)

-- from a + r = b + s: a − b = s − r
moved : (a b r s : ℤ) → a +ℤ r ≡ b +ℤ s → a -ℤ b ≡ s -ℤ r
moved a b r s e =
    ap (λ u. u -ℤ b) (sym (+ℤ-neg_ℤ_cancel a r) ∙ ap (λ u. u -ℤ r) e) ∙ exchange (b +ℤ s) (neg_ℤ r) (neg_ℤ b)
    ∙ ap (λ u. u -ℤ r) (ap (λ u. u -ℤ b) (+ℤ_comm b s) ∙ +ℤ-neg_ℤ_cancel s b)

equal : (a b : ℤ) → a -ℤ b ≡ pos 0 → a ≡ b
equal a b e = sym (-ℤ-+ℤ_cancel a b) ∙ ap (λ u. u +ℤ b) e ∙ +ℤ_idl b

module _ {x y q r p s : ℤ} (d : Division x y q r) (e : Division x y p s) where
  apart : y *ℤ (q -ℤ p) ≡ s -ℤ r
  apart =
      *ℤ_comm y (q -ℤ p) ∙ distribute q (neg_ℤ p) y ∙ ap (λ u. q *ℤ y +ℤ u) (negate_product p y)
      ∙ ap (λ u. u -ℤ p *ℤ y) (*ℤ_comm q y) ∙ ap (λ u. y *ℤ q -ℤ u) (*ℤ_comm p y)
      ∙ moved (y *ℤ q) (y *ℤ p) r s (sym d.whole ∙ e.whole)

  pub division_quotient : q ≡ p
  division_quotient =
      let h : nat_abs y * nat_abs (q -ℤ p) < nat_abs y = rw (← unsigned_abs-mul y (q -ℤ p), apart) (near (nat_abs y) (non_neg y) r s d.small e.small d.sign e.sign) in
      equal q p (zero_only (q -ℤ p) (none (nat_abs y) (nat_abs (q -ℤ p)) h))

  pub division_remainder : r ≡ s
  division_remainder =
      sym (equal s r (sym (moved (y *ℤ q) (y *ℤ p) r s (sym d.whole ∙ e.whole)) ∙ ap (λ u. y *ℤ u -ℤ y *ℤ p) division_quotient ∙ +ℤ_invr (y *ℤ p)))

-- ---- they are numbers of 32 bits: a quotient is no larger than the dividend, but for the least number by −1; a remainder is smaller than the divisor
mag_floor : (x y : ℤ) → mag x < 2147483648 → (x ≡ negsuc 2147483647 → y ≡ negsuc 0 → ⊥) → mag (floor_of x y) < 2147483648
unfolding floor_of
mag_floor (pos a) (pos c) h n = omega (arith, div-le_self a c)
mag_floor (negsuc a) (pos c) h n = omega (arith, div-le_self a c)
mag_floor (pos zero) (negsuc c) h n = omega (arith, div-le_self 0 (suc c))
mag_floor (pos (suc a)) (negsuc c) h n = omega (arith, div-le_self a (suc c))
mag_floor (negsuc a) (negsuc zero) h n =
    let e : a ≡ 2147483647 → ⊥ = λ e. n (ap negsuc e) refl in
    omega (arith, div-le_self (suc a) 1, e)
mag_floor (negsuc a) (negsuc (suc c)) h n = omega (arith, div-lt_self {n = suc a} {k = suc (suc c)} (omega arith) (omega arith))

mag_small : (r : ℤ) (n : ℕ) → nat_abs r < n → mag r < n
mag_small (pos a) n h = h
mag_small (negsuc a) n h = omega arith

module _ {x y q r : ℤ} (d : Division x y q r) where
  some : y ≡ pos 0 → ⊥
  some e = let h : nat_abs r < 0 = subst (λ u. nat_abs r < nat_abs u) e d.small in absurd (omega arith)

  pub quotient_fits : SFits w32 x → (x ≡ negsuc 2147483647 → y ≡ negsuc 0 → ⊥) → SFits w32 q
  quotient_fits h m = rw (division_quotient d (floored x y some)) (record { sfits = mag_floor x y h.sfits m })

  pub remainder_fits : SFits w32 y → SFits w32 r
  remainder_fits h = record { sfits = mag_small r 2147483648 (omega (arith, d.small, nat_abs-le y h.sfits)) }

-- ---- the answers
pub quotient_zero : (x : ℤ) → quotient_of x (pos 0) ≡ faults
unfolding quotient_of
quotient_zero x = refl

pub remainder_zero : (x : ℤ) → remainder_of x (pos 0) ≡ faults
unfolding remainder_of
remainder_zero x = refl

-- by −1 the quotient is the dividend negated
by_one : (z : ℤ) → shr_z z 1 ≡ z
by_one (pos n) = ap pos (omega arith)
by_one (negsuc n) = ap negsuc (omega arith)

pub quotient_one : (x : ℤ) → quotient_of x (negsuc 0) ≡ value (wrap (neg_ℤ x))
unfolding quotient_of floor_of
quotient_one x = ap (λ u. value (wrap u)) (by_one (neg_ℤ x))

unless : (y : ℤ) (d : Quotient) → (y ≡ pos 0 → ⊥) → unless_zero y d ≡ d
unless (pos zero) d n = absurd (n refl)
unless (pos (suc k)) d n = refl
unless (negsuc k) d n = refl

remainder_left : (x y : ℤ) → (y ≡ pos 0 → ⊥) → remainder_of x y ≡ value (left_over x y)
unfolding remainder_of
remainder_left x y n = unless y (value (x -ℤ y *ℤ floor_of x y)) n ∙ ap value (rest_of x (y *ℤ floor_of x y) (left_over x y) (floored x y n).whole)

-- by −1 nothing is left over
pub remainder_one : (x : ℤ) → remainder_of x (negsuc 0) ≡ value (pos 0)
remainder_one x =
    let e : left_by (neg_ℤ x) 0 ≡ 0 = omega (arith, left_below (neg_ℤ x) 0) in
    remainder_left x (negsuc 0) (λ e. pos-ne-negsuc 0 0 (sym e)) ∙ ap (λ (n : ℕ). value (neg_ℤ (pos n))) e

module _ {x y q r : ℤ} (d : Division x y q r) where
  pub quotient_by : SFits w32 q → quotient_of x y ≡ value q
  unfolding quotient_of
  quotient_by h =
      unless y (value (wrap (floor_of x y))) (some d) ∙ ap (λ u. value (wrap u)) (division_quotient (floored x y (some d)) d) ∙ ap value (wrap_same h)

  pub remainder_by : remainder_of x y ≡ value r
  remainder_by = remainder_left x y (some d) ∙ ap value (division_remainder (floored x y (some d)) d)

-- at every pair that has a quotient of 32 bits they are a division, and any division is the answers
module _ {x : ℤ} (y : ℤ) (h : SFits w32 x) (n : y ≡ pos 0 → ⊥) (m : x ≡ negsuc 2147483647 → y ≡ negsuc 0 → ⊥) where
  pub divided : (q : ℤ) × (r : ℤ) × (quotient_of x y ≡ value q) × (remainder_of x y ≡ value r) × Division x y q r
  divided = let d = floored x y n in (floor_of x y, left_over x y, quotient_by d (quotient_fits d h m), remainder_by d, d)

  pub divided_only : {q r : ℤ} → Division x y q r → (quotient_of x y ≡ value q) × (remainder_of x y ≡ value r)
  divided_only d = (quotient_by d (quotient_fits d h m), remainder_by d)
