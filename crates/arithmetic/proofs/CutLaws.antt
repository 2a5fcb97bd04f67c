-- A quotient cut toward zero leaves over less than the divisor too. Where that has the divisor's sign the two are a division as they stand; else one less
-- is the quotient.
-- Assumes nothing.
use mathlib.Core.Path.{◌≡◌, refl, sym, ap, ◌∙◌}
use mathlib.Core.Bool.{true, false, false≢true, true≢false}
use mathlib.Core.Logic.{◌⊎◌, inl, inr}
use Prim.Native.Nat.{ℕ, zero, suc, ◌*◌, ◌/◌, ◌<◌}
use native.Mathlib.Nat.{div-le_self, div-lt_self}
use native.Mathlib.Omega.{arith}
use lib.IntN.{ℤ, pos, negsuc, pred_ℤ, neg_ℤ, nat_abs, ◌+ℤ◌, ◌-ℤ◌, ◌*ℤ◌, -ℤ_one, *ℤ_comm, zero-*ℤ, pred_ℤ-*ℤ}
use lib.Signed.{mag, non_neg, lt_z, mag_rem, quot_z, rem_z}
use mir.Syntax.{w32}
use mir.Val.{SFits}
use borrow.Author.Tests.{ltb-true}
use Rattle.std.proofs.lemmas.Int.{quot-rem, rem_below}
use Rattle.arithmetic.specs.Quotient.{Division}
use Rattle.arithmetic.proofs.Integers.{by_difference, mag_negate, carry}

recombined : (x y : ℤ) → y *ℤ quot_z x y +ℤ rem_z x y ≡ x
recombined x y = ap (λ u. u +ℤ rem_z x y) (*ℤ_comm y (quot_z x y)) ∙ quot-rem x y

positive : (y : ℤ) → (y ≡ pos 0 → ⊥) → 0 < nat_abs y
positive (pos zero) n = absurd (n refl)
positive (pos (suc k)) n = omega arith
positive (negsuc k) n = omega arith

below : (x y : ℤ) → (y ≡ pos 0 → ⊥) → nat_abs (rem_z x y) < nat_abs y
below x y n = rem_below x y (positive y n)

pub cut_fits : (x y : ℤ) → SFits w32 x → (x ≡ negsuc 2147483647 → y ≡ negsuc 0 → ⊥) → SFits w32 (quot_z x y)
cut_fits x y h n = record { sfits = go x y h.sfits n }
  where
    go : (x y : ℤ) → mag x < 2147483648 → (x ≡ negsuc 2147483647 → y ≡ negsuc 0 → ⊥) → mag (quot_z x y) < 2147483648
    go (pos a) (pos b) h n = omega (arith, div-le_self a b)
    go (pos a) (negsuc b) h n = omega (arith, mag_negate (a / suc b) a (omega (arith, div-le_self a (suc b))))
    go (negsuc a) (pos b) h n = omega (arith, mag_negate (suc a / b) a (div-le_self (suc a) b))
    go (negsuc a) (negsuc zero) h n =
        let e : a ≡ 2147483647 → ⊥ = λ e. n (ap negsuc e) refl in
        omega (arith, div-le_self (suc a) 1, e)
    go (negsuc a) (negsuc (suc b)) h n = omega (arith, div-lt_self {n = suc a} {k = suc (suc b)} (omega arith) (omega arith))

pub cut_left_fits : (x y : ℤ) → SFits w32 x → SFits w32 (rem_z x y)
cut_left_fits x y h = record { sfits = omega (arith, h.sfits, mag_rem x y) }

-- y (q − 1) + (r + y) = y q + r
lowered_whole : (y q r : ℤ) → y *ℤ (q -ℤ pos 1) +ℤ (r +ℤ y) ≡ y *ℤ q +ℤ r
lowered_whole y q r =
    ap (λ u. u +ℤ (r +ℤ y)) (ap (λ u. y *ℤ u) (-ℤ_one q) ∙ *ℤ_comm y (pred_ℤ q) ∙ pred_ℤ-*ℤ q y ∙ ap (λ u. u -ℤ y) (*ℤ_comm q y)) ∙ carry (y *ℤ q) r y

below_zero : (n : ℕ) → 0 < n → lt_z (neg_ℤ (pos n)) (pos 0) ≡ true
below_zero zero h = absurd (omega arith)
below_zero (suc n) h = refl

-- what is left over has the divisor's sign where their product is not below zero
same_sign : (y r : ℤ) → nat_abs r < nat_abs y → lt_z (r *ℤ y) (pos 0) ≡ false → (r ≡ pos 0) ⊎ (non_neg r ≡ non_neg y)
same_sign (pos b) (pos a) h e = inr refl
same_sign (negsuc b) (negsuc a) h e = inr refl
same_sign (negsuc b) (pos zero) h e = inl refl
same_sign (negsuc b) (pos (suc a)) h e = absurd (true≢false (sym (below_zero (suc a * suc b) (omega arith)) ∙ e))
same_sign (pos zero) (negsuc a) h e = absurd (omega arith)
same_sign (pos (suc b)) (negsuc a) h e = absurd (true≢false (sym (below_zero (suc a * suc b) (omega arith)) ∙ e))

-- where it is below, the two add up to less than the divisor, with its sign
turned : (y r : ℤ) → nat_abs r < nat_abs y → lt_z (r *ℤ y) (pos 0) ≡ true → (nat_abs (r +ℤ y) < nat_abs y) × (non_neg (r +ℤ y) ≡ non_neg y)
turned (pos b) (negsuc a) h e = by_difference (λ z. (nat_abs z < b) × (non_neg z ≡ true)) b (suc a) (λ l. absurd (omega arith)) (λ l. (omega arith, refl))
turned (negsuc b) (pos (suc a)) h e =
    by_difference (λ z. (nat_abs z < suc b) × (non_neg z ≡ false)) (suc a) (suc b) (λ l. (omega arith, refl)) (λ l. absurd (omega arith))
turned (negsuc b) (pos zero) h e = absurd (false≢true (ap (λ u. lt_z u (pos 0)) (sym (zero-*ℤ (negsuc b))) ∙ e))
turned (pos b) (pos a) h e = absurd (omega (arith, ltb-true (a * b) 0 e))
turned (negsuc b) (negsuc a) h e = absurd (omega (arith, ltb-true (suc a * suc b) 0 e))

module _ (x y : ℤ) (n : y ≡ pos 0 → ⊥) where
  pub cut_down : lt_z (rem_z x y *ℤ y) (pos 0) ≡ false → Division x y (quot_z x y) (rem_z x y)
  cut_down e = record { whole = sym (recombined x y); small = below x y n; sign = same_sign y (rem_z x y) (below x y n) e }

  pub cut_up : lt_z (rem_z x y *ℤ y) (pos 0) ≡ true → Division x y (quot_z x y -ℤ pos 1) (rem_z x y +ℤ y)
  cut_up e =
      let t = turned y (rem_z x y) (below x y n) e in
      record { whole = sym (recombined x y) ∙ sym (lowered_whole y (quot_z x y) (rem_z x y)); small = t.0; sign = inr t.1 }
