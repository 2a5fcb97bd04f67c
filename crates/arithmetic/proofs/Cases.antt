-- Quotient and remainder at pairs worked out by hand: each combination of signs, nothing left over, a dividend of zero, the least number by −1, by 1 and
-- by the largest, the largest by the least, a zero divisor. The first is a witness of `divided`.
-- Assumes nothing.
use mathlib.Core.Path.{◌≡◌, refl, ap}
use mathlib.Core.List.{List, [], ◌∷◌}
use native.Mathlib.Omega.{arith}
use lib.IntN.{ℤ, pos, nat_abs, ◌-ℤ◌, pos-ne-negsuc}
use Rattle.arithmetic.specs.Wrap.{residue, centred, wrap}
use Rattle.arithmetic.specs.Quotient.{Quotient, value, faults, floor_of, quotient_of, remainder_of, Division}
use Rattle.arithmetic.proofs.QuotientLaws.{divided}

pub record Case : Type 0 where
  pub x : ℤ
  pub y : ℤ
  pub quotient : Quotient
  pub remainder : Quotient

infix 80 ◌by◌
abbrev ◌by◌ : ℤ → ℤ → Quotient → Quotient → Case
◌by◌ x y q r = record { x = x; y = y; quotient = q; remainder = r }

-- what the definitions say of the same pairs
abbrev answered : List Case → List Case
answered [] = []
answered (k ∷ ks) = (k.x by k.y) (quotient_of k.x k.y) (remainder_of k.x k.y) ∷ answered ks

abbrev minus : ℤ → ℤ
minus z = pos 0 -ℤ z

abbrev least : ℤ
least = minus (pos 2147483648)

abbrev cases : List Case
cases =
    (minus (pos 7) by pos 2) (value (minus (pos 4))) (value (pos 1))
    ∷ (pos 7 by minus (pos 2)) (value (minus (pos 4))) (value (minus (pos 1)))
    ∷ (minus (pos 7) by minus (pos 2)) (value (pos 3)) (value (minus (pos 1)))
    ∷ (pos 7 by pos 2) (value (pos 3)) (value (pos 1))
    ∷ (pos 6 by minus (pos 3)) (value (minus (pos 2))) (value (pos 0))
    ∷ (minus (pos 6) by pos 3) (value (minus (pos 2))) (value (pos 0))
    ∷ (pos 0 by minus (pos 5)) (value (pos 0)) (value (pos 0))
    ∷ (least by minus (pos 1)) (value least) (value (pos 0))
    ∷ (least by pos 1) (value least) (value (pos 0))
    ∷ (least by pos 2147483647) (value (minus (pos 2))) (value (pos 2147483646))
    ∷ (pos 2147483647 by least) (value (minus (pos 1))) (value (minus (pos 1)))
    ∷ (minus (pos 7) by pos 0) faults faults
    ∷ []

pub all_cases : answered cases ≡ cases
unfolding quotient_of remainder_of floor_of wrap residue centred
all_cases = refl

pub seven_halved : (q : ℤ) × (r : ℤ) × (quotient_of (minus (pos 7)) (pos 2) ≡ value q) × (remainder_of (minus (pos 7)) (pos 2) ≡ value r)
    × Division (minus (pos 7)) (pos 2) q r
seven_halved = divided (pos 2) (record { sfits = omega arith }) (λ e. let z : nat_abs (pos 2) ≡ 0 = ap nat_abs e in omega arith) (λ e d. pos-ne-negsuc 2 0 d)
