-- Quotient and remainder of signed 32-bit numbers (document 01, "Instructions", 6 and 7, as request 3 of document 02 changes them).
-- Assumes nothing.
use Rattle.std.specs.Prelude.{◌≡◌, ◌⊎◌, zero, suc, ◌<◌, ℤ, pos, negsuc, neg_ℤ, nat_abs, ◌+ℤ◌, ◌-ℤ◌, ◌*ℤ◌}
use Rattle.std.specs.Int.Signed.{non_neg, shr_z}
use Rattle.std.specs.declared.option.Option.{Option}
use Rattle.std.specs.declared.option.Option.TheVariants.{None, Some}
use Rattle.arithmetic.specs.Wrap.{wrap}

-- what divide and remainder come to, in document 01's words: a number, or a fault
pub data Quotient : Type 0 where
  value : ℤ → Quotient
  faults : Quotient

-- the answer of the code, in these terms
abbrev pub told : Option ℤ → Quotient
told (Some v) = value v
told None = faults

-- "A zero divisor faults."
abbrev pub unless_zero : ℤ → Quotient → Quotient
unless_zero (pos zero) d = faults
unless_zero (pos (suc n)) d = d
unless_zero (negsuc n) d = d

-- "round every quotient toward minus infinity": the greatest integer not above the exact quotient of x by y, which is not zero. By a positive divisor c
-- `shr_z` is that: n of a, and −1 − n of −1 − a, where n is the natural a / c. By a negative one both numbers are negated first
unfoldable pub floor_of : ℤ → ℤ → ℤ
floor_of x (pos c) = shr_z x c
floor_of x (negsuc c) = shr_z (neg_ℤ x) (suc c)

-- the one quotient that is no number of 32 bits, 2147483648, wraps: "−2147483648 by −1 .. keep their outcomes"
unfoldable pub quotient_of : ℤ → ℤ → Quotient
quotient_of x y = unless_zero y (value (wrap (floor_of x y)))

-- "the matching remainder": the dividend less divisor times quotient
unfoldable pub remainder_of : ℤ → ℤ → Quotient
remainder_of x y = unless_zero y (value (x -ℤ y *ℤ floor_of x y))

-- What makes two numbers the quotient and the remainder: together they give back the dividend; what is left over is smaller than the divisor, and
-- "takes the divisor's sign". `divided` and `divided_only` (proofs/QuotientLaws): the answers are such a pair, and the only one
pub record Division (x y q r : ℤ) : Type 0 where
  pub whole : x ≡ y *ℤ q +ℤ r
  pub small : nat_abs r < nat_abs y
  pub sign : (r ≡ pos 0) ⊎ (non_neg r ≡ non_neg y)
