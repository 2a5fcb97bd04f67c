-- `arithmetic::divide` meets its contract: by cases on a divisor of zero and of −1; every quotient but that of the least number by −1 fits.
-- Assumes nothing.
use mathlib.Core.Path.{◌≡◌, ap, ◌∙◌}
use native.Mathlib.Omega.{arith}
use lib.IntN.{negsuc, neg_ℤ}
use mir.Syntax.{w32}
use mir.Val.{SFits, of_z}
use mir.Facts.{to_z-of_z}
use Rattle.std.proofs.lemmas.Int.{wrapping_neg_is}
use Rattle.arithmetic.specs.Wrap.{wrap}
use Rattle.arithmetic.specs.Quotient.{Division}
use Rattle.arithmetic.proofs.Operands.{number}
use Rattle.arithmetic.proofs.WrapLaws.{wrap_is, wrap_fits}
use Rattle.arithmetic.proofs.QuotientLaws.{quotient_zero, quotient_one, quotient_by, quotient_fits, remainder_zero, remainder_one, remainder_by}
use Rattle.arithmetic.proofs.divide.Goals as goal

pub round_down-requires : goal.round_down-requires
round_down-requires c =
    let h0 : of_z w32 c.args.y ≡ 0 → ⊥ = omega arith in
    let h1 : of_z w32 c.args.y ≡ 4294967295 → ⊥ = omega arith in
    rw (to_z-of_z c.ranges.x, to_z-of_z c.ranges.y) (λ e. h0 (ap (of_z w32) e), λ e d. h1 (ap (of_z w32) d))

pub returns-in-0 : goal.returns-in-0
returns-in-0 c =
    rw (number {n = 0} c.ranges.y (omega arith)) (record { quotient = rw quotient_zero; remainder = rw remainder_zero })

pub returns-in-minus1 : goal.returns-in-minus1
returns-in-minus1 c =
    let e : c.wrapping_neg.result ≡ wrap (neg_ℤ c.args.x) =
    (rw (to_z-of_z c.ranges.x) at c.wrapping_neg.ensures) ∙ wrapping_neg_is w32 _ c.ranges.x ∙ wrap_is _ in
    rw (number {n = 4294967295} c.ranges.y (omega arith), e, to_z-of_z (wrap_fits (neg_ℤ c.args.x)))
    (record { quotient = rw quotient_one; remainder = rw remainder_one })

pub returns-in_default : goal.returns-in_default
returns-in_default c =
    let fitting : c.args.x ≡ negsuc 2147483647 → c.args.y ≡ negsuc 0 → ⊥ = λ e d. omega (arith, ap (of_z w32) d) in
    let d : Division c.args.x c.args.y c.round_down.result.0 c.round_down.result.1 =
    rw (← to_z-of_z c.ranges.x, ← to_z-of_z c.ranges.y) c.round_down.ensures in
    let h : SFits w32 c.round_down.result.0 = quotient_fits d c.ranges.x fitting in
    record { quotient = rw (quotient_by d h); remainder = rw (remainder_by d) }
