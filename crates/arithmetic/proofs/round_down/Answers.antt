-- `arithmetic::round_down` meets its contract: cut toward zero, and one less where what is left over has not the divisor's sign.
-- Assumes nothing.
use mathlib.Core.Path.{◌≡◌, sym, ap, ◌∙◌}
use mathlib.Core.Bool.{true}
use Prim.Native.Nat.{◌<◌}
use native.Mathlib.Omega.{arith}
use lib.IntN.{ℤ, pos, negsuc, ◌+ℤ◌, ◌-ℤ◌, ◌*ℤ◌}
use lib.Signed.{lt_z, quot_z, rem_z}
use mir.Syntax.{w32, w64}
use mir.Val.{SFits, to_z, of_z}
use mir.Facts.{to_z-of_z}
use Rattle.arithmetic.specs.Quotient.{Division}
use Rattle.arithmetic.proofs.Operands.{wide, operand, number, product_fits}
use Rattle.arithmetic.proofs.QuotientLaws.{quotient_fits, remainder_fits}
use Rattle.arithmetic.proofs.CutLaws.{cut_fits, cut_left_fits, cut_down, cut_up}
use Rattle.arithmetic.proofs.round_down.Goals as goal

-- the operands, what the machine makes of them, and the product that is tested
module _ {x y : ℤ} (hx : SFits w32 x) (hy : SFits w32 y) (q : (y ≡ pos 0 → ⊥) × (x ≡ negsuc 2147483647 → y ≡ negsuc 0 → ⊥)) where
  quotient_is : SFits w32 (quot_z x y)
  quotient_is = cut_fits x y hx q.1

  remainder_is : SFits w32 (rem_z x y)
  remainder_is = cut_left_fits x y hx

  product_is : SFits w64 (rem_z x y *ℤ y)
  product_is = product_fits remainder_is hy

  divides : (0 < of_z w32 y) × SFits w32 (quot_z (to_z w32 (of_z w32 x)) (to_z w32 (of_z w32 y)))
  divides =
      let e : of_z w32 y ≡ 0 → ⊥ = λ e. q.0 (number hy e) in
      (omega (arith, e), rw (to_z-of_z hx, to_z-of_z hy) quotient_is)

  -- the product, as the machine has it
  abbrev product : ℤ
  product = to_z w64 (of_z w64 (to_z w64 (of_z w64 (to_z w32 (of_z w32 (rem_z (to_z w32 (of_z w32 x)) (to_z w32 (of_z w32 y)))))) *ℤ to_z w64 (of_z w64 (to_z w32 (of_z w32 y)))))

  product_right : product ≡ rem_z x y *ℤ y
  product_right = rw (to_z-of_z hx, to_z-of_z hy, to_z-of_z remainder_is, to_z-of_z (wide remainder_is), to_z-of_z (wide hy)) (to_z-of_z product_is)

  -- the product is below zero
  module _ (t : lt_z product (pos 0) ≡ true) where
    lower : Division x y (quot_z x y -ℤ pos 1) (rem_z x y +ℤ y)
    lower = cut_up x y q.0 (ap (λ u. lt_z u (pos 0)) (sym product_right) ∙ t)

    lower_quotient : SFits w32 (quot_z x y -ℤ pos 1)
    lower_quotient = quotient_fits lower hx q.1

    lower_remainder : SFits w32 (rem_z x y +ℤ y)
    lower_remainder = remainder_fits lower hy

pub nonzero_div-quotient : goal.nonzero_div-quotient
nonzero_div-quotient c = divides c.ranges.x c.ranges.y c.requires

pub nonzero_rem-remainder : goal.nonzero_rem-remainder
nonzero_rem-remainder c = divides c.ranges.x c.ranges.y c.requires

pub overflow_cast-opposed : goal.overflow_cast-opposed
overflow_cast-opposed c = rw (to_z-of_z c.ranges.x, to_z-of_z c.ranges.y) (operand (remainder_is c.ranges.x c.ranges.y c.requires))

pub overflow_cast-opposed-2 : goal.overflow_cast-opposed-2
overflow_cast-opposed-2 c = operand c.ranges.y

pub overflow_mul-opposed : goal.overflow_mul-opposed
overflow_mul-opposed c =
    let r : SFits w32 (rem_z c.args.x c.args.y) = remainder_is c.ranges.x c.ranges.y c.requires in
    rw (to_z-of_z c.ranges.x, to_z-of_z c.ranges.y, to_z-of_z r, to_z-of_z (wide r), to_z-of_z (wide c.ranges.y)) (product_is c.ranges.x c.ranges.y c.requires)

pub overflow_sub-below : goal.overflow_sub-below
overflow_sub-below c =
    rw (to_z-of_z c.ranges.x, to_z-of_z c.ranges.y, to_z-of_z (quotient_is c.ranges.x c.ranges.y c.requires))
    (lower_quotient c.ranges.x c.ranges.y c.requires c.if-opposed.true)

pub overflow_add-rest : goal.overflow_add-rest
overflow_add-rest c =
    rw (to_z-of_z c.ranges.x, to_z-of_z c.ranges.y, to_z-of_z (remainder_is c.ranges.x c.ranges.y c.requires))
    (lower_remainder c.ranges.x c.ranges.y c.requires c.if-opposed.true)

pub returns-then-opposed : goal.returns-then-opposed
returns-then-opposed c =
    rw (
      to_z-of_z c.ranges.x,
      to_z-of_z c.ranges.y,
      to_z-of_z (quotient_is c.ranges.x c.ranges.y c.requires),
      to_z-of_z (remainder_is c.ranges.x c.ranges.y c.requires),
      to_z-of_z (lower_quotient c.ranges.x c.ranges.y c.requires c.if-opposed.true),
      to_z-of_z (lower_remainder c.ranges.x c.ranges.y c.requires c.if-opposed.true),
    ) (lower c.ranges.x c.ranges.y c.requires c.if-opposed.true)

pub returns-else-opposed : goal.returns-else-opposed
returns-else-opposed c =
    rw (to_z-of_z c.ranges.x, to_z-of_z c.ranges.y, to_z-of_z (quotient_is c.ranges.x c.ranges.y c.requires), to_z-of_z (remainder_is c.ranges.x c.ranges.y c.requires))
    (cut_down c.args.x c.args.y c.requires.0 (ap (λ u. lt_z u (pos 0)) (sym (product_right c.ranges.x c.ranges.y c.requires)) ∙ c.if-opposed.false))
