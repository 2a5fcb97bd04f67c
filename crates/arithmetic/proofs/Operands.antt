-- Operands of 32 bits, cast to 64 and multiplied there: nothing is lost.
-- Assumes nothing.
use mathlib.Core.Path.{◌≡◌, sym, ap, ◌∙◌}
use Prim.Native.Nat.{ℕ}
use lib.Dec.{lit<}
use lib.IntN.{ℤ, ◌*ℤ◌}
use lib.Signed.{nat_abs-le}
use mir.Syntax.{w32, w64}
use mir.Val.{SFits, to_z, of_z}
use mir.Facts.{to_z-of_z, sfits_widen}
use Rattle.std.proofs.lemmas.Int.{fits_signed_mul}

pub wide : {z : ℤ} → SFits w32 z → SFits w64 z
wide h = sfits_widen tt h

-- an operand, and the same cast to 64 bits
pub operand : {z : ℤ} → SFits w32 z → SFits w64 (to_z w32 (of_z w32 z))
operand h = rw (to_z-of_z h) (wide h)

-- a number of 32 bits by its bits, as a test of equality leaves it
pub number : {z : ℤ} {n : ℕ} → SFits w32 z → of_z w32 z ≡ n → z ≡ to_z w32 n
number h e = sym (to_z-of_z h) ∙ ap (to_z w32) e

pub product_fits : {x y : ℤ} → SFits w32 x → SFits w32 y → SFits w64 (x *ℤ y)
product_fits {x} {y} hx hy = fits_signed_mul w64 x y 2147483648 2147483648 (nat_abs-le x hx.sfits) (nat_abs-le y hy.sfits) (lit< tt)
