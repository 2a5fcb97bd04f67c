-- Numbers of 32 bits: operands that cross a call, the signed number in two bytes, and the tests for zero and below zero.
-- Assumes nothing.
use mathlib.Core.Path.{◌≡◌, refl}
use mathlib.Core.Bool.{true, false}
use Prim.Native.Nat.{ℕ, zero, suc, ◌<◌}
use native.Mathlib.Omega.{arith}
use lib.IntN.{ℤ, pos, negsuc, ◌-ℤ◌}
use lib.Signed.{lt_z}
use mir.Syntax.{w32}
use mir.Val.{SFits, to_z, of_z}
use mir.Facts.{to_z-of_z}
use borrow.Author.Tests.{lt-ltb, le-ltb}
use Rattle.process.specs.Want.{is_null, is_negative}

-- two operands that cross a call
pub operands : {A : Type 0} (f : ℤ → ℤ → A) {x y u v : ℤ} → SFits w32 x → SFits w32 y → x ≡ u → y ≡ v
    → f (to_z w32 (of_z w32 x)) (to_z w32 (of_z w32 y)) ≡ f u v
operands f hx hy ex ey = rw (to_z-of_z hx, to_z-of_z hy, ex, ey)

-- a number of 16 bits less 2^16
pub less_fits : (n : ℕ) → n < 65536 → SFits w32 (pos n -ℤ pos 65536)
less_fits n h = rw (lt-ltb n 65536 h) (record { sfits = omega arith })

-- a test of equality leaves the number's bits
pub null : (z : ℤ) → SFits w32 z → of_z w32 z ≡ 0 → is_null z ≡ true
null (pos zero) h e = refl
null (pos (suc n)) h e = absurd (omega arith)
null (negsuc n) h e = absurd (omega (arith, h.sfits))

pub not_null : (z : ℤ) → (of_z w32 z ≡ 0 → ⊥) → is_null z ≡ false
not_null (pos zero) n = absurd (n refl)
not_null (pos (suc k)) n = refl
not_null (negsuc k) n = refl

pub negative : (z : ℤ) → lt_z z (pos 0) ≡ is_negative z
negative (pos n) = le-ltb n 0 (omega arith)
negative (negsuc n) = refl
