-- A signed 32-bit number by its sign: below zero it is a minus and its magnitude, else its digits alone.
-- Assumes nothing.
use mathlib.Core.Path.{◌≡◌, sym, ap}
use mathlib.Core.Bool.{true, false, true≢false}
use mathlib.Core.List.{List, [], ◌∷◌, ◌++◌}
use Prim.Native.Nat.{ℕ, suc}
use native.Mathlib.Omega.{arith}
use native.Mathlib.Numerals.{add-one}
use borrow.Author.Tests.{ltb-true}
use lib.IntN.{ℤ, pos, negsuc, nat_abs}
use lib.Signed.{lt_z}
use mir.Syntax.{w32}
use mir.Val.{SFits}
use Rattle.listing.specs.Number.{number}
use Rattle.listing.specs.Text.{integer}
use Rattle.listing.proofs.Decimal.{number_few}

pub negative : (z : ℤ) → SFits w32 z → lt_z z (pos 0) ≡ true → integer z ≡ (45 ∷ []) ++ number (nat_abs z)
negative (pos n) h t = absurd (omega (arith, ltb-true n 0 t))
negative (negsuc n) h t = ap (λ (l : List ℕ). 45 ∷ l) (rw add-one (sym (number_few 9 (suc n) (omega arith) (omega arith))))

pub positive : (z : ℤ) → SFits w32 z → lt_z z (pos 0) ≡ false → integer z ≡ number (nat_abs z)
positive (pos n) h t = sym (number_few 9 n (omega arith) (omega arith))
positive (negsuc n) h t = absurd (true≢false t)
