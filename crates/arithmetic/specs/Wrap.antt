-- Sum, difference and product of signed 32-bit numbers, which wrap (document 01, "Instructions").
-- Assumes nothing.
use Rattle.std.specs.Prelude.{cond, ℕ, ◌-◌, ◌%◌, ltb, ℤ, pos, negsuc, ◌+ℤ◌, ◌-ℤ◌, ◌*ℤ◌}

-- the remainder modulo 2^32, from 0 to 2^32 − 1; `negsuc n` is −1 − n, and leaves 2^32 − 1 less what n leaves
unfoldable pub residue : ℤ → ℕ
residue (pos n) = n % 4294967296
residue (negsuc n) = 4294967295 - n % 4294967296

-- a remainder below 2^31 stays, one from 2^31 on stands for itself less 2^32
unfoldable pub centred : ℕ → ℤ
centred r = cond (ltb r 2147483648) (pos r) (pos r -ℤ pos 4294967296)

-- the one number of 32 bits, −2^31 to 2^31 − 1, that differs from an integer by a multiple of 2^32
unfoldable pub wrap : ℤ → ℤ
wrap z = centred (residue z)

abbrev pub sum_of : ℤ → ℤ → ℤ
sum_of x y = wrap (x +ℤ y)

abbrev pub difference_of : ℤ → ℤ → ℤ
difference_of x y = wrap (x -ℤ y)

abbrev pub product_of : ℤ → ℤ → ℤ
product_of x y = wrap (x *ℤ y)
