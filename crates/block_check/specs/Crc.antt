-- Document 01, "The lane file": the check of a block. "CRC-16, polynomial 1021 hex, start FFFF hex, no reflection, no final exclusive-or": division of
-- polynomials over two elements, a bit at a time. A polynomial is a number, its coefficients the number's binary digits.
-- Assumes nothing.
use Rattle.std.specs.Prelude.{cond, List, [], ◌∷◌, ℕ, zero, suc, ◌-◌, ◌*◌, ltb}
use Rattle.std.specs.Int.Bits.{bit_xor}
use Rattle.base.specs.Lists.{table}

-- one bit: shift left; if the bit that leaves the 16 is a 1, exclusive-or with the polynomial
abbrev pub bit : ℕ → ℕ
bit c = cond (ltb c 32768) (c * 2) (bit_xor (c * 2 - 65536) 0x1021)

abbrev pub bits : ℕ → ℕ → ℕ
bits zero c = c
bits (suc n) c = bits n (bit c)

-- one byte, its highest bit first: it goes into the upper half, and eight bits leave
abbrev pub byte : ℕ → ℕ → ℕ
byte c b = bits 8 (bit_xor c (b * 256))

-- the table of the check, by its rule: what the division leaves of each byte in the upper half
abbrev pub entries : List ℕ
entries = table 256 (λ h. bits 8 (h * 256))

abbrev pub from : ℕ → List ℕ → ℕ
from c [] = c
from c (b ∷ bs) = from (byte c b) bs

-- the check of a list of bytes
unfoldable pub crc : List ℕ → ℕ
crc bs = from 0xFFFF bs
