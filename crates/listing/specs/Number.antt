-- What the contract of `put_decimal` cites.
-- Assumes nothing.
use Rattle.std.specs.Prelude.{List, ℕ}
use Rattle.listing.specs.Text.{decimal}

-- a 64-bit number in decimal: at most twenty digits
unfoldable pub number : ℕ → List ℕ
number n = decimal 20 n
