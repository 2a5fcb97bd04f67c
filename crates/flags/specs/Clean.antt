-- A number without flags. The contracts of functions that lay the answers of many tests over one another cite this; those that a host or a planner calls
-- do not.
-- Assumes nothing.
use Rattle.std.specs.Prelude.{Bool, ℕ, eqb}
use Rattle.std.specs.Int.Bits.{bit_and}

-- x has no binary digit where the mask has one
abbrev pub clean : ℕ → ℕ → Bool
clean mask x = eqb (bit_and x mask) 0
