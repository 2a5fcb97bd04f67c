-- Document 01, "Bench listing": "a refusal is there the negative number."
-- Assumes nothing.
use Rattle.std.specs.Prelude.{ℤ, pos, neg_ℤ}
use Rattle.bench.specs.Bench.{Told, listed, refused}

abbrev pub number_told : Told → ℤ
number_told (listed n) = pos n
number_told (refused n) = neg_ℤ (pos n)
