-- The count of accepted calls after reliefs: each that enlarged is one, and the count stays at its largest.
-- Assumes nothing.
use Rattle.std.specs.Prelude.{ℕ, zero, suc}
use Rattle.process.specs.Want.{counted}

abbrev pub counted_by : ℕ → ℕ → ℕ
counted_by zero accepted = accepted
counted_by (suc k) accepted = counted (counted_by k accepted)
