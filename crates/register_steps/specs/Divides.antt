-- What an operation leaves: its value in a register, or a fault, as where a divisor is zero.
-- Assumes nothing.
use Rattle.std.specs.Prelude.{List, ℕ, set, ℤ}
use Rattle.arithmetic.specs.Quotient.{Quotient, value, faults}
use Rattle.register_steps.specs.declared.Did.{Did}
use Rattle.register_steps.specs.declared.Did.TheVariants.{On, Fault}

abbrev pub did_by : Quotient → Did
did_by (value v) = On
did_by faults = Fault

abbrev pub file_by : Quotient → ℕ → List ℤ → List ℤ
file_by (value v) k file = set file k v
file_by faults k file = file
