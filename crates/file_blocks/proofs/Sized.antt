-- A length that passes test 1: whole blocks, two to nine.
-- Assumes nothing.
use mathlib.Core.Path.{◌≡◌}
use mathlib.Core.Bool.{true}
use Prim.Native.Nat.{ℕ, ◌/◌, ◌%◌, ◌≤◌}
use borrow.Author.Tests.{eqb-true}
use native.Mathlib.Omega.{arith}
use lib.Dec.{eqb}
use Rattle.base.specs.Tests.{between}
use Rattle.base.proofs.Conjunction.{both_true, between_true}
use Rattle.lane_file.specs.Read.{length_right}

pub record Sized (n : ℕ) : Type 0 where
  pub whole : n % 512 ≡ 0
  pub low : 1024 ≤ n
  pub high : n ≤ 4608

pub sized : (n : ℕ) → length_right n ≡ true → Sized n
sized n e =
    let b = both_true (eqb (n % 512) 0) (between 2 (n / 512) 9) e in
    let d = between_true 2 (n / 512) 9 b.1 in
    let z = eqb-true (n % 512) 0 b.0 in
    record { whole = z; low = omega arith; high = omega arith }
