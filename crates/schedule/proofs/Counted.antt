-- A count that stays at its largest, by so many: a sum, or the largest.
-- Assumes nothing.
use mathlib.Core.Path.{◌≡◌, ap, ◌∙◌}
use Prim.Native.Nat.{ℕ, zero, suc, ◌+◌, ◌-◌, ◌≤◌, ◌<◌}
use native.Mathlib.Omega.{arith}
use Rattle.std.specs.Prelude.{min}
use Rattle.process.specs.Want.{counted}
use Rattle.schedule.specs.Counted.{counted_by}

pub counted_more : (j k accepted : ℕ) → counted_by (j + k) accepted ≡ counted_by k (counted_by j accepted)
counted_more j zero accepted = let e : j + 0 ≡ j = omega arith in rw e
counted_more j (suc k) accepted = let e : j + suc k ≡ suc (j + k) = omega arith in rw e (ap counted (counted_more j k accepted))

pub counted_sum : (k accepted : ℕ) → accepted ≤ 18446744073709551615 → counted_by k accepted ≡ min (accepted + k) 18446744073709551615
counted_sum zero accepted h = omega arith
counted_sum (suc k) accepted h = ap counted (counted_sum k accepted h) ∙ omega arith

pub counted_high : (k accepted : ℕ) → accepted ≤ 18446744073709551615 → 18446744073709551615 - accepted < k → 18446744073709551615 ≡ counted_by k accepted
counted_high k accepted h l = omega (arith, counted_sum k accepted h)

pub counted_low : (k accepted : ℕ) → accepted ≤ 18446744073709551615 → k ≤ 18446744073709551615 - accepted → accepted + k ≡ counted_by k accepted
counted_low k accepted h l = omega (arith, counted_sum k accepted h)
