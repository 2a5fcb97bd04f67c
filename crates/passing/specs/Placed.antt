-- Where the processes stand. The contract of the test of a code cites this; that of `passes` does not.
-- Assumes nothing.
use Rattle.std.specs.Prelude.{List, ℕ, ◌+◌, ◌≤◌, ◌<◌, get_or}

-- each process below n has 1 to 256 instructions, all within the code
abbrev pub Placed : List ℕ → List ℕ → ℕ → Type 0
Placed first count n = (p : ℕ) → p < n → (1 ≤ get_or count p 0) × (get_or count p 0 ≤ 256) × (get_or first p 0 + get_or count p 0 ≤ 1016)
