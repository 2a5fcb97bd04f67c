-- Tests made in order: the answer is the first place that fails ("File tests run 1 to 7, places rising").
-- Assumes nothing.
use Rattle.std.specs.Prelude.{Bool, true, false, ◌&&◌, List, ℕ, zero, suc, eqb, leb, get_or, Result, Ok, Err}

-- what a test answers: that it passed, or the place that did not
abbrev pub Verdict : Type 0
Verdict = Result (Unit {0}) ℕ

-- one test, and if it passes the next
abbrev pub and_then : Verdict → Verdict → Verdict
and_then (Ok x) w = w
and_then (Err k) w = Err k

-- a test that has one place
abbrev pub need : Bool → ℕ → Verdict
need true k = Ok tt
need false k = Err k

-- n tests in turn, number i first
unfoldable pub in_turn : (ℕ → Verdict) → ℕ → ℕ → Verdict
in_turn f i zero = Ok tt
in_turn f i (suc n) = and_then (f i) (in_turn f (suc i) n)

-- of the n places from i on, the first at which the test fails
abbrev pub first_bad : (ℕ → Bool) → ℕ → ℕ → Verdict
first_bad good i n = in_turn (λ k. need (good k) k) i n

-- all tests passed
abbrev pub is_good : Verdict → Bool
is_good (Ok x) = true
is_good (Err k) = false

abbrev pub between : ℕ → ℕ → ℕ → Bool
between low x high = leb low x && leb x high

-- the element at a place of a list is zero
abbrev pub is_zero : List ℕ → ℕ → Bool
is_zero s k = eqb (get_or s k 0) 0
