-- Document 02, request 7: "strip away, again and again, every process nobody left points to; what is left must be exactly the processes on rings"
-- (`left_exactly` of proofs/Stripping.antt). f and P as in `Rings`.
-- Assumes nothing.
use Rattle.std.specs.Prelude.{Bool, cond, not, ◌&&◌, ℕ, zero, suc, eqb, ltb}

-- how many of the numbers below n pass a test
unfoldable pub tally : (ℕ → Bool) → ℕ → ℕ
tally test zero = 0
tally test (suc n) = cond (test n) (suc (tally test n)) (tally test n)

-- how many of those left, of P processes, point to q
abbrev pub pointers : (ℕ → ℕ) → ℕ → (ℕ → Bool) → ℕ → ℕ
pointers f P left q = tally (λ p. left p && eqb (f p) q) P

-- p is left after n rounds, each of which strips away every process that nobody left points to; at first the P processes are left
unfoldable pub left_after : (ℕ → ℕ) → ℕ → ℕ → ℕ → Bool
left_after f P zero p = ltb p P
left_after f P (suc n) p = left_after f P n p && not (eqb (pointers f P (left_after f P n) p) 0)

-- p is left in the end: P rounds are enough, and no later one strips any (`left_still` there)
abbrev pub left_of : (ℕ → ℕ) → ℕ → ℕ → Bool
left_of f P = left_after f P P
