-- How many numbers pass a test: one fewer where one of them no longer does; none, or one that is named.
-- Assumes nothing.
use mathlib.Core.Path.{◌≡◌, refl, sym, ap, ◌∙◌}
use mathlib.Core.Bool.{Bool, true, false, cond, true≢false}
use Prim.Native.Nat.{ℕ, zero, suc, ◌+◌, ◌≤◌, ◌<◌}
use native.Mathlib.Decide.{ℕ_discrete}
use native.Mathlib.Numerals.{add-one}
use native.Mathlib.Omega.{arith}
use Rattle.rings.specs.Left.{tally}

-- ---- one number more
module _ (test : ℕ → Bool) (n : ℕ) where
  pub tally_yes : test n ≡ true → tally test (n + 1) ≡ tally test n + 1
  unfolding tally
  tally_yes e = rw (add-one n, e) (sym (add-one (tally test n)))

  pub tally_no : test n ≡ false → tally test (n + 1) ≡ tally test n
  unfolding tally
  tally_no e = rw (add-one n, e)

module _ (test : ℕ → Bool) where
  -- at most all
  pub tally_high : (n : ℕ) → tally test n ≤ n
  unfolding tally
  tally_high zero = omega arith
  tally_high (suc n) = go (test n) (tally_high n)
    where
      go : (t : Bool) → tally test n ≤ n → cond t (suc (tally test n)) (tally test n) ≤ suc n
      go true h = omega arith
      go false h = omega arith

  -- some number passes
  pub tally_some : (n : ℕ) → (tally test n ≡ 0 → ⊥) → (k : ℕ) × (k < n) × (test k ≡ true)
  unfolding tally
  tally_some zero h = absurd (h refl)
  tally_some (suc n) h = go (test n) refl h (tally_some n)
    where
      go : (t : Bool) → test n ≡ t → (cond t (suc (tally test n)) (tally test n) ≡ 0 → ⊥)
          → ((tally test n ≡ 0 → ⊥) → (k : ℕ) × (k < n) × (test k ≡ true))
          → (k : ℕ) × (k < suc n) × (test k ≡ true)
      go true e h before = (n, omega arith, e)
      go false e h before = let k = before h in (k.0, omega (arith, k.1), k.2)

  -- a number that passes is counted
  pub tally_one : (n k : ℕ) → k < n → test k ≡ true → tally test n ≡ 0 → ⊥
  unfolding tally
  tally_one zero k h e z = omega arith
  tally_one (suc n) k h e z = go (test n) refl z (tally_one n k) (ℕ_discrete k n)
    where
      go : (t : Bool) → test n ≡ t → cond t (suc (tally test n)) (tally test n) ≡ 0 → (k < n → test k ≡ true → tally test n ≡ 0 → ⊥) → Dec (k ≡ n) → ⊥
      go true q z before d = omega arith
      go false q z before (yes d) = true≢false (sym e ∙ ap test d ∙ q)
      go false q z before (no d) = before (omega arith) e z

-- ---- two tests
module _ (test other : ℕ → Bool) where
  pub tally_same : (n : ℕ) → ((k : ℕ) → k < n → test k ≡ other k) → tally test n ≡ tally other n
  unfolding tally
  tally_same zero h = refl
  tally_same (suc n) h = rw (h n (omega arith), tally_same n (λ k l. h k (omega arith)))

  -- the other fails at p alone
  pub tally_drop : (n p : ℕ) → p < n → test p ≡ true → other p ≡ false → ((k : ℕ) → k < n → (k ≡ p → ⊥) → test k ≡ other k) → tally test n ≡ suc (tally other n)
  unfolding tally
  tally_drop zero p h a b same = absurd (omega arith)
  tally_drop (suc n) p h a b same = go (ℕ_discrete p n) (tally_drop n p)
    where
      more : (t : Bool) → tally test n ≡ suc (tally other n) → cond t (suc (tally test n)) (tally test n) ≡ suc (cond t (suc (tally other n)) (tally other n))
      more true e = ap suc e
      more false e = e

      go : Dec (p ≡ n) → (p < n → test p ≡ true → other p ≡ false → ((k : ℕ) → k < n → (k ≡ p → ⊥) → test k ≡ other k) → tally test n ≡ suc (tally other n))
          → cond (test n) (suc (tally test n)) (tally test n) ≡ suc (cond (other n) (suc (tally other n)) (tally other n))
      go (yes d) before =
          rw (ap test (sym d) ∙ a, ap other (sym d) ∙ b, tally_same n (λ k l. same k (omega arith) (λ e. omega arith)))
      go (no d) before =
          rw (sym (same n (omega arith) (λ e. d (sym e))))
          (more (test n) (before (omega arith) a b (λ k l. same k (omega arith))))
