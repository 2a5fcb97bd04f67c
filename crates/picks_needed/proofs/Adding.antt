-- Laws of totals.
-- Assumes nothing.
use mathlib.Core.Path.{◌≡◌, refl, ap, ◌∙◌}
use mathlib.Core.Logic.{◌≢◌}
use Prim.Native.Nat.{ℕ, zero, suc, ◌+◌, ◌≤◌, ◌<◌}
use native.Mathlib.Decide.{ℕ_discrete}
use native.Mathlib.Omega.{arith}
use Rattle.picks_needed.specs.Totals.{total_of}

module _ (f g : ℕ → ℕ) where
  pub total_same : (k : ℕ) → ((i : ℕ) → i < k → f i ≡ g i) → total_of f k ≡ total_of g k
  total_same zero h = refl
  total_same (suc k) h = omega (arith, total_same k (λ i l. h i (omega arith)), h k (omega arith))

  pub total_below : (k : ℕ) → ((i : ℕ) → i < k → f i ≤ g i) → total_of f k ≤ total_of g k
  total_below zero h = omega arith
  total_below (suc k) h = omega (arith, total_below k (λ i l. h i (omega arith)), h k (omega arith))

  pub total_both : (k : ℕ) → total_of (λ i. f i + g i) k ≡ total_of f k + total_of g k
  total_both zero = refl
  total_both (suc k) = omega (arith, total_both k)

  -- g is f, and one more at j
  pub total_more : (k j : ℕ) → j < k → g j ≡ f j + 1 → ((i : ℕ) → i ≢ j → g i ≡ f i) → total_of g k ≡ total_of f k + 1
  total_more zero j l e h = absurd (omega arith)
  total_more (suc k) j l e h = go (ℕ_discrete k j) (total_more k j)
    where
      before : (m : ℕ) → m ≤ j → total_of g m ≡ total_of f m
      before zero b = refl
      before (suc m) b = omega (arith, before m (omega arith), h m (λ q. omega arith))

      go : Dec (k ≡ j) → (j < k → g j ≡ f j + 1 → ((i : ℕ) → i ≢ j → g i ≡ f i) → total_of g k ≡ total_of f k + 1) → total_of g k + g k ≡ total_of f k + f k + 1
      go (yes q) later = omega (arith, before k (omega arith), ap g q ∙ e, ap f q)
      go (no q) later = omega (arith, later (omega arith) e h, h k q)

-- each is at most the sum
pub one_of_total : (f : ℕ → ℕ) (k j : ℕ) → j < k → f j ≤ total_of f k
one_of_total f zero j l = absurd (omega arith)
one_of_total f (suc k) j l = go (ℕ_discrete j k) (one_of_total f k j)
  where
    go : Dec (j ≡ k) → (j < k → f j ≤ total_of f k) → f j ≤ total_of f k + f k
    go (yes e) later = omega (arith, ap f e)
    go (no n) later = omega (arith, later (omega arith))

-- nothing but 0
pub total_none : (k : ℕ) → total_of (λ i. 0) k ≡ 0
total_none zero = refl
total_none (suc k) = omega (arith, total_none k)
