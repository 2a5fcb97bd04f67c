-- Of more than n numbers below n two are the same; and the least number that passes a test.
-- Assumes nothing.
use mathlib.Core.Path.{◌≡◌, refl, sym, ◌∙◌, subst}
use mathlib.Core.Logic.{◌⊎◌, inl, inr, ⊎_elim}
use Prim.Native.Nat.{ℕ, zero, suc, ◌≤◌, ◌<◌}
use native.Mathlib.Decide.{ℕ_discrete}
use native.Mathlib.Nat.{eq-or-lt_of_le, le_of_suc-le-suc}
use native.Mathlib.Omega.{arith}

-- a test below n: the least that passes, or none does
abbrev pub Smallest : (ℕ → Type 0) → ℕ → Type 0
Smallest Q n = ((k : ℕ) × (k < n) × Q k × ((j : ℕ) → j < k → Q j → ⊥)) ⊎ ((j : ℕ) → j < n → Q j → ⊥)

module _ (Q : ℕ → Type 0) (dec : (k : ℕ) → Dec (Q k)) where
  smallest_step : (n : ℕ) → Smallest Q n → Dec (Q n) → Smallest Q (suc n)
  smallest_step n (inl h) d = inl (h.0, omega (arith, h.1), h.2, h.3)
  smallest_step n (inr h) (yes q) = inl (n, omega arith, q, h)
  smallest_step n (inr h) (no r) =
      inr (λ j l q. ⊎_elim (λ (e : j ≡ n). r (subst Q e q)) (λ (m : j < n). h j m q) (eq-or-lt_of_le (le_of_suc-le-suc l)))

  pub smallest : (n : ℕ) → Smallest Q n
  smallest zero = inr (λ j l q. omega arith)
  smallest (suc n) = smallest_step n (smallest n) (dec n)

-- two of the numbers g 0 to g n are the same
abbrev pub Twice : (ℕ → ℕ) → ℕ → Type 0
Twice g n = (i : ℕ) × (j : ℕ) × (i < j) × (j ≤ n) × (g i ≡ g j)

-- g, with v in the place of n
swapped : (ℕ → ℕ) → ℕ → ℕ → {A : Type 0} → Dec A → ℕ → ℕ
swapped g n v (yes e) i = v
swapped g n v (no e) i = g i

swap : (ℕ → ℕ) → ℕ → ℕ → ℕ → ℕ
swap g n v i = swapped g n v (ℕ_discrete (g i) n) i

module _ (g : ℕ → ℕ) (n v : ℕ) where
  swap_cases : (i : ℕ) → ((g i ≡ n) × (swap g n v i ≡ v)) ⊎ ((g i ≡ n → ⊥) × (swap g n v i ≡ g i))
  unfolding swap swapped
  swap_cases i = go (ℕ_discrete (g i) n)
    where
      go : (d : Dec (g i ≡ n)) → ((g i ≡ n) × (swapped g n v d i ≡ v)) ⊎ ((g i ≡ n → ⊥) × (swapped g n v d i ≡ g i))
      go (yes e) = inl (e, refl)
      go (no e) = inr (e, refl)

-- the last is the same as none before it, so n may be left out of what the others are
module _ (n : ℕ) (g : ℕ → ℕ) (h : (i : ℕ) → i ≤ suc n → g i < suc n) (u : (j : ℕ) → j < suc n → g j ≡ g (suc n) → ⊥) where
  swap_below : (i : ℕ) → i ≤ n → swap g n (g (suc n)) i < n
  swap_below i l = go (swap_cases g n (g (suc n)) i)
    where
      go : ◌⊎◌ ((g i ≡ n) × (swap g n (g (suc n)) i ≡ g (suc n))) ((g i ≡ n → ⊥) × (swap g n (g (suc n)) i ≡ g i)) → swap g n (g (suc n)) i < n
      go (inl w) =
          let ne : g (suc n) ≡ n → ⊥ = λ e. u i (omega arith) (w.0 ∙ sym e) in
          omega (arith, h (suc n) (omega arith), w.0, w.1)
      go (inr w) = omega (arith, h i (omega arith), w.0, w.1)

  swap_same : (i j : ℕ) → i ≤ n → j ≤ n → swap g n (g (suc n)) i ≡ swap g n (g (suc n)) j → g i ≡ g j
  swap_same i j li lj e = go (swap_cases g n (g (suc n)) i) (swap_cases g n (g (suc n)) j)
    where
      go : ◌⊎◌ ((g i ≡ n) × (swap g n (g (suc n)) i ≡ g (suc n))) ((g i ≡ n → ⊥) × (swap g n (g (suc n)) i ≡ g i))
          → ◌⊎◌ ((g j ≡ n) × (swap g n (g (suc n)) j ≡ g (suc n))) ((g j ≡ n → ⊥) × (swap g n (g (suc n)) j ≡ g j))
          → g i ≡ g j
      go (inl a) (inl b) = a.0 ∙ sym b.0
      go (inl a) (inr b) = absurd (u j (omega arith) (sym b.1 ∙ sym e ∙ a.1))
      go (inr a) (inl b) = absurd (u i (omega arith) (sym a.1 ∙ e ∙ b.1))
      go (inr a) (inr b) = sym a.1 ∙ e ∙ b.1

pub pigeonhole : (n : ℕ) (g : ℕ → ℕ) → ((i : ℕ) → i ≤ n → g i < n) → Twice g n
pigeonhole zero g h = absurd (let l : g 0 < 0 = h 0 (omega arith) in omega arith)
pigeonhole (suc n) g h =
    go (smallest (λ i. g i ≡ g (suc n)) (λ i. ℕ_discrete (g i) (g (suc n))) (suc n)) (pigeonhole n (swap g n (g (suc n))))
  where
    go : Smallest (λ i. g i ≡ g (suc n)) (suc n) → (((i : ℕ) → i ≤ n → swap g n (g (suc n)) i < n) → Twice (swap g n (g (suc n))) n)
        → Twice g (suc n)
    go (inl k) ih = (k.0, suc n, k.1, omega arith, k.2)
    go (inr u) ih =
        let t = ih (swap_below n g h u) in
        (t.0, t.1, t.2, omega (arith, t.3), swap_same n g h u t.0 t.1 (omega (arith, t.2, t.3)) t.3 t.4)
