-- The first place at which a test holds: the steps of a loop that looks for it, and what it says of the places before it.
-- Assumes nothing.
use mathlib.Core.Path.{◌≡◌, refl, ap, ◌∙◌}
use mathlib.Core.Bool.{Bool, true, false, cond}
use Prim.Native.Nat.{ℕ, zero, suc, ◌+◌, ◌-◌, ◌≤◌, ◌<◌}
use native.Mathlib.Decide.{ℕ_discrete}
use native.Mathlib.Numerals.{add-one}
use native.Mathlib.Omega.{arith}
use Rattle.rings.specs.Rings.{first_from}

-- where it is found the test holds
pub first_holds : (test : ℕ → Bool) (k p : ℕ) → first_from test p k < p + k → test (first_from test p k) ≡ true
unfolding first_from
first_holds test zero p h = absurd (omega arith)
first_holds test (suc k) p h = at (test p) refl (first_holds test k (suc p)) h
  where
    at : (t : Bool) → test p ≡ t → (first_from test (suc p) k < suc p + k → test (first_from test (suc p) k) ≡ true)
        → cond t p (first_from test (suc p) k) < p + suc k → test (cond t p (first_from test (suc p) k)) ≡ true
    at true e later h = e
    at false e later h = later (omega arith)

module _ (test : ℕ → Bool) where
  -- ---- the steps of a loop at place i of those before e
  pub on : (i e : ℕ) → i < e → test i ≡ false → first_from test (i + 1) (e - (i + 1)) ≡ first_from test i (e - i)
  unfolding first_from
  on i e h g = let l : e - i ≡ suc (e - (i + 1)) = omega arith in rw (l, g, add-one)

  pub stop : (i e : ℕ) → i < e → test i ≡ true → first_from test i (e - i) ≡ i
  unfolding first_from
  stop i e h g = let l : e - i ≡ suc (e - (i + 1)) = omega arith in rw (l, g)

  pub over : (i e : ℕ) → e ≤ i → first_from test i (e - i) ≡ i
  unfolding first_from
  over i e h = let l : e - i ≡ 0 = omega arith in rw l

  -- ---- what it says of the places before it
  pub first_before : (n i : ℕ) → (q : ℕ) → i ≤ q → q < first_from test i n → test q ≡ false
  unfolding first_from
  first_before zero i q a b = absurd (omega arith)
  first_before (suc n) i q a b = go (test i) refl (ℕ_discrete q i) b (first_before n (suc i) q)
    where
      go : (t : Bool) → test i ≡ t → Dec (q ≡ i) → q < cond t i (first_from test (suc i) n) → (suc i ≤ q → q < first_from test (suc i) n → test q ≡ false) → test q ≡ false
      go true e d b later = absurd (omega arith)
      go false e (yes d) b later = rw d e
      go false e (no d) b later = later (omega arith) b

  pub first_is : (n i p : ℕ) → i ≤ p → p < i + n → test p ≡ true → ((q : ℕ) → i ≤ q → q < p → test q ≡ false) → first_from test i n ≡ p
  unfolding first_from
  first_is zero i p a b e h = absurd (omega arith)
  first_is (suc n) i p a b e h = go (ℕ_discrete i p) (first_is n (suc i) p)
    where
      go : Dec (i ≡ p)
          → (suc i ≤ p → p < suc i + n → test p ≡ true → ((q : ℕ) → suc i ≤ q → q < p → test q ≡ false) → first_from test (suc i) n ≡ p)
          → cond (test i) i (first_from test (suc i) n) ≡ p
      go (yes d) later = rw (ap test d ∙ e) d
      go (no d) later = rw (h i (omega arith) (omega arith)) (later (omega arith) (omega arith) e (λ q l m. h q (omega arith) m))
