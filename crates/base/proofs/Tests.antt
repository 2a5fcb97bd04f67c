-- Laws of tests in turn: the three steps of a loop that makes them, and what a verdict says of each test.
-- Assumes nothing.
use mathlib.Core.Path.{◌≡◌, refl, sym, subst}
use mathlib.Core.Bool.{Bool, true, false}
use Prim.Native.Nat.{ℕ, zero, suc, ◌+◌, ◌-◌, ◌≤◌, ◌<◌}
use native.Mathlib.Decide.{dec_lt}
use native.Mathlib.Numerals.{add-one}
use native.Mathlib.Omega.{arith}
use lib.Dec.{T}
use Rattle.std.specs.declared.result.Result.TheVariants.{Ok, Err}
use Rattle.base.specs.Tests.{Verdict, and_then, need, in_turn, first_bad, is_good}

module _ (f : ℕ → Verdict) where
  -- ---- the steps of a loop at test i of those before e
  pub on : (i e : ℕ) → i < e → f i ≡ Ok tt → in_turn f (i + 1) (e - (i + 1)) ≡ in_turn f i (e - i)
  unfolding in_turn
  on i e h g = let l : e - i ≡ suc (e - (i + 1)) = omega arith in rw (l, g, add-one)

  pub stop : (i e k : ℕ) → i < e → f i ≡ Err k → in_turn f i (e - i) ≡ Err k
  unfolding in_turn
  stop i e k h g = let l : e - i ≡ suc (e - (i + 1)) = omega arith in rw (l, g)

  pub over : (i e : ℕ) → e ≤ i → in_turn f i (e - i) ≡ Ok tt
  unfolding in_turn
  over i e h = let l : e - i ≡ 0 = omega arith in rw l

-- what a loop that makes tests in turn needs at each of its goals
pub ruleset in_order = (on, stop, over)

-- one test after another passes exactly where both do
pub both : (v w : Verdict) → and_then v w ≡ Ok tt → (v ≡ Ok tt) × (w ≡ Ok tt)
both (Ok x) w e = (refl, e)
both (Err k) w e = absurd (subst (λ (v : Verdict). T (is_good v)) (sym e) tt)

pub both_good : (v w : Verdict) → v ≡ Ok tt → w ≡ Ok tt → and_then v w ≡ Ok tt
both_good v w p q = rw p q

pub need_true : (b : Bool) (k : ℕ) → need b k ≡ Ok tt → b ≡ true
need_true true k e = refl
need_true false k e = absurd (subst (λ (v : Verdict). T (is_good v)) (sym e) tt)

pub true_need : (b : Bool) (k : ℕ) → b ≡ true → need b k ≡ Ok tt
true_need b k e = rw e

-- all passed: each passed
pub each : (f : ℕ → Verdict) (n i : ℕ) → in_turn f i n ≡ Ok tt → (k : ℕ) → i ≤ k → k < i + n → f k ≡ Ok tt
unfolding in_turn
each f zero i e k h l = absurd (omega arith)
each f (suc n) i e k h l = go (dec_lt i k) (both (f i) (in_turn f (suc i) n) e) (each f n (suc i))
  where
    go : Dec (i < k) → (f i ≡ Ok tt) × (in_turn f (suc i) n ≡ Ok tt) → (in_turn f (suc i) n ≡ Ok tt → (k : ℕ) → suc i ≤ k → k < suc i + n → f k ≡ Ok tt) → f k ≡ Ok tt
    go (yes m) b s = s b.1 k m (omega arith)
    go (no m) b s = let q : k ≡ i = omega arith in rw q b.0

-- of plain tests
pub each_true : (test : ℕ → Bool) (i n : ℕ) → first_bad test i n ≡ Ok tt → (k : ℕ) → i ≤ k → k < i + n → test k ≡ true
each_true test i n e k h l = need_true (test k) k (each (λ k. need (test k) k) n i e k h l)

-- each passed: all passed
pub all : (f : ℕ → Verdict) (n i : ℕ) → ((k : ℕ) → i ≤ k → k < i + n → f k ≡ Ok tt) → in_turn f i n ≡ Ok tt
unfolding in_turn
all f zero i g = refl
all f (suc n) i g = rw (g i (omega arith) (omega arith)) (all f n (suc i) (λ k h l. g k (omega arith) (omega arith)))

pub all_true : (test : ℕ → Bool) (i n : ℕ) → ((k : ℕ) → i ≤ k → k < i + n → test k ≡ true) → first_bad test i n ≡ Ok tt
all_true test i n g = all (λ k. need (test k) k) n i (λ k h l. true_need (test k) k (g k h l))

-- tests that agree have one verdict
pub same : (f g : ℕ → Verdict) (n i : ℕ) → ((k : ℕ) → i ≤ k → k < i + n → f k ≡ g k) → in_turn f i n ≡ in_turn g i n
unfolding in_turn
same f g zero i h = refl
same f g (suc n) i h = rw (h i (omega arith) (omega arith), same f g n (suc i) (λ k l m. h k (omega arith) (omega arith)))
