-- Tests of which each is two: all pass exactly where all of the one kind and all of the other do.
-- Assumes nothing.
use mathlib.Core.Path.{◌≡◌, sym, ◌∙◌}
use mathlib.Core.Bool.{Bool, true, ◌&&◌}
use Prim.Native.Nat.{ℕ, ◌+◌, ◌≤◌, ◌<◌}
use Rattle.base.specs.Tests.{first_bad, is_good}
use Rattle.base.proofs.Conjunction.{iff, both_true, true_both}
use Rattle.lane.proofs.SoundLaws.{at_each, each_at}

pub two_kinds : (whole f g : ℕ → Bool) (i n : ℕ) → ((k : ℕ) → i ≤ k → k < i + n → whole k ≡ (f k && g k))
    → is_good (first_bad whole i n) ≡ (is_good (first_bad f i n) && is_good (first_bad g i n))
two_kinds whole f g i n s = iff _ _ there back
  where
    there : is_good (first_bad whole i n) ≡ true → (is_good (first_bad f i n) && is_good (first_bad g i n)) ≡ true
    there e =
        let two : (k : ℕ) → i ≤ k → k < i + n → (f k ≡ true) × (g k ≡ true) = λ k h m. both_true (f k) (g k) (sym (s k h m) ∙ at_each whole i n e k h m) in
        true_both _ _ (each_at f i n (λ k h m. (two k h m).0)) (each_at g i n (λ k h m. (two k h m).1))

    back : (is_good (first_bad f i n) && is_good (first_bad g i n)) ≡ true → is_good (first_bad whole i n) ≡ true
    back e =
        let two = both_true (is_good (first_bad f i n)) _ e in
        each_at whole i n (λ k h m. s k h m ∙ true_both _ _ (at_each f i n two.0 k h m) (at_each g i n two.1 k h m))
