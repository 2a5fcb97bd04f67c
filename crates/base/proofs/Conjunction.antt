-- Tests that pass: together; both where their conjunction does, neither where their disjunction does not; a number between two bounds; a verdict.
-- Assumes nothing.
use mathlib.Core.Path.{◌≡◌, refl, sym, ap, ◌∙◌}
use mathlib.Core.Bool.{Bool, true, false, and-true, and-false, ◌&&◌, ◌||◌, false≢true, true≢false}
use Prim.Native.Nat.{ℕ, ◌≤◌}
use borrow.Author.Tests.{leb-true, le-leb}
use Rattle.std.specs.declared.result.Result.TheVariants.{Ok, Err}
use Rattle.base.specs.Tests.{Verdict, is_good, between}

-- tests that pass together are equal
pub iff : (a b : Bool) → (a ≡ true → b ≡ true) → (b ≡ true → a ≡ true) → a ≡ b
iff true b f g = sym (f refl)
iff false true f g = g refl
iff false false f g = refl

pub both_true : (a b : Bool) → (a && b) ≡ true → (a ≡ true) × (b ≡ true)
both_true true b e = (refl, e)
both_true false b e = absurd (false≢true e)

pub true_both : (a b : Bool) → a ≡ true → b ≡ true → (a && b) ≡ true
true_both a b p q = rw (p, q)

-- the second of three tests
pub middle : (a b c : Bool) → (a && b && c) ≡ true → b ≡ true
middle a b c e = (both_true a b (both_true (a && b) c e).0).1

pub neither : (a b : Bool) → (a || b) ≡ false → (a ≡ false) × (b ≡ false)
neither true b e = absurd (true≢false e)
neither false b e = (refl, e)

-- what the answer of tests that are made in order needs at each of its goals
pub ruleset in_all = (and-false, and-true)

pub or_false : (a : Bool) → (a || false) ≡ a
or_false true = refl
or_false false = refl

pub or_true : (a : Bool) → (a || true) ≡ true
or_true true = refl
or_true false = refl

pub is_false : (b : Bool) → (b ≡ true → ⊥) → b ≡ false
is_false true n = absurd (n refl)
is_false false n = refl

pub good_is : (v : Verdict) → is_good v ≡ true → v ≡ Ok tt
good_is (Ok x) e = refl
good_is (Err k) e = absurd (false≢true e)

pub bad_not_good : (v : Verdict) (k : ℕ) → v ≡ Err k → v ≡ Ok tt → ⊥
bad_not_good v k p q = false≢true (sym (ap is_good p) ∙ ap is_good q)

pub between_true : (low x high : ℕ) → between low x high ≡ true → (low ≤ x) × (x ≤ high)
between_true low x high e =
    let b = both_true _ _ e in
    (leb-true low x b.0, leb-true x high b.1)

pub true_between : (low x high : ℕ) → low ≤ x → x ≤ high → between low x high ≡ true
true_between low x high p q = true_both _ _ (le-leb low x p) (le-leb x high q)
