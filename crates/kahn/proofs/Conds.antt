-- Laws of a choice by a test.
-- Assumes nothing.
use mathlib.Core.Path.{◌≡◌, refl}
use mathlib.Core.Bool.{Bool, true, false, cond}

module _ {A : Type 0} where
  pub cond_false : {t : Bool} (x y : A) → t ≡ false → cond t x y ≡ y
  cond_false x y e = rw e

  pub cond_same : (s : Bool) (x : A) → cond s x x ≡ x
  cond_same true x = refl
  cond_same false x = refl

  pub cond_is : (s : Bool) (x y : A) → (s ≡ true → x ≡ y) → cond s x y ≡ y
  cond_is true x y h = h refl
  cond_is false x y h = refl

  pub cond_twice : (s : Bool) (z y x : A) → cond s z (cond s y x) ≡ cond s z x
  cond_twice true z y x = refl
  cond_twice false z y x = refl

  -- two changes that are never both made may change places
  pub cond_comm : (s t : Bool) (f g : A → A) (x : A) → (s ≡ true → t ≡ true → ⊥) → cond s (f (cond t (g x) x)) (cond t (g x) x) ≡ cond t (g (cond s (f x) x)) (cond s (f x) x)
  cond_comm true true f g x h = absurd (h refl refl)
  cond_comm true false f g x h = refl
  cond_comm false true f g x h = refl
  cond_comm false false f g x h = refl

pub cond_true : (s : Bool) {t : Bool} → t ≡ true → cond s true t ≡ true
cond_true true e = refl
cond_true false e = e
