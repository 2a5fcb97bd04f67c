-- Chains of pointings, and the pointings of an array.
-- Assumes nothing.
use mathlib.Core.Path.{◌≡◌, refl, ap, ◌∙◌}
use mathlib.Core.List.{List, [], ◌∷◌, ◌++◌}
use Prim.Native.Nat.{ℕ, zero, suc, ◌≤◌, ◌<◌}
use borrow.Author.Tests.{lt-ltb, le-ltb}
use lib.ListN.{length, get_or}
use Rattle.network.specs.Rules.{outside}
use Rattle.rings.specs.Rings.{iter, chain}
use Rattle.rings.specs.Arrays.{points_in}

-- ---- chains of pointings
module _ (f : ℕ → ℕ) where
  -- the first step or the last
  pub iter_shift : (n p : ℕ) → iter f n (f p) ≡ f (iter f n p)
  unfolding iter
  iter_shift zero p = refl
  iter_shift (suc n) p = ap f (iter_shift n p)

  pub chain_more : (n p : ℕ) → chain f (suc n) p ≡ chain f n p ++ (iter f n p ∷ [])
  unfolding chain iter
  chain_more zero p = refl
  chain_more (suc n) p = ap (λ (l : List ℕ). p ∷ l) (chain_more n (f p) ∙ ap (λ (x : ℕ). chain f n (f p) ++ (x ∷ [])) (iter_shift n p))

  pub length_chain : (n p : ℕ) → length (chain f n p) ≡ n
  unfolding chain
  length_chain zero p = refl
  length_chain (suc n) p = ap suc (length_chain n (f p))

-- f leads back from no number that is P or more
abbrev pub Stays : (ℕ → ℕ) → ℕ → Type 0
Stays f P = (x : ℕ) → P ≤ x → P ≤ f x

-- ---- the pointings of an array
module _ (points : List ℕ) (P : ℕ) where
  pub points_at : (p : ℕ) → p < P → points_in points P p ≡ get_or points p 0
  unfolding points_in
  points_at p h = rw (lt-ltb p P h)

  pub points_off : (p : ℕ) → P ≤ p → points_in points P p ≡ outside
  unfolding points_in
  points_off p h = rw (le-ltb p P h)

  pub points_stay : P ≤ 255 → Stays (points_in points P) P
  points_stay small p h = rw (points_off p h) small
