-- Of the full waits of some processes the one to relieve: it comes before each of the others, and it is one of them.
-- Assumes nothing.
use mathlib.Core.Path.{◌≡◌, refl, sym, ap, ◌∙◌}
use mathlib.Core.Logic.{◌⊎◌, inl, inr}
use mathlib.Core.Bool.{Bool, true, false, cond, not, ◌&&◌, ◌||◌, true≢false, false≢true}
use mathlib.Core.List.{List, [], ◌∷◌, ◌++◌}
use Prim.Native.Nat.{ℕ, zero, suc, ◌≤◌, ◌<◌}
use native.Mathlib.Decide.{dec_lt}
use native.Mathlib.Omega.{arith}
use borrow.Author.Tests.{lt-ltb, ltb-true, ltb-false, eq-eqb, eqb-true, eqb-false, ne_eqb, not-true}
use lib.Dec.{eqb, ltb}
use lib.ListN.{length, get_or}
use Rattle.base.proofs.Conjunction.{iff, both_true}
use Rattle.rings.specs.Rings.{some_below, lesser, least}

-- a full wait on a channel below a limit
abbrev pub Below : (ℕ → ℕ) → ℕ → ℕ → Bool
Below full limit q = not (eqb (full q) 0) && ltb (full q) limit

module _ (full chan : ℕ → ℕ) where
  -- ---- where q has a full wait, m has one that is relieved before it, or the same
  abbrev pub Before : ℕ → ℕ → Type 0
  Before m q = (full q ≡ 0 → ⊥) → (full m ≡ 0 → ⊥) × ((full m < full q) ⊎ ((full m ≡ full q) × (chan m ≤ chan q)))

  before_same : (q : ℕ) → Before q q
  before_same q n = (n, inr (refl, omega arith))

  before_then : (l m q : ℕ) → Before l m → Before m q → Before l q
  before_then l m q a b n = let x = b n in let y = a x.0 in (y.0, go y.1 x.1)
    where
      go : ◌⊎◌ (full l < full m) ((full l ≡ full m) × (chan l ≤ chan m)) → ◌⊎◌ (full m < full q) ((full m ≡ full q) × (chan m ≤ chan q))
          → ◌⊎◌ (full l < full q) ((full l ≡ full q) × (chan l ≤ chan q))
      go (inl u) (inl v) = inl (omega arith)
      go (inl u) (inr v) = inl (omega (arith, v.0))
      go (inr u) (inl v) = inl (omega (arith, u.0))
      go (inr u) (inr v) = inr (u.0 ∙ v.0, omega (arith, u.1, v.1))

  -- of two
  lesser_before : (q r : ℕ) (t : Bool) → lesser (full q) (chan q) (full r) (chan r) ≡ t → Before (cond t q r) q × Before (cond t q r) r
  lesser_before q r true e = (before_same q, λ n. at (eqb (full r) 0) (ltb (full q) (full r)) refl refl n)
    where
      b : (not (eqb (full q) 0) ≡ true) × ((eqb (full r) 0 || ltb (full q) (full r) || (eqb (full q) (full r) && ltb (chan q) (chan r))) ≡ true)
      b = both_true (not (eqb (full q) 0)) _ e

      n : full q ≡ 0 → ⊥
      n = eqb-false (full q) 0 (not-true _ b.0)

      at : (s t : Bool) → eqb (full r) 0 ≡ s → ltb (full q) (full r) ≡ t → (full r ≡ 0 → ⊥)
          → (full q ≡ 0 → ⊥) × ((full q < full r) ⊎ ((full q ≡ full r) × (chan q ≤ chan r)))
      at true t x y m = absurd (m (eqb-true (full r) 0 x))
      at false true x y m = (n, inl (ltb-true (full q) (full r) y))
      at false false x y m =
          let z = both_true (eqb (full q) (full r)) (ltb (chan q) (chan r)) (rw (x, y) at b.1) in
          let l = ltb-true (chan q) (chan r) z.1 in
          (n, inr (eqb-true (full q) (full r) z.0, omega arith))
  lesser_before q r false e = (λ n. go n (dec_lt (full r) (full q)), before_same r)
    where
      fails : (a b c d : Bool) → (not a && (b || c || d)) ≡ false → a ≡ false → (b ≡ false) × (c ≡ false) × (d ≡ false)
      fails true b c d e f = absurd (true≢false f)
      fails false true c d e f = absurd (true≢false e)
      fails false false true d e f = absurd (true≢false e)
      fails false false false d e f = (refl, refl, e)

      go : (full q ≡ 0 → ⊥) → Dec (full r < full q) → (full r ≡ 0 → ⊥) × ((full r < full q) ⊎ ((full r ≡ full q) × (chan r ≤ chan q)))
      go n d = let z = fails (eqb (full q) 0) (eqb (full r) 0) (ltb (full q) (full r)) (eqb (full q) (full r) && ltb (chan q) (chan r)) e (ne_eqb (full q) 0 n) in
          (eqb-false (full r) 0 z.0, order d (ltb-false (full q) (full r) z.1) z.2)
        where
          order : Dec (full r < full q) → full r ≤ full q → (eqb (full q) (full r) && ltb (chan q) (chan r)) ≡ false → ◌⊎◌ (full r < full q) ((full r ≡ full q) × (chan r ≤ chan q))
          order (yes h) l f = inl h
          order (no h) l f =
              let s : full q ≡ full r = omega arith in
              inr (sym s, ltb-false (chan q) (chan r) (rw (eq-eqb (full q) (full r) s) at f))

  -- ---- of many
  -- before the first
  pub least_first : (qs : List ℕ) (r : ℕ) → Before (least full chan r qs) r
  least_first [] r = before_same r
  least_first (q ∷ qs) r =
      let r' : ℕ = cond (lesser (full q) (chan q) (full r) (chan r)) q r in
      before_then (least full chan r' qs) r' r (least_first qs r') (lesser_before q r (lesser (full q) (chan q) (full r) (chan r)) refl).1

  -- and before each of the others
  pub least_each : (qs : List ℕ) (r i : ℕ) → i < length qs → Before (least full chan r qs) (get_or qs i 0)
  least_each [] r i h = absurd (let z : i < 0 = h in omega arith)
  least_each (q ∷ qs) r zero h =
      let r' : ℕ = cond (lesser (full q) (chan q) (full r) (chan r)) q r in
      before_then (least full chan r' qs) r' q (least_first qs r') (lesser_before q r (lesser (full q) (chan q) (full r) (chan r)) refl).0
  least_each (q ∷ qs) r (suc i) h = least_each qs (cond (lesser (full q) (chan q) (full r) (chan r)) q r) i (omega arith)

  -- it is the first, or one of the others
  pub least_in : (qs : List ℕ) (r : ℕ) → (least full chan r qs ≡ r) ⊎ ((i : ℕ) × (i < length qs) × (get_or qs i 0 ≡ least full chan r qs))
  least_in [] r = inl refl
  least_in (q ∷ qs) r = at (lesser (full q) (chan q) (full r) (chan r)) (least_in qs (cond (lesser (full q) (chan q) (full r) (chan r)) q r))
    where
      at : (t : Bool) → ◌⊎◌ (least full chan (cond t q r) qs ≡ cond t q r) ((i : ℕ) × (i < length qs) × (get_or qs i 0 ≡ least full chan (cond t q r) qs))
          → (least full chan (cond t q r) qs ≡ r) ⊎ ((i : ℕ) × (i < suc (length qs)) × (get_or (q ∷ qs) i 0 ≡ least full chan (cond t q r) qs))
      at true (inl e) = inr (0, omega arith, sym e)
      at false (inl e) = inl e
      at t (inr h) = inr (suc h.0, omega (arith, h.1), h.2)

  -- one more at the end
  pub least_more : (qs : List ℕ) (r q : ℕ) →
      least full chan r (qs ++ (q ∷ [])) ≡ cond (lesser (full q) (chan q) (full (least full chan r qs)) (chan (least full chan r qs))) q (least full chan r qs)
  least_more [] r q = refl
  least_more (x ∷ qs) r q = least_more qs (cond (lesser (full x) (chan x) (full r) (chan r)) x r) q

-- ---- a full wait below a limit: some process of a list has one exactly where the one to relieve has
module _ (full : ℕ → ℕ) (limit : ℕ) where
  pub below_says : (q : ℕ) → Below full limit q ≡ true → (full q ≡ 0 → ⊥) × (full q < limit)
  below_says q e = let b = both_true (not (eqb (full q) 0)) (ltb (full q) limit) e in (eqb-false (full q) 0 (not-true _ b.0), ltb-true (full q) limit b.1)

  pub says_below : (q : ℕ) → (full q ≡ 0 → ⊥) → full q < limit → Below full limit q ≡ true
  says_below q n h = rw (ne_eqb (full q) 0 n, lt-ltb (full q) limit h)

  pub some_at : (xs : List ℕ) → some_below full limit xs ≡ true → (i : ℕ) × (i < length xs) × (Below full limit (get_or xs i 0) ≡ true)
  some_at [] e = absurd (false≢true e)
  some_at (x ∷ xs) e = go (Below full limit x) refl (some_at xs) e
    where
      go : (t : Bool) → Below full limit x ≡ t → (some_below full limit xs ≡ true → (i : ℕ) × (i < length xs) × (Below full limit (get_or xs i 0) ≡ true))
          → (t || some_below full limit xs) ≡ true → (i : ℕ) × (i < suc (length xs)) × (Below full limit (get_or (x ∷ xs) i 0) ≡ true)
      go true b later e = (0, omega arith, b)
      go false b later e = let h = later e in (suc h.0, omega (arith, h.1), h.2)

  pub at_some : (xs : List ℕ) (i : ℕ) → i < length xs → Below full limit (get_or xs i 0) ≡ true → some_below full limit xs ≡ true
  at_some [] i h e = absurd (let z : i < 0 = h in omega arith)
  at_some (x ∷ xs) zero h e = rw e
  at_some (x ∷ xs) (suc i) h e = go (Below full limit x) (at_some xs i (omega arith) e)
    where
      go : (t : Bool) → some_below full limit xs ≡ true → (t || some_below full limit xs) ≡ true
      go true s = refl
      go false s = s

  module _ (chan : ℕ → ℕ) where
    -- the one to relieve is below a limit below which some is
    pub least_below : (qs : List ℕ) (r : ℕ) → some_below full limit qs ≡ true
        → (full (least full chan r qs) ≡ 0 → ⊥) × (full (least full chan r qs) < limit)
    least_below qs r e =
        let s = some_at qs e in
        let b = below_says (get_or qs s.0 0) s.2 in
        let m = least_each full chan qs r s.0 s.1 b.0 in
        (m.0, go m.1 b.1)
      where
        go : {x : ℕ} → ◌⊎◌ (full (least full chan r qs) < full x) ((full (least full chan r qs) ≡ full x) × (chan (least full chan r qs) ≤ chan x)) → full x < limit
            → full (least full chan r qs) < limit
        go (inl u) h = omega arith
        go (inr u) h = omega (arith, u.0)

    pub some_least : (qs : List ℕ) (p : ℕ) → some_below full limit (p ∷ qs) ≡ Below full limit (least full chan p (p ∷ qs))
    some_least qs p =
        iff (some_below full limit (p ∷ qs)) (Below full limit (least full chan p (p ∷ qs)))
        (λ e. let b = least_below (p ∷ qs) p e in says_below _ b.0 b.1)
        (λ e. at e (least_in full chan (p ∷ qs) p))
      where
        at : Below full limit (least full chan p (p ∷ qs)) ≡ true
            → ◌⊎◌ (least full chan p (p ∷ qs) ≡ p) ((i : ℕ) × (i < suc (length qs)) × (get_or (p ∷ qs) i 0 ≡ least full chan p (p ∷ qs)))
            → some_below full limit (p ∷ qs) ≡ true
        at e (inl h) = at_some (p ∷ qs) 0 (omega arith) (ap (Below full limit) (sym h) ∙ e)
        at e (inr h) = at_some (p ∷ qs) h.0 h.1 (ap (Below full limit) h.2 ∙ e)
