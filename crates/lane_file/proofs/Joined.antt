-- Laws of lists one after the other: an element of two lists joined by its place, and the length and the elements of many lists of one width.
-- Assumes nothing.
use mathlib.Core.Path.{◌≡◌, sym, ap, ◌∙◌}
use mathlib.Core.List.{List, ◌++◌}
use Prim.Native.Nat.{ℕ, zero, suc, ◌+◌, ◌*◌, ◌≤◌, ◌<◌}
use native.Mathlib.Nat.{not-suc-le-zero}
use native.Mathlib.Omega.{arith}
use lib.ListN.{length, get_or, take, drop, length-append, length-take, length-drop, get_or-append}
use lib.Seq.{get_or-append-add, ext_get_or, get_or-take, get_or-drop}
use Rattle.base.specs.Lists.{joined}

-- an element of a list at two names of one place
pub same_place : (s : List ℕ) (i j : ℕ) → i ≡ j → get_or s i 0 ≡ get_or s j 0
same_place s i j e = ap (λ (k : ℕ). get_or s k 0) e

-- an element past the first of two lists
pub past : {A : Type 0} (l t : List A) (m r : ℕ) (d : A) → length l ≡ m → get_or (l ++ t) (m + r) d ≡ get_or t r d
past l t m r d e = rw (← e) (get_or-append-add l t r d)

module _ {A : Type 0} (f : ℕ → List A) (w : ℕ) where
  pub length_joined : (n i : ℕ) → ((p : ℕ) → i ≤ p → p < i + n → length (f p) ≡ w) → length (joined f i n) ≡ w * n
  unfolding joined
  length_joined zero i g = omega arith
  length_joined (suc n) i g =
      let h : length (f i) ≡ w = g i (omega arith) (omega arith) in
      let t : length (joined f (suc i) n) ≡ w * n = length_joined n (suc i) (λ p a b. g p (omega arith) (omega arith)) in
      length-append (f i) (joined f (suc i) n) ∙ omega arith

  pub joined_from : (n i : ℕ) (d : A) → ((p : ℕ) → i ≤ p → p < i + n → length (f p) ≡ w) → (p r : ℕ) → p < n → r < w
      → get_or (joined f i n) (w * p + r) d ≡ get_or (f (i + p)) r d
  unfolding joined
  joined_from zero i d g p r hp hr = absurd (not-suc-le-zero hp)
  joined_from (suc n) i d g zero r hp hr =
      let h : length (f i) ≡ w = g i (omega arith) (omega arith) in
      ap (λ (k : ℕ). get_or (f i ++ joined f (suc i) n) k d) (omega arith)
      ∙ get_or-append (f i) (joined f (suc i) n) d r (omega arith)
      ∙ ap (λ (k : ℕ). get_or (f k) r d) (omega arith)
  joined_from (suc n) i d g (suc p) r hp hr =
      let h : length (f i) ≡ w = g i (omega arith) (omega arith) in
      ap (λ (k : ℕ). get_or (f i ++ joined f (suc i) n) k d) (omega arith)
      ∙ past (f i) (joined f (suc i) n) w (w * p + r) d h
      ∙ joined_from n (suc i) d (λ q a b. g q (omega arith) (omega arith)) p r (omega arith) hr
      ∙ ap (λ (k : ℕ). get_or (f k) r d) (omega arith)

  -- the element r of list p, of n lists from number 0 on
  pub joined_at : (n : ℕ) (d : A) → ((p : ℕ) → p < n → length (f p) ≡ w) → (p r : ℕ) → p < n → r < w
      → get_or (joined f 0 n) (w * p + r) d ≡ get_or (f p) r d
  joined_at n d g p r hp hr =
      joined_from n 0 d (λ q a b. g q (omega arith)) p r hp hr ∙ ap (λ (k : ℕ). get_or (f k) r d) (omega arith)

-- the length of a part that a list has
pub length_part : (s : List ℕ) (a n : ℕ) → a + n ≤ length s → length (take n (drop a s)) ≡ n
length_part s a n h = simp (length-take, length-drop) (omega arith)

-- a part of a list is known by its elements
pub part_is : (s b : List ℕ) (a n : ℕ) → length b ≡ n → a + n ≤ length s → ((r : ℕ) → r < n → get_or s (a + r) 0 ≡ get_or b r 0)
    → take n (drop a s) ≡ b
part_is s b a n e h g =
    ext_get_or 0 (take n (drop a s)) b (length_part s a n h ∙ sym e)
    (λ r l. let m : r < n = omega (arith, length_part s a n h) in get_or-take n (drop a s) r 0 m ∙ get_or-drop a s r 0 ∙ g r m)
