-- What stripping leaves is exactly the processes on rings. A process on a ring is never stripped, since the one before it on the ring points to it and
-- is left. And each process that is left after as many rounds as there are processes is where so many pointings lead from some process: two of the
-- processes on the way are the same, so that it is on a ring.
-- Assumes nothing.
use mathlib.Core.Path.{◌≡◌, refl, sym, ap, ◌∙◌}
use mathlib.Core.Logic.{◌↔◌}
use mathlib.Core.Bool.{Bool, true, false, not, ◌&&◌, true≢false}
use Prim.Native.Nat.{ℕ, zero, suc, ◌-◌, ◌≤◌, ◌<◌}
use native.Mathlib.Decide.{ℕ_discrete}
use native.Mathlib.Omega.{arith}
use borrow.Author.Tests.{lt-ltb, ltb-true, eq-eqb, ne_eqb, eqb-true, eqb-false, not-true}
use lib.Dec.{eqb}
use Rattle.base.proofs.Conjunction.{both_true, true_both, iff}
use Rattle.rings.specs.Rings.{iter, OnRing, ring_length}
use Rattle.rings.specs.Left.{pointers, left_after, left_of}
use Rattle.rings.proofs.Pointings.{Stays}
use Rattle.rings.proofs.Pigeonhole.{pigeonhole}
use Rattle.rings.proofs.Circles.{iter_add, iter_swap, on, on_ring_length}
use Rattle.rings.proofs.Tally.{tally_some, tally_one}

module _ (f : ℕ → ℕ) (P : ℕ) (stays : Stays f P) where
  -- ---- on a ring
  -- a process on a ring is pointed to by one on a ring
  ring_before : (q : ℕ) → OnRing f P q → (p : ℕ) × OnRing f P p × (f p ≡ q)
  unfolding iter
  ring_before q (h, suc k, a, e) =
      (iter f k q, (on f P stays q k (suc k) (omega arith) (omega (arith, e)), suc k, a, iter_swap f (suc k) k q ∙ ap (iter f k) e), e)
  ring_before q (h, zero, a, e) = absurd (omega arith)

  -- and points to one
  ring_after : (p : ℕ) → OnRing f P p → OnRing f P (f p)
  unfolding iter
  ring_after p (h, k, a, e) = (on f P stays p 1 k a (omega (arith, e)), k, a, iter_swap f k 1 p ∙ ap f e)

  -- a process to which P pointings lead is on a ring
  far_ring : (p q : ℕ) → q < P → iter f P p ≡ q → OnRing f P q
  far_ring p q h e =
      let t = pigeonhole P (λ i. iter f i p) (λ i a. on f P stays p i P a (omega arith)) in
      let i : ℕ = t.0 in
      let j : ℕ = t.1 in
      let a : i < j = t.2 in
      let b : j ≤ P = t.3 in
      let back : iter f (j - i) (iter f i p) ≡ iter f i p = sym (iter_add f (j - i) i p) ∙ ap (λ (m : ℕ). iter f m p) (omega arith) ∙ sym t.4 in
      let there : iter f (P - i) (iter f i p) ≡ q = sym (iter_add f (P - i) i p) ∙ ap (λ (m : ℕ). iter f m p) (omega arith) ∙ e in
      (h, j - i, omega arith, ap (iter f (j - i)) (sym there) ∙ iter_swap f (j - i) (P - i) (iter f i p) ∙ ap (iter f (P - i)) back ∙ there)

  -- ---- some that are left
  module _ (left : ℕ → Bool) where
    pointer_left : (q : ℕ) → (pointers f P left q ≡ 0 → ⊥) → (p : ℕ) × (p < P) × (left p ≡ true) × (f p ≡ q)
    pointer_left q n =
        let k = tally_some (λ p. left p && eqb (f p) q) P n in
        let b = both_true (left k.0) (eqb (f k.0) q) k.2 in
        (k.0, k.1, b.0, eqb-true (f k.0) q b.1)

    -- where all on rings are left, each of them is pointed to
    pub ring_pointed : ((p : ℕ) → OnRing f P p → left p ≡ true) → (q : ℕ) → OnRing f P q → pointers f P left q ≡ 0 → ⊥
    ring_pointed rings q o z =
        let b = ring_before q o in
        tally_one (λ p. left p && eqb (f p) q) P b.0 b.1.0 (true_both _ _ (rings b.0 b.1) (eq-eqb (f b.0) q b.2)) z

    -- where each that is left is pointed to, so many pointings lead to it
    module _ (each : (q : ℕ) → q < P → left q ≡ true → pointers f P left q ≡ 0 → ⊥) where
      far_left : (m q : ℕ) → q < P → left q ≡ true → (p : ℕ) × (iter f m p ≡ q)
      unfolding iter
      far_left zero q h l = (q, refl)
      far_left (suc m) q h l =
          let k = pointer_left q (each q h l) in
          let r = far_left m k.0 k.1 k.2 in
          (r.0, ap f r.1 ∙ k.3)

      -- so that it is on a ring
      pub left_ring : (q : ℕ) → q < P → left q ≡ true → OnRing f P q
      left_ring q h l = let r = far_left P q h l in far_ring r.0 q h r.1

  -- ---- by rounds
  round_low : (n p : ℕ) → left_after f P n p ≡ true → p < P
  unfolding left_after
  round_low zero p e = ltb-true p P e
  round_low (suc n) p e = round_low n p (both_true _ _ e).0

  round_ring : (n p : ℕ) → OnRing f P p → left_after f P n p ≡ true
  unfolding left_after
  round_ring zero p o = lt-ltb p P o.0
  round_ring (suc n) p o = true_both _ _ (round_ring n p o) (ap not (ne_eqb _ 0 (ring_pointed (left_after f P n) (round_ring n) p o)))

  round_far : (n q : ℕ) → left_after f P n q ≡ true → (p : ℕ) × (iter f n p ≡ q)
  unfolding left_after iter
  round_far zero q e = (q, refl)
  round_far (suc n) q e =
      let b = both_true (left_after f P n q) (not (eqb (pointers f P (left_after f P n) q) 0)) e in
      let k = pointer_left (left_after f P n) q (eqb-false _ 0 (not-true _ b.1)) in
      let r = round_far n k.0 k.2 in
      (r.0, ap f r.1 ∙ k.3)

  -- after P rounds or more
  enough : (n p : ℕ) → P ≤ n → left_after f P n p ≡ true → OnRing f P p
  enough n p h e =
      let r = round_far n p e in
      far_ring (iter f (n - P) r.0) p (round_low n p e) (sym (iter_add f P (n - P) r.0) ∙ ap (λ (m : ℕ). iter f m r.0) (omega arith) ∙ r.1)

  -- "what is left must be exactly the processes on rings"
  pub left_exactly : (p : ℕ) → (left_of f P p ≡ true) ↔ OnRing f P p
  left_exactly p = (enough P p (omega arith), round_ring P p)

  -- no later round strips any
  pub left_still : (n p : ℕ) → P ≤ n → left_after f P n p ≡ left_of f P p
  left_still n p h = iff _ _ (λ e. round_ring P p (enough n p h e)) (λ e. round_ring n p ((left_exactly p).0 e))

  -- ---- for the search and for the code of stripping
  -- a process that is left is one that some process left points to
  pub left_pointed : (p : ℕ) → left_of f P p ≡ not (eqb (pointers f P (left_of f P) p) 0)
  left_pointed p = iff _ _
      (λ e. ap not (ne_eqb _ 0 (ring_pointed (left_of f P) (round_ring P) p ((left_exactly p).0 e))))
      (λ e.
      let k = pointer_left (left_of f P) p (eqb-false _ 0 (not-true _ e)) in
      let o = ring_after k.0 ((left_exactly k.0).0 k.2) in
      rw k.3 at (round_ring P (f k.0) o))

  -- a process that is stripped has no ring
  pub stripped_length : (p : ℕ) → p < P → left_of f P p ≡ false → ring_length f P p ≡ 0
  stripped_length p h e = go (ℕ_discrete (ring_length f P p) 0)
    where
      go : Dec (ring_length f P p ≡ 0) → ring_length f P p ≡ 0
      go (yes d) = d
      go (no d) = absurd (true≢false (sym ((left_exactly p).1 ((on_ring_length f P stays p h).1 d)) ∙ e))
