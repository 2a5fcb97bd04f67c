-- The length of a ring. A chain of pointings that closes at all closes within as many steps as there are processes; its members are distinct, each
-- followed by the one it points to, the last by the first, and each of them is on the same ring.
-- Assumes nothing.
use mathlib.Core.Path.{◌≡◌, refl, sym, ap, ◌∙◌, subst}
use mathlib.Core.Logic.{◌⊎◌, ◌↔◌, inl, inr, ⊎_elim}
use Prim.Native.Nat.{ℕ, zero, suc, ◌+◌, ◌-◌, ◌≤◌, ◌<◌}
use native.Mathlib.Decide.{ℕ_discrete, dec_le, dec_lt}
use native.Mathlib.Nat.{suc-add, zero-add, add_comm}
use native.Mathlib.Omega.{arith}
use borrow.Author.Tests.{eq-eqb, ne_eqb}
use lib.ListN.{get_or}
use Rattle.rings.specs.Rings.{iter, OnRing, closes_from, ring_length, chain}
use Rattle.rings.proofs.Pigeonhole.{Smallest, smallest, pigeonhole}
use Rattle.rings.proofs.Pointings.{iter_shift, Stays}

-- ---- chains
-- steps add up
pub iter_add : (f : ℕ → ℕ) (a b p : ℕ) → iter f (a + b) p ≡ iter f a (iter f b p)
unfolding iter
iter_add f zero b p = ap (λ (k : ℕ). iter f k p) (zero-add b)
iter_add f (suc a) b p = ap (λ (k : ℕ). iter f k p) (suc-add a b) ∙ ap f (iter_add f a b p)

-- k is the length of the ring of p: the least number of steps, of at least one, that lead from p to p
pub record RingOf (f : ℕ → ℕ) (P p k : ℕ) : Type 0 where
  pub some : 1 ≤ k
  pub bounded : k ≤ P
  pub closes : iter f k p ≡ p
  pub least : (j : ℕ) → 1 ≤ j → j < k → iter f j p ≡ p → ⊥

module _ (f : ℕ → ℕ) where
  -- where two of the steps before k lead to the same, k can be had in fewer
  shorter : (p i j k : ℕ) → i < j → j ≤ k → iter f i p ≡ iter f j p → iter f (k - j + i) p ≡ iter f k p
  shorter p i j k l m e =
      iter_add f (k - j) i p ∙ ap (iter f (k - j)) e ∙ sym (iter_add f (k - j) j p)
      ∙ ap (λ (n : ℕ). iter f n p) (omega arith)

  -- two numbers of steps in either order
  pub iter_swap : (a b p : ℕ) → iter f a (iter f b p) ≡ iter f b (iter f a p)
  iter_swap a b p = sym (iter_add f a b p) ∙ ap (λ (n : ℕ). iter f n p) (add_comm a b) ∙ iter_add f b a p

  -- a ring has one length
  pub ring_one : (P p k n : ℕ) → RingOf f P p k → RingOf f P p n → k ≡ n
  ring_one P p k n r s = go (dec_lt k n) (dec_lt n k)
    where
      go : Dec (k < n) → Dec (n < k) → k ≡ n
      go (yes a) d = absurd (s.least k r.some a r.closes)
      go (no a) (yes d) = absurd (r.least n s.some d s.closes)
      go (no a) (no d) = omega arith

  -- ---- the length, as it is computed
  module _ (p : ℕ) where
    -- m is the least of the n numbers from k on that leads back
    record Closing (k n m : ℕ) : Type 0 where
      low : k ≤ m
      high : m < k + n
      closes : iter f m p ≡ p
      least : (j : ℕ) → k ≤ j → j < m → iter f j p ≡ p → ⊥

    abbrev Closes : ℕ → ℕ → ℕ → Type 0
    Closes k n m = ((m ≡ 0) × ((j : ℕ) → k ≤ j → j < k + n → iter f j p ≡ p → ⊥)) ⊎ Closing k n m

    later : (k n m : ℕ) → (iter f k p ≡ p → ⊥) → Closes (suc k) n m → Closes k (suc n) m
    later k n m ne (inl h) = inl (h.0, λ j a b e. go j a b e (ℕ_discrete j k))
      where
        go : (j : ℕ) → k ≤ j → j < k + suc n → iter f j p ≡ p → Dec (j ≡ k) → ⊥
        go j a b e (yes q) = ne (subst (λ (i : ℕ). iter f i p ≡ p) q e)
        go j a b e (no q) = h.1 j (omega arith) (omega arith) e
    later k n m ne (inr h) =
        inr (record { low = omega (arith, h.low); high = omega (arith, h.high); closes = h.closes; least = λ j a b e. go j a b e (ℕ_discrete j k) })
      where
        go : (j : ℕ) → k ≤ j → j < m → iter f j p ≡ p → Dec (j ≡ k) → ⊥
        go j a b e (yes q) = ne (subst (λ (i : ℕ). iter f i p ≡ p) q e)
        go j a b e (no q) = h.least j (omega arith) b e

    closes_says : (n k : ℕ) → Closes k n (closes_from f p k n)
    unfolding closes_from
    closes_says zero k = inl (refl, λ j a b e. omega arith)
    closes_says (suc n) k = go (ℕ_discrete (iter f k p) p) (closes_says n (suc k))
      where
        go : Dec (iter f k p ≡ p) → Closes (suc k) n (closes_from f p (suc k) n) → Closes k (suc n) (closes_from f p k (suc n))
        go (yes e) h = rw (eq-eqb (iter f k p) p e) (inr (record { low = omega arith; high = omega arith; closes = e; least = λ j a b q. omega arith }))
        go (no e) h = rw (ne_eqb (iter f k p) p e) (later k n (closes_from f p (suc k) n) e h)

  -- 0 where no step leads back, else the length of the ring
  pub length_says : (P p : ℕ) → ((ring_length f P p ≡ 0) × ((j : ℕ) → 1 ≤ j → j ≤ P → iter f j p ≡ p → ⊥)) ⊎ RingOf f P p (ring_length f P p)
  length_says P p = go (closes_says p P 1)
    where
      go : Closes p 1 P (ring_length f P p) → ((ring_length f P p ≡ 0) × ((j : ℕ) → 1 ≤ j → j ≤ P → iter f j p ≡ p → ⊥)) ⊎ RingOf f P p (ring_length f P p)
      go (inl h) = inl (h.0, λ j a b e. h.1 j a (omega arith) e)
      go (inr h) = inr (record { some = h.low; bounded = omega (arith, h.high); closes = h.closes; least = h.least })

  -- at most as many processes as there are
  pub length_short : (P p : ℕ) → ring_length f P p ≤ P
  length_short P p = ⊎_elim (λ h. omega (arith, h.0)) (λ r. r.bounded) (length_says P p)

  pub ring_length_lem : (P p k : ℕ) → RingOf f P p k → ring_length f P p ≡ k
  ring_length_lem P p k r =
      ⊎_elim (λ h. absurd (h.1 k r.some r.bounded r.closes)) (λ s. ring_one P p (ring_length f P p) k s r) (length_says P p)

  -- ---- a ring closes within P steps: of more steps two lead to the same process, and those between them can be left out
  module _ (P : ℕ) (stays : Stays f P) where
    off : (k x : ℕ) → P ≤ x → P ≤ iter f k x
    unfolding iter
    off zero x l = l
    off (suc k) x l = stays (iter f k x) (off k x l)

    -- what leads on to a process is a process
    pub on : (p j k : ℕ) → j ≤ k → iter f k p < P → iter f j p < P
    on p j k l h = go (dec_lt (iter f j p) P)
      where
        go : Dec (iter f j p < P) → iter f j p < P
        go (yes d) = d
        go (no d) =
            let e : k ≡ (k - j) + j = omega arith in
            absurd
            (let w = off (k - j) (iter f j p) (omega arith) in
            let q : iter f k p ≡ iter f (k - j) (iter f j p) = ap (λ (m : ℕ). iter f m p) e ∙ iter_add f (k - j) j p in
            omega (arith, w, q))

    pub within : (p k : ℕ) → p < P → 1 ≤ k → iter f k p ≡ p → (n : ℕ) × RingOf f P p n
    within p k h l e =
        go (smallest (λ n. iter f (suc n) p ≡ p) (λ n. ℕ_discrete (iter f (suc n) p) p) k)
      where
        go : Smallest (λ n. iter f (suc n) p ≡ p) k → (n : ℕ) × RingOf f P p n
        go (inr u) = absurd (u (k - 1) (omega arith) (ap (λ (n : ℕ). iter f n p) (omega arith) ∙ e))
        go (inl m) = (
          suc m.0,
          record {
            some = omega arith;
            bounded = bound (dec_le (suc m.0) P);
            closes = m.2;
            least = λ j a b q. m.3 (j - 1) (omega arith) (ap (λ (n : ℕ). iter f n p) (omega arith) ∙ q);
          },
        )
          where
            bound : Dec (suc m.0 ≤ P) → suc m.0 ≤ P
            bound (yes d) = d
            bound (no d) =
                let t = pigeonhole P (λ i. iter f i p) (λ i a. on p i (suc m.0) (omega arith) (omega (arith, m.2))) in
                let q = shorter p t.0 t.1 (suc m.0) t.2 (omega (arith, t.3)) t.4 in
                absurd
                (m.3 (suc m.0 - t.1 + t.0 - 1)
                (omega (arith, t.2, t.3))
                (ap (λ (n : ℕ). iter f n p) (omega (arith, t.2, t.3)) ∙ q ∙ m.2))

    -- p is on a ring exactly where it has a length
    pub on_ring : (p : ℕ) → OnRing f P p → RingOf f P p (ring_length f P p)
    on_ring p o =
        let r = within p o.1 o.0 o.2 o.3 in
        subst (RingOf f P p) (sym (ring_length_lem P p r.0 r.1)) r.1

    pub on_ring_length : (p : ℕ) → p < P → OnRing f P p ↔ (ring_length f P p ≡ 0 → ⊥)
    on_ring_length p h = (
      (λ o z. let r = on_ring p o in omega (arith, r.some)),
      (λ n. ⊎_elim (λ z. absurd (n z.0)) (λ r. (h, ring_length f P p, r.some, r.closes)) (length_says P p)),
    )

-- ---- the members of a ring
module _ (f : ℕ → ℕ) where
  -- each place of a chain
  pub chain_at : (n p i : ℕ) → i < n → get_or (chain f n p) i 0 ≡ iter f i p
  unfolding chain iter
  chain_at zero p i h = absurd (let z : i < 0 = h in omega arith)
  chain_at (suc n) p zero h = refl
  chain_at (suc n) p (suc i) h = chain_at n (f p) i (omega arith) ∙ iter_shift f i p

  module _ (P p k : ℕ) (r : RingOf f P p k) where
    -- no two steps before the ring closes lead to the same
    pub ring_distinct : (i j : ℕ) → i < j → j < k → iter f i p ≡ iter f j p → ⊥
    ring_distinct i j a b e = r.least (k - j + i) (omega arith) (omega arith) (shorter f p i j k a (omega arith) e ∙ r.closes)

    -- each number of steps leads where one below the length does
    pub ring_reach : (i : ℕ) → (j : ℕ) × (j < k) × (iter f i p ≡ iter f j p)
    unfolding iter
    ring_reach zero = (0, r.some, refl)
    ring_reach (suc i) = let h = ring_reach i in go h.0 h.1 h.2 (dec_lt (suc h.0) k)
      where
        go : (j : ℕ) → j < k → iter f i p ≡ iter f j p → Dec (suc j < k) → (m : ℕ) × (m < k) × (f (iter f i p) ≡ iter f m p)
        go j a e (yes b) = (suc j, b, ap f e)
        go j a e (no b) = (0, r.some, ap f e ∙ ap (λ (m : ℕ). iter f m p) (let q : suc j ≡ k = omega arith in q) ∙ r.closes)

    -- a process on the ring leads back in as many steps
    pub ring_back : (j : ℕ) → iter f k (iter f j p) ≡ iter f j p
    ring_back j = iter_swap f k j p ∙ ap (iter f j) r.closes

    -- and leads to each process on it
    pub ring_around : (j i : ℕ) → j ≤ k → (m : ℕ) × (iter f m (iter f j p) ≡ iter f i p)
    ring_around j i h = (
      i + (k - j),
      sym (iter_add f (i + (k - j)) j p) ∙ ap (λ (n : ℕ). iter f n p) (let q : i + (k - j) + j ≡ i + k = omega arith in q)
          ∙ iter_add f i k p ∙ ap (iter f i) r.closes,
    )
