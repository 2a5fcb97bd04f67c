-- The search answers exactly what document 01 says: the ring and channel that are taken, 13 where no process is on a ring with a full wait, and 14
-- where some are and all their channels stand at 256.
-- Assumes nothing.
use mathlib.Core.Path.{◌≡◌, refl, sym, ap, ◌∙◌, subst}
use mathlib.Core.Logic.{◌⊎◌, ◌↔◌, inl, inr, ⊎_elim}
use mathlib.Core.Bool.{Bool, true, false, cond, true≢false, false≢true}
use mathlib.Core.List.{List, ◌∷◌}
use Prim.Native.Nat.{ℕ, zero, suc, ◌+◌, ◌-◌, ◌≤◌, ◌<◌}
use native.Mathlib.Decide.{dec_lt}
use native.Mathlib.Numerals.{add-one}
use native.Mathlib.Omega.{arith}
use borrow.Author.Tests.{lt-ltb, ltb-true, ltb-false}
use lib.Dec.{ltb}
use lib.ListN.{length, get_or}
use lib.Seq.{ext_get_or}
use Rattle.base.proofs.Conjunction.{is_false}
use Rattle.rings.specs.Rings.{iter, OnRing, ring_length, chain, ring_of, some_below, least, on_ring_below, first_from, Found, no_ring, ceiling, found, search}
use Rattle.rings.specs.Taken.{OnFullRing, Relievable, IsRing, Grows, Taken}
use Rattle.rings.proofs.Least.{Below, below_says, says_below, some_at, at_some, least_each, least_in, least_below}
use Rattle.rings.proofs.First.{first_holds, first_before, first_is}
use Rattle.rings.proofs.Pointings.{length_chain, Stays}
use Rattle.rings.proofs.Inside.{search_same}
use Rattle.rings.proofs.Circles.{RingOf, length_says, length_short, ring_length_lem, on, on_ring, within, chain_at, ring_distinct, ring_reach, ring_back, ring_around}

-- ---- the list of a ring
module _ (f : ℕ → ℕ) where
  -- the chain from p on, as long as its ring
  pub ring_is : (P p k : ℕ) → RingOf f P p k → IsRing f p (chain f k p)
  unfolding iter
  ring_is P p k r =
      let l = length_chain f k p in
      record {
        some = omega (arith, r.some);
        begins = chain_at f k p 0 r.some;
        follows = λ i h. chain_at f k p (i + 1) (omega arith) ∙ ap (λ (m : ℕ). iter f m p) (add-one i) ∙ ap f (sym (chain_at f k p i (omega arith)));
        closes =
            ap f (chain_at f k p (length (chain f k p) - 1) (omega (arith, r.some)))
            ∙ ap (λ (m : ℕ). iter f m p) (let q : suc (length (chain f k p) - 1) ≡ k = omega (arith, r.some) in q)
            ∙ r.closes;
        distinct = λ i j a b e. ring_distinct f P p k r i j a (omega arith) (sym (chain_at f k p i (omega arith)) ∙ e ∙ chain_at f k p j (omega arith));
      }

  module _ (p : ℕ) (ring : List ℕ) (s : IsRing f p ring) where
    pub ring_at : (i : ℕ) → i < length ring → get_or ring i 0 ≡ iter f i p
    unfolding iter
    ring_at zero h = s.begins
    ring_at (suc i) h = ap (λ (m : ℕ). get_or ring m 0) (sym (add-one i)) ∙ s.follows i (omega arith) ∙ ap f (ring_at i (omega arith))

    ring_closes : iter f (length ring) p ≡ p
    unfolding iter
    ring_closes =
        ap (λ (m : ℕ). iter f m p) (let q : length ring ≡ suc (length ring - 1) = omega (arith, s.some) in q)
        ∙ ap f (sym (ring_at (length ring - 1) (omega (arith, s.some))))
        ∙ s.closes

    ring_least : (j : ℕ) → 1 ≤ j → j < length ring → iter f j p ≡ p → ⊥
    ring_least j a b e = s.distinct 0 j (omega arith) b (s.begins ∙ sym e ∙ sym (ring_at j b))

    module _ (P : ℕ) (stays : Stays f P) (h : p < P) where
      is_ring : RingOf f P p (length ring)
      is_ring = let w = within f P stays p (length ring) h s.some ring_closes in go w.0 w.1 (dec_lt (length ring) w.0)
        where
          go : (n : ℕ) → RingOf f P p n → Dec (length ring < n) → RingOf f P p (length ring)
          go n r (yes a) = absurd (r.least (length ring) s.some a ring_closes)
          go n r (no a) =
              let m : n < length ring → ⊥ = λ b. ring_least n r.some b r.closes in
              record { some = s.some; bounded = omega (arith, r.bounded); closes = ring_closes; least = ring_least }

      -- a ring from p on is the one that is computed
      pub ring_only : ring ≡ ring_of f P p
      ring_only =
          let e = ring_length_lem f P p (length ring) is_ring in
          ext_get_or 0 ring (chain f (length ring) p) (sym (length_chain f (length ring) p)) (λ i a. ring_at i a ∙ sym (chain_at f (length ring) p i a))
          ∙ ap (λ (k : ℕ). chain f k p) (sym e)

-- the members of the ring of p are distinct, each is followed by the one it points to, and the last points to p
pub ring_members : (f : ℕ → ℕ) (P : ℕ) → Stays f P → (p : ℕ) → OnRing f P p → IsRing f p (ring_of f P p)
ring_members f P stays p o = ring_is f P p (ring_length f P p) (on_ring f P stays p o)

-- ---- who is on a ring with a full wait below a limit
module _ (f full : ℕ → ℕ) (P : ℕ) (stays : Stays f P) where
  ring_from : (limit p : ℕ) → on_ring_below f full P limit p ≡ true → RingOf f P p (ring_length f P p)
  unfolding chain
  ring_from limit p e = ⊎_elim (λ h. absurd (false≢true (sym (ap (λ (k : ℕ). some_below full limit (chain f k p)) h.0) ∙ e))) (λ r. r) (length_says f P p)

  pub relievable : (limit p : ℕ) → p < P → on_ring_below f full P limit p ≡ true → Relievable f full P limit p
  relievable limit p h e =
      let r = ring_from limit p e in
      let s = some_at full limit (ring_of f P p) e in
      let at = chain_at f (ring_length f P p) p s.0 (omega (arith, s.1, length_chain f (ring_length f P p) p)) in
      let b = below_says full limit (iter f s.0 p) (ap (Below full limit) (sym at) ∙ s.2) in
      record { ring = (h, ring_length f P p, r.some, r.closes); steps = s.0; waits = b.0; below = b.1 }

  pub found_ring : (limit p : ℕ) → Relievable f full P limit p → on_ring_below f full P limit p ≡ true
  found_ring limit p s =
      let k : ℕ = ring_length f P p in
      let r = on_ring f P stays p s.ring in
      let i = ring_reach f P p k r s.steps in
      let e : iter f s.steps p ≡ get_or (chain f k p) i.0 0 = i.2 ∙ sym (chain_at f k p i.0 i.1) in
      at_some full limit (chain f k p) i.0 (omega (arith, i.1, length_chain f k p))
      (ap (Below full limit) (sym e) ∙ says_below full limit (iter f s.steps p) s.waits s.below)

  -- each process on such a ring is
  pub relievable_on : (limit p j : ℕ) → Relievable f full P limit p → Relievable f full P limit (iter f j p)
  relievable_on limit p j s =
      let k : ℕ = ring_length f P p in
      let r = on_ring f P stays p s.ring in
      let i = ring_reach f P p k r j in
      let m = ring_around f P p k r i.0 s.steps (omega (arith, i.1)) in
      let e : iter f s.steps p ≡ iter f m.0 (iter f j p) = sym m.1 ∙ ap (iter f m.0) (sym i.2) in
      record {
        ring = (rw i.2 (on f P stays p i.0 k (omega (arith, i.1)) (omega (arith, r.closes, s.ring.0))), k, r.some, ring_back f P p k r j);
        steps = m.0;
        waits = λ z. s.waits (ap full e ∙ z);
        below = omega (arith, s.below, ap full e);
      }

  -- ---- the ring that is taken
  module _ (chan : ℕ → ℕ) where
    -- of a ring from p on
    grows_least : (p : ℕ) (qs : List ℕ) → (full (least full chan p (p ∷ qs)) ≡ 0 → ⊥) → Grows full chan (p ∷ qs) (chan (least full chan p (p ∷ qs)))
    grows_least p qs n = go (least_in full chan (p ∷ qs) p)
      where
        m : ℕ
        m = least full chan p (p ∷ qs)

        at : (i : ℕ) → i < suc (length qs) → get_or (p ∷ qs) i 0 ≡ m → Grows full chan (p ∷ qs) (chan m)
        at i h e =
            record {
              place = i;
              there = h;
              waits = λ z. n (ap full (sym e) ∙ z);
              channel = ap chan e;
              least = λ j a b. subst (λ (x : ℕ). (full x < full (get_or (p ∷ qs) j 0)) ⊎ ((full x ≡ full (get_or (p ∷ qs) j 0)) × (chan m ≤ chan (get_or (p ∷ qs) j 0)))) (sym e) (least_each full chan (p ∷ qs) p j a b).1;
            }

        go : ◌⊎◌ (m ≡ p) ((i : ℕ) × (i < suc (length qs)) × (get_or (p ∷ qs) i 0 ≡ m)) → Grows full chan (p ∷ qs) (chan m)
        go (inl e) = at 0 (omega arith) (sym e)
        go (inr h) = at h.0 h.1 h.2

    taken : (p : ℕ) → p < P → on_ring_below f full P 256 p ≡ true → ((q : ℕ) → q < p → on_ring_below f full P 256 q ≡ false)
        → Taken f full chan P (ring_of f P p) (chan (least full chan p (ring_of f P p)))
    unfolding chain
    taken p h e before =
        record {
          process = p;
          relievable = s;
          first = first;
          listed = ring_is f P p (ring_length f P p) r;
          lowest = λ i a. low i (omega (arith, length_chain f (ring_length f P p) p)) (dec_lt (get_or (ring_of f P p) i 0) p);
          grows = subst (λ (xs : List ℕ). Grows full chan xs (chan (least full chan p xs))) (sym opened)
              (grows_least p (chain f (ring_length f P p - 1) (f p)) (least_below full 256 chan (p ∷ chain f (ring_length f P p - 1) (f p)) p (ap (some_below full 256) (sym opened) ∙ e)).0);
        }
      where
        s : Relievable f full P 256 p
        s = relievable 256 p h e

        r : RingOf f P p (ring_length f P p)
        r = ring_from 256 p e

        opened : ring_of f P p ≡ p ∷ chain f (ring_length f P p - 1) (f p)
        opened = ap (λ (k : ℕ). chain f k p) (let q : ring_length f P p ≡ suc (ring_length f P p - 1) = omega (arith, r.some) in q)

        first : (q : ℕ) → q < p → Relievable f full P 256 q → ⊥
        first q a t = true≢false (sym (found_ring 256 q t) ∙ before q a)

        low : (i : ℕ) → i < ring_length f P p → Dec (get_or (ring_of f P p) i 0 < p) → p ≤ get_or (ring_of f P p) i 0
        low i a (yes d) = absurd (first (get_or (ring_of f P p) i 0) d (subst (Relievable f full P 256) (sym (chain_at f (ring_length f P p) p i a)) (relievable_on 256 p i s)))
        low i a (no d) = omega arith

    -- it has at most as many processes as there are
    pub taken_short : (ring : List ℕ) (c : ℕ) → Taken f full chan P ring c → length ring ≤ P
    taken_short ring c t =
        rw (ring_only f t.process ring t.listed P stays t.relievable.ring.0, length_chain f (ring_length f P t.process) t.process) (length_short f P t.process)

    -- one channel grows
    grows_one : (ring : List ℕ) (c d : ℕ) → Grows full chan ring c → Grows full chan ring d → c ≡ d
    grows_one ring c d x y = go (x.least y.place y.there y.waits) (y.least x.place x.there x.waits)
      where
        go : ◌⊎◌ (full (get_or ring x.place 0) < full (get_or ring y.place 0)) ((full (get_or ring x.place 0) ≡ full (get_or ring y.place 0)) × (c ≤ chan (get_or ring y.place 0)))
            → ◌⊎◌ (full (get_or ring y.place 0) < full (get_or ring x.place 0)) ((full (get_or ring y.place 0) ≡ full (get_or ring x.place 0)) × (d ≤ chan (get_or ring x.place 0)))
            → c ≡ d
        go (inl a) (inl b) = omega arith
        go (inl a) (inr b) = omega (arith, b.0)
        go (inr a) (inl b) = omega (arith, a.0)
        go (inr a) (inr b) = omega (arith, a.1, b.1, x.channel, y.channel)

    -- ---- exactly
    abbrev low_first : ℕ
    low_first = first_from (on_ring_below f full P 256) 0 P

    abbrev any_first : ℕ
    any_first = first_from (on_ring_below f full P 257) 0 P

    search_is : (s t : Bool) → ltb low_first P ≡ s → ltb any_first P ≡ t
        → search f full chan P ≡ cond s (found (ring_of f P low_first) (chan (least full chan low_first (ring_of f P low_first)))) (cond t ceiling no_ring)
    unfolding search
    search_is s t a b = rw (a, b)

    abbrev kind : Found → ℕ
    kind no_ring = 0
    kind ceiling = 1
    kind (found ring c) = 2

    -- by what the search answers: where the first process of either kind is
    Low : Type 0
    Low = (low_first < P) × (search f full chan P ≡ found (ring_of f P low_first) (chan (least full chan low_first (ring_of f P low_first))))

    High : Type 0
    High = (P ≤ low_first) × (any_first < P) × (search f full chan P ≡ ceiling)

    None : Type 0
    None = (P ≤ low_first) × (P ≤ any_first) × (search f full chan P ≡ no_ring)

    answers : Low ⊎ (High ⊎ None)
    unfolding Low High None
    answers = go (ltb low_first P) (ltb any_first P) refl refl
      where
        go : (s t : Bool) → ltb low_first P ≡ s → ltb any_first P ≡ t → Low ⊎ (High ⊎ None)
        go true t a b = inl (ltb-true low_first P a, search_is true t a b)
        go false true a b = inr (inl (ltb-false low_first P a, ltb-true any_first P b, search_is false true a b))
        go false false a b = inr (inr (ltb-false low_first P a, ltb-false any_first P b, search_is false false a b))

    -- no process before the first is on such a ring
    not_before : (limit q : ℕ) → q < first_from (on_ring_below f full P limit) 0 P → Relievable f full P limit q → ⊥
    not_before limit q a t =
        true≢false (sym (found_ring limit q t) ∙ first_before (on_ring_below f full P limit) P 0 q (omega arith) a)

    -- the first is
    is_first : (limit : ℕ) → first_from (on_ring_below f full P limit) 0 P < P → Relievable f full P limit (first_from (on_ring_below f full P limit) 0 P)
    is_first limit h = relievable limit (first_from (on_ring_below f full P limit) 0 P) h (first_holds (on_ring_below f full P limit) P 0 (omega arith))

    no_ring_lem : (limit q : ℕ) → q < P → (Relievable f full P limit q → ⊥) → on_ring_below f full P limit q ≡ false
    no_ring_lem limit q h n = is_false (on_ring_below f full P limit q) (λ e. n (relievable limit q h e))

    -- "Among rings with a full wait on a channel below 256, the one with the lowest process number is taken; in it .."
    pub found_exactly : (ring : List ℕ) (c : ℕ) → (search f full chan P ≡ found ring c) ↔ Taken f full chan P ring c
    unfolding Low High None
    found_exactly ring c = ((λ e. says e answers), finds)
      where
        says : search f full chan P ≡ found ring c → ◌⊎◌ Low (High ⊎ None) → Taken f full chan P ring c
        says e (inl h) =
            let t = taken low_first h.0 (first_holds (on_ring_below f full P 256) P 0 (omega (arith, h.0))) (λ q a. first_before (on_ring_below f full P 256) P 0 q (omega arith) a) in
            let e₁ : ring_of f P low_first ≡ ring = cc (h.1, e) in
            let e₂ : chan (least full chan low_first (ring_of f P low_first)) ≡ c = cc (h.1, e) in
            subst (λ (x : ℕ). Taken f full chan P ring x) e₂ (subst (λ (xs : List ℕ). Taken f full chan P xs (chan (least full chan low_first (ring_of f P low_first)))) e₁ t)
        says e (inr (inl h)) = absurd (let z : 1 ≡ 2 = ap kind (sym h.2 ∙ e) in omega arith)
        says e (inr (inr h)) = absurd (let z : 0 ≡ 2 = ap kind (sym h.2 ∙ e) in omega arith)

        finds : Taken f full chan P ring c → search f full chan P ≡ found ring c
        finds t =
            let p : ℕ = t.process in
            let there : p < P = t.relievable.ring.0 in
            let on_p = found_ring 256 p t.relievable in
            let before : (q : ℕ) → q < p → on_ring_below f full P 256 q ≡ false = λ q a. no_ring_lem 256 q (omega arith) (t.first q a) in
            let at : low_first ≡ p = first_is (on_ring_below f full P 256) P 0 p (omega arith) (omega arith) on_p (λ q l a. before q a) in
            let r : ring ≡ ring_of f P p = ring_only f p ring t.listed P stays there in
            let k = taken p there on_p before in
            let g : chan (least full chan p (ring_of f P p)) ≡ c = grows_one (ring_of f P p) _ c k.grows (subst (λ (xs : List ℕ). Grows full chan xs c) r t.grows) in
            search_is true (ltb any_first P) (lt-ltb low_first P (omega arith)) refl
            ∙ rw (at, g, ← r)

    -- ---- a capacity is at most 256
    module _ (high : (q : ℕ) → full q ≤ 256) where
      any_ring : (p : ℕ) → OnFullRing f full P p → Relievable f full P 257 p
      any_ring p s = record { ring = s.ring; steps = s.steps; waits = s.waits; below = omega (arith, high (iter f s.steps p)) }

      ring_any : (limit p : ℕ) → Relievable f full P limit p → OnFullRing f full P p
      ring_any limit p s = record { ring = s.ring; steps = s.steps; waits = s.waits }

      -- 13: "no ring with a full wait"
      pub none_exactly : (search f full chan P ≡ no_ring) ↔ ((p : ℕ) → OnFullRing f full P p → ⊥)
      unfolding Low High None
      none_exactly = ((λ e. says e answers), λ n. finds n answers)
        where
          says : search f full chan P ≡ no_ring → ◌⊎◌ Low (High ⊎ None) → (p : ℕ) → OnFullRing f full P p → ⊥
          says e (inl h) = absurd (let z : 2 ≡ 0 = ap kind (sym h.1 ∙ e) in omega arith)
          says e (inr (inl h)) = absurd (let z : 1 ≡ 0 = ap kind (sym h.2 ∙ e) in omega arith)
          says e (inr (inr h)) = λ p s. not_before 257 p (omega (arith, h.1, s.ring.0)) (any_ring p s)

          finds : ((p : ℕ) → OnFullRing f full P p → ⊥) → ◌⊎◌ Low (High ⊎ None) → search f full chan P ≡ no_ring
          finds n (inl h) = absurd (n low_first (ring_any 256 low_first (is_first 256 h.0)))
          finds n (inr (inl h)) = absurd (n any_first (ring_any 257 any_first (is_first 257 h.1)))
          finds n (inr (inr h)) = h.2

      -- 14: "such rings, all those channels at 256"
      pub ceiling_exactly :
          (search f full chan P ≡ ceiling)
          ↔ (((p : ℕ) × OnFullRing f full P p) × ((p : ℕ) → OnRing f P p → (k : ℕ) → (full (iter f k p) ≡ 0 → ⊥) → full (iter f k p) ≡ 256))
      unfolding Low High None
      ceiling_exactly = ((λ e. says e answers), λ n. finds n answers)
        where
          full_up : P ≤ low_first → (p : ℕ) → OnRing f P p → (k : ℕ) → (full (iter f k p) ≡ 0 → ⊥) → Dec (full (iter f k p) < 256) → full (iter f k p) ≡ 256
          full_up h p o k n (yes d) = absurd (not_before 256 p (omega (arith, o.0)) (record { ring = o; steps = k; waits = n; below = d }))
          full_up h p o k n (no d) = omega (arith, high (iter f k p))

          says : search f full chan P ≡ ceiling → ◌⊎◌ Low (High ⊎ None)
              → ((p : ℕ) × OnFullRing f full P p) × ((p : ℕ) → OnRing f P p → (k : ℕ) → (full (iter f k p) ≡ 0 → ⊥) → full (iter f k p) ≡ 256)
          says e (inl h) = absurd (let z : 2 ≡ 1 = ap kind (sym h.1 ∙ e) in omega arith)
          says e (inr (inl h)) =
              ((any_first, ring_any 257 any_first (is_first 257 h.1)), λ p o k n. full_up h.0 p o k n (dec_lt (full (iter f k p)) 256))
          says e (inr (inr h)) = absurd (let z : 0 ≡ 1 = ap kind (sym h.2 ∙ e) in omega arith)

          finds : ((p : ℕ) × OnFullRing f full P p) × ((p : ℕ) → OnRing f P p → (k : ℕ) → (full (iter f k p) ≡ 0 → ⊥) → full (iter f k p) ≡ 256)
              → ◌⊎◌ Low (High ⊎ None)
              → search f full chan P ≡ ceiling
          finds t (inl h) =
              let s = is_first 256 h.0 in
              absurd (let z = t.1 low_first s.ring s.steps s.waits in omega (arith, s.below))
          finds t (inr (inl h)) = h.2
          finds t (inr (inr h)) = absurd (not_before 257 t.0.0 (omega (arith, h.1, t.0.1.ring.0)) (any_ring t.0.0 t.0.1))

-- ---- where no process has a full wait the search finds none
pub search_idle : (f full chan : ℕ → ℕ) (P : ℕ) → Stays f P → ((q : ℕ) → q < P → full q ≡ 0) → search f full chan P ≡ no_ring
search_idle f full chan P stays idle =
    search_same f P stays full (λ q. 0) chan chan idle (λ q h. refl) ∙ (none_exactly f (λ q. 0) P stays chan (λ q. omega arith)).1 (λ p o. o.waits refl)
