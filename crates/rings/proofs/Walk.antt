-- A walk along the pointings from a process on a ring, and the search that makes one from each process left in turn: what the search's two loops keep.
-- Assumes nothing.
use mathlib.Core.Path.{◌≡◌, refl, sym, ap, ◌∙◌}
use mathlib.Core.Bool.{Bool, true, false, cond, not, ◌&&◌, ◌||◌}
use mathlib.Core.List.{List, ◌∷◌}
use Prim.Native.Nat.{ℕ, suc, ◌+◌, ◌-◌, ◌≤◌, ◌<◌}
use native.Mathlib.Decide.{ℕ_discrete, dec_lt}
use native.Mathlib.Numerals.{add-one}
use native.Mathlib.Omega.{arith}
use borrow.Author.Tests.{lt-ltb, le-ltb}
use lib.Dec.{eqb, ltb}
use lib.ListN.{length, take, set, length-set}
use lib.Seq.{take-suc-set}
use Rattle.base.proofs.Conjunction.{or_true, or_false}
use Rattle.rings.specs.Rings.{iter, ring_length, chain, ring_of, some_below, lesser, least, on_ring_below, first_from, no_ring, ceiling, found, search}
use Rattle.rings.proofs.Least.{least_more, some_least}
use Rattle.rings.proofs.First as first
use Rattle.rings.proofs.Pointings.{chain_more, Stays}
use Rattle.rings.proofs.Circles.{RingOf, on}

-- ---- a walk from start, on a ring, that has passed n processes, which stand in ring, and is at one that it has not passed; of the full waits of those
-- passed and of that one the one to relieve has this capacity and this channel
pub record Trail (f full chan : ℕ → ℕ) (P : ℕ) (ring : List ℕ) (start at n capacity channel : ℕ) : Type 0 where
  pub begun : start < P
  pub around : RingOf f P start (ring_length f P start)
  pub short : n < ring_length f P start
  pub there : at ≡ iter f n start
  pub inside : at < P
  pub size : length ring ≡ 16
  pub listed : take n ring ≡ chain f n start
  pub room : capacity ≡ full (least full chan start (chain f (n + 1) start))
  pub number : channel ≡ chan (least full chan start (chain f (n + 1) start))

-- a choice of two values is the value of the choice
value_of : (g : ℕ → ℕ) (b : Bool) (p q : ℕ) → cond b (g p) (g q) ≡ g (cond b p q)
value_of g true p q = refl
value_of g false p q = refl

module _ (f full chan : ℕ → ℕ) (P : ℕ) (small : P ≤ 16) where
  either_way : (b : Bool) (p : ℕ) → p ≡ cond b p p
  either_way true p = refl
  either_way false p = refl

  pub trail_start : (ring : List ℕ) (start : ℕ) → start < P → RingOf f P start (ring_length f P start) → length ring ≡ 16
      → Trail f full chan P ring start start 0 (full start) (chan start)
  unfolding iter chain
  trail_start ring start h r e =
      record {
        begun = h;
        around = r;
        short = r.some;
        there = refl;
        inside = h;
        size = e;
        listed = refl;
        room = ap full (either_way (lesser (full start) (chan start) (full start) (chan start)) start);
        number = ap chan (either_way (lesser (full start) (chan start) (full start) (chan start)) start);
      }

  module _ (ring : List ℕ) (start at n capacity channel : ℕ) (t : Trail f full chan P ring start at n capacity channel) where
    pub trail_low : n < 16
    trail_low = omega (arith, t.short, t.around.bounded)

    -- the walk led on to `to`
    module _ (to : ℕ) (et : f at ≡ to) where
      steps : iter f (n + 1) start ≡ to
      unfolding iter
      steps = rw (add-one, ← t.there) et

      wrote : take (n + 1) (set ring n at) ≡ chain f (n + 1) start
      wrote = rw (add-one, take-suc-set ring n at (omega (arith, t.size, trail_low)), t.listed, chain_more f n start, t.there)

      -- which is inside
      pub trail_inside : Stays f P → to < P
      trail_inside stays =
          omega (arith, steps, on f P stays start (n + 1) (ring_length f P start) (omega (arith, t.short)) (omega (arith, t.begun, t.around.closes)))

      -- it is not back yet; of all these full waits this is the one to relieve
      module _ (capacity' channel' : ℕ) (ec : capacity' ≡ cond (lesser (full to) (chan to) capacity channel) (full to) capacity)
          (en : channel' ≡ cond (lesser (full to) (chan to) capacity channel) (chan to) channel) where
        best : least full chan start (chain f (n + 1 + 1) start)
            ≡ cond (lesser (full to) (chan to) capacity channel) to (least full chan start (chain f (n + 1) start))
        best =
            rw (add-one (n + 1), chain_more f (n + 1) start, least_more full chan (chain f (n + 1) start) start (iter f (n + 1) start), steps, ← t.room, ← t.number)

        room' : capacity' ≡ full (least full chan start (chain f (n + 1 + 1) start))
        room' =
            ec ∙ ap (cond (lesser (full to) (chan to) capacity channel) (full to)) t.room
            ∙ value_of full (lesser (full to) (chan to) capacity channel) to (least full chan start (chain f (n + 1) start)) ∙ ap full (sym best)

        number' : channel' ≡ chan (least full chan start (chain f (n + 1 + 1) start))
        number' =
            en ∙ ap (cond (lesser (full to) (chan to) capacity channel) (chan to)) t.number
            ∙ value_of chan (lesser (full to) (chan to) capacity channel) to (least full chan start (chain f (n + 1) start)) ∙ ap chan (sym best)

        pub trail_step : Stays f P → (to ≡ start → ⊥) → Trail f full chan P (set ring n at) start to (n + 1) capacity' channel'
        trail_step stays ne =
            record {
              begun = t.begun;
              around = t.around;
              short = on_more (ℕ_discrete (n + 1) (ring_length f P start));
              there = sym steps;
              inside = trail_inside stays;
              size = length-set ring n at ∙ t.size;
              listed = wrote;
              room = room';
              number = number';
            }
          where
            on_more : Dec (n + 1 ≡ ring_length f P start) → n + 1 < ring_length f P start
            on_more (yes e) = absurd (ne (sym steps ∙ ap (λ (k : ℕ). iter f k start) e ∙ t.around.closes))
            on_more (no e) = omega (arith, t.short)

      -- it is back: the ring, and of its full waits the one to relieve
      module _ (e : to ≡ start) where
        closed : ring_length f P start ≡ n + 1
        closed = go (dec_lt (n + 1) (ring_length f P start))
          where
            go : Dec (n + 1 < ring_length f P start) → ring_length f P start ≡ n + 1
            go (yes l) = absurd (t.around.least (n + 1) (omega arith) l (steps ∙ e))
            go (no l) = omega (arith, t.short)

        pub trail_ring : ring_of f P start ≡ take (n + 1) (set ring n at)
        trail_ring = ap (λ (k : ℕ). chain f k start) closed ∙ sym wrote

        pub trail_grows : chan (least full chan start (ring_of f P start)) ≡ channel
        trail_grows = ap (λ (k : ℕ). chan (least full chan start (chain f k start))) closed ∙ sym t.number

        pub trail_room : full (least full chan start (ring_of f P start)) ≡ capacity
        trail_room = ap (λ (k : ℕ). full (least full chan start (chain f k start))) closed ∙ sym t.room

-- on a ring with a full wait below a capacity is who is on a ring where the one to relieve is below it
pub ring_below : (f full chan : ℕ → ℕ) (P start limit capacity : ℕ) → RingOf f P start (ring_length f P start)
    → capacity ≡ full (least full chan start (ring_of f P start)) → on_ring_below f full P limit start ≡ (not (eqb capacity 0) && ltb capacity limit)
unfolding chain
ring_below f full chan P start limit capacity r e =
    let n = ring_length f P start - 1 in
    let closed : ring_length f P start ≡ suc n = omega (arith, r.some) in
    let c : ring_of f P start ≡ start ∷ chain f n (f start) = ap (λ (k : ℕ). chain f k start) closed in
    ap (some_below full limit) c ∙ some_least full limit chan (chain f n (f start)) start
    ∙ ap (λ (k : ℕ). not (eqb k 0) && ltb k limit) (ap (λ (l : List ℕ). full (least full chan start l)) (sym c) ∙ sym e)

-- no walk led back: no ring
pub off_ring : (f full : ℕ → ℕ) (P limit start : ℕ) → ring_length f P start ≡ 0 → on_ring_below f full P limit start ≡ false
unfolding chain
off_ring f full P limit start e = rw e

-- ---- the search before process start: no process before it is on a ring with a full wait below 256, and `high` says whether one is on a ring with
-- any full wait
pub record Passed (f full : ℕ → ℕ) (P : ℕ) (start : ℕ) (high : Bool) : Type 0 where
  pub within : start ≤ P
  pub below : first_from (on_ring_below f full P 256) start (P - start) ≡ first_from (on_ring_below f full P 256) 0 P
  pub ceiling : (high || ltb (first_from (on_ring_below f full P 257) start (P - start)) P) ≡ ltb (first_from (on_ring_below f full P 257) 0 P) P

module _ (f full : ℕ → ℕ) (P : ℕ) where
  pub passed_none : Passed f full P 0 false
  passed_none =
      record {
        within = omega arith;
        below = ap (first_from (on_ring_below f full P 256) 0) (omega arith);
        ceiling = ap (λ (k : ℕ). ltb (first_from (on_ring_below f full P 257) 0 k) P) (omega arith);
      }

  module _ (start : ℕ) (high : Bool) (s : Passed f full P start high) (more : start < P) where
    higher : (t : Bool) → on_ring_below f full P 257 start ≡ t
        → ((high || t) || ltb (first_from (on_ring_below f full P 257) (start + 1) (P - (start + 1))) P) ≡ ltb (first_from (on_ring_below f full P 257) 0 P) P
    higher true e =
        let z : ltb (first_from (on_ring_below f full P 257) start (P - start)) P ≡ true = rw (first.stop (on_ring_below f full P 257) start P more e) (lt-ltb start P more) in
        rw (or_true high) (sym (or_true high) ∙ (rw z at s.ceiling))
    higher false e = rw (or_false high, first.on (on_ring_below f full P 257) start P more e) s.ceiling

    -- process start is not on a ring with a full wait below 256
    pub passed_more : (high' : Bool) → on_ring_below f full P 256 start ≡ false → high' ≡ (high || on_ring_below f full P 257 start)
        → Passed f full P (start + 1) high'
    passed_more high' e h =
        record {
          within = omega arith;
          below = first.on (on_ring_below f full P 256) start P more e ∙ s.below;
          ceiling = rw h (higher (on_ring_below f full P 257 start) refl);
        }

    -- it is on no ring
    pub passed_off : ring_length f P start ≡ 0 → Passed f full P (start + 1) high
    passed_off e =
        passed_more high (off_ring f full P 256 start e) (sym (or_false high) ∙ ap (λ (t : Bool). high || t) (sym (off_ring f full P 257 start e)))

    -- it is on one
    pub search_found : (chan : ℕ → ℕ) → on_ring_below f full P 256 start ≡ true → search f full chan P ≡ found (ring_of f P start) (chan (least full chan start (ring_of f P start)))
    unfolding search
    search_found chan e =
        let q : first_from (on_ring_below f full P 256) 0 P ≡ start = sym s.below ∙ first.stop (on_ring_below f full P 256) start P more e in
        rw (q, lt-ltb start P more)

  -- all are passed
  pub search_none : (chan : ℕ → ℕ) (start : ℕ) (high : Bool) → Passed f full P start high → P ≤ start → cond high ceiling no_ring ≡ search f full chan P
  unfolding search
  search_none chan start high s h =
      let low : P ≤ first_from (on_ring_below f full P 256) 0 P = omega (arith, s.below, first.over (on_ring_below f full P 256) start P h) in
      let all : ltb (first_from (on_ring_below f full P 257) 0 P) P ≡ high =
      sym s.ceiling ∙ ap (λ (t : Bool). high || t) (le-ltb _ P (omega (arith, first.over (on_ring_below f full P 257) start P h))) ∙ or_false high in
      rw (le-ltb (first_from (on_ring_below f full P 256) 0 P) P low, all)
