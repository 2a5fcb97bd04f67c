-- Where no process waits for room on a channel to a process, no ring has a full wait: a relief is refused with 13, and nothing need be searched for.
-- Assumes nothing.
use mathlib.Core.Path.{◌≡◌, refl, sym, ap, ◌∙◌}
use mathlib.Core.Bool.{Bool, true, false, not, ◌&&◌, ◌||◌, true≢false}
use mathlib.Core.List.{List}
use Prim.Native.Nat.{ℕ, zero, suc, ◌+◌, ◌<◌}
use native.Mathlib.Omega.{arith}
use borrow.Author.Tests.{ne_eqb}
use lib.Dec.{eqb}
use Rattle.network.specs.Rules.{outside}
use Rattle.network.proofs.Passed.{passed}
use Rattle.lane.specs.declared.Lane.{Lane}
use Rattle.lane.specs.Sound.{sound_of}
use Rattle.lane.proofs.SoundLaws.{sound_says}
use Rattle.waits.specs.Waits.{pointing, full_wait}
use Rattle.waits.specs.Parts.{wants_room, some_wants_room}
use Rattle.rings.specs.Rings.{iter, OnRing, ring_length, no_ring}
use Rattle.rings.proofs.Pointings.{Stays}
use Rattle.rings.proofs.Circles.{on, on_ring, ring_reach}
use Rattle.relief.specs.Relief.{refused, relief, found_in, relieve_of}
use Rattle.relief.proofs.Relieving.{pointing_stays, lane_none}

-- a process on a ring leads to processes alone
pub ring_inside : (f : ℕ → ℕ) (P : ℕ) → Stays f P → (p : ℕ) → OnRing f P p → (k : ℕ) → iter f k p < P
ring_inside f P stays p ring k =
    let r = on_ring f P stays p ring in
    let j = ring_reach f P p (ring_length f P p) r k in
    let l = on f P stays p j.0 (ring_length f P p) (omega (arith, j.1)) (omega (arith, r.closes, ring.0)) in
    omega (arith, l, j.2)

-- of the n processes from p on none wants room, so neither does the k-th of them
none_of : (l : Lane) (n p k : ℕ) → k < n → some_wants_room l p n ≡ false → wants_room l (p + k) ≡ false
unfolding some_wants_room
none_of l zero p k h e = absurd (omega arith)
none_of l (suc n) p zero h e = go (wants_room l p) (some_wants_room l (suc p) n) (ap (wants_room l) (omega arith)) e
  where
    go : (a b : Bool) → wants_room l (p + 0) ≡ a → (a || b) ≡ false → wants_room l (p + 0) ≡ false
    go true b q e = q ∙ e
    go false b q e = q
none_of l (suc n) p (suc k) h e = ap (wants_room l) (omega arith) ∙ none_of l n (suc p) k (omega arith) (go (wants_room l p) (some_wants_room l (suc p) n) e)
  where
    go : (a b : Bool) → (a || b) ≡ false → b ≡ false
    go true true e = e
    go true false e = refl
    go false b e = e

module _ (l : Lane) (sound : sound_of l ≡ true) (none : some_wants_room l 0 l.network.processes ≡ false) where
  -- one that waits for room and points to a process would want it
  unwanted : (q : ℕ) → q < l.network.processes → (full_wait l q ≡ 0 → ⊥) → pointing l q < l.network.processes → ⊥
  unwanted q h n i =
      let high = (passed l.network (sound_says l sound).passed).processes_high in
      let a = ne_eqb (full_wait l q) 0 n in
      let b = ne_eqb (pointing l q) outside (λ z. omega (arith, z, high, i)) in
      let t : (not (eqb (full_wait l q) 0) && not (eqb (pointing l q) outside)) ≡ true = rw (a, b) in
      true≢false (sym t ∙ ap (wants_room l) (omega arith) ∙ none_of l l.network.processes 0 q h none)

  no_ring_lem : found_in l ≡ no_ring
  unfolding iter
  no_ring_lem =
      (lane_none l sound).1
      (λ p t.
      let P : ℕ = l.network.processes in
      let inside = ring_inside (pointing l) P (pointing_stays l (sound_says l sound)) p t.ring in
      unwanted (iter (pointing l) t.steps p) (inside t.steps) t.waits (inside (suc t.steps)))

  pub unwanted_relief : (buffer : List ℕ) → relieve_of l buffer ≡ relief (refused 13) l buffer
  unfolding relieve_of
  unwanted_relief buffer = rw (sound, no_ring_lem)
