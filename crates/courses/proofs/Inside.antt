-- A pick and a relief inside a run or a drive are steps: with the same states, moves and enlargements.
-- Assumes nothing.
use mathlib.Core.Path.{◌≡◌, refl, sym, ap, ◌∙◌}
use mathlib.Core.Bool.{Bool, true, false, cond}
use mathlib.Core.List.{List, [], ◌∷◌, ◌++◌}
use Prim.Native.Nat.{ℕ, ◌+◌, ◌≤◌, ◌<◌}
use native.Mathlib.Omega.{arith}
use lib.ListN.{length, replicate, length-replicate}
use borrow.Author.Tests.{lt-ltb, le-ltb, eq-eqb}
use Rattle.network.specs.declared.Network.{Network}
use Rattle.network.proofs.Passed.{passed}
use Rattle.process.specs.declared.Outcome.{Outcome}
use Rattle.process.specs.declared.Outcome.TheVariants.{Moved, Sent, Halted, WaitEmpty, WaitFull, Ended}
use Rattle.lane.specs.declared.Lane.{Lane}
use Rattle.lane.specs.State.{World, world}
use Rattle.lane.specs.Sound.{sound_of}
use Rattle.lane.specs.Pick.{step_for, has_moved}
use Rattle.lane.specs.Calls.{Called, answer_to, picked, pick_of}
use Rattle.lane.proofs.SoundLaws.{sound_says}
use Rattle.rings.specs.Rings.{Found, no_ring, ceiling, found}
use Rattle.rings.proofs.Rule.{taken_short}
use Rattle.waits.specs.Waits.{pointing, full_wait, waits_at}
use Rattle.relief.specs.Relief.{Relief, found_in, settled, relieve_of}
use Rattle.relief.proofs.Relieving.{pointing_stays, lane_found}
use Rattle.schedule.specs.Running.{Running, picks, relief_in, has_grown, relieves}
use Rattle.schedule.proofs.Ready.{Ready, ready_kept}
use Rattle.kahn.specs.Calls.{pick, told, apply, was_moved, count_one}
use Rattle.kahn.specs.Steps.{Step, call, inner_relief, is_found, enlarged_by, relieved_lane, enlarges, after, moved_in, grown_in}
use Rattle.kahn.proofs.Lists.{after_append, moved_append, grown_append, steps_kept}

-- ---- a sound lane of a network, with its cells, stays one through any steps
pub ready_steps : (n : Network) (ss : List Step) (w : World) → Ready n w → Ready n (after ss w)
ready_steps n ss w t = ready_kept n w (after ss w) (steps_kept ss w t.shaped) t

-- ---- a relief with sixteen places, which are room for any ring
ring_few : (l : Lane) → sound_of l ≡ true → (ring : List ℕ) (c : ℕ) → found_in l ≡ found ring c → length ring ≤ 16
ring_few l e ring c q =
    let s = sound_says l e in
    omega (
      arith,
      taken_short (pointing l) (full_wait l) l.network.processes (pointing_stays l s) (waits_at l) ring c ((lane_found l e ring c).0 q),
      (passed l.network s.passed).processes_high,
    )

-- what a relief with that room answers and leaves
record With (l : Lane) (r : Relief) : Type 0 where
  lane : relieved_lane l ≡ r.lane
  grows : enlarges l ≡ has_grown r.answer

with_room : (l : Lane) → With l (relieve_of l (replicate 16 0))
unfolding relieve_of relieved_lane enlarges
with_room l = at (sound_of l) refl
  where
    by : (o : Found) → sound_of l ≡ true → found_in l ≡ o
        → (enlarged_by o l ≡ (settled o l (replicate 16 0)).lane) × (is_found o ≡ has_grown (settled o l (replicate 16 0)).answer)
    by no_ring s e = (refl, refl)
    by ceiling s e = (refl, refl)
    by (found ring c) s e =
        let f = le-ltb (length {A = ℕ} (replicate 16 0)) (length ring) (omega (arith, ring_few l s ring c e, length-replicate {A = ℕ} 16 0)) in
        (rw f, rw f)

    at : (t : Bool) → sound_of l ≡ t → With l (relieve_of l (replicate 16 0))
    at true s = let b = by (found_in l) s refl in record { lane = rw s b.0; grows = rw s b.1 }
    at false s = record { lane = rw s; grows = rw s }

pub relieved_is : (l : Lane) → relieved_lane l ≡ (relieve_of l (replicate 16 0)).lane
relieved_is l = (with_room l).lane

pub enlarges_is : (l : Lane) → enlarges l ≡ has_grown (relieve_of l (replicate 16 0)).answer
enlarges_is l = (with_room l).grows

-- on a sound lane
pub bare : (l : Lane) → sound_of l ≡ true → relieve_of l (replicate 16 0) ≡ settled (found_in l) l (replicate 16 0)
unfolding relieve_of
bare l s = rw s

-- ---- one running on to another by steps
pub record Makes (ss : List Step) (r r' : Running) : Type 0 where
  pub world : r'.world ≡ after ss r.world
  pub moved : r'.moved ≡ r.moved + moved_in ss r.world
  pub grown : r'.grown ≡ r.grown + grown_in ss r.world

pub makes_none : (r : Running) → Makes [] r r
makes_none r = record { world = refl; moved = omega arith; grown = omega arith }

pub makes_both : (xs ys : List Step) (r r' r'' : Running) → Makes xs r r' → Makes ys r' r'' → Makes (xs ++ ys) r r''
makes_both xs ys r r' r'' a b =
    record {
      world = b.world ∙ ap (after ys) a.world ∙ sym (after_append xs ys r.world);
      moved = omega (arith, b.moved, a.moved, moved_append xs ys r.world, ap (moved_in ys) a.world);
      grown = omega (arith, b.grown, a.grown, grown_append xs ys r.world, ap (grown_in ys) a.world);
    }

-- ---- a relief
counted : (t : Bool) (m : ℕ) → cond t (m + 1) m ≡ m + (count_one t + 0)
counted true m = omega arith
counted false m = omega arith

pub makes_relief : (r : Running) → Makes (inner_relief ∷ []) r (relieves r)
unfolding relieves
makes_relief r =
    record {
      world = ap (λ (l : Lane). world l r.world.cells) (sym (relieved_is r.world.lane));
      moved = omega arith;
      grown = counted (has_grown (relief_in r.world)) r.grown ∙ ap (λ (t : Bool). r.grown + (count_one t + 0)) (sym (enlarges_is r.world.lane));
    }

-- ---- a pick
pub picked_there : (n : Network) (w : World) (p : ℕ) → Ready n w → p < n.processes → pick_of p w ≡ picked p w
unfolding pick_of
picked_there n w p s h = rw (eq-eqb (length w.cells) 8192 s.long, s.sound, s.same, lt-ltb p n.processes h)

pub moved_as : (o : Outcome) (c : ℕ) → was_moved (told (answer_to o c)) ≡ has_moved o
moved_as Moved c = refl
moved_as (Sent v) c = refl
moved_as Halted c = refl
moved_as WaitEmpty c = refl
moved_as WaitFull c = refl
moved_as Ended c = refl

module _ (n : Network) where
  pub makes_pick : (p : ℕ) (r : Running) → Ready n r.world → p < n.processes → Makes (call (pick p) ∷ []) r (picks p r)
  unfolding picks apply
  makes_pick p r s h =
      let e = picked_there n r.world p s h in
      record {
        world = ap (λ (x : Called). x.world) (sym e);
        moved =
            counted (has_moved (step_for p r.world).outcome) r.moved
            ∙ ap (λ (t : Bool). r.moved + (count_one t + 0)) (sym (moved_as (step_for p r.world).outcome _))
            ∙ ap (λ (x : Called). r.moved + (count_one (was_moved (told x.answer)) + 0)) (sym e);
        grown = omega arith;
      }
