-- Relief of a lane. A process waits exactly where a pick would answer so; and what relief answers on a sound lane, 13, 14, 15 or a ring and its
-- channel, is exactly what document 01 says, with no search in it.
-- Assumes nothing.
use mathlib.Core.Path.{◌≡◌, refl, sym, ap, ◌∙◌, subst}
use mathlib.Core.Logic.{◌↔◌, inl, inr}
use mathlib.Core.Bool.{Bool, true, false, cond, not}
use mathlib.Core.List.{List, [], ◌++◌}
use Prim.Native.Nat.{ℕ, ◌%◌, ◌≤◌, ◌<◌}
use native.Mathlib.Decide.{dec_lt}
use native.Mathlib.Omega.{arith}
use borrow.Author.Tests.{lt-ltb, le-ltb, ltb-true, ltb-false, eq-eqb}
use lib.Dec.{ltb}
use lib.ListN.{length, drop}
use Rattle.network.specs.Rules.{outside}
use Rattle.network.proofs.Passed.{passed}
use Rattle.process.specs.declared.Outcome.{Outcome}
use Rattle.process.specs.declared.Outcome.TheVariants.{Moved, Sent, Halted, WaitEmpty, WaitFull, Ended}
use Rattle.lane.specs.declared.Lane.{Lane}
use Rattle.lane.specs.State.{World, world, channel_of}
use Rattle.lane.specs.Sound.{sound_of}
use Rattle.lane.specs.Pick.{channel_in, instruction_for, step_for}
use Rattle.lane.specs.Calls as calls
use Rattle.lane.proofs.SoundLaws.{Sound, sound_says}
use Rattle.waits.specs.Waits.{Wait, free, for_message, for_room, wait_in, wait_of, room_in, pointing, full_wait, waits_at}
use Rattle.rings.specs.Rings.{iter, OnRing, Found, no_ring, ceiling, found}
use Rattle.rings.specs.Taken.{OnFullRing, Taken}
use Rattle.rings.specs.Left.{left_of}
use Rattle.relief.specs.Relief.{Told, enlarged, refused, NoOther, relief, found_in, grown, settled, relieve_of}
use Rattle.rings.proofs.Pointings.{Stays}
use Rattle.waits.proofs.WaitLaws.{wait_any}
use Rattle.rings.proofs.Stripping.{left_exactly}
use Rattle.rings.proofs.Rule.{taken_short, found_exactly, none_exactly, ceiling_exactly}

-- ---- a sound lane is as the laws of rings want it
module _ (l : Lane) (s : Sound l) where
  -- no pointing leads on from what is no process
  pub pointing_stays : Stays (pointing l) l.network.processes
  unfolding pointing
  pointing_stays p h = rw (le-ltb p l.network.processes h) (omega (arith, (passed l.network s.passed).processes_high))

  -- and what is no process is on no ring: outside points to outside
  pub no_ring_outside : OnRing (pointing l) l.network.processes outside → ⊥
  no_ring_outside o = omega (arith, o.0, (passed l.network s.passed).processes_high)

  room_high : (c : ℕ) → c < 32 → (channel_of l c).capacity ≤ 256
  room_high c h = go (dec_lt c l.network.channels)
    where
      go : Dec (c < l.network.channels) → (channel_of l c).capacity ≤ 256
      go (yes m) = (s.channels c m).high
      go (no m) = rw (s.unused c (omega arith) h) (omega arith)

  -- a capacity is at most 256
  pub full_high : (p : ℕ) → full_wait l p ≤ 256
  unfolding full_wait wait_of
  full_high p = go (step_for p (world l [])).outcome (instruction_for p l).b
    where
      go : (o : Outcome) (b : ℕ) → room_in l (wait_in o (b % 32)) ≤ 256
      go Moved b = omega arith
      go (Sent v) b = omega arith
      go Halted b = omega arith
      go WaitEmpty b = omega arith
      go WaitFull b = room_high (b % 32) (omega arith)
      go Ended b = omega arith

-- ---- the ring and channel of a sound lane
module _ (l : Lane) (e : sound_of l ≡ true) where
  -- stripping its processes leaves "exactly the processes on rings"
  pub lane_left : (p : ℕ) → (left_of (pointing l) l.network.processes p ≡ true) ↔ OnRing (pointing l) l.network.processes p
  lane_left = left_exactly (pointing l) l.network.processes (pointing_stays l (sound_says l e))

  pub lane_found : (ring : List ℕ) (c : ℕ) → (found_in l ≡ found ring c) ↔ Taken (pointing l) (full_wait l) (waits_at l) l.network.processes ring c
  lane_found = found_exactly (pointing l) (full_wait l) l.network.processes (pointing_stays l (sound_says l e)) (waits_at l)

  pub lane_none : (found_in l ≡ no_ring) ↔ ((p : ℕ) → OnFullRing (pointing l) (full_wait l) l.network.processes p → ⊥)
  lane_none =
      none_exactly (pointing l) (full_wait l) l.network.processes (pointing_stays l (sound_says l e)) (waits_at l) (full_high l (sound_says l e))

  pub lane_ceiling :
      (found_in l ≡ ceiling)
      ↔ (((p : ℕ) × OnFullRing (pointing l) (full_wait l) l.network.processes p)
      × ((p : ℕ) → OnRing (pointing l) l.network.processes p → (k : ℕ) → (full_wait l (iter (pointing l) k p) ≡ 0 → ⊥) → full_wait l (iter (pointing l) k p) ≡ 256))
  lane_ceiling =
      ceiling_exactly (pointing l) (full_wait l) l.network.processes (pointing_stays l (sound_says l e)) (waits_at l) (full_high l (sound_says l e))

-- ---- what relief answers
-- the number of a refusal
abbrev code : Told → ℕ
code (refused k) = k
code (enlarged n c) = 0

differ : {a b : Told} → (code a ≡ code b → ⊥) → a ≡ b → ⊥
differ n e = n (ap code e)

module _ (l : Lane) (buffer : List ℕ) where
  -- the ways to answer on a sound lane
  data Way : Found → Told → Type 0 where
    none : Way no_ring (refused 13)
    high : Way ceiling (refused 14)
    short : (ring : List ℕ) (c : ℕ) → length buffer < length ring → Way (found ring c) (refused 15)
    grew : (ring : List ℕ) (c : ℕ) → length ring ≤ length buffer → Way (found ring c) (enlarged (length ring) c)

  way : (o : Found) → Way o (settled o l buffer).answer
  way no_ring = none
  way ceiling = high
  way (found ring c) = go (ltb (length buffer) (length ring)) refl
    where
      go : (t : Bool) → ltb (length buffer) (length ring) ≡ t
          → Way (found ring c) (cond t (relief (refused 15) l buffer) (relief (enlarged (length ring) c) (grown c l) (ring ++ drop (length ring) buffer))).answer
      go true e = short ring c (ltb-true (length buffer) (length ring) e)
      go false e = grew ring c (ltb-false (length buffer) (length ring) e)

  -- 16: "lane unsound"
  pub answers_16 : ((relieve_of l buffer).answer ≡ refused 16) ↔ (sound_of l ≡ false)
  unfolding relieve_of
  answers_16 = ((λ e. go (sound_of l) e), λ e. rw e)
    where
      never : (o : Found) (a : Told) → Way o a → a ≡ refused 16 → ⊥
      never o a none e = differ (λ z. omega arith) e
      never o a high e = differ (λ z. omega arith) e
      never o a (short ring c h) e = differ (λ z. omega arith) e
      never o a (grew ring c h) e = differ (λ z. omega arith) e

      go : (b : Bool) → (cond (not b) (relief (refused 16) l buffer) (settled (found_in l) l buffer)).answer ≡ refused 16 → b ≡ false
      go false e = refl
      go true e = absurd (never (found_in l) _ (way (found_in l)) e)

  module _ (s : sound_of l ≡ true) where
    answer_is : (o : Found) → found_in l ≡ o → (relieve_of l buffer).answer ≡ (settled o l buffer).answer
    unfolding relieve_of
    answer_is o e = rw (s, e)

    ways : Way (found_in l) (relieve_of l buffer).answer
    ways = subst (Way (found_in l)) (sym (answer_is (found_in l) refl)) (way (found_in l))

    -- 13: "no ring with a full wait"
    pub answers_13 : ((relieve_of l buffer).answer ≡ refused 13) ↔ ((p : ℕ) → OnFullRing (pointing l) (full_wait l) l.network.processes p → ⊥)
    answers_13 = ((λ e. (lane_none l s).0 (go (found_in l) _ ways e)), λ n. answer_is no_ring ((lane_none l s).1 n))
      where
        go : (o : Found) (a : Told) → Way o a → a ≡ refused 13 → o ≡ no_ring
        go o a none e = refl
        go o a high e = absurd (differ (λ z. omega arith) e)
        go o a (short ring c h) e = absurd (differ (λ z. omega arith) e)
        go o a (grew ring c h) e = absurd (differ (λ z. omega arith) e)

    -- 14: "such rings, all those channels at 256"
    pub answers_14 :
        ((relieve_of l buffer).answer ≡ refused 14)
        ↔ (((p : ℕ) × OnFullRing (pointing l) (full_wait l) l.network.processes p)
        × ((p : ℕ) → OnRing (pointing l) l.network.processes p → (k : ℕ) → (full_wait l (iter (pointing l) k p) ≡ 0 → ⊥) → full_wait l (iter (pointing l) k p) ≡ 256))
    answers_14 = ((λ e. (lane_ceiling l s).0 (go (found_in l) _ ways e)), λ n. answer_is ceiling ((lane_ceiling l s).1 n))
      where
        go : (o : Found) (a : Told) → Way o a → a ≡ refused 14 → o ≡ ceiling
        go o a none e = absurd (differ (λ z. omega arith) e)
        go o a high e = refl
        go o a (short ring c h) e = absurd (differ (λ z. omega arith) e)
        go o a (grew ring c h) e = absurd (differ (λ z. omega arith) e)

    -- 15: "a buffer to write shorter than needed"
    pub answers_15 :
        ((relieve_of l buffer).answer ≡ refused 15)
        ↔ ((ring : List ℕ) × (c : ℕ) × Taken (pointing l) (full_wait l) (waits_at l) l.network.processes ring c × (length buffer < length ring))
    answers_15 = ((λ e. let h = go (found_in l) _ ways e in (h.0, h.1, (lane_found l s h.0 h.1).0 h.2, h.3)), λ t. back t.0 t.1 t.2 t.3)
      where
        go : (o : Found) (a : Told) → Way o a → a ≡ refused 15 → (ring : List ℕ) × (c : ℕ) × (o ≡ found ring c) × (length buffer < length ring)
        go o a none e = absurd (differ (λ z. omega arith) e)
        go o a high e = absurd (differ (λ z. omega arith) e)
        go o a (short ring c h) e = (ring, c, refl, h)
        go o a (grew ring c h) e = absurd (differ (λ z. omega arith) e)

        back : (ring : List ℕ) (c : ℕ) → Taken (pointing l) (full_wait l) (waits_at l) l.network.processes ring c → length buffer < length ring → (relieve_of l buffer).answer ≡ refused 15
        back ring c t h = answer_is (found ring c) ((lane_found l s ring c).1 t) ∙ rw (lt-ltb (length buffer) (length ring) h)

    -- "The answer names ring .. and channel": the ring that is taken, of n processes, and its channel c
    pub answers_ring : (n c : ℕ)
        → ((relieve_of l buffer).answer ≡ enlarged n c)
        ↔ ((ring : List ℕ) × Taken (pointing l) (full_wait l) (waits_at l) l.network.processes ring c × (length ring ≡ n) × (n ≤ length buffer))
    answers_ring n c = ((λ e. let h = go (found_in l) _ ways e in (h.0, (lane_found l s h.0 c).0 h.1, h.2, h.3)), λ t. back t.0 t.1 t.2 t.3)
      where
        go : (o : Found) (a : Told) → Way o a → a ≡ enlarged n c → (ring : List ℕ) × (o ≡ found ring c) × (length ring ≡ n) × (n ≤ length buffer)
        go o a none e = absurd (differ (λ z. omega arith) e)
        go o a high e = absurd (differ (λ z. omega arith) e)
        go o a (short ring d h) e = absurd (differ (λ z. omega arith) e)
        go o a (grew ring d h) e =
            let e₁ : length ring ≡ n = cc in
            let e₂ : d ≡ c = cc in
            (ring, ap (found ring) e₂, e₁, omega arith)

        back : (ring : List ℕ) → Taken (pointing l) (full_wait l) (waits_at l) l.network.processes ring c → length ring ≡ n → n ≤ length buffer → (relieve_of l buffer).answer ≡ enlarged n c
        back ring t e h = answer_is (found ring c) ((lane_found l s ring c).1 t) ∙ rw (le-ltb (length buffer) (length ring) (omega arith)) (ap (λ (k : ℕ). enlarged k c) e)

    -- with room for all processes 15 does not come, nor 16
    pub relief_answers : l.network.processes ≤ length buffer → NoOther (relieve_of l buffer).answer
    relief_answers room = go (found_in l) _ refl ways
      where
        go : (o : Found) (a : Told) → found_in l ≡ o → Way o a → NoOther a
        go o a e none = inl refl
        go o a e high = inr refl
        go o a e (short ring c h) =
            absurd (omega (arith, taken_short (pointing l) (full_wait l) l.network.processes (pointing_stays l (sound_says l s)) (waits_at l) ring c ((lane_found l s ring c).0 e)))
        go o a e (grew ring c h) = tt

-- ---- a process waits for what a pick of it, with whatever cells, would answer
-- the wait that an answer tells
abbrev pub wait_told : calls.Told → Wait
wait_told calls.moved = free
wait_told (calls.waiting_empty c) = for_message c
wait_told (calls.waiting_full c) = for_room c
wait_told calls.ended = free
wait_told calls.accepted = free
wait_told (calls.value v) = free
wait_told calls.the_end = free
wait_told (calls.refused k) = free

told_wait : (o : Outcome) (c : ℕ) → wait_in o c ≡ wait_told (calls.answer_to o c)
told_wait Moved c = refl
told_wait (Sent v) c = refl
told_wait Halted c = refl
told_wait WaitEmpty c = refl
told_wait WaitFull c = refl
told_wait Ended c = refl

pub would_wait : (w : World) (p : ℕ) → length w.cells ≡ 8192 → sound_of w.lane ≡ true → p < w.lane.network.processes
    → wait_of w.lane p ≡ wait_told (calls.pick_of p w).answer
unfolding calls.pick_of
would_wait w p long s h =
    wait_any w.lane w.cells p
    ∙ rw (eq-eqb (length w.cells) 8192 long, s, lt-ltb p w.lane.network.processes h)
    (told_wait (step_for p w).outcome (channel_in (instruction_for p w.lane)))
