-- The channel that relief enlarges is there and below 256; so a relief keeps a lane sound, its network, its cells and the lengths of its arrays.
-- Assumes nothing.
use mathlib.Core.Path.{◌≡◌, refl, ap, ◌∙◌}
use mathlib.Core.Logic.{◌⊎◌, inl, inr}
use mathlib.Core.Bool.{Bool, true, false, cond, not}
use mathlib.Core.List.{List, [], ◌++◌}
use Prim.Native.Nat.{ℕ, ◌%◌, ◌<◌}
use native.Mathlib.Decide.{dec_lt}
use native.Mathlib.Omega.{arith}
use borrow.Author.Tests.{ltb-true}
use lib.Dec.{ltb}
use lib.IntN.{ℤ}
use lib.ListN.{length, drop}
use Rattle.process.specs.declared.Channel.{Channel}
use Rattle.process.specs.declared.Outcome.{Outcome}
use Rattle.process.specs.declared.Outcome.TheVariants.{Moved, Sent, Halted, WaitEmpty, WaitFull, Ended}
use Rattle.process.specs.Channels.{enlarge_one}
use Rattle.lane.specs.declared.Lane.{Lane}
use Rattle.lane.specs.State.{World, world, channel_of, count}
use Rattle.lane.specs.Sound.{sound_of}
use Rattle.lane.specs.Pick.{instruction_for, step_for}
use Rattle.lane.proofs.Shape.{put_channel_shaped, count_shaped}
use Rattle.lane.proofs.SoundLaws.{ChannelSound, sound_says, says_sound}
use Rattle.lane.proofs.Keeps.{put_channel_sound, count_sound}
use Rattle.lane.proofs.CallLaws.{Preserves}
use Rattle.waits.specs.Waits.{wait_in, wait_of, room_in, channel_waited, pointing, full_wait, waits_at}
use Rattle.rings.specs.Rings.{ring_of, least, on_ring_below, first_from, Found, no_ring, ceiling, found, search}
pub use Rattle.relief.specs.Relief.{Enlargeable}
use Rattle.relief.specs.Relief.{Relief, relief, refused, enlarged, found_in, larger, grown, settled, relieve_of}
use Rattle.rings.proofs.Least.{least_below}
use Rattle.rings.proofs.First.{first_holds}

-- ---- the search
-- the channel found is the one of some full wait below 256
record Waiting (full chan : ℕ → ℕ) (c : ℕ) : Type 0 where
  process : ℕ
  channel : chan process ≡ c
  waits : full process ≡ 0 → ⊥
  below : full process < 256

search_finds : (f full chan : ℕ → ℕ) (P : ℕ) (ring : List ℕ) (c : ℕ) → search f full chan P ≡ found ring c → Waiting full chan c
unfolding search
search_finds f full chan P ring c e = at (ltb p P) (ltb q P) refl e
  where
    p : ℕ
    p = first_from (on_ring_below f full P 256) 0 P

    q : ℕ
    q = first_from (on_ring_below f full P 257) 0 P

    never : (o : Found) → o ≡ found ring c → (o ≡ ceiling) ⊎ (o ≡ no_ring) → ⊥
    never o a (inl b) = let z : ◌≡◌ {A = ℕ} 0 1 = cc in omega arith
    never o a (inr b) = let z : ◌≡◌ {A = ℕ} 0 1 = cc in omega arith

    at : (s t : Bool) → ltb p P ≡ s → cond s (found (ring_of f P p) (chan (least full chan p (ring_of f P p)))) (cond t ceiling no_ring) ≡ found ring c → Waiting full chan c
    at true t l e =
        let b = least_below full 256 chan (ring_of f P p) p (first_holds (on_ring_below f full P 256) P 0 (omega (arith, ltb-true p P l))) in
        record { process = least full chan p (ring_of f P p); channel = cc; waits = b.0; below = b.1 }
    at false true l e = absurd (never ceiling e (inl refl))
    at false false l e = absurd (never no_ring e (inr refl))

-- ---- in a lane
pub found_enlargeable : (l : Lane) → sound_of l ≡ true → (ring : List ℕ) (c : ℕ) → found_in l ≡ found ring c → Enlargeable l c
unfolding wait_of full_wait waits_at
found_enlargeable l s ring c e =
    let w = search_finds (pointing l) (full_wait l) (waits_at l) l.network.processes ring c e in
    at (step_for w.process (world l [])).outcome (instruction_for w.process l).b w.channel w.waits w.below
  where
    at : (o : Outcome) (j : ℕ) → channel_waited (wait_in o (j % 32)) ≡ c → (room_in l (wait_in o (j % 32)) ≡ 0 → ⊥) → room_in l (wait_in o (j % 32)) < 256 → Enlargeable l c
    at Moved j a n b = absurd (n refl)
    at (Sent v) j a n b = absurd (n refl)
    at Halted j a n b = absurd (n refl)
    at WaitEmpty j a n b = absurd (n refl)
    at WaitFull j a n b = rw (← a) (record { there = inside (dec_lt (j % 32) l.network.channels); below = b })
      where
        inside : Dec (j % 32 < l.network.channels) → j % 32 < l.network.channels
        inside (yes h) = h
        inside (no h) = absurd (n (ap (λ (x : Channel). x.capacity) ((sound_says l s).unused (j % 32) (omega arith) (omega arith))))
    at Ended j a n b = absurd (n refl)

-- ---- a relief by cases: the lane as it was, or a channel that can be enlarged
module _ (P : Relief → Type 0) (l : Lane) (buffer : List ℕ) (stays : (k : ℕ) → P (relief (refused k) l buffer)) where
  pub relief_cases :
      ((ring : List ℕ) (c : ℕ) (buffer' : List ℕ) → sound_of l ≡ true → Enlargeable l c → P (relief (enlarged (length ring) c) (grown c l) buffer'))
      → P (relieve_of l buffer)
  unfolding relieve_of
  relief_cases done = at (sound_of l) refl
    where
      room : (t : Bool) (ring : List ℕ) (c : ℕ) → sound_of l ≡ true → Enlargeable l c
          → P (cond t (relief (refused 15) l buffer) (relief (enlarged (length ring) c) (grown c l) (ring ++ drop (length ring) buffer)))
      room true ring c s e = stays 15
      room false ring c s e = done ring c (ring ++ drop (length ring) buffer) s e

      by : (o : Found) → sound_of l ≡ true → found_in l ≡ o → P (settled o l buffer)
      by no_ring s e = stays 13
      by ceiling s e = stays 14
      by (found ring c) s e = room (ltb (length buffer) (length ring)) ring c s (found_enlargeable l s ring c e)

      at : (t : Bool) → sound_of l ≡ t → P (cond (not t) (relief (refused 16) l buffer) (settled (found_in l) l buffer))
      at true s = by (found_in l) s refl
      at false s = stays 16

-- ---- what every relief keeps, refused or not
enlarge_one_lem : (s r : Bool) (h : Channel) → h.capacity < 256 → ChannelSound s r h → ChannelSound s r (enlarge_one h)
enlarge_one_lem s r h b k =
    record {
      within = omega (arith, k.within);
      low = omega arith;
      high = omega arith;
      place = k.place;
      reached = k.reached;
      topped = omega (arith, k.topped);
      shut = k.shut;
      drained = k.drained;
    }

-- a channel that grows
pub larger_kept : (l : Lane) (cells : List ℤ) (c : ℕ) → sound_of l ≡ true → Enlargeable l c → Preserves (world l cells) (world (larger c l) cells)
larger_kept l cells c s e =
    let k = sound_says l s in
    record {
      network = refl;
      cells = refl;
      shaped = λ t. put_channel_shaped c (enlarge_one (channel_of l c)) l t;
      sound = λ t.
          says_sound _ (put_channel_sound c (enlarge_one (channel_of l c)) l k (λ m. enlarge_one_lem _ _ (channel_of l c) e.below (k.channels c m)) (λ m. absurd (omega (arith, e.there))));
    }

-- the count of accepted calls
pub count_kept : (l : Lane) (cells : List ℤ) → Preserves (world l cells) (world (count l) cells)
count_kept l cells =
    record { network = refl; cells = refl; shaped = λ k. count_shaped l k; sound = λ t. says_sound _ (count_sound l (sound_says l t)) }

pub kept_both : {u v w : World} → Preserves u v → Preserves v w → Preserves u w
kept_both a b =
    record {
      network = b.network ∙ a.network;
      cells = b.cells ∙ a.cells;
      shaped = λ k. b.shaped (a.shaped k);
      sound = λ k. b.sound (a.sound k);
    }

pub relief_kept : (w : World) (buffer : List ℕ) → Preserves w (world (relieve_of w.lane buffer).lane w.cells)
relief_kept w buffer =
    relief_cases (λ (r : Relief). Preserves w (world r.lane w.cells)) w.lane buffer
    (λ k. record { network = refl; cells = refl; shaped = λ s. s; sound = λ s. s })
    (λ ring c buffer' s e. kept_both (larger_kept w.lane w.cells c s e) (count_kept (larger c w.lane) w.cells))
