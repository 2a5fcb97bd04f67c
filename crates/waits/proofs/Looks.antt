-- What a look at a process of a sound lane answers, by what the code reads: the process's condition, its instruction and the record of its channel; the
-- numbers of its wait; whether one of the processes waits for room on a channel to a process.
-- Assumes nothing.
use Rattle.std.proofs.Common.{◌≡◌, refl, sym, ap, ◌∙◌, Bool, true, false, not, ℕ, suc, ◌+◌, ◌-◌, ◌≤◌, ◌<◌, List, get_or, replicate, arith, add-one}
use Rattle.std.proofs.lemmas.List.{get_or-replicate}
use native.Mathlib.Decide.{ℕ_discrete}
use borrow.Author.Tests.{eq-eqb, ne_eqb}
use Rattle.base.proofs.Lists.{Filled}
use Rattle.network.specs.declared.Instruction.{Instruction}
use Rattle.network.specs.Rules.{sender_of, receiver_of}
use Rattle.process.specs.declared.Channel.{Channel}
use Rattle.lane.specs.declared.Lane.{Lane}
use Rattle.lane.specs.State as lane
use Rattle.lane.specs.Sound.{sound_of}
use Rattle.lane.specs.Pick.{channel_in, instruction_for}
use Rattle.lane.proofs.SoundLaws.{sound_says}
use Rattle.waits.specs.Waits.{Wait, free, for_message, for_room, wait_of, other_end, room_in, channel_waited, pointing, full_wait, waits_at}
use Rattle.waits.specs.declared.Wait as seen
use Rattle.waits.specs.declared.Wait.TheVariants.{Free, Empty, Full}
use Rattle.waits.specs.Parts.{points_of, full_of, channel_of, wait_for, wait_by, wants_room, some_wants_room}
use Rattle.waits.proofs.WaitLaws.{waiting_of, wait_is, pointing_is, full_is, channel_is, unsent_full}
use Rattle.waits.proofs.Receivers.{not_gone}

-- ---- by opcode, condition and channel
module _ (op : ℕ) (h : Channel) (c : ℕ) where
  closed_free : (live : Bool) → h.closed ≡ true → waiting_of op live h false c ≡ free
  closed_free true e = rw e
  closed_free false e = refl

  empty : op ≡ 11 → h.closed ≡ false → h.held ≡ 0 → waiting_of op true h false c ≡ for_message c
  empty p e q = rw (e, eq-eqb op 11 p, eq-eqb h.held 0 q)

  not_empty : op ≡ 11 → (h.held ≡ 0 → ⊥) → h.closed ≡ false → waiting_of op true h false c ≡ free
  not_empty p n e = rw (e, ne_eqb h.held 0 n, p)

  full : op ≡ 12 → h.closed ≡ false → h.held ≡ h.capacity → waiting_of op true h false c ≡ for_room c
  full p e q = rw (e, eq-eqb h.held h.capacity q, p)

  not_full : op ≡ 12 → (h.held ≡ h.capacity → ⊥) → h.closed ≡ false → waiting_of op true h false c ≡ free
  not_full p n e = rw (e, ne_eqb h.held h.capacity n, p)

  neither : (op ≡ 11 → ⊥) → (op ≡ 12 → ⊥) → h.closed ≡ false → waiting_of op true h false c ≡ free
  neither m n e = rw (e, ne_eqb op 11 m, ne_eqb op 12 n)

module _ (l : Lane) (p : ℕ) where
  abbrev pub op_at : ℕ
  op_at = (instruction_for p l).op

  abbrev pub c_at : ℕ
  c_at = channel_in (instruction_for p l)

  abbrev pub h_at : Channel
  h_at = lane.channel_of l (channel_in (instruction_for p l))

  -- the receiver of a full channel has not ended, so it is not asked for
  look : sound_of l ≡ true → p < l.network.processes → (live : Bool) → lane.ended_at l p ≡ not live → wait_of l p ≡ waiting_of op_at live h_at false c_at
  look s h true e = wait_is l p ∙ sym (not_gone l (sound_says l s) p h) ∙ rw e
  look s h false e = wait_is l p ∙ sym (not_gone l (sound_says l s) p h) ∙ rw e

  -- what a process waits for, by the tests of the code
  pub ended_waits : sound_of l ≡ true → p < l.network.processes → lane.ended_at l p ≡ true → wait_by l p ≡ Free
  ended_waits s h e = ap (wait_for l) (look s h false e)

  pub closed_waits : sound_of l ≡ true → p < l.network.processes → h_at.closed ≡ true → wait_by l p ≡ Free
  closed_waits s h e = ap (wait_for l) (wait_is l p ∙ sym (not_gone l (sound_says l s) p h) ∙ closed_free op_at h_at c_at (not (lane.ended_at l p)) e)

  module _ (s : sound_of l ≡ true) (h : p < l.network.processes) (live : lane.ended_at l p ≡ false) (e : h_at.closed ≡ false) where
    pub empty_waits : op_at ≡ 11 → h_at.held ≡ 0 → wait_by l p ≡ Empty (sender_of l.network c_at) c_at
    empty_waits q z = ap (wait_for l) (look s h true live ∙ empty op_at h_at c_at q e z)

    pub held_waits : op_at ≡ 11 → (h_at.held ≡ 0 → ⊥) → wait_by l p ≡ Free
    held_waits q n = ap (wait_for l) (look s h true live ∙ not_empty op_at h_at c_at q n e)

    pub full_waits : op_at ≡ 12 → h_at.held ≡ h_at.capacity → wait_by l p ≡ Full (receiver_of l.network c_at) c_at h_at.capacity
    full_waits q z = ap (wait_for l) (look s h true live ∙ full op_at h_at c_at q e z)

    pub room_waits : op_at ≡ 12 → (h_at.held ≡ h_at.capacity → ⊥) → wait_by l p ≡ Free
    room_waits q n = ap (wait_for l) (look s h true live ∙ not_full op_at h_at c_at q n e)

    pub other_waits : (op_at ≡ 11 → ⊥) → (op_at ≡ 12 → ⊥) → wait_by l p ≡ Free
    other_waits m n = ap (wait_for l) (look s h true live ∙ neither op_at h_at c_at m n e)

-- ---- the numbers of the wait of process p
points_for : (l : Lane) (w : Wait) → points_of (wait_for l w) ≡ other_end l.network w
points_for l free = refl
points_for l (for_message c) = refl
points_for l (for_room c) = refl

full_for : (l : Lane) (w : Wait) → full_of (wait_for l w) ≡ room_in l w
full_for l free = refl
full_for l (for_message c) = refl
full_for l (for_room c) = refl

channel_for : (l : Lane) (w : Wait) → channel_of (wait_for l w) ≡ channel_waited w
channel_for l free = refl
channel_for l (for_message c) = refl
channel_for l (for_room c) = refl

pub points_at : (l : Lane) (p : ℕ) → p < l.network.processes → points_of (wait_by l p) ≡ pointing l p
points_at l p h = points_for l (wait_of l p) ∙ sym (pointing_is l p h)

pub full_at : (l : Lane) (p : ℕ) → full_of (wait_by l p) ≡ full_wait l p
full_at l p = full_for l (wait_of l p) ∙ sym (full_is l p)

pub channel_at : (l : Lane) (p : ℕ) → channel_of (wait_by l p) ≡ waits_at l p
channel_at l p = channel_for l (wait_of l p) ∙ sym (channel_is l p)

-- a process that does not stand at a send waits for no room
pub no_send : (l : Lane) (p : ℕ) (i : Instruction) → i ≡ instruction_for p l → (i.op ≡ 12 → ⊥) → false ≡ wants_room l p
no_send l p i e n = rw (unsent_full l p (λ q. n (ap (λ (x : Instruction). x.op) e ∙ q)))

-- ---- an array that is filled from its front, where the next element stands there already
pub filled_past : (f : ℕ → ℕ) (old : List ℕ) (p : ℕ) (a : List ℕ) → get_or old p 0 ≡ f p → Filled f 0 old p a → Filled f 0 old (p + 1) a
filled_past f old p a e s = record { long = s.long; done = λ k h. go k h (ℕ_discrete k p); kept = λ k h. s.kept k (omega arith) }
  where
    go : (k : ℕ) → k < p + 1 → Dec (k ≡ p) → get_or a k 0 ≡ f k
    go k h (yes q) = rw q (s.kept p (omega arith) ∙ e)
    go k h (no q) = s.done k (omega arith)

-- a process without a full wait, and one that is free, which points to nobody and waits on no channel either
pub unfilled : (w : seen.Wait) → ((points c capacity : ℕ) → w ≡ Full points c capacity → ⊥) → full_of w ≡ 0
unfilled Free n = refl
unfilled (Empty points c) n = refl
unfilled (Full points c capacity) n = absurd (n points c capacity refl)

module _ (l : Lane) (p : ℕ) where
  pub no_full : p < 16 → full_of (wait_by l p) ≡ 0 → get_or (replicate 16 0) p 0 ≡ full_wait l p
  no_full b e = get_or-replicate 16 p 0 0 b ∙ sym e ∙ full_at l p

  pub free_points : wait_by l p ≡ Free → p < 16 → p < l.network.processes → get_or (replicate 16 255) p 0 ≡ pointing l p
  free_points e b h = get_or-replicate 16 p 255 0 b ∙ sym (ap points_of e) ∙ points_at l p h

  pub free_channel : wait_by l p ≡ Free → p < 16 → get_or (replicate 16 0) p 0 ≡ waits_at l p
  free_channel e b = get_or-replicate 16 p 0 0 b ∙ sym (ap channel_of e) ∙ channel_at l p

-- ---- whether one of the processes from p on waits for room
left_more : (used p : ℕ) → p < used → used - p ≡ suc (used - (p + 1))
left_more used p h = omega arith

module _ (l : Lane) (p used : ℕ) where
  -- p does
  pub rooms_found : p < used → wants_room l p ≡ true → some_wants_room l p (used - p) ≡ true
  unfolding some_wants_room
  rooms_found h e = rw (left_more used p h, e)

  -- it does not
  pub rooms_on : p < used → wants_room l p ≡ false → some_wants_room l (p + 1) (used - (p + 1)) ≡ some_wants_room l p (used - p)
  unfolding some_wants_room
  rooms_on h e = rw (left_more used p h, e) (ap (λ (q : ℕ). some_wants_room l q (used - (p + 1))) (add-one p))

  -- none is left
  pub rooms_over : used ≤ p → some_wants_room l p (used - p) ≡ false
  unfolding some_wants_room
  rooms_over h = let z : used - p ≡ 0 = omega arith in rw z
