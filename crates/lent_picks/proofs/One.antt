-- One pick: what is known of the process picked, and what is left to do after its instruction.
-- Assumes nothing.
use mathlib.Core.Path.{◌≡◌, refl, sym, ap, ◌∙◌}
use mathlib.Core.Bool.{Bool, true, false}
use mathlib.Core.List.{List}
use Prim.Native.Nat.{ℕ, ◌≤◌, ◌<◌}
use native.Mathlib.Decide.{dec_lt}
use native.Mathlib.Omega.{arith}
use lib.IntN.{ℤ}
use Rattle.network.specs.declared.Instruction.{Instruction}
use Rattle.network.specs.Rules.{count_of, receives, sends}
use Rattle.process.specs.declared.Condition.{Condition}
use Rattle.process.specs.declared.Condition.TheVariants.{Live, Stopped, Faulted}
use Rattle.process.specs.declared.Outcome.{Outcome}
use Rattle.process.specs.declared.Outcome.TheVariants as did
use Rattle.process.specs.Want.{want}
use Rattle.process.specs.Execute.{execute, step_of}
use Rattle.lane.specs.declared.Lane.{Lane}
use Rattle.lane.specs.State.{World, world, standing_of, channel_of}
use Rattle.lane.specs.Sound.{sound_of}
use Rattle.lane.specs.Pick.{channel_in, step_at, instruction_for, step_for, pick_in, has_moved}
use Rattle.lane.specs.declared.PickAnswer.{PickAnswer}
use Rattle.lane.specs.declared.PickAnswer.TheVariants as answer
use Rattle.lane.specs.Calls.{Told, moved, waiting_empty, waiting_full, accepted, value, the_end, refused, Called, called, pick_says, answer_to, ended, picked}
use Rattle.lane.proofs.SoundLaws.{Sound, sound_says, says_sound}
use Rattle.lane.proofs.Shape.{Shaped}
use Rattle.lane.proofs.Instructions.{stands_right_lem}
use Rattle.lane.proofs.PickLaws.{pick_waits, pick_network, picked_sound}
use Rattle.lane_parts.proofs.Next.{next_of}
use Rattle.register_steps.specs.declared.Did.{Did}
use Rattle.lent_steps.specs.Steps.{finish, says, At, Turned, Ready}

-- ---- a process that has ended
ended_says : (l : Lane) (p : ℕ) (cells : List ℤ) (k : Condition) → (standing_of l p).condition ≡ k → (k ≡ Live → ⊥) → (step_for p (world l cells)).outcome ≡ did.Ended
unfolding step_at step_of want execute
ended_says l p cells Live e h = absurd (h refl)
ended_says l p cells Stopped e h = rw e
ended_says l p cells Faulted e h = rw e

pub ended_stays : (l : Lane) (p : ℕ) (cells : List ℤ) → Shaped l → p < 16 → ((standing_of l p).condition ≡ Live → ⊥) → called ended (world l cells) ≡ picked p (world l cells)
ended_stays l p cells s low h =
    let e = ended_says l p cells (standing_of l p).condition refl h in
    rw (pick_waits p (world l cells) s low (rw e), e)

-- ---- a live one, and its channel
-- a channel that is there is sound, and one that is not is zero
bounds_at : (l : Lane) → Sound l → (c : ℕ) → c < 32 → ((channel_of l c).oldest < 256) × ((channel_of l c).held ≤ (channel_of l c).capacity)
bounds_at l s c b = go (dec_lt c l.network.channels)
  where
    go : Dec (c < l.network.channels) → ((channel_of l c).oldest < 256) × ((channel_of l c).held ≤ (channel_of l c).capacity)
    go (yes m) = ((s.channels c m).place, (s.channels c m).within)
    go (no m) = rw (s.unused c (omega arith) b) (omega arith, omega arith)

pub low_of : (l : Lane) → sound_of l ≡ true → (p : ℕ) → p < l.network.processes → p < 16
low_of l sound p there = (next_of l p (sound_says l sound) there).low

module _ (l : Lane) (sound : sound_of l ≡ true) (p : ℕ) (there : p < l.network.processes) (shaped : Shaped l) where
  pub at_is : {i : Instruction} → (standing_of l p).condition ≡ Live → i ≡ instruction_for p l → At l p i
  at_is live e = record { low = (next_of l p (sound_says l sound) there).low; all = shaped.registers; instruction = sym e; live = live }

  pub ready_is : {i : Instruction} → i ≡ instruction_for p l → Ready i l
  ready_is {i} e =
      let b = bounds_at l (sound_says l sound) (channel_in i) (omega arith) in
      record {
        count = count_of l.network p;
        receives = receives l.network p (instruction_for p l).b;
        sends = sends l.network p (instruction_for p l).b;
        right = rw e (stands_right_lem l (sound_says l sound) p there).fields;
        place = b.0;
        within = b.1;
      }

  -- after its instruction it still stands where it stood
  pub position_after : (m : Lane) → m.processes ≡ l.processes → (standing_of m p).position < 1016
  position_after m e = let n = next_of l p (sound_says l sound) there in rw e (omega (arith, n.place))

  -- what is left to do, done
  pub sound_after : (cells : List ℤ) {r : Did} {w' : World} {m : Lane} → Turned r p (world l cells) w' → world m w'.cells ≡ finish r p w'
      → (sound_of m ≡ true) × (m.network ≡ l.network)
  sound_after cells {w'} {m} t e =
      let q : world m w'.cells ≡ pick_in p (world l cells) = e ∙ t.leaves in
      let same = ap (λ (x : World). x.lane) q in (
        rw same (says_sound _ (picked_sound p (world l cells) shaped there (sound_says l sound))),
        ap (λ (x : Lane). x.network) same ∙ pick_network p (world l cells),
      )

  pub picked_after : (cells : List ℤ) {r : Did} {w' : World} {m : Lane} → Turned r p (world l cells) w' → world m w'.cells ≡ finish r p w'
      → called (says r (channel_in (instruction_for p l))) (world m w'.cells) ≡ picked p (world l cells)
  picked_after cells t e = rw (e, t.leaves, t.told)

-- ---- whether a pick moved, by its answer
abbrev pub is_moved : Told → Bool
is_moved moved = true
is_moved (waiting_empty c) = false
is_moved (waiting_full c) = false
is_moved ended = false
is_moved accepted = false
is_moved (value v) = false
is_moved the_end = false
is_moved (refused n) = false

moved_is : (o : Outcome) (c : ℕ) → is_moved (answer_to o c) ≡ has_moved o
moved_is did.Moved c = refl
moved_is (did.Sent v) c = refl
moved_is did.Halted c = refl
moved_is did.WaitEmpty c = refl
moved_is did.WaitFull c = refl
moved_is did.Ended c = refl

pub not_moved : (a : PickAnswer) → (a ≡ answer.Moved → ⊥) → is_moved (pick_says a) ≡ false
not_moved answer.Moved h = absurd (h refl)
not_moved (answer.WaitingEmpty c) h = refl
not_moved (answer.WaitingFull c) h = refl
not_moved answer.Ended h = refl

-- what a pick that answered a left, and whether it moved
pub moves_by : (p : ℕ) (w w' : World) (a : PickAnswer) → called (pick_says a) w' ≡ picked p w
    → (w' ≡ pick_in p w) × (is_moved (pick_says a) ≡ has_moved (step_for p w).outcome) × (w'.lane.network ≡ w.lane.network)
moves_by p w w' a e =
    let q : w' ≡ pick_in p w = ap (λ (r : Called). r.world) e in
    (q, ap (λ (r : Called). is_moved r.answer) e ∙ moved_is (step_for p w).outcome _, ap (λ (x : World). x.lane.network) q ∙ pick_network p w)
