-- A pick keeps a lane sound, its network, its count of calls and the lengths of its arrays; a pick that did not move changes nothing, and a
-- pick changes no cell but the one that the message goes to.
-- Assumes nothing.
use mathlib.Core.Path.{◌≡◌, refl, sym, ap, ◌∙◌}
use mathlib.Core.Bool.{Bool, true, false, ◌&&◌, true≢false}
use Prim.Native.Nat.{ℕ, ◌+◌, ◌*◌, ◌≤◌, ◌<◌}
use native.Mathlib.Omega.{arith}
use borrow.Author.Tests.{le-ltb}
use lib.Dec.{eqb, ltb}
use lib.IntN.{ℤ, pos}
use lib.ListN.{length, set, length-set}
use lib.Seq.{set-get_or, get_or-set_other}
use Rattle.network.specs.declared.Instruction.{Instruction}
use Rattle.network.specs.declared.Network.{Network}
use Rattle.network.specs.Rules.{count_of, sender_of, receiver_of, receives, sends}
use Rattle.process.specs.Process.{Process, Stepped}
use Rattle.process.specs.declared.Channel.{Channel}
use Rattle.process.specs.declared.Outcome.{Outcome}
use Rattle.process.specs.declared.Outcome.TheVariants.{Moved, Sent, Halted, WaitEmpty, WaitFull, Ended}
use Rattle.process.specs.Channels.{no_channel, put_one, get_one, close_one, slot}
use Rattle.process.specs.Execute.{outcome}
use Rattle.process.proofs.StepLaws.{waits, is_halted, step_place, step_condition, step_still}
use Rattle.process.proofs.ChannelLaws.{step_channel_by}
use Rattle.lane.specs.declared.Lane.{Lane}
use Rattle.lane.specs.State.{World, world, cell_at, no_standing, standing_of, is_ended, process_of, put_process, ended_at, channel_of, put_channel, put_channels}
use Rattle.lane.specs.Sound.{sound_of}
use Rattle.lane.specs.Pick.{channel_in, drop_from, settle, put_back, step_at, instruction_for, step_for, pick_in, has_moved}
use Rattle.lane.proofs.Windows.{put_eight_lem}
use Rattle.lane.proofs.Shape.{Shaped, put_process_shaped, put_channel_shaped, drop_shaped}
use Rattle.lane.proofs.SoundLaws.{Sound, ChannelSound, sound_says, says_sound}
use Rattle.lane.proofs.Keeps.{put_one_lem, get_one_lem, close_one_lem, put_channel_sound, put_process_sound, end_sound}
use Rattle.lane.proofs.Instructions.{right_stands, stands_right_lem}

-- ---- the parts of a pick
-- the channel that process p is at
abbrev pub channel_at : ℕ → Lane → ℕ
channel_at p l = channel_in (instruction_for p l)

-- the cell that a message of process p goes to
abbrev pub cell_for : ℕ → Lane → ℕ
cell_for p l = slot (channel_at p l) (channel_of l (channel_at p l)) (channel_of l (channel_at p l)).held

-- the lane with the process and the channel put back
abbrev pub stepped_lane : ℕ → World → Lane
stepped_lane p w = put_process p (step_for p w).process (put_channel (channel_at p w.lane) (step_for p w).channel w.lane)

-- what follows for the channels and cells, by cases
settle_by :
    (P : World → Type 0) (p to : ℕ) (w : World) (o : Outcome)
    → (is_halted o ≡ false → P w)
    → ((v : ℤ) → o ≡ Sent v → P (world w.lane (set w.cells to v)))
    → (o ≡ Halted → P (world (put_channels (drop_from w.lane.network p 0 w.lane.channels) w.lane) w.cells))
    → P (settle o p to w)
settle_by P p to w Moved same sent halted = same refl
settle_by P p to w (Sent v) same sent halted = sent v refl
settle_by P p to w Halted same sent halted = halted refl
settle_by P p to w WaitEmpty same sent halted = same refl
settle_by P p to w WaitFull same sent halted = same refl
settle_by P p to w Ended same sent halted = same refl

-- what a pick leaves, by cases
pub pick_by :
    (P : World → Type 0) (p : ℕ) (w : World)
    → (is_halted (step_for p w).outcome ≡ false → P (world (stepped_lane p w) w.cells))
    → ((v : ℤ) → (step_for p w).outcome ≡ Sent v → P (world (stepped_lane p w) (set w.cells (cell_for p w.lane) v)))
    → ((step_for p w).outcome ≡ Halted → P (world (put_channels (drop_from w.lane.network p 0 (stepped_lane p w).channels) (stepped_lane p w)) w.cells))
    → P (pick_in p w)
unfolding pick_in put_back
pick_by P p w = settle_by P p (cell_for p w.lane) (world (stepped_lane p w) w.cells) (step_for p w).outcome

-- ---- soundness
module _ (p : ℕ) (w : World) (s : Sound w.lane) (b : p < w.lane.network.processes) where
  -- the position is below the count
  place : (step_for p w).process.position < count_of w.lane.network p
  unfolding step_at
  place =
      let l : Lane = w.lane in
      let n : Network = l.network in
      let i : Instruction = instruction_for p l in
      let position : ℕ = (standing_of l p).position in
      step_place (eqb (position + 1) (count_of n p)) (count_of n p) (receives n p i.b) (sends n p i.b) i (process_of l p) _ _ _
      (right_stands n p position i (stands_right_lem l s p b))
      refl
      (s.positions p b)

  -- only an end changes the condition
  condition : is_halted (step_for p w).outcome ≡ false → (step_for p w).process.condition ≡ (standing_of w.lane p).condition
  unfolding step_at
  condition = step_condition (instruction_for p w.lane) (process_of w.lane p) _ _ _

  -- what holds of the channel as it was, and of it after each operation that process p may do there, holds of it after the step
  pub channel_by :
      (P : Channel → Type 0)
      → P (channel_of w.lane (channel_at p w.lane))
      → (receives w.lane.network p (instruction_for p w.lane).b ≡ true → P (get_one (channel_of w.lane (channel_at p w.lane))))
      → (sends w.lane.network p (instruction_for p w.lane).b ≡ true → ended_at w.lane (receiver_of w.lane.network (channel_at p w.lane)) ≡ false
      → ((channel_of w.lane (channel_at p w.lane)).held ≡ (channel_of w.lane (channel_at p w.lane)).capacity → ⊥)
      → P (put_one (channel_of w.lane (channel_at p w.lane))))
      → (sends w.lane.network p (instruction_for p w.lane).b ≡ true → P (close_one (channel_of w.lane (channel_at p w.lane))))
      → P (step_for p w).channel
  unfolding step_at
  channel_by P as_was got put shut =
      let l : Lane = w.lane in
      let n : Network = l.network in
      let i : Instruction = instruction_for p l in
      step_channel_by P (receives n p i.b) (sends n p i.b) (ended_at l (receiver_of n (channel_in i))) (process_of l p) (channel_of l (channel_in i)) as_was got put shut
      (count_of n p)
      i
      _
      (stands_right_lem l s p b).fields

  -- the channel of an instruction that is not there is as it was
  channel_absent : w.lane.network.channels ≤ channel_at p w.lane → (step_for p w).channel ≡ channel_of w.lane (channel_at p w.lane)
  channel_absent m =
      let none = le-ltb (instruction_for p w.lane).b w.lane.network.channels (omega arith) in
      let absent : (e : Bool) → (ltb (instruction_for p w.lane).b w.lane.network.channels && e) ≡ true → ⊥ = λ e t. true≢false (sym t ∙ rw none) in
      channel_by (λ (g : Channel). g ≡ channel_of w.lane (channel_at p w.lane)) refl (λ e. absurd (absent _ e)) (λ e live room. absurd (absent _ e))
      (λ e. absurd (absent _ e))

  -- the channel put back: sound where it is used, as it was where it is not
  channel_back : Sound (put_channel (channel_at p w.lane) (step_for p w).channel w.lane)
  channel_back =
      let l : Lane = w.lane in
      let c : ℕ = channel_at p l in
      let ended : Bool = ended_at l (sender_of l.network c) in
      let gone : Bool = ended_at l (receiver_of l.network c) in
      let h : Channel = channel_of l c in
      put_channel_sound c (step_for p w).channel l s
      (λ m. channel_by (ChannelSound ended gone) (s.channels c m) (λ e. get_one_lem ended gone h (s.channels c m))
      (λ e live room. put_one_lem ended gone h (s.channels c m) live room)
      (λ e. close_one_lem ended gone h (s.channels c m)))
      channel_absent

-- a pick keeps a lane sound
pub picked_sound : (p : ℕ) (w : World) → Shaped w.lane → p < w.lane.network.processes → Sound w.lane → Sound (pick_in p w).lane
picked_sound p w shaped b s =
    let q : Process = (step_for p w).process in
    let l : Lane = put_channel (channel_at p w.lane) (step_for p w).channel w.lane in
    let back = channel_back p w s b in
    let on : is_halted (step_for p w).outcome ≡ false → Sound (stepped_lane p w) =
    λ e. put_process_sound p q l back b (place p w s b) (ap is_ended (condition p w s b e)) in
    pick_by (λ (x : World). Sound x.lane) p w on (λ v e. on (ap is_halted e))
    (λ e. end_sound p q l (put_channel_shaped (channel_at p w.lane) (step_for p w).channel w.lane shaped) back b (place p w s b))

-- the same of the test
pub pick_sound : (p : ℕ) (w : World) → Shaped w.lane → p < w.lane.network.processes → sound_of w.lane ≡ true → sound_of (pick_in p w).lane ≡ true
pick_sound p w shaped b e = says_sound (pick_in p w).lane (picked_sound p w shaped b (sound_says w.lane e))

-- ---- what no pick changes
module _ (p : ℕ) (w : World) where
  -- the network
  pub pick_network : (pick_in p w).lane.network ≡ w.lane.network
  pick_network = pick_by (λ (x : World). x.lane.network ≡ w.lane.network) p w (λ e. refl) (λ v e. refl) (λ e. refl)

  -- the count of accepted calls
  pub pick_accepted : (pick_in p w).lane.accepted ≡ w.lane.accepted
  pick_accepted = pick_by (λ (x : World). x.lane.accepted ≡ w.lane.accepted) p w (λ e. refl) (λ v e. refl) (λ e. refl)

  -- the number of cells
  pub pick_cells : length (pick_in p w).cells ≡ length w.cells
  pick_cells = pick_by (λ (x : World). length x.cells ≡ length w.cells) p w (λ e. refl) (λ v e. length-set w.cells _ v) (λ e. refl)

  -- the lengths of the lane's arrays
  pub pick_shaped : Shaped w.lane → Shaped (pick_in p w).lane
  pick_shaped s =
      let back = put_process_shaped p (step_for p w).process _ (put_channel_shaped (channel_at p w.lane) (step_for p w).channel w.lane s) in
      pick_by (λ (x : World). Shaped x.lane) p w (λ e. back) (λ v e. back) (λ e. drop_shaped p (stepped_lane p w) back)

  -- every cell but the one that a message goes to
  pub pick_other_cells : (k : ℕ) → (k ≡ cell_for p w.lane → ⊥) → cell_at (pick_in p w) k ≡ cell_at w k
  pick_other_cells k n =
      pick_by (λ (x : World). cell_at x k ≡ cell_at w k) p w (λ e. refl) (λ v e. get_or-set_other w.cells (cell_for p w.lane) k v (pos 0) n) (λ e. refl)

  -- all cells, unless a message was sent
  pub pick_same_cells : ((v : ℤ) → (step_for p w).outcome ≡ Sent v → ⊥) → (pick_in p w).cells ≡ w.cells
  pick_same_cells n = pick_by (λ (x : World). x.cells ≡ w.cells) p w (λ e. refl) (λ v e. absurd (n v e)) (λ e. refl)

-- ---- "Only "moved" changes anything"
not_moved : (o : Outcome) → has_moved o ≡ false → waits o ≡ true
not_moved Moved e = absurd (true≢false e)
not_moved (Sent v) e = absurd (true≢false e)
not_moved Halted e = absurd (true≢false e)
not_moved WaitEmpty e = refl
not_moved WaitFull e = refl
not_moved Ended e = refl

step_waits :
    (p : ℕ) (w : World) → has_moved (step_for p w).outcome ≡ false
    → step_for p w ≡ outcome (process_of w.lane p) (channel_of w.lane (channel_at p w.lane)) (step_for p w).outcome
unfolding step_at
step_waits p w e = step_still (instruction_for p w.lane) (process_of w.lane p) _ _ _ (not_moved (step_for p w).outcome e)

-- a process and a channel put back as they were
put_same : (p c : ℕ) (l : Lane) → Shaped l → p < 16 → put_process p (process_of l p) (put_channel c (channel_of l c) l) ≡ l
put_same p c l s b =
    rw (
      put_eight_lem l.registers (8 * p) (omega (arith, s.registers)),
      set-get_or l.processes p no_standing,
      set-get_or l.channels c no_channel,
    )

-- a pick that did not move changes nothing
pub pick_waits : (p : ℕ) (w : World) → Shaped w.lane → p < 16 → has_moved (step_for p w).outcome ≡ false → pick_in p w ≡ w
pick_waits p w s b e =
    let c : ℕ = channel_at p w.lane in
    pick_by (λ (x : World). x ≡ w) p w
    (λ f. ap (λ (r : Stepped). world (put_process p r.process (put_channel c r.channel w.lane)) w.cells) (step_waits p w e)
    ∙ ap (λ (l : Lane). world l w.cells) (put_same p c w.lane s b))
    (λ v f. absurd (true≢false (sym (ap has_moved f) ∙ e)))
    (λ f. absurd (true≢false (sym (ap has_moved f) ∙ e)))
