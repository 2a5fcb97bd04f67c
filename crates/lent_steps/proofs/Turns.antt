-- What an instruction left and what it did, with what is left to do, is the pick: by what the process makes of itself.
-- Assumes nothing.
use mathlib.Core.Path.{◌≡◌, refl, ap, ◌∙◌}
use mathlib.Core.List.{List}
use Prim.Native.Nat.{ℕ, ◌+◌, ◌*◌, ◌<◌}
use native.Mathlib.Omega.{arith}
use lib.IntN.{ℤ}
use lib.ListN.{set}
use lib.Seq.{set-get_or}
use Rattle.network.specs.declared.Instruction.{Instruction}
use Rattle.network.specs.Rules.{receiver_of}
use Rattle.process.specs.declared.Channel.{Channel}
use Rattle.process.specs.declared.Outcome.{Outcome}
use Rattle.process.specs.declared.Outcome.TheVariants as did
use Rattle.process.specs.Process.{Process, Stepped}
use Rattle.process.specs.Channels.{no_channel, slot}
use Rattle.process.specs.Want.{onward, assigned, jumped, stopped, faulted, want_live, want}
use Rattle.process.specs.Execute.{outcome, execute, step_of}
use Rattle.lane.specs.declared.Lane.{Lane}
use Rattle.lane.specs.State.{World, world, cell_at, no_standing, process_of, put_process, ended_at, channel_of, put_channel}
use Rattle.lane.specs.Pick.{channel_in, settle, put_back, step_at, step_for, pick_in}
use Rattle.lane.specs.Calls.{answer_to}
use Rattle.lane.proofs.Windows.{put_one_lem, put_eight_lem}
use Rattle.register_steps.specs.declared.Did.{Did}
use Rattle.register_steps.specs.declared.Did.TheVariants.{On, To, WaitEmpty, WaitFull, Stop, Fault}
use Rattle.lent_steps.specs.Steps.{finish, says, with_state, At, Turned}

-- what process p, live at instruction i, does
abbrev pub does_at : ℕ → Instruction → Lane → List ℤ → Stepped
does_at p i l cells =
    execute (want_live i (process_of l p)) (process_of l p) (channel_of l (channel_in i))
    (cell_at (world l cells) (slot (channel_in i) (channel_of l (channel_in i)) 0))
    (ended_at l (receiver_of l.network (channel_in i)))

module _ {l : Lane} {p : ℕ} {i : Instruction} (at : At l p i) (cells : List ℤ) where
  step_is : step_at p i (channel_in i) (world l cells) ≡ does_at p i l cells
  unfolding step_at step_of want
  step_is = rw at.live

  step_for_lem : step_for p (world l cells) ≡ does_at p i l cells
  step_for_lem = rw at.instruction step_is

  -- a process x, a channel h and an outcome o
  by : (r : Did) (x : Process) (h : Channel) (o : Outcome) {w' : World}
      → does_at p i l cells ≡ outcome x h o
      → finish r p w' ≡ settle o p (slot (channel_in i) (channel_of l (channel_in i)) (channel_of l (channel_in i)).held) (world (put_process p x (put_channel (channel_in i) h l)) cells)
      → w'.lane.network ≡ l.network
      → w'.lane.processes ≡ l.processes
      → answer_to o (channel_in i) ≡ says r (channel_in i)
      → Turned r p (world l cells) w'
  unfolding pick_in put_back
  by r x h o e f n k g =
      record {
        leaves = f ∙ rw (at.instruction, step_is, e);
        network = n;
        stays = k;
        told =
            let q : (step_for p (world l cells)).outcome ≡ o = ap (λ (s : Stepped). s.outcome) (step_for_lem ∙ e) in
            rw (q, at.instruction) g;
      }

  -- register a becomes v, and on
  pub did_assign : (v : ℤ) (h : Channel) {file : List ℤ} {hs : List Channel}
      → does_at p i l cells ≡ outcome (assigned i.a v (process_of l p)) h did.Moved
      → i.a < 8
      → file ≡ set l.registers (8 * p + i.a) v
      → hs ≡ set l.channels (channel_in i) h
      → Turned On p (world l cells) (world (with_state file hs l) cells)
  unfolding finish
  did_assign v h e a f g =
      by On (assigned i.a v (process_of l p)) h did.Moved e
      (rw (f, g, put_one_lem l.registers (8 * p) i.a v a (omega (arith, at.all, at.low))))
      refl
      refl
      refl

  -- on
  pub did_on : (h : Channel) {hs : List Channel}
      → does_at p i l cells ≡ outcome (onward (process_of l p).registers (process_of l p)) h did.Moved
      → hs ≡ set l.channels (channel_in i) h
      → Turned On p (world l cells) (world (with_state l.registers hs l) cells)
  unfolding finish
  did_on h e g =
      by On (onward (process_of l p).registers (process_of l p)) h did.Moved e
      (rw (g, put_eight_lem l.registers (8 * p) (omega (arith, at.all, at.low))))
      refl
      refl
      refl

  -- on, with a message
  pub did_send : (v : ℤ) (h : Channel) {hs : List Channel} {cells' : List ℤ}
      → does_at p i l cells ≡ outcome (onward (process_of l p).registers (process_of l p)) h (did.Sent v)
      → hs ≡ set l.channels (channel_in i) h
      → cells' ≡ set cells (slot (channel_in i) (channel_of l (channel_in i)) (channel_of l (channel_in i)).held) v
      → Turned On p (world l cells) (world (with_state l.registers hs l) cells')
  unfolding finish
  did_send v h e g k =
      by On (onward (process_of l p).registers (process_of l p)) h (did.Sent v) e
      (rw (g, k, put_eight_lem l.registers (8 * p) (omega (arith, at.all, at.low))))
      refl
      refl
      refl

  -- to a target
  pub did_jump : (t : ℕ)
      → does_at p i l cells ≡ outcome (jumped t (process_of l p)) (channel_of l (channel_in i)) did.Moved
      → Turned (To t) p (world l cells) (world l cells)
  unfolding finish
  did_jump t e =
      by (To t) (jumped t (process_of l p)) (channel_of l (channel_in i)) did.Moved e
      (rw (set-get_or l.channels (channel_in i) no_channel, put_eight_lem l.registers (8 * p) (omega (arith, at.all, at.low))))
      refl
      refl
      refl

  -- nothing
  pub did_wait_empty : does_at p i l cells ≡ outcome (process_of l p) (channel_of l (channel_in i)) did.WaitEmpty → Turned WaitEmpty p (world l cells) (world l cells)
  unfolding finish
  did_wait_empty e =
      by WaitEmpty (process_of l p) (channel_of l (channel_in i)) did.WaitEmpty e
      (rw (set-get_or l.channels (channel_in i) no_channel, set-get_or l.processes p no_standing, put_eight_lem l.registers (8 * p) (omega (arith, at.all, at.low))))
      refl
      refl
      refl

  pub did_wait_full : does_at p i l cells ≡ outcome (process_of l p) (channel_of l (channel_in i)) did.WaitFull → Turned WaitFull p (world l cells) (world l cells)
  unfolding finish
  did_wait_full e =
      by WaitFull (process_of l p) (channel_of l (channel_in i)) did.WaitFull e
      (rw (set-get_or l.channels (channel_in i) no_channel, set-get_or l.processes p no_standing, put_eight_lem l.registers (8 * p) (omega (arith, at.all, at.low))))
      refl
      refl
      refl

  -- an end
  pub did_stop : does_at p i l cells ≡ outcome (stopped (process_of l p)) (channel_of l (channel_in i)) did.Halted → Turned Stop p (world l cells) (world l cells)
  unfolding finish
  did_stop e =
      by Stop (stopped (process_of l p)) (channel_of l (channel_in i)) did.Halted e
      (rw (set-get_or l.channels (channel_in i) no_channel, put_eight_lem l.registers (8 * p) (omega (arith, at.all, at.low))))
      refl
      refl
      refl

  pub did_fault : does_at p i l cells ≡ outcome (faulted (process_of l p)) (channel_of l (channel_in i)) did.Halted → Turned Fault p (world l cells) (world l cells)
  unfolding finish
  did_fault e =
      by Fault (faulted (process_of l p)) (channel_of l (channel_in i)) did.Halted e
      (rw (set-get_or l.channels (channel_in i) no_channel, put_eight_lem l.registers (8 * p) (omega (arith, at.all, at.low))))
      refl
      refl
      refl
