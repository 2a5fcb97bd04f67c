-- What a process waits for: its condition, its opcode and its channel say how it waits, so a wait is what a pick with any cells would answer. What the
-- code gathers of a process is its wait.
-- Assumes nothing.
use mathlib.Core.Path.{◌≡◌, refl, sym, ◌∙◌}
use mathlib.Core.Bool.{Bool, true, false, cond, not, ◌&&◌}
use mathlib.Core.List.{List, []}
use Prim.Native.Nat.{ℕ, ◌<◌}
use native.Mathlib.Omega.{arith}
use borrow.Author.Tests.{lt-ltb, ne_eqb}
use lib.Dec.{eqb}
use lib.IntN.{ℤ}
use Rattle.network.specs.declared.Instruction.{Instruction}
use Rattle.network.specs.Rules.{receiver_of}
use Rattle.arithmetic.specs.Quotient.{Quotient, value, faults, quotient_of, remainder_of}
use Rattle.process.specs.declared.Condition.{Condition}
use Rattle.process.specs.declared.Condition.TheVariants.{Live, Stopped, Faulted}
use Rattle.process.specs.Process.{Process}
use Rattle.process.specs.declared.Channel.{Channel}
use Rattle.process.specs.declared.Outcome.TheVariants.{Moved, Halted, WaitEmpty, WaitFull}
use Rattle.process.specs.Channels.{get_one, close_one}
use Rattle.process.specs.Want.{register_of, divided, want, want_in, want_live}
use Rattle.process.specs.Execute.{full, outcome, accept, execute, step_of}
use Rattle.process.proofs.Fields.{by_opcode, beyond}
use Rattle.lane.specs.declared.Lane.{Lane}
use Rattle.lane.specs.State.{world, process_of, is_ended, ended_at, channel_of}
use Rattle.lane.specs.Pick.{channel_in, instruction_for, step_at, step_for}
use Rattle.waits.specs.Waits.{Wait, free, for_message, for_room, wait_in, wait_of, other_end, room_in, channel_waited, pointing, full_wait, waits_at}
use Rattle.waits.specs.Parts.{wait_as, wait_for}

-- ---- how a process waits
-- by this opcode, live or not, at channel c, whose record is h and whose receiver has ended or not: "A live process that would wait if picked", at a
-- receive (11) that is "empty and open", or at a send (12), where "sending to a full one waits" and a closed one faults
abbrev pub waiting_of : ℕ → Bool → Channel → Bool → ℕ → Wait
waiting_of op live h gone c =
    cond (live && not h.closed) (cond (eqb op 11 && eqb h.held 0) (for_message c) (cond (eqb op 12 && full gone h) (for_room c) free)) free

-- at neither a receive nor a send
apart : (t : Bool) → cond t free free ≡ free
apart true = refl
apart false = refl

module _ (q : Process) (h : Channel) (c : ℕ) where
  divides : (a : ℕ) (d : Quotient) (m : ℤ) (gone : Bool) → wait_in (execute (divided a d q) q h m gone).outcome c ≡ free
  unfolding execute
  divides a (value v) m gone = refl
  divides a faults m gone = refl

  receives : (t u : Bool) (x y : Process)
      → wait_in (cond t (cond u (outcome y h Moved) (outcome q h WaitEmpty)) (outcome x (get_one h) Moved)).outcome c ≡ cond (not u) (cond t (for_message c) free) free
  receives true true x y = refl
  receives true false x y = refl
  receives false true x y = refl
  receives false false x y = refl

  sends : (t u gone : Bool) (v : ℤ) (x y : Process)
      → wait_in (cond t (outcome y h Halted) (cond (cond gone false u) (outcome q h WaitFull) (accept gone v x h))).outcome c
      ≡ cond (not t) (cond (cond gone false u) (for_room c) free) free
  sends true u gone v x y = refl
  sends false u true v x y = refl
  sends false true false v x y = refl
  sends false false false v x y = refl

  closes : (t : Bool) (x y : Process) → wait_in (cond t (outcome y h Halted) (outcome x (close_one h) Moved)).outcome c ≡ free
  closes true x y = refl
  closes false x y = refl

  -- a live process, by its opcode
  live_waits : (i : Instruction) (m : ℤ) (gone : Bool) → wait_in (execute (want_live i q) q h m gone).outcome c ≡ waiting_of i.op true h gone c
  unfolding execute want_live
  live_waits i m gone =
      let rest = sym (apart (not h.closed)) in
      by_opcode i (wait_in (execute (want_live i q) q h m gone).outcome c ≡ waiting_of i.op true h gone c) (
        λ e. rw e rest,
        (
          λ e. rw e rest,
          (
            λ e. rw e rest,
            (
              λ e. rw e rest,
              (
                λ e. rw e rest,
                (
                  λ e. rw e rest,
                  (
                    λ e. rw e (divides _ (quotient_of (register_of q i.b) (register_of q i.c)) m gone ∙ rest),
                    (
                      λ e. rw e (divides _ (remainder_of (register_of q i.b) (register_of q i.c)) m gone ∙ rest),
                      (
                        λ e. rw e rest,
                        (
                          λ e. rw e rest,
                          (
                            λ e. rw e rest,
                            (
                              λ e. rw e (receives (eqb h.held 0) h.closed _ _),
                              (λ e. rw e (sends h.closed (eqb h.held h.capacity) gone _ _ _), (λ e. rw e (closes h.closed _ _ ∙ rest), tt)),
                            ),
                          ),
                        ),
                      ),
                    ),
                  ),
                ),
              ),
            ),
          ),
        ),
      )
      (λ o. rw (beyond i q o, ne_eqb i.op 11 (λ e. omega arith), ne_eqb i.op 12 (λ e. omega arith)) rest)

  waits_in : (k : Condition) (i : Instruction) (m : ℤ) (gone : Bool)
      → wait_in (execute (want_in k i q) q h m gone).outcome c ≡ waiting_of i.op (not (is_ended k)) h gone c
  unfolding execute
  waits_in Live i m gone = live_waits i m gone
  waits_in Stopped i m gone = refl
  waits_in Faulted i m gone = refl

-- of a step; the message does not matter
step_waits : (i : Instruction) (q : Process) (h : Channel) (m : ℤ) (gone : Bool) (c : ℕ)
    → wait_in (step_of i q h m gone).outcome c ≡ waiting_of i.op (not (is_ended q.condition)) h gone c
unfolding step_of want
step_waits i q h m gone c = waits_in q h c q.condition i m gone

-- of process p of a lane
abbrev pub waiting_for : Lane → ℕ → Wait
waiting_for l p =
    let c = channel_in (instruction_for p l) in
    waiting_of (instruction_for p l).op (not (ended_at l p)) (channel_of l c) (ended_at l (receiver_of l.network c)) c

pick_waits : (l : Lane) (cells : List ℤ) (p : ℕ) → wait_in (step_for p (world l cells)).outcome (channel_in (instruction_for p l)) ≡ waiting_for l p
unfolding step_at
pick_waits l cells p = step_waits (instruction_for p l) (process_of l p) _ _ _ _

pub wait_is : (l : Lane) (p : ℕ) → wait_of l p ≡ waiting_for l p
unfolding wait_of
wait_is l p = pick_waits l [] p

-- it waits exactly as a pick with these cells would have it
pub wait_any : (l : Lane) (cells : List ℤ) (p : ℕ) → wait_of l p ≡ wait_in (step_for p (world l cells)).outcome (channel_in (instruction_for p l))
wait_any l cells p = wait_is l p ∙ sym (pick_waits l cells p)

-- a process that does not stand at a send waits for no room
unsent : (l : Lane) (t u : Bool) (c : ℕ) → room_in l (cond t (cond u (for_message c) free) free) ≡ 0
unsent l true true c = refl
unsent l true false c = refl
unsent l false u c = refl

pub unsent_full : (l : Lane) (p : ℕ) → ((instruction_for p l).op ≡ 12 → ⊥) → full_wait l p ≡ 0
unfolding full_wait
unsent_full l p n =
    let i : Instruction = instruction_for p l in
    let h : Channel = channel_of l (channel_in i) in
    rw (wait_is l p, ne_eqb i.op 12 n) (unsent l (not (ended_at l p) && not h.closed) (eqb i.op 11 && eqb h.held 0) (channel_in i))

-- what a look answers says what is waited for
pub waits_so : (l : Lane) (w : Wait) → wait_as (wait_for l w) ≡ w
waits_so l free = refl
waits_so l (for_message c) = refl
waits_so l (for_room c) = refl

-- ---- the numbers of a wait: where the process points, the capacity of its full wait, its channel
module _ (l : Lane) (p : ℕ) (h : p < l.network.processes) where
  pub pointing_is : pointing l p ≡ other_end l.network (wait_of l p)
  unfolding pointing
  pointing_is = rw (lt-ltb p l.network.processes h)

pub full_is : (l : Lane) (p : ℕ) → full_wait l p ≡ room_in l (wait_of l p)
unfolding full_wait
full_is l p = refl

pub channel_is : (l : Lane) (p : ℕ) → waits_at l p ≡ channel_waited (wait_of l p)
unfolding waits_at
channel_is l p = refl
