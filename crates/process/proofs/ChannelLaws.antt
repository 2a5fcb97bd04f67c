-- What a step may make of its channel, where the instruction passes the file's rules: a process takes from a channel only as its receiver, and
-- puts into it or closes it only as its sender.
-- Assumes nothing.
use mathlib.Core.Path.{◌≡◌, refl}
use mathlib.Core.Bool.{Bool, true, false, cond, false≢true}
use Prim.Native.Nat.{ℕ}
use borrow.Author.Tests.{eqb-false}
use lib.Dec.{eqb}
use lib.IntN.{ℤ}
use Rattle.base.proofs.Conjunction.{middle}
use Rattle.base.proofs.Numbers.{each_one}
use Rattle.network.specs.declared.Instruction.{Instruction}
use Rattle.network.specs.Code.{fields_right, register, unnamed, target}
use Rattle.arithmetic.specs.Quotient.{Quotient, value, faults, quotient_of, remainder_of}
use Rattle.process.specs.declared.Condition.{Condition}
use Rattle.process.specs.declared.Condition.TheVariants.{Live, Stopped, Faulted}
use Rattle.process.specs.Process.{Process}
use Rattle.process.specs.declared.Channel.{Channel}
use Rattle.process.specs.declared.Outcome.TheVariants.{Moved, Halted, WaitEmpty, WaitFull}
use Rattle.process.specs.Channels.{put_one, get_one, close_one}
use Rattle.process.specs.Intent.{Intent, idle, inner, receive, send, close, halt}
use Rattle.process.specs.Want.{register_of, divided, want_live, want_in, want}
use Rattle.process.specs.Execute.{outcome, accept, execute, step_of}

-- ---- what is wanted at a channel is wanted at its end
abbrev AtEnd : Bool → Bool → Intent Process ℤ → Type 0
AtEnd receives sends idle = Unit {0}
AtEnd receives sends (inner x) = Unit {0}
AtEnd receives sends (receive b next over) = receives ≡ true
AtEnd receives sends (send b v next fault) = sends ≡ true
AtEnd receives sends (close b next fault) = sends ≡ true
AtEnd receives sends (halt x) = Unit {0}

module _ (count : ℕ) (receives sends : Bool) (q : Process) where
  divided_at_end : (r : ℕ) (d : Quotient) → AtEnd receives sends (divided r d q)
  divided_at_end r (value v) = tt
  divided_at_end r faults = tt

  live_at_end : (i : Instruction) → fields_right count receives sends i ≡ true → AtEnd receives sends (want_live i q)
  unfolding fields_right want_live
  live_at_end i =
      each_one
      (λ op.
      fields_right count receives sends (record { op = op; a = i.a; b = i.b; c = i.c }) ≡ true
      → AtEnd receives sends (want_live (record { op = op; a = i.a; b = i.b; c = i.c }) q))
      14 (
        λ e. tt,
        (
          λ e. tt,
          (
            λ e. tt,
            (
              λ e. tt,
              (
                λ e. tt,
                (
                  λ e. tt,
                  (
                    λ e. divided_at_end i.a (quotient_of (register_of q i.b) (register_of q i.c)),
                    (
                      λ e. divided_at_end i.a (remainder_of (register_of q i.b) (register_of q i.c)),
                      (
                        λ e. tt,
                        (
                          λ e. tt,
                          (
                            λ e. tt,
                            (
                              λ e. middle (register i.a) receives (target count i.c) e,
                              (
                                λ e. middle (register i.a) sends (unnamed i.c) e,
                                (
                                  λ e. middle (unnamed i.a) sends (unnamed i.c) e,
                                  λ k e. absurd (false≢true e),
                                ),
                              ),
                            ),
                          ),
                        ),
                      ),
                    ),
                  ),
                ),
              ),
            ),
          ),
        ),
      )
      i.op

  in_at_end : (k : Condition) (i : Instruction) → fields_right count receives sends i ≡ true → AtEnd receives sends (want_in k i q)
  in_at_end Live i e = live_at_end i e
  in_at_end Stopped i e = tt
  in_at_end Faulted i e = tt

  at_end_lem : (i : Instruction) → fields_right count receives sends i ≡ true → AtEnd receives sends (want i q)
  unfolding want
  at_end_lem i e = in_at_end q.condition i e

-- ---- what holds of the channel as it was, and of it after each operation that the process may do, holds of it after the step
module _ (P : Channel → Type 0) (receives sends gone : Bool) (q : Process) (h : Channel)
    (as_was : P h)
    (got : receives ≡ true → P (get_one h))
    (put : sends ≡ true → gone ≡ false → (h.held ≡ h.capacity → ⊥) → P (put_one h))
    (shut : sends ≡ true → P (close_one h)) where
  received : (empty closed : Bool) (x y : Process) → receives ≡ true
      → P (cond empty (cond closed (outcome y h Moved) (outcome q h WaitEmpty)) (outcome x (get_one h) Moved)).channel
  received true true x y e = as_was
  received true false x y e = as_was
  received false closed x y e = got e

  sent : (closed filled free : Bool) (v : ℤ) (x y : Process) → sends ≡ true → gone ≡ free → eqb h.held h.capacity ≡ filled
      → P (cond closed (outcome y h Halted) (cond (cond free false filled) (outcome q h WaitFull) (accept free v x h))).channel
  sent true filled free v x y e f g = as_was
  sent false filled true v x y e f g = as_was
  sent false true false v x y e f g = as_was
  sent false false false v x y e f g = put e f (eqb-false _ _ g)

  closes : (closed : Bool) (x y : Process) → sends ≡ true → P (cond closed (outcome y h Halted) (outcome x (close_one h) Moved)).channel
  closes true x y e = as_was
  closes false x y e = shut e

  executed : (t : Intent Process ℤ) (m : ℤ) → AtEnd receives sends t → P (execute t q h m gone).channel
  unfolding execute
  executed idle m e = as_was
  executed (inner x) m e = as_was
  executed (receive b next over) m e = received (eqb h.held 0) h.closed (next m) over e
  executed (send b v next fault) m e = sent h.closed (eqb h.held h.capacity) gone v next fault e refl refl
  executed (close b next fault) m e = closes h.closed next fault e
  executed (halt x) m e = as_was

  pub step_channel_by : (count : ℕ) (i : Instruction) (m : ℤ) → fields_right count receives sends i ≡ true → P (step_of i q h m gone).channel
  unfolding step_of
  step_channel_by count i m e = executed (want i q) m (at_end_lem count receives sends q i e)
