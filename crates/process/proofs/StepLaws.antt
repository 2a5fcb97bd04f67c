-- What a step does, whatever the instruction: it waits and changes nothing, or the process goes on, or it ends. From this: the place stays
-- among the instructions, the channel stays sound, its highest filling rises with what it holds, the registers stay eight, the condition changes only at an
-- end.
-- Assumes nothing.
use mathlib.Core.Path.{◌≡◌, refl, sym, ap, subst, ◌∙◌}
use mathlib.Core.Bool.{Bool, true, false, cond, not, ◌&&◌, ◌||◌}
use mathlib.Core.List.{List}
use mathlib.Core.Logic.{◌⊎◌, inl, inr}
use Prim.Native.Nat.{ℕ, ◌+◌, ◌≤◌, ◌<◌, max}
use native.Mathlib.Omega.{arith}
use lib.Dec.{T, eqb, lit<, lit≤}
use lib.ListN.{length, length-set}
use lib.IntN.{ℤ}
use borrow.Author.Tests.{ltb-true, eqb-false}
use Rattle.base.proofs.Conjunction.{both_true}
use Rattle.network.specs.Code.{register, unnamed, fields_right, may_be_last, stands_right}
use Rattle.network.specs.declared.Instruction.{Instruction}
use Rattle.arithmetic.specs.Quotient.{Quotient, value, faults, quotient_of, remainder_of}
use Rattle.process.specs.declared.Condition.{Condition}
use Rattle.process.specs.declared.Condition.TheVariants.{Live, Stopped, Faulted}
use Rattle.process.specs.Process.{Process, Stepped}
use Rattle.process.specs.declared.Channel.{Channel}
use Rattle.process.specs.declared.Outcome.{Outcome}
use Rattle.process.specs.declared.Outcome.TheVariants.{Moved, Sent, Halted, WaitEmpty, WaitFull, Ended}
use Rattle.process.specs.Channels.{put_one, get_one, close_one}
use Rattle.process.specs.Intent.{Intent, idle, inner, receive, send, close, halt}
use Rattle.process.specs.Want.{counted, register_of, onward, assigned, jumped, stopped, faulted, is_null, is_negative, divided, branched, want_live, want_in, want}
use Rattle.process.specs.Execute.{outcome, execute, step_of}
use Rattle.process.proofs.Fields.{run_at, by_opcode, beyond}

-- ---- outcomes: those that change nothing, and the end
abbrev pub waits : Outcome → Bool
waits Moved = false
waits (Sent v) = false
waits Halted = false
waits WaitEmpty = true
waits WaitFull = true
waits Ended = true

-- the process ended by this step
abbrev pub is_halted : Outcome → Bool
is_halted Moved = false
is_halted (Sent v) = false
is_halted Halted = true
is_halted WaitEmpty = false
is_halted WaitFull = false
is_halted Ended = false

-- ---- what stays of a channel
pub record Kept (h g : Channel) : Type 0 where
  pub capacity : g.capacity ≡ h.capacity
  pub oldest : h.oldest < 256 → g.oldest < 256
  pub held : h.held ≤ h.capacity → g.held ≤ g.capacity
  pub closed : h.closed ≡ true → g.closed ≡ true
  pub peak : h.held ≤ h.peak → g.peak ≡ max h.peak g.held

kept_same : (h : Channel) → Kept h h
kept_same h = record { capacity = refl; oldest = λ l. l; held = λ l. l; closed = λ e. e; peak = λ l. omega arith }

kept_put : (h : Channel) → eqb h.held h.capacity ≡ false → Kept h (put_one h)
kept_put h n =
    record {
      capacity = refl;
      oldest = λ l. l;
      held = λ l. let e : h.held ≡ h.capacity → ⊥ = eqb-false _ _ n in omega arith;
      closed = λ e. e;
      peak = λ l. refl;
    }

kept_get : (h : Channel) → Kept h (get_one h)
kept_get h = record { capacity = refl; oldest = λ l. omega arith; held = λ l. omega arith; closed = λ e. e; peak = λ l. omega arith }

kept_close : (h : Channel) → Kept h (close_one h)
kept_close h = record { capacity = refl; oldest = λ l. l; held = λ l. l; closed = λ e. refl; peak = λ l. omega arith }

-- ---- G holds of each process that may go on, E of each that may end
module _ (G E : Process → Type 0) where
  abbrev pub Every : Intent Process ℤ → Type 0
  Every idle = Unit
  Every (inner x) = G x
  Every (receive b next over) = ((v : ℤ) → G (next v)) × G over
  Every (send b v next fault) = G next × E fault
  Every (close b next fault) = G next × E fault
  Every (halt x) = E x

  module _ (q : Process) (h : Channel) where
    pub data Result : Stepped → Type 0 where
      still : (o : Outcome) → waits o ≡ true → is_halted o ≡ false → Result (outcome q h o)
      went : (x : Process) (g : Channel) (o : Outcome) → waits o ≡ false → is_halted o ≡ false → G x → Kept h g → Result (outcome x g o)
      ended : (x : Process) → E x → Result (outcome x h Halted)

    received : (t u : Bool) (x y : Process) → G x → G y → Result (cond t (cond u (outcome y h Moved) (outcome q h WaitEmpty)) (outcome x (get_one h) Moved))
    received true true x y gx gy = went y h Moved refl refl gy (kept_same h)
    received true false x y gx gy = still WaitEmpty refl refl
    received false u x y gx gy = went x (get_one h) Moved refl refl gx (kept_get h)

    sent : (t u gone : Bool) (v : ℤ) (x y : Process) → eqb h.held h.capacity ≡ u → G x → E y →
        Result (cond t (outcome y h Halted) (cond (cond gone false u) (outcome q h WaitFull) (cond gone (outcome x h Moved) (outcome x (put_one h) (Sent v)))))
    sent true u gone v x y n gx ey = ended y ey
    sent false u true v x y n gx ey = went x h Moved refl refl gx (kept_same h)
    sent false true false v x y n gx ey = still WaitFull refl refl
    sent false false false v x y n gx ey = went x (put_one h) (Sent v) refl refl gx (kept_put h n)

    closes : (t : Bool) (x y : Process) → G x → E y → Result (cond t (outcome y h Halted) (outcome x (close_one h) Moved))
    closes true x y gx ey = ended y ey
    closes false x y gx ey = went x (close_one h) Moved refl refl gx (kept_close h)

    pub executed : (w : Intent Process ℤ) (m : ℤ) (gone : Bool) → Every w → Result (execute w q h m gone)
    unfolding execute
    executed idle m gone e = still Ended refl refl
    executed (inner x) m gone e = went x h Moved refl refl e (kept_same h)
    executed (receive b next over) m gone e = received (eqb h.held 0) h.closed (next m) over (e.0 m) e.1
    executed (send b v next fault) m gone e = sent h.closed (eqb h.held h.capacity) gone v next fault refl e.0 e.1
    executed (close b next fault) m gone e = closes h.closed next fault e.0 e.1
    executed (halt x) m gone e = ended x e

  -- what a process wants that is not live is nothing
  wants : (c : Condition) (i : Instruction) (q : Process) → Every (want_live i q) → Every (want_in c i q)
  wants Live i q e = e
  wants Stopped i q e = tt
  wants Faulted i q e = tt

  pub stepped : (i : Instruction) (q : Process) (h : Channel) (m : ℤ) (gone : Bool) → Every (want_live i q) → Result q h (step_of i q h m gone)
  unfolding step_of want
  stepped i q h m gone e = executed q h (want i q) m gone (wants q.condition i q e)

-- ---- what each opcode may lead to: on to the next instruction, to instruction c, a stop, a fault
module _ (G E : Process → Type 0) (i : Instruction) (q : Process)
    (next : may_be_last i.op ≡ false → (r : List ℤ) → length r ≡ length q.registers → G (onward r q))
    (jump : (k : ℕ) → 8 ≤ k → k < 12 → i.op ≡ k → G (jumped i.c q))
    (stop : E (stopped q)) (fault : E (faulted q)) where
  assigns : (v : ℤ) → may_be_last i.op ≡ false → G (assigned i.a v q)
  assigns v n = next n _ (length-set q.registers i.a v)

  proceeds : may_be_last i.op ≡ false → G (onward q.registers q)
  proceeds n = next n q.registers refl

  branches : (t : Bool) → G (jumped i.c q) → may_be_last i.op ≡ false → Every G E (branched t i.c q)
  branches true g n = g
  branches false g n = proceeds n

  divides : (d : Quotient) → may_be_last i.op ≡ false → Every G E (divided i.a d q)
  divides (value v) n = assigns v n
  divides faults n = fault

  leads : Every G E (want_live i q)
  unfolding want_live
  leads =
      by_opcode i (Every G E (want_live i q)) (
        λ e. rw e stop,
        (
          λ e. rw e (assigns _ (rw e)),
          (
            λ e. rw e (assigns _ (rw e)),
            (
              λ e. rw e (assigns _ (rw e)),
              (
                λ e. rw e (assigns _ (rw e)),
                (
                  λ e. rw e (assigns _ (rw e)),
                  (
                    λ e. rw e (divides (quotient_of (register_of q i.b) (register_of q i.c)) (rw e)),
                    (
                      λ e. rw e (divides (remainder_of (register_of q i.b) (register_of q i.c)) (rw e)),
                      (
                        λ e. rw e (jump 8 (lit≤ tt) (lit< tt) e),
                        (
                          λ e. rw e (branches (is_null (register_of q i.a)) (jump 9 (lit≤ tt) (lit< tt) e) (rw e)),
                          (
                            λ e. rw e (branches (is_negative (register_of q i.a)) (jump 10 (lit≤ tt) (lit< tt) e) (rw e)),
                            (
                              λ e. rw e ((λ v. assigns v (rw e)), jump 11 (lit≤ tt) (lit< tt) e),
                              (
                                λ e. rw e (proceeds (rw e), fault),
                                (λ e. rw e (proceeds (rw e), fault), tt),
                              ),
                            ),
                          ),
                        ),
                      ),
                    ),
                  ),
                ),
              ),
            ),
          ),
        ),
      )
      (λ l. rw (beyond i q l) fault)

-- ---- registers, position, condition and moves
pub record Goes (q x : Process) : Type 0 where
  pub registers : length x.registers ≡ length q.registers
  pub condition : x.condition ≡ q.condition
  pub moves : x.moves ≡ counted q.moves

pub record Ends (q x : Process) : Type 0 where
  pub registers : x.registers ≡ q.registers
  pub position : x.position ≡ q.position
  pub condition : (x.condition ≡ Stopped) ⊎ (x.condition ≡ Faulted)
  pub moves : x.moves ≡ counted q.moves

module _ (i : Instruction) (q : Process) (h : Channel) (m : ℤ) (gone : Bool) where
  pub step_result : Result (Goes q) (Ends q) q h (step_of i q h m gone)
  step_result =
      stepped (Goes q) (Ends q) i q h m gone
      (leads (Goes q) (Ends q) i q
      (λ n r e. record { registers = e; condition = refl; moves = refl })
      (λ k l u e. record { registers = refl; condition = refl; moves = refl })
      (record { registers = refl; position = refl; condition = inl refl; moves = refl })
      (record { registers = refl; position = refl; condition = inr refl; moves = refl }))

-- ---- the laws
clash : {X : Type 0} → true ≡ false → X
clash e = absurd (subst T e tt)

module _ {q : Process} {h : Channel} where
  unchanged : {s : Stepped} → Result (Goes q) (Ends q) q h s → waits s.outcome ≡ true → s ≡ outcome q h s.outcome
  unchanged (still o w n) e = refl
  unchanged (went x g o w n y k) e = clash (sym e ∙ w)
  unchanged (ended x y) e = clash (sym e)

  channel_kept : {s : Stepped} → Result (Goes q) (Ends q) q h s → Kept h s.channel
  channel_kept (still o w n) = kept_same h
  channel_kept (went x g o w n y k) = k
  channel_kept (ended x y) = kept_same h

  channel_ended : {s : Stepped} → Result (Goes q) (Ends q) q h s → is_halted s.outcome ≡ true → s.channel ≡ h
  channel_ended (still o w n) e = clash (sym e ∙ n)
  channel_ended (went x g o w n y k) e = clash (sym e ∙ n)
  channel_ended (ended x y) e = refl

  registers_kept : {s : Stepped} → Result (Goes q) (Ends q) q h s → length s.process.registers ≡ length q.registers
  registers_kept (still o w n) = refl
  registers_kept (went x g o w n y k) = y.registers
  registers_kept (ended x y) = ap length y.registers

  condition_kept : {s : Stepped} → Result (Goes q) (Ends q) q h s → is_halted s.outcome ≡ false → s.process.condition ≡ q.condition
  condition_kept (still o w n) e = refl
  condition_kept (went x g o w n y k) e = y.condition
  condition_kept (ended x y) e = clash e

  end_reached : {s : Stepped} → Result (Goes q) (Ends q) q h s → is_halted s.outcome ≡ true → Ends q s.process
  end_reached (still o w n) e = clash (sym e ∙ n)
  end_reached (went x g o w n y k) e = clash (sym e ∙ n)
  end_reached (ended x y) e = y

  move_counted : {s : Stepped} → Result (Goes q) (Ends q) q h s → waits s.outcome ≡ false → s.process.moves ≡ counted q.moves
  move_counted (still o w n) e = clash (sym w ∙ e)
  move_counted (went x g o w n y k) e = y.moves
  move_counted (ended x y) e = y.moves

module _ (i : Instruction) (q : Process) (h : Channel) (m : ℤ) (gone : Bool) where
  -- "Only "moved" changes anything"
  pub step_still : waits (step_of i q h m gone).outcome ≡ true → step_of i q h m gone ≡ outcome q h (step_of i q h m gone).outcome
  step_still = unchanged (step_result i q h m gone)

  -- ", and adds one to moves"
  pub step_moves : waits (step_of i q h m gone).outcome ≡ false → (step_of i q h m gone).process.moves ≡ counted q.moves
  step_moves = move_counted (step_result i q h m gone)

  pub step_channel : Kept h (step_of i q h m gone).channel
  step_channel = channel_kept (step_result i q h m gone)

  -- at an end it is as it was, until the channels of the process are dropped
  pub step_halted : is_halted (step_of i q h m gone).outcome ≡ true → (step_of i q h m gone).channel ≡ h
  step_halted = channel_ended (step_result i q h m gone)

  pub step_registers : length (step_of i q h m gone).process.registers ≡ length q.registers
  step_registers = registers_kept (step_result i q h m gone)

  pub step_eight : length q.registers ≡ 8 → length (step_of i q h m gone).process.registers ≡ 8
  step_eight e = step_registers ∙ e

  -- an end stops or faults the process where it stands; nothing else changes its condition
  pub step_condition : is_halted (step_of i q h m gone).outcome ≡ false → (step_of i q h m gone).process.condition ≡ q.condition
  step_condition = condition_kept (step_result i q h m gone)

  pub step_end : is_halted (step_of i q h m gone).outcome ≡ true → Ends q (step_of i q h m gone).process
  step_end = end_reached (step_result i q h m gone)

-- ---- the position stays below the count: the last instruction of a process is a stop or a jump, and a jump's target is below the count
module _ (last : Bool) (count : ℕ) (receives sends : Bool) (i : Instruction) (q : Process) where
  within : {h : Channel} {s : Stepped} → q.position < count → Result (λ x. x.position < count) (λ x. x.position ≡ q.position) q h s → s.process.position < count
  within l (still o w n) = l
  within l (went x g o w n y k) = y
  within l (ended x y) = rw y l

  right : stands_right last count receives sends i ≡ true → (fields_right count receives sends i ≡ true) × ((not last || may_be_last i.op) ≡ true)
  unfolding stands_right
  right e = both_true _ _ e

  inside : last ≡ eqb (q.position + 1) count → q.position < count → (not last || may_be_last i.op) ≡ true → may_be_last i.op ≡ false → q.position + 1 < count
  inside e l r n = go last e (rw n at r)
    where
      go : (t : Bool) → t ≡ eqb (q.position + 1) count → (not t || false) ≡ true → q.position + 1 < count
      go true f r = clash (sym r)
      go false f r = let u : q.position + 1 ≡ count → ⊥ = eqb-false _ _ (sym f) in omega arith

  target : fields_right count receives sends i ≡ true → (k : ℕ) → 8 ≤ k → k < 12 → i.op ≡ k → i.c < count
  unfolding fields_right
  target r =
      run_at (λ k. i.op ≡ k → i.c < count) 4 8 (
        λ e. ltb-true _ _ (both_true (unnamed i.a && unnamed i.b) _ (rw e at r)).1,
        (
          λ e. ltb-true _ _ (both_true (register i.a && unnamed i.b) _ (rw e at r)).1,
          (
            λ e. ltb-true _ _ (both_true (register i.a && unnamed i.b) _ (rw e at r)).1,
            (λ e. ltb-true _ _ (both_true (register i.a && receives) _ (rw e at r)).1, tt),
          ),
        ),
      )

  pub step_place : (h : Channel) (m : ℤ) (gone : Bool) → stands_right last count receives sends i ≡ true → last ≡ eqb (q.position + 1) count → q.position < count
      → (step_of i q h m gone).process.position < count
  step_place h m gone e f l =
      within l
      (stepped (λ x. x.position < count) (λ x. x.position ≡ q.position) i q h m gone
      (leads (λ x. x.position < count) (λ x. x.position ≡ q.position) i q
      (λ n r g. inside f l (right e).1 n)
      (target (right e).0)
      refl
      refl))
