-- What the channels to the outside hold, all together: a pick raises it by at most one; a feed, a closing and a relief do not raise it; a take that
-- gives a message lowers it by one. None of this needs a sound lane.
-- Assumes nothing.
use mathlib.Core.Path.{◌≡◌, refl, sym, ◌∙◌}
use mathlib.Core.Bool.{Bool, true, false, cond, not, ◌&&◌, true≢false}
use mathlib.Core.List.{List, [], ◌∷◌}
use Prim.Native.Nat.{ℕ, zero, suc, ◌+◌, ◌≤◌, ◌<◌}
use native.Mathlib.Omega.{arith}
use borrow.Author.Tests.{eq-eqb, not-true}
use lib.Dec.{eqb}
use lib.IntN.{ℤ}
use lib.ListN.{get_or, set}
use Rattle.base.proofs.Tests.{each_true}
use Rattle.base.specs.Tests.{between}
use Rattle.base.specs.Lists.{values}
use Rattle.network.specs.declared.Network.{Network}
use Rattle.network.specs.Rules.{sender_of, receiver_of, capacity_of, outside, end_right, ends_right, receives, sends, record_right, records, passes}
use Rattle.base.proofs.Conjunction.{both_true}
use Rattle.network.proofs.Passed.{passed}
use Rattle.process.specs.Process.{Process}
use Rattle.process.specs.declared.Channel.{Channel}
use Rattle.process.specs.declared.Outcome.TheVariants.{Moved, Halted, WaitEmpty, WaitFull}
use Rattle.process.specs.Channels.{no_channel, put_one, get_one, close_one, enlarge_one, drop_one, slot}
use Rattle.process.specs.Intent.{Intent, idle, inner, receive, send, close, halt}
use Rattle.process.specs.Want.{want}
use Rattle.process.specs.Execute.{outcome, full, accept, execute, step_of}
use Rattle.lane.specs.declared.Lane.{Lane}
use Rattle.lane.specs.State.{World, world, channel_of, put_channel, fresh_channel, fresh_of}
use Rattle.lane.specs.Pick.{drop_from, step_at, step_for, pick_in}
use Rattle.lane.specs.Calls.{Called, receiver_ended, feed_of, close_of}
use Rattle.lane.proofs.SoundLaws.{sound_says}
use Rattle.lane.proofs.PickLaws.{channel_at, stepped_lane, pick_by}
use Rattle.lane.proofs.CallCases.{feed_cases, close_cases}
use Rattle.relief.specs.Relief.{grown}

-- ---- of a list of channels those that the test takes
abbrev held_if : Bool → Channel → ℕ
held_if t h = cond t h.held 0

pub held_over : (ℕ → Bool) → List Channel → ℕ
held_over o [] = 0
held_over o (h ∷ hs) = held_if (o 0) h + held_over (λ c. o (suc c)) hs

-- at most d more, if that holds where the test takes it
if_more : (t : Bool) (h g : Channel) (d : ℕ) → (t ≡ true → g.held ≤ h.held + d) → held_if t g + 0 ≤ held_if t h + d
if_more true h g d m = omega (arith, m refl)
if_more false h g d m = omega arith

if_none : (t : Bool) → held_if t no_channel ≡ 0
if_none true = refl
if_none false = refl

-- a channel put back: as much as it gained or lost
set_held :
    (o : ℕ → Bool) (hs : List Channel) (k : ℕ) (h : Channel) (a d : ℕ)
    → held_if (o k) h + a ≤ held_if (o k) (get_or hs k no_channel) + d
    → held_over o (set hs k h) + a ≤ held_over o hs + d
unfolding held_over
set_held o [] k h a d m = let z = if_none (o k) in omega arith
set_held o (g ∷ hs) zero h a d m = omega arith
set_held o (g ∷ hs) (suc k) h a d m = let s = set_held (λ c. o (suc c)) hs k h a d m in omega arith

-- the channels of a process that ended
drop_if : (t s r : Bool) (h : Channel) → held_if t (drop_one s r h) ≤ held_if t h
drop_if true s true h = omega arith
drop_if true s false h = omega arith
drop_if false s r h = omega arith

drop_held : (o : ℕ → Bool) (n : Network) (p c : ℕ) (hs : List Channel) → held_over o (drop_from n p c hs) ≤ held_over o hs
unfolding held_over
drop_held o n p c [] = omega arith
drop_held o n p c (h ∷ hs) =
    let s = drop_held (λ c. o (suc c)) n p (suc c) hs in
    omega (arith, drop_if (o 0) (sends n p c) (receives n p c) h)

-- ---- of a lane those that go outside
abbrev goes_outside : Network → ℕ → Bool
goes_outside n c = eqb (receiver_of n c) outside

abbrev pub held_out : Lane → ℕ
held_out l = held_over (goes_outside l.network) l.channels

-- a channel put back: at most d more, if that holds where it goes outside
put_held : (c : ℕ) (h : Channel) (l : Lane) (d : ℕ) → (goes_outside l.network c ≡ true → h.held ≤ (channel_of l c).held + d) → held_out (put_channel c h l) ≤ held_out l + d
put_held c h l d m = omega (arith, set_held (goes_outside l.network) l.channels c h 0 d (if_more (goes_outside l.network c) (channel_of l c) h d m))

-- at the start nothing is held
fresh_values : (o : ℕ → Bool) (n : Network) (i k : ℕ) → held_over o (values (fresh_channel n) i k) ≡ 0
unfolding held_over values
fresh_values o n i zero = refl
fresh_values o n i (suc k) = let s = fresh_values (λ c. o (suc c)) n (suc i) k in omega (arith, if_none (o 0))

pub fresh_held : (n : Network) → held_out (fresh_of n) ≡ 0
unfolding fresh_of
fresh_held n = fresh_values (goes_outside n) n 0 32

-- ---- a step puts at most one message, whatever the instruction
module _ (q : Process) (h : Channel) where
  received : (empty shut : Bool) (x y : Process)
      → (cond empty (cond shut (outcome y h Moved) (outcome q h WaitEmpty)) (outcome x (get_one h) Moved)).channel.held ≤ h.held + 1
  received true true x y = omega arith
  received true false x y = omega arith
  received false shut x y = omega arith

  sent : (shut filled gone : Bool) (v : ℤ) (x y : Process)
      → (cond shut (outcome y h Halted) (cond filled (outcome q h WaitFull) (accept gone v x h))).channel.held ≤ h.held + 1
  sent true filled gone v x y = omega arith
  sent false true gone v x y = omega arith
  sent false false true v x y = omega arith
  sent false false false v x y = omega arith

  closes : (shut : Bool) (x y : Process) → (cond shut (outcome y h Halted) (outcome x (close_one h) Moved)).channel.held ≤ h.held + 1
  closes true x y = omega arith
  closes false x y = omega arith

  executed : (t : Intent Process ℤ) (m : ℤ) (gone : Bool) → (execute t q h m gone).channel.held ≤ h.held + 1
  unfolding execute
  executed idle m gone = omega arith
  executed (inner x) m gone = omega arith
  executed (receive b next over) m gone = received (eqb h.held 0) h.closed (next m) over
  executed (send b v next fault) m gone = sent h.closed (full gone h) gone v next fault
  executed (close b next fault) m gone = closes h.closed next fault
  executed (halt x) m gone = omega arith

step_rises : (p : ℕ) (w : World) → (step_for p w).channel.held ≤ (channel_of w.lane (channel_at p w.lane)).held + 1
unfolding step_at step_of
step_rises p w = executed _ _ (want _ _) _ _

-- so does a pick, of any number; an end only empties
pub pick_held : (p : ℕ) (w : World) → held_out (pick_in p w).lane ≤ held_out w.lane + 1
pick_held p w =
    let stepped : held_out (stepped_lane p w) ≤ held_out w.lane + 1 = put_held (channel_at p w.lane) (step_for p w).channel w.lane 1 (λ e. step_rises p w) in
    pick_by (λ (x : World). held_out x.lane ≤ held_out w.lane + 1) p w (λ e. stepped) (λ v e. stepped)
    (λ e. omega (arith, drop_held (goes_outside w.lane.network) w.lane.network p 0 (stepped_lane p w).channels, stepped))

-- ---- no channel has both ends outside
ends_inside : (sender receiver capacity processes : ℕ) → ends_right sender receiver capacity processes ≡ true → sender ≡ outside → eqb receiver outside ≡ false
unfolding ends_right
ends_inside sender receiver capacity processes e s =
    let ends = end_right sender processes && end_right receiver processes in
    let apart = not (eqb sender outside && eqb receiver outside) in
    let b = both_true (ends && apart) (between 1 capacity 256) e in
    let n = not-true (eqb sender outside && eqb receiver outside) (both_true ends apart b.0).1 in
    rw (eq-eqb sender outside s) at n

receiver_inside_lem : (n : Network) → passes n ≡ true → (c : ℕ) → c < n.channels → sender_of n c ≡ outside → goes_outside n c ≡ false
unfolding records
receiver_inside_lem n e c h s =
    ends_inside (sender_of n c) (receiver_of n c) (capacity_of n c) n.processes
    (each_true (record_right n) 0 n.channels (passed n e).records_good c (omega arith) (omega arith)) s

-- ---- a feed goes to a channel from outside, so not to one that goes outside
stored_held : (c : ℕ) (v : ℤ) (w : World) → goes_outside w.lane.network c ≡ false → (gone : Bool)
    → held_out (cond gone w (world (put_channel c (put_one (channel_of w.lane c)) w.lane) (set w.cells (slot c (channel_of w.lane c) (channel_of w.lane c).held) v))).lane
    ≤ held_out w.lane
stored_held c v w e true = omega arith
stored_held c v w e false = omega (arith, put_held c (put_one (channel_of w.lane c)) w.lane 0 (λ t. absurd (true≢false (sym t ∙ e))))

pub feed_held : (c : ℕ) (v : ℤ) (w : World) → held_out (feed_of c v w).world.lane ≤ held_out w.lane
feed_held c v w =
    feed_cases (λ (r : Called). held_out r.world.lane ≤ held_out w.lane) w (λ k. omega arith) c v
    (λ t. stored_held c v w (receiver_inside_lem w.lane.network (sound_says w.lane t.sound).passed c t.there t.outer) (receiver_ended c w))

-- a closing changes nothing that is held
pub close_held : (c : ℕ) (w : World) → held_out (close_of c w).world.lane ≤ held_out w.lane
close_held c w =
    close_cases (λ (r : Called). held_out r.world.lane ≤ held_out w.lane) w (λ k. omega arith) c
    (λ t. omega (arith, put_held c (close_one (channel_of w.lane c)) w.lane 0 (λ e. omega arith)))

-- nor does an enlargement
pub grown_held : (c : ℕ) (l : Lane) → held_out (grown c l) ≤ held_out l
grown_held c l = omega (arith, put_held c (enlarge_one (channel_of l c)) l 0 (λ e. omega arith))

-- a message taken is held no more
pub taken_held : (c : ℕ) (l : Lane) → receiver_of l.network c ≡ outside → ((channel_of l c).held ≡ 0 → ⊥) → held_out (put_channel c (get_one (channel_of l c)) l) + 1 ≤ held_out l
taken_held c l e n =
    omega (arith, set_held (goes_outside l.network) l.channels c (get_one (channel_of l c)) 1 0 (rw (eq-eqb (receiver_of l.network c) outside e) (omega arith)))
