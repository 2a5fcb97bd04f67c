-- How a drive ends, read off its course; and the end of one that stopped: no pick moves there.
-- Assumes nothing.
use mathlib.Core.Path.{◌≡◌, refl, sym, ap, ◌∙◌, subst, subst⁻¹}
use mathlib.Core.Bool.{Bool, true, false, true≢false}
use mathlib.Core.List.{List, [], ◌∷◌}
use Prim.Native.Nat.{ℕ, zero, suc, ◌+◌, ◌*◌, ◌/◌, ◌≤◌, ◌<◌}
use native.Mathlib.Decide.{ℕ_discrete}
use native.Mathlib.Omega.{arith}
use lib.ListN.{replicate}
use Rattle.network.specs.declared.Network.{Network}
use Rattle.network.proofs.Passed.{passed}
use Rattle.process.specs.declared.Outcome.{Outcome}
use Rattle.process.specs.declared.Outcome.TheVariants.{Moved, Sent, Halted, WaitEmpty, WaitFull, Ended}
use Rattle.lane.specs.declared.Lane.{Lane}
use Rattle.lane.specs.State.{World, world}
use Rattle.lane.specs.Pick.{step_for, has_moved}
use Rattle.lane.specs.Calls.{Called, waiting_full, answer_to, pick_of}
use Rattle.lane.proofs.SoundLaws.{sound_says}
use Rattle.lane.proofs.PickLaws.{pick_waits}
use Rattle.relief.specs.Relief.{refused, Relief, relieve_of}
use Rattle.relief.proofs.Enlarged.{relief_cases}
use Rattle.schedule.specs.Running.{relief_in, has_grown}
use Rattle.schedule.proofs.Ready.{Ready}
use Rattle.drives.specs.Drive.{settled, ceiling, spent, Result, drove}
use Rattle.drives.specs.Drive as drive
use Rattle.kahn.specs.Calls.{told, apply, was_moved, count_one}
use Rattle.kahn.specs.Boards.{is_resting, Quiet}
use Rattle.kahn.specs.Steps.{inner_relief, after, moved_in, grown_in}
use Rattle.kahn.proofs.Lists.{after_append}
use Rattle.courses.specs.Courses.{turn_steps, picked_to, round_steps, beginning, course_steps, Stops, Course}
use Rattle.courses.specs.Ends.{NoneFull}
use Rattle.courses.specs.Exactly.{Answers, EndsExactly}
use Rattle.courses.proofs.Inside.{ready_steps, relieved_is, picked_there, moved_as}
use Rattle.courses.proofs.Courses.{beginning_is, course_ready, exactly_ready}

-- ---- settled, ceiling, spent
same_answer : (e e' : drive.Ended) (p g p' g' : ℕ) → drove e p g ≡ drove e' p' g' → e ≡ e'
same_answer e e' p g p' g' q = cc

module _ (budget : ℕ) (w : World) (s : Ready w.lane.network w) where
  abbrev P : ℕ
  P = w.lane.network.processes

  -- the course of a drive that answers so
  course_of : (e : drive.Ended) → Answers budget w e → (rounds : ℕ) × Course P (budget / P) w e rounds
  course_of e a =
      let c = course_ready budget w s in
      let q = same_answer c.end e _ _ a.0 a.1 (sym (ap (λ (r : Result). r.answer) c.drives) ∙ a.2) in
      (c.rounds, subst (λ (x : drive.Ended). Course P (budget / P) w x c.rounds) q c.course)

  answers_so : (e : drive.Ended) (rounds : ℕ) → Course P (budget / P) w e rounds → Answers budget w e
  answers_so e rounds c = (P * rounds, grown_in (course_steps P rounds) w, ap (λ (r : Result). r.answer) (exactly_ready budget w s e rounds c))

  pub ends_ready : EndsExactly P budget w
  ends_ready =
      record {
        settles = (
          λ a. let c = (course_of settled a).1 in record { place = c.going; within = c.last.1; before = c.on; stops = c.last.2 },
          λ t. answers_so settled (suc t.place) (record { going = t.place; on = t.before; last = (refl, t.within, t.stops) }),
        );
        ceilings = (
          λ a. let c = (course_of ceiling a).1 in record { place = c.going; within = c.last.1; before = c.on; stops = c.last.2 },
          λ t. answers_so ceiling (suc t.place) (record { going = t.place; on = t.before; last = (refl, t.within, t.stops) }),
        );
        spends = (
          λ a. let c = (course_of spent a).1 in λ i h. c.on i (omega (arith, c.last.1)),
          λ t. answers_so spent (budget / P) (record { going = budget / P; on = t; last = (refl, refl) }),
        );
      }

-- ---- a round without a move leaves the lane and cells as they were, and no pick moves there
no_count : (t : Bool) (k : ℕ) → count_one t + k ≡ 0 → t ≡ false
no_count true k e = absurd (omega arith)
no_count false k e = refl

module _ (n : Network) (w : World) (s : Ready n w) where
  abbrev pub Still : ℕ → Type 0
  Still p = was_moved (told (pick_of p w).answer) ≡ false

  pick_same : (p : ℕ) → p < n.processes → Still p → (pick_of p w).world ≡ w
  pick_same p h e =
      let q = picked_there n w p s h in
      let b : p < 16 = omega (arith, (passed w.lane.network (sound_says w.lane s.sound).passed).processes_high, ap (λ (m : Network). m.processes) s.same) in
      let m : has_moved (step_for p w).outcome ≡ false = sym (moved_as (step_for p w).outcome _) ∙ ap (λ (x : Called). was_moved (told x.answer)) (sym q) ∙ e in
      ap (λ (x : Called). x.world) q ∙ pick_waits p w s.shaped b m

  still_turns : (k p : ℕ) → p + k ≤ n.processes → moved_in (turn_steps p k) w ≡ 0
      → (after (turn_steps p k) w ≡ w) × ((q : ℕ) → p ≤ q → q < p + k → Still q)
  unfolding apply
  still_turns zero p h e = (refl, λ q a b. absurd (omega arith))
  still_turns (suc k) p h e =
      let here : Still p = no_count (was_moved (told (pick_of p w).answer)) (moved_in (turn_steps (suc p) k) (pick_of p w).world) e in
      let same = pick_same p (omega arith) here in
      let later = still_turns k (suc p) (omega arith) (ap (moved_in (turn_steps (suc p) k)) (sym same) ∙ omega (arith, e)) in
      (ap (after (turn_steps (suc p) k)) same ∙ later.0, at p here later.1)
    where
      at : (p : ℕ) → Still p → ((q : ℕ) → suc p ≤ q → q < suc p + k → Still q) → (q : ℕ) → p ≤ q → q < p + suc k → Still q
      at p here later q a b = by (ℕ_discrete q p)
        where
          by : Dec (q ≡ p) → Still q
          by (yes z) = rw z here
          by (no z) = later q (omega arith) (omega arith)

-- a relief that enlarged nothing leaves the lane as it was
pub ungrown : (l : Lane) (buffer : List ℕ) → has_grown (relieve_of l buffer).answer ≡ false → (relieve_of l buffer).lane ≡ l
ungrown l buffer =
    relief_cases (λ (r : Relief). has_grown r.answer ≡ false → r.lane ≡ l) l buffer (λ k e. refl) (λ ring c b s e t. absurd (true≢false t))

-- a relief that was refused changes nothing
refused_same : (l : Lane) (k : ℕ) → (relieve_of l (replicate 16 0)).answer ≡ refused k → (relieve_of l (replicate 16 0)).lane ≡ l
refused_same l k e = ungrown l (replicate 16 0) (ap has_grown e)

-- the round after which a drive stopped leaves the lane and cells as they were before it
module _ (n : Network) (v : World) (s : Ready n v) (number : ℕ) (stops : Stops number n.processes v) where
  pub stop_picks : picked_to n.processes v ≡ v
  stop_picks = (still_turns n v s n.processes 0 (omega arith) stops.0).0

  stop_relief : (w : World) → relief_in w ≡ refused number → after (inner_relief ∷ []) w ≡ w
  stop_relief w q = ap (λ (l : Lane). world l w.cells) (relieved_is w.lane ∙ refused_same w.lane number q)

  stop_same : after (round_steps n.processes) v ≡ v
  stop_same =
      let P : ℕ = n.processes in
      after_append (turn_steps 0 P) (inner_relief ∷ []) v
      ∙ stop_relief (picked_to P v) stops.1
      ∙ stop_picks

  pub stop_still : (p : ℕ) → p < n.processes → Still n v s p
  stop_still p h = (still_turns n v s n.processes 0 (omega arith) stops.0).1 p (omega arith) (omega arith)

-- ---- the end of a drive that stopped
last_round : (P k : ℕ) (w : World) → beginning P (suc k) w ≡ after (round_steps P) (beginning P k w)
last_round P zero w = refl
last_round P (suc k) w = last_round P k (after (round_steps P) w)

abbrev pub at_end : ℕ → ℕ → World → World
at_end P rounds w = after (course_steps P rounds) w

-- an answer of a pick of a process that is there, that did not move and does not wait on a full channel, is of one that rests
resting_by : (o : Outcome) (c : ℕ) → was_moved (told (answer_to o c)) ≡ false → ((d : ℕ) → answer_to o c ≡ waiting_full d → ⊥) → is_resting (answer_to o c) ≡ true
resting_by Moved c e f = absurd (true≢false e)
resting_by (Sent v) c e f = absurd (true≢false e)
resting_by Halted c e f = absurd (true≢false e)
resting_by WaitEmpty c e f = refl
resting_by WaitFull c e f = absurd (f c refl)
resting_by Ended c e f = refl

module _ (n : Network) (w : World) (s : Ready n w) where
  -- so many rounds, of which the last had no move and a refused relief: it ends where that round began, and no pick moves there
  module _ (number going : ℕ) (t : Stops number n.processes (beginning n.processes going w)) where
    abbrev v : World
    v = beginning n.processes going w

    pub ready_last : Ready n v
    ready_last = subst⁻¹ (Ready n) (beginning_is n.processes going w) (ready_steps n (course_steps n.processes going) w s)

    pub ends_there : at_end n.processes (suc going) w ≡ v
    ends_there = sym (beginning_is n.processes (suc going) w) ∙ last_round n.processes going w ∙ stop_same n v ready_last number t

    pub still_ready : (p : ℕ) → p < n.processes → was_moved (told (pick_of p (at_end n.processes (suc going) w)).answer) ≡ false
    still_ready p h = subst⁻¹ (λ (x : World). was_moved (told (pick_of p x).answer) ≡ false) ends_there (stop_still n v ready_last number t p h)

  -- "settled, at rest": quiet, but for a process that would wait on a full channel
  pub quiet_ready : (most rounds : ℕ) → Course n.processes most w settled rounds → NoneFull n (at_end n.processes rounds w) → Quiet n (at_end n.processes rounds w)
  quiet_ready most rounds c f p h =
      let P : ℕ = n.processes in
      let x : World = at_end P rounds w in
      let r : Ready n x = ready_steps n (course_steps P rounds) w s in
      let e = subst⁻¹ (λ (k : ℕ). was_moved (told (pick_of p (at_end P k w)).answer) ≡ false) c.last.0 (still_ready 13 c.going c.last.2 p h) in
      let q = picked_there n x p r h in
      subst⁻¹ (λ (y : Called). is_resting y.answer ≡ true) q
      (resting_by (step_for p x).outcome _ (subst (λ (y : Called). was_moved (told y.answer) ≡ false) q e)
      (λ d z. f p h d (ap (λ (y : Called). y.answer) q ∙ z)))
