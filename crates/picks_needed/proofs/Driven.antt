-- A drive on a lane with all input in: its course, round by round, stays on the way; so it goes on in no more rounds than there are moves and
-- enlargements to come, stops after the next, and leaves every process ended.
-- Assumes nothing.
use mathlib.Core.Path.{◌≡◌, refl, sym, ap, ◌∙◌, subst}
use mathlib.Core.Bool.{true, false}
use mathlib.Core.List.{List, ◌++◌}
use Prim.Native.Nat.{ℕ, suc, ◌+◌, ◌≤◌, ◌<◌}
use native.Mathlib.Omega.{arith}
use lib.IntN.{ℤ}
use lib.ListN.{length}
use Rattle.process.specs.Process.{Process}
use Rattle.process.specs.declared.Outcome.{Outcome}
use Rattle.lane.specs.State.{World}
use Rattle.lane.specs.Pick.{channel_in, instruction_for, step_for, has_moved}
use Rattle.lane.specs.Calls.{Called, ended, answer_to, pick_of}
use Rattle.relief.specs.Relief.{refused}
use Rattle.schedule.specs.Running.{relief_in}
use Rattle.schedule.proofs.Ready.{Ready}
use Rattle.drives.specs.Drive.{Ended, settled, ceiling, spent}
use Rattle.kahn.specs.Calls.{told, was_moved}
use Rattle.kahn.specs.Steps.{Step, after, moved_in, grown_in}
use Rattle.kahn.specs.Boards.{board, Fair, AllIn}
use Rattle.kahn.proofs.Unbounded.{State, empty, happens}
use Rattle.kahn.proofs.Allowed.{sender_in, has_ended}
use Rattle.kahn.proofs.History.{history}
use Rattle.kahn.proofs.Lists.{after_append, moved_append, grown_append}
use Rattle.kahn.proofs.Theorem.{closed_all_lem}
use Rattle.courses.specs.Courses.{turn_steps, picked_to, beginning, course_steps, Stops, Course}
use Rattle.courses.specs.Ends.{Inner}
use Rattle.courses.proofs.Inside.{picked_there, moved_as}
use Rattle.courses.proofs.Courses.{beginning_is}
use Rattle.courses.proofs.Ends.{inner_append, inner_turns, inner_course, fair_on, all_in_on}
use Rattle.courses.proofs.Exactly.{stop_picks, stop_still, ready_last, ends_there}
use Rattle.picks_needed.proofs.Task.{Task, net}
use Rattle.picks_needed.proofs.Short.{never_14}
use Rattle.picks_needed.proofs.Along.{Along, moves_within, made_within, reached}
use Rattle.picks_needed.proofs.Stuck.{all_over}
use Rattle.picks_needed.proofs.Progress.{rounds_add}
use Rattle.picks_needed.proofs.Over.{outcome_over}

module _ (t : Task) (cells : List ℤ) (many : length cells ≡ 8192) (steps : List Step)
    (all : AllIn t.n t.input steps (board t.n cells)) (fair : Fair t.n t.input steps (board t.n cells))
    (ready : Ready t.n (after steps (board t.n cells))) where
  open t use {n, pass, input, N, G}

  abbrev P : ℕ
  P = n.processes

  -- the lane that is driven
  abbrev w : World
  w = after steps (board n cells)

  -- ---- more steps inside, on the lane that is driven
  abbrev state : List Step → State Process ℤ
  state more = happens (net t) (history (steps ++ more) (board n cells)) (empty (net t))

  -- a lane to which they lead
  abbrev Leads : List Step → World → (ℕ → List ℤ) → Type 0
  Leads more x left = Along t x (state more) left (moved_in (steps ++ more) (board n cells)) (grown_in (steps ++ more) (board n cells))

  there : (more : List Step) → Inner more → (left : ℕ → List ℤ) × Leads more (after more w) left
  there more inner =
      let r = reached t cells many (steps ++ more) (fair_on n input steps more (board n cells) inner fair) in
      (r.0, subst (λ (x : World). Leads more x r.0) (after_append steps more (board n cells)) r.1)

  shut : (more : List Step) → Inner more → (c : ℕ) → sender_in n c ≡ 255 → (state more).closed c ≡ true
  shut more inner = closed_all_lem n pass cells many input (steps ++ more) (fair_on n input steps more (board n cells) inner fair) (all_in_on n input steps more (board n cells) inner all)

  -- so many moves and enlargements at most
  few_moves : (more : List Step) → Inner more → moved_in steps (board n cells) + moved_in more w ≤ N
  few_moves more inner = omega (arith, moves_within t _ _ _ _ _ (there more inner).1, moved_append steps more (board n cells))

  pub few_made : (more : List Step) → Inner more → grown_in steps (board n cells) + grown_in more w ≤ G
  few_made more inner = omega (arith, made_within t _ _ _ _ _ (there more inner).1, grown_append steps more (board n cells))

  -- ---- round i: no relief on the way is refused with 14
  picks_of : (i : ℕ) → Inner (course_steps P i ++ turn_steps 0 P)
  picks_of i = inner_append (course_steps P i) (turn_steps 0 P) (inner_course P i) (inner_turns 0 P)

  pub never : (i : ℕ) → relief_in (picked_to P (beginning P i w)) ≡ refused 14 → ⊥
  never i e =
      let a = (there (course_steps P i ++ turn_steps 0 P) (picks_of i)).1 in
      let is : after (course_steps P i ++ turn_steps 0 P) w ≡ picked_to P (beginning P i w) =
      after_append (course_steps P i) (turn_steps 0 P) w ∙ ap (picked_to P) (sym (beginning_is P i w)) in
      never_14 t _ _ a.out a.stands a.going.way (ap relief_in is ∙ e)

  -- ---- how it ends
  module _ (most : ℕ) (enough : N + G < most) where
    pub going_few : (e : Ended) (rounds : ℕ) (c : Course P most w e rounds) → moved_in steps (board n cells) + grown_in steps (board n cells) + c.going ≤ N + G
    going_few e rounds c =
        let inner = inner_course P c.going in
        omega (arith, few_moves (course_steps P c.going) inner, few_made (course_steps P c.going) inner, rounds_add P c.going w c.on)

    pub settles : (e : Ended) (rounds : ℕ) → Course P most w e rounds → e ≡ settled
    settles settled rounds c = refl
    settles ceiling rounds c = absurd (never c.going c.last.2.1)
    settles spent rounds c = absurd (omega (arith, going_few spent rounds c, c.last.1))

  -- ---- where it ends
  module _ (going : ℕ) (stops : Stops 13 P (beginning P going w)) where
    abbrev v : World
    v = beginning P going w

    r : Ready n v
    r = ready_last n w ready 13 going stops

    is : after (course_steps P going) w ≡ v
    is = sym (beginning_is P going w)

    here : (left : ℕ → List ℤ) × Leads (course_steps P going) v left
    here = let k = there (course_steps P going) (inner_course P going) in (k.0, subst (λ (x : World). Leads (course_steps P going) x k.0) is k.1)

    quiet : (q : ℕ) → q < P → has_moved (step_for q v).outcome ≡ false
    quiet q h =
        sym (moved_as (step_for q v).outcome _) ∙ ap (λ (x : Called). was_moved (told x.answer)) (sym (picked_there n v q r h)) ∙ stop_still n v r 13 stops q h

    ended_all : (p : ℕ) → p < P → has_ended ((state (course_steps P going)).processes p) ≡ true
    ended_all =
        all_over t v (state (course_steps P going)) here.0 _ _ here.1 (shut (course_steps P going) (inner_course P going)) quiet
        (ap relief_in (sym (stop_picks n v r 13 stops)) ∙ stops.1)

    pub over : (p : ℕ) → p < P → (pick_of p (after (course_steps P (suc going)) w)).answer ≡ ended
    over p h =
        ap (λ (x : World). (pick_of p x).answer) (ends_there n w ready 13 going stops)
        ∙ ap (λ (x : Called). x.answer) (picked_there n v p r h)
        ∙ ap (λ (o : Outcome). answer_to o (channel_in (instruction_for p v.lane))) (outcome_over n pass v _ here.1.out here.1.stands p h (ended_all p h))
