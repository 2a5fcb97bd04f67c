-- Document 02, request 11, whole: the statements of specs/Theorem.antt.
-- Assumes nothing.
use mathlib.Core.Path.{◌≡◌, sym, ap, ◌∙◌, subst}
use mathlib.Core.Bool.{true}
use mathlib.Core.List.{List, [], ◌++◌}
use Prim.Native.Nat.{ℕ, ◌+◌, ◌*◌, ◌/◌, ◌≤◌, ◌<◌}
use native.Mathlib.Nat.{le-div_iff_mul-le, div-le_self, mul_comm}
use native.Mathlib.Omega.{arith}
use lib.IntN.{ℤ}
use lib.ListN.{length}
use Rattle.network.specs.declared.Network.{Network}
use Rattle.network.specs.Rules.{passes}
use Rattle.network.proofs.Passed.{passed}
use Rattle.lane.specs.State.{World}
use Rattle.lane.specs.Calls.{ended, pick_of}
use Rattle.lane_file.proofs.RoundTrip.{written_read}
use Rattle.drives.specs.Drive.{Ended, settled, Result, drive_of}
use Rattle.kahn.specs.Plain.{Plain, without_capacities, plain_after}
use Rattle.kahn.specs.Steps.{Step, after, moved_in}
use Rattle.kahn.specs.Boards.{board, is_resting, Fair, AllIn, AtRest, Agrees}
use Rattle.kahn.specs.Theorem.{ReadAs}
use Rattle.kahn.proofs.Determined as determined
use Rattle.kahn.proofs.Instance.{net_of}
use Rattle.kahn.proofs.PlainOrder.{plain_is}
use Rattle.courses.specs.Courses.{course_steps, Course, driven_by}
use Rattle.courses.specs.Ends.{Driven}
use Rattle.courses.proofs.Ends.{ready_board, inner_course, then_drive}
use Rattle.picks_needed.specs.Theorem.{Finishes, Limited, PicksNeeded, NeverMore}
use Rattle.picks_needed.proofs.Task.{Task}
use Rattle.picks_needed.proofs.Along.{moves_within, made_within, reached}
use Rattle.picks_needed.proofs.Fed.{all_in_fair}
use Rattle.picks_needed.proofs.Over.{plain_same}
use Rattle.picks_needed.proofs.Driven.{few_made, never, going_few, settles, over}

-- ---- the task
module _ (n : Network) (pass : passes n ≡ true) (input : ℕ → List ℤ) (R N G : ℕ) (fin : Finishes n (plain_after (without_capacities n) input R) N G) (small : N < 18446744073709551615) where
  abbrev task : Task
  task =
      let r = (determined.reached (net_of n pass) input [] tt).reaches R (omega arith) in
      record {
        n = n;
        pass = pass;
        input = input;
        s = plain_after (without_capacities n) input R;
        N = N;
        G = G;
        fin = fin;
        small = small;
        ends = (r.0, r.1 ∙ sym (plain_is n pass input R));
      }

pub never_more : NeverMore
never_more f n r cells many input steps fair R N G fin small =
    let pass = (written_read f n r.0 r.1).0 in
    let t = task n pass input R N G fin small in
    let a = (reached t cells many steps fair).1 in
    record { moves = omega (arith, moves_within t _ _ _ _ _ a); enlargements = omega (arith, made_within t _ _ _ _ _ a) }

-- ---- enough picks
enough : (P k budget : ℕ) → 1 ≤ P → P * k ≤ budget → k ≤ budget / P
enough P k budget h l = (le-div_iff_mul-le h).1 (omega (arith, mul_comm P k))

more_than : (P k budget : ℕ) → 1 ≤ P → P * k ≤ budget → k ≤ budget
more_than P k budget h l = omega (arith, enough P k budget h l, div-le_self budget P)

-- ---- a drive on a lane with all input in
module _ (f : List ℕ) (n : Network) (reads : ReadAs f n) (cells : List ℤ) (many : length cells ≡ 8192) (input : ℕ → List ℤ) (steps : List Step)
    (all : AllIn n input steps (board n cells)) (R N G : ℕ) (fin : Finishes n (plain_after (without_capacities n) input R) N G) (small : N < 18446744073709551615)
    (budget : ℕ) (most : N + G < budget / n.processes) where
  abbrev P : ℕ
  P = n.processes

  abbrev w : World
  w = after steps (board n cells)

  abbrev s : Plain
  s = plain_after (without_capacities n) input R

  pass : passes n ≡ true
  pass = (written_read f n reads.0 reads.1).0

  abbrev t : Task
  t = task n pass input R N G fin small

  fair : Fair n input steps (board n cells)
  fair = all_in_fair n pass cells many input steps all

  driven : Driven n input steps (board n cells) budget
  driven = then_drive f n reads cells many input steps fair budget

  -- the end of the drive agrees with the plain order
  agreeing : (more : List Step) → (AtRest n input (steps ++ more) (board n cells) → (r : ℕ) → moved_in (steps ++ more) (board n cells) ≤ r
      → Agrees n input (steps ++ more) (board n cells) (plain_after (without_capacities n) input r))
      → AtRest n input (steps ++ more) (board n cells) → Agrees n input (steps ++ more) (board n cells) s
  agreeing more holds rest =
      let k : ℕ = moved_in (steps ++ more) (board n cells) in
      subst (Agrees n input (steps ++ more) (board n cells)) (plain_same (without_capacities n) input R fin.all k) (holds rest (R + k) (omega arith))

  limited : (d : Driven n input steps (board n cells) budget) → d.end ≡ settled → Limited n input steps (board n cells) s N G budget
  limited d e =
      let ready = ready_board f n reads cells many input steps fair in
      let c : Course P (budget / P) w settled d.rounds = subst (λ (x : Ended). Course P (budget / P) w x d.rounds) e d.course in
      let drives : drive_of budget w ≡ driven_by P w settled d.rounds = d.drives ∙ ap (λ (x : Ended). driven_by P w x d.rounds) e in
      let few = going_few t cells many steps all fair ready (budget / P) most settled d.rounds c in
      let ended : (p : ℕ) → p < P → (pick_of p (after (course_steps P d.rounds) w)).answer ≡ ended =
      λ p h. ap (λ (k : ℕ). (pick_of p (after (course_steps P k) w)).answer) c.last.0 ∙ over t cells many steps all fair ready c.going c.last.2 p h in
      let rest = d.continued.rests all (λ p h. ap is_resting (ended p h)) in
      record {
        rounds = d.rounds;
        course = c;
        drives = drives;
        most = omega (arith, few, c.last.0);
        few = omega (arith, few_made t cells many steps all fair ready (course_steps P d.rounds) (inner_course P d.rounds));
        never = λ i h. never t cells many steps all fair ready i;
        rest = rest;
        over = λ p h. ap (λ (x : Result). (pick_of p x.world).answer) drives ∙ ended p h;
        agrees = agreeing (course_steps P d.rounds) d.continued.holds.rests rest;
      }

  pub limit : Limited n input steps (board n cells) s N G budget
  limit = limited driven (settles t cells many steps all fair (ready_board f n reads cells many input steps fair) (budget / P) most driven.end driven.rounds driven.course)

pub picks_needed : PicksNeeded
picks_needed f n reads cells many input steps all R N G fin budget l high =
    let low = (passed n (written_read f n reads.0 reads.1).0).processes_low in
    limit f n reads cells many input steps all R N G fin
    (omega (arith, more_than n.processes (N + G + 1) budget low l))
    budget
    (omega (arith, enough n.processes (N + G + 1) budget low l))
