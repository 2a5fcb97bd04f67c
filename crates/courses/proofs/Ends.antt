-- Steps inside feed and close nothing: what was fair stays fair, and what was all in stays so. So demand 3 holds through a run and a drive.
-- Assumes nothing.
use mathlib.Core.Path.{◌≡◌, refl, sym, ap, ◌∙◌, subst, subst⁻¹}
use mathlib.Core.Bool.{Bool, true, false, cond, false≢true}
use mathlib.Core.List.{List, [], ◌∷◌, ◌++◌, append-nil, append_assoc}
use Prim.Native.Nat.{ℕ, zero, suc, ◌/◌}
use native.Mathlib.Omega.{arith}
use lib.Dec.{eqb}
use lib.IntN.{ℤ}
use lib.ListN.{length}
use Rattle.network.specs.declared.Network.{Network}
use Rattle.lane.specs.State.{World}
use Rattle.lane_file.proofs.RoundTrip.{written_read}
use Rattle.schedule.proofs.Ready.{Ready}
use Rattle.drives.specs.Drive.{drive_of}
use Rattle.kahn.specs.Calls.{pick, feed, close, take, relieve}
use Rattle.kahn.specs.Boards.{Prefix, board, Fair, AllIn, Quiet, AtRest}
use Rattle.kahn.specs.Theorem.{ReadAs}
use Rattle.kahn.specs.Steps.{Step, call, inner_relief, after_step, after, fed}
use Rattle.kahn.proofs.Events.{shaped_at}
use Rattle.kahn.proofs.Theorem.{stands_fresh}
use Rattle.kahn.proofs.Lists.{after_append, fed_append}
use Rattle.kahn.proofs.Whole.{one_board_holds}
use Rattle.courses.specs.Courses.{byte_steps, turn_steps, round_steps, course_steps, Course, driven_by}
use Rattle.courses.specs.Ends.{is_inner, Inner, Continued, ThenRun, ThenDrive}
use Rattle.courses.proofs.Inside.{ready_steps}
use Rattle.courses.proofs.Runs.{run_ready}
use Rattle.courses.proofs.Courses.{course_ready}

-- ---- which steps are inside
pub inner_append : (xs ys : List Step) → Inner xs → Inner ys → Inner (xs ++ ys)
inner_append [] ys a b = b
inner_append (x ∷ xs) ys a b = (a.0, inner_append xs ys a.1 b)

inner_bytes : (bytes : List ℕ) → Inner (byte_steps bytes)
inner_bytes [] = tt
inner_bytes (b ∷ bs) = (at (eqb b 255), inner_bytes bs)
  where
    at : (t : Bool) → is_inner (cond t inner_relief (call (pick b))) ≡ true
    at true = refl
    at false = refl

pub inner_turns : (p k : ℕ) → Inner (turn_steps p k)
inner_turns p zero = tt
inner_turns p (suc k) = (refl, inner_turns (suc p) k)

pub inner_course : (P k : ℕ) → Inner (course_steps P k)
inner_course P zero = tt
inner_course P (suc k) = inner_append (round_steps P) (course_steps P k) (inner_append (turn_steps 0 P) (inner_relief ∷ []) (inner_turns 0 P) (refl, tt)) (inner_course P k)

-- ---- they feed nothing and close nothing
inner_fed : (ts : List Step) (w : World) (c : ℕ) → Inner ts → fed ts w c ≡ []
inner_fed [] w c t = refl
inner_fed (call (pick p) ∷ ts) w c t = inner_fed ts (after_step (call (pick p)) w) c t.1
inner_fed (call (feed d v) ∷ ts) w c t = absurd (false≢true t.0)
inner_fed (call (close d) ∷ ts) w c t = absurd (false≢true t.0)
inner_fed (call (take d) ∷ ts) w c t = absurd (false≢true t.0)
inner_fed (call (relieve buffer) ∷ ts) w c t = absurd (false≢true t.0)
inner_fed (inner_relief ∷ ts) w c t = inner_fed ts (after_step inner_relief w) c t.1

-- an accepted closing is not among them
inner_close : (ts before later : List Step) (c : ℕ) → Inner ts → ts ≡ before ++ (call (close c) ∷ later) → ⊥
inner_close [] [] later c t e = let z : ◌≡◌ {A = ℕ} 0 1 = cc in omega arith
inner_close [] (b ∷ before) later c t e = let z : ◌≡◌ {A = ℕ} 0 1 = cc in omega arith
inner_close (x ∷ ts) [] later c t e =
    let q : x ≡ call (close c) = cc in
    false≢true (ap is_inner (sym q) ∙ t.0)
inner_close (x ∷ ts) (b ∷ before) later c t e =
    let q : ts ≡ before ++ (call (close c) ∷ later) = cc in
    inner_close ts before later c t.1 q

-- so it is among the steps before them
earlier : (ss ts before later : List Step) (c : ℕ) → Inner ts → ss ++ ts ≡ before ++ (call (close c) ∷ later) → (rest : List Step) × (ss ≡ before ++ (call (close c) ∷ rest))
earlier [] ts before later c t e = absurd (inner_close ts before later c t e)
earlier (x ∷ ss) ts [] later c t e =
    let q : x ≡ call (close c) = cc in
    (ss, ap (λ (y : Step). y ∷ ss) q)
earlier (x ∷ ss) ts (b ∷ before) later c t e =
    let q : ss ++ ts ≡ before ++ (call (close c) ∷ later) = cc in
    let f : x ≡ b = cc in
    let r = earlier ss ts before later c t q in
    (r.0, ap (λ (y : Step). y ∷ ss) f ∙ ap (λ (l : List Step). b ∷ l) r.1)

module _ (n : Network) (input : ℕ → List ℤ) (ss ts : List Step) (w : World) (inner : Inner ts) where
  fed_same : (c : ℕ) → fed (ss ++ ts) w c ≡ fed ss w c
  fed_same c = fed_append ss ts w c ∙ ap (λ (l : List ℤ). fed ss w c ++ l) (inner_fed ts (after ss w) c inner) ∙ append-nil (fed ss w c)

  pub fair_on : Fair n input ss w → Fair n input (ss ++ ts) w
  fair_on f =
      record {
        feeds = λ c o. subst⁻¹ (λ (l : List ℤ). Prefix l (input c)) (fed_same c) (f.feeds c o);
        closings = λ c before later o e h. let r = earlier ss ts before later c inner e in f.closings c before r.0 o r.1 h;
      }

  pub all_in_on : AllIn n input ss w → AllIn n input (ss ++ ts) w
  all_in_on a =
      record {
        fed_all = λ c o. fed_same c ∙ a.fed_all c o;
        closed_all = λ c o.
            let k = a.closed_all c o in
            (k.0, k.1 ++ ts, ap (λ (l : List Step). l ++ ts) k.2 ∙ append_assoc k.0 (call (close c) ∷ k.1) ts, k.3);
      }

  pub rest_on : AllIn n input ss w → Quiet n (after ts (after ss w)) → AtRest n input (ss ++ ts) w
  rest_on a q = record { all_in = all_in_on a; quiet = subst⁻¹ (Quiet n) (after_append ss ts w) q }

-- ---- on a board
module _ (f : List ℕ) (n : Network) (reads : ReadAs f n) (cells : List ℤ) (many : length cells ≡ 8192) (input : ℕ → List ℤ) (steps : List Step) (fair : Fair n input steps (board n cells)) where
  continue : (more : List Step) → Inner more → Continued n input steps more (board n cells)
  continue more inner =
      let g = fair_on n input steps more (board n cells) inner fair in
      record { fair = g; holds = one_board_holds f n reads cells many input (steps ++ more) g; rests = rest_on n input steps more (board n cells) inner }

  pub ready_board : Ready n (after steps (board n cells))
  ready_board =
      let pass = (written_read f n reads.0 reads.1).0 in
      let s = stands_fresh n pass cells many in
      ready_steps n steps (board n cells) (record { same = s.network; long = many; shaped = shaped_at n pass (board n cells) _ _ s; sound = s.sound })

pub then_run : ThenRun
then_run f n reads cells many input steps fair bytes e =
    (run_ready n bytes (after steps (board n cells)) (ready_board f n reads cells many input steps fair) e, continue f n reads cells many input steps fair (byte_steps bytes) (inner_bytes bytes))

pub then_drive : ThenDrive
then_drive f n reads cells many input steps fair budget =
    let w : World = after steps (board n cells) in
    let s = ready_board f n reads cells many input steps fair in
    let c = course_ready budget w (subst⁻¹ (λ (m : Network). Ready m w) s.same s) in
    let P = ap (λ (m : Network). m.processes) s.same in
    record {
      end = c.end;
      rounds = c.rounds;
      course = subst (λ (k : ℕ). Course k (budget / k) w c.end c.rounds) P c.course;
      drives = subst (λ (k : ℕ). drive_of budget w ≡ driven_by k w c.end c.rounds) P c.drives;
      continued = continue f n reads cells many input steps fair (course_steps n.processes c.rounds) (inner_course n.processes c.rounds);
    }
