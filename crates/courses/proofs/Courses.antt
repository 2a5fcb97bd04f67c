-- A drive has a course, whose steps it makes; and it has one course alone.
-- Assumes nothing.
use mathlib.Core.Path.{◌≡◌, refl, sym, ap, ◌∙◌, subst, subst⁻¹}
use mathlib.Core.Logic.{inl, inr}
use mathlib.Core.List.{List, append-nil}
use Prim.Native.Nat.{ℕ, zero, suc, ◌+◌, ◌*◌, ◌/◌, ◌≤◌, ◌<◌}
use native.Mathlib.Decide.{dec_lt}
use native.Mathlib.Omega.{arith}
use lib.ListN.{length}
use borrow.Author.Tests.{eq-eqb}
use Rattle.network.specs.declared.Network.{Network}
use Rattle.lane.specs.State.{World}
use Rattle.relief.specs.Relief.{enlarged, refused}
use Rattle.schedule.specs.Running.{Running, begun}
use Rattle.schedule.proofs.Ready.{Ready, ready_answers}
use Rattle.drives.specs.Drive.{round, Ended, settled, ceiling, spent, Next, ends, goes, next_after, left_after, Drive, driven, rounds, drove, result, drive_of}
use Rattle.kahn.specs.Steps.{Step, after, grown_in}
use Rattle.kahn.proofs.Lists.{after_append, grown_append}
use Rattle.courses.specs.Courses.{turn_steps, picked_to, moved_over, round_steps, beginning, course_steps, GoesOn, Stops, EndsSo, Course, driven_by, HasCourse, Exactly}
use Rattle.courses.proofs.Inside.{ready_steps}
use Rattle.courses.proofs.Rounds.{makes_round, makes_after, After, by_moves}

-- ---- a round of a drive, and what follows it
abbrev pub onward : (Running → Drive) → ℕ → Running → Next → Drive
onward more n r (ends e) = driven e n r
onward more n r goes = more r

pub rounds_more : (k n : ℕ) (r : Running) → rounds (suc k) n r ≡ onward (rounds k (n + 1)) (n + 1) (left_after (round r)) (next_after (round r))
rounds_more k n r = go (next_after (round r)) refl
  where
    go : (x : Next) → next_after (round r) ≡ x → rounds (suc k) n r ≡ onward (rounds k (n + 1)) (n + 1) (left_after (round r)) x
    go (ends e) q = rw (q, rounds)
    go goes q = rw (q, rounds)

-- where k rounds lead
pub beginning_is : (P k : ℕ) (w : World) → beginning P k w ≡ after (course_steps P k) w
beginning_is P zero w = refl
beginning_is P (suc k) w =
    beginning_is P k (after (round_steps P) w) ∙ sym (after_append (round_steps P) (course_steps P k) w)

-- ---- a round that went on, before a course
module _ (P : ℕ) (w : World) where
  one_later : (e : Ended) (k going made : ℕ) → EndsSo e P k (after (round_steps P) w) going made → EndsSo e P (suc k) w (suc going) (suc made)
  one_later settled k going made t = (ap suc t.0, omega (arith, t.1), t.2)
  one_later ceiling k going made t = (ap suc t.0, omega (arith, t.1), t.2)
  one_later spent k going made t = (ap suc t.0, ap suc t.1)

  course_more : (e : Ended) (k made : ℕ) → GoesOn P w → Course P k (after (round_steps P) w) e made → Course P (suc k) w e (suc made)
  course_more e k made g t = record { going = suc t.going; on = on; last = one_later e k t.going made t.last }
    where
      on : (i : ℕ) → i < suc t.going → GoesOn P (beginning P i w)
      on zero h = g
      on (suc i) h = t.on i (omega arith)

-- ---- the rounds of a drive
module _ (P : ℕ) where
  record Followed (k m : ℕ) (r : Running) (d : Drive) : Type 0 where
    made : ℕ
    total : d.rounds ≡ m + made
    course : Course P k r.world d.end made
    world : d.running.world ≡ after (course_steps P made) r.world
    grown : d.running.grown ≡ r.grown + grown_in (course_steps P made) r.world

  -- one round: y is there after it and its relief
  module _ (k m : ℕ) (r y : Running) (same : y.world ≡ after (round_steps P) r.world)
      (grew : y.grown ≡ r.grown + grown_in (round_steps P) r.world) where
    no_more : course_steps P 1 ≡ round_steps P
    no_more = append-nil (round_steps P)

    stopped : (e : Ended) → EndsSo e P (suc k) r.world 0 1 → Followed (suc k) m r (driven e (m + 1) y)
    stopped e t =
        record {
          made = 1;
          total = refl;
          course = record { going = 0; on = λ i h. absurd (omega arith); last = t };
          world = same ∙ ap (λ (l : List Step). after l r.world) (sym no_more);
          grown = grew ∙ ap (λ (l : List Step). r.grown + grown_in l r.world) (sym no_more);
        }

    went : (d : Drive) → GoesOn P r.world → Followed k (m + 1) y d → Followed (suc k) m r d
    went d g t =
        let c : List Step = course_steps P t.made in
        record {
          made = suc t.made;
          total = omega (arith, t.total);
          course = course_more P r.world d.end k t.made g (subst (λ (x : World). Course P k x d.end t.made) same t.course);
          world = subst (λ (x : World). d.running.world ≡ after c x) same t.world ∙ sym (after_append (round_steps P) c r.world);
          grown =
              let b = subst (λ (x : World). d.running.grown ≡ y.grown + grown_in c x) same t.grown in
              omega (arith, b, grew, grown_append (round_steps P) c r.world);
        }

    follow : (x : Running) (same : x.world ≡ picked_to P r.world) (moves : x.moved ≡ moved_over P r.world) → After P r.world x same moves
        → Followed k (m + 1) y (rounds k (m + 1) y) → Followed (suc k) m r (onward (rounds k (m + 1)) (m + 1) y (next_after x))
    follow x a b (inl q) later = rw q.1 (went (rounds k (m + 1) y) q.0 later)
    follow x a b (inr (inl q)) later = rw q.1 (stopped settled (refl, omega arith, q.0))
    follow x a b (inr (inr q)) later = rw q.1 (stopped ceiling (refl, omega arith, q.0))

  none : (m : ℕ) (r : Running) → Followed 0 m r (driven spent m r)
  none m r =
      record { made = 0; total = omega arith; course = record { going = 0; on = λ i h. absurd (omega arith); last = (refl, refl) }; world = refl; grown = omega arith }

module _ (n : Network) where
  abbrev P : ℕ
  P = n.processes

  record Round (r : Running) : Type 0 where
    same : (round r).world ≡ picked_to P r.world
    moves : (round r).moved ≡ moved_over P r.world
    left : (left_after (round r)).world ≡ after (round_steps P) r.world
    grew : (left_after (round r)).grown ≡ r.grown + grown_in (round_steps P) r.world

  a_round : (r : Running) → Ready n r.world → Round r
  a_round r s =
      let m = makes_round n r s in
      let e : (round r).moved ≡ moved_over P r.world = omega (arith, m.moved) in
      let b = makes_after n r s in
      record { same = m.world; moves = e; left = b.world; grew = b.grown }

  follows : (k m : ℕ) (r : Running) → Ready n r.world → Followed P k m r (rounds k m r)
  follows zero m r s = none P m r
  follows (suc k) m r s =
      let t = a_round r s in
      let s' : Ready n (left_after (round r)).world = rw t.left (ready_steps n (round_steps P) r.world s) in
      let s'' : Ready n (round r).world = rw t.same (ready_steps n (turn_steps 0 P) r.world s) in
      subst⁻¹ (Followed P (suc k) m r) (rounds_more k m r)
      (follow P k m r (left_after (round r)) t.left t.grew (round r) t.same t.moves
      (by_moves P r.world (round r) t.same t.moves (ready_answers n (round r).world s''))
      (follows k (m + 1) (left_after (round r)) s'))

-- ---- a drive of a sound lane, with its cells
pub course_ready : (budget : ℕ) (w : World) → Ready w.lane.network w → HasCourse budget w
unfolding drive_of
course_ready budget w s =
    let P : ℕ = w.lane.network.processes in
    let d : Drive = rounds (budget / P) 0 (begun w) in
    let f = follows w.lane.network (budget / P) 0 (begun w) s in
    let a : d.rounds ≡ f.made = omega (arith, f.total) in
    let b : d.running.grown ≡ grown_in (course_steps P f.made) w = omega (arith, f.grown) in
    record {
      end = d.end;
      rounds = f.made;
      course = f.course;
      drives = rw (eq-eqb (length w.cells) 8192 s.long, s.sound) (λ i. result (drove d.end (P * a i) (b i)) (f.world i));
    }

-- ---- one course alone
module _ (P most : ℕ) (w : World) where
  goes_stops : (number : ℕ) (v : World) → GoesOn P v → Stops number P v → ⊥
  goes_stops number v (inl z) t = z (omega (arith, t.0))
  goes_stops number v (inr q) t =
      let a : enlarged q.0 q.1 ≡ refused number = sym q.2 ∙ t.1 in
      let z : ◌≡◌ {A = ℕ} 0 1 = cc in
      omega arith

  both_stop : (v : World) → Stops 13 P v → Stops 14 P v → ⊥
  both_stop v s t =
      let a : refused 13 ≡ refused 14 = sym s.1 ∙ t.1 in
      let z : ◌≡◌ {A = ℕ} 13 14 = cc in
      omega arith

  within : (e : Ended) (going r : ℕ) → EndsSo e P most w going r → going ≤ most
  within settled going r t = omega (arith, t.1)
  within ceiling going r t = omega (arith, t.1)
  within spent going r t = omega (arith, t.1)

  not_before : (e : Ended) (going r going' : ℕ) → EndsSo e P most w going r → going < going' → going' ≤ most → GoesOn P (beginning P going w) → ⊥
  not_before settled going r going' t l h g = goes_stops 13 (beginning P going w) g t.2
  not_before ceiling going r going' t l h g = goes_stops 14 (beginning P going w) g t.2
  not_before spent going r going' t l h g = omega (arith, t.1)

  same_going : (e e' : Ended) (r r' : ℕ) (t : Course P most w e r) (t' : Course P most w e' r') → t.going ≡ t'.going
  same_going e e' r r' t t' = at (dec_lt t.going t'.going) (dec_lt t'.going t.going)
    where
      at : Dec (t.going < t'.going) → Dec (t'.going < t.going) → t.going ≡ t'.going
      at (yes l) d = absurd (not_before e t.going r t'.going t.last l (within e' t'.going r' t'.last) (t'.on t.going l))
      at (no l) (yes h) = absurd (not_before e' t'.going r' t.going t'.last h (within e t.going r t.last) (t.on t'.going h))
      at (no l) (no h) = omega arith

  same_end : (e e' : Ended) (going r r' : ℕ) → EndsSo e P most w going r → EndsSo e' P most w going r' → (e ≡ e') × (r ≡ r')
  same_end settled settled going r r' s t = (refl, s.0 ∙ sym t.0)
  same_end settled ceiling going r r' s t = absurd (both_stop (beginning P going w) s.2 t.2)
  same_end settled spent going r r' s t = absurd (omega (arith, s.1, t.1))
  same_end ceiling settled going r r' s t = absurd (both_stop (beginning P going w) t.2 s.2)
  same_end ceiling ceiling going r r' s t = (refl, s.0 ∙ sym t.0)
  same_end ceiling spent going r r' s t = absurd (omega (arith, s.1, t.1))
  same_end spent settled going r r' s t = absurd (omega (arith, s.1, t.1))
  same_end spent ceiling going r r' s t = absurd (omega (arith, s.1, t.1))
  same_end spent spent going r r' s t = (refl, s.0 ∙ sym t.0)

  pub course_one : (e e' : Ended) (r r' : ℕ) → Course P most w e r → Course P most w e' r' → (e ≡ e') × (r ≡ r')
  course_one e e' r r' t t' =
      same_end e e' t.going r r' t.last (subst⁻¹ (λ (g : ℕ). EndsSo e' P most w g r') (same_going e e' r r' t t') t'.last)

pub exactly_ready : (budget : ℕ) (w : World) → Ready w.lane.network w → Exactly budget w
exactly_ready budget w s e r t =
    let P : ℕ = w.lane.network.processes in
    let c = course_ready budget w s in
    let q = course_one P (budget / P) w c.end e c.rounds r c.course t in
    c.drives ∙ (λ i. driven_by P w (q.0 i) (q.1 i))
