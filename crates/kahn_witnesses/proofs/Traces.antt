-- What a list of calls did, as steps, by computation. The tests 15 and 16 of a call pass on every lane that calls leave, so they are shown once, by the law
-- that soundness is kept, and what is computed is the call after them.
-- Assumes nothing.
use mathlib.Core.Path.{◌≡◌, refl, sym, ap, ◌∙◌, subst, subst⁻¹}
use mathlib.Core.Bool.{Bool, true, false, not, ◌&&◌, ◌||◌, false≢true}
use mathlib.Core.List.{List, [], ◌∷◌, ◌++◌}
use Prim.Native.Nat.{ℕ, ◌+◌, ◌<◌}
use borrow.Author.Tests.{eqb-true}
use lib.Dec.{eqb}
use lib.IntN.{ℤ}
use lib.ListN.{length}
use Rattle.network.specs.declared.Network.{Network}
use Rattle.base.proofs.Conjunction.{both_true}
use Rattle.process.specs.Want.{register_of}
use Rattle.lane.specs.State.{World, world, process_of}
use Rattle.lane.specs.Sound.{sound_of}
use Rattle.lane.specs.Pick.{instruction_for}
use Rattle.lane.specs.Calls.{refuse, no_process, no_channel_there, sender_inside, receiver_inside, is_closed, picked, pick_of, feed_of, close_of, take_of}
use Rattle.lane.specs.Calls as lane
use Rattle.lane.proofs.Shape.{Shaped}
use Rattle.lane.proofs.SoundLaws.{implied}
use Rattle.relief.specs.Relief.{Relief, found_in, settled, relieve_of}
use Rattle.kahn.specs.Plain.{from_outside}
use Rattle.kahn.specs.Calls.{Call, pick, feed, close, take, relieve, Reply, relieved, Made, made, apply, was_moved, was_accepted, one, stands_at_send, closes_by, count_one}
use Rattle.kahn.specs.Steps.{Step, call, inner_relief, calls, after_step, fed_at, after, fed, taken, sent, moved_in}
use Rattle.kahn.specs.Boards.{Prefix, Fair, is_resting, WasClosed, AllIn, AtRest}
use Rattle.kahn.proofs.Events.{given_of, apply_kept}

-- ---- one call
-- a lane and its cells that pass the tests 15 and 16
pub record Fit (w : World) : Type 0 where
  pub shaped : Shaped w.lane
  pub sound : sound_of w.lane ≡ true
  pub many : length w.cells ≡ 8192

abbrev eased : Relief → List ℤ → Made
eased r cells = record { reply = relieved r.answer r.ring; world = world r.lane cells }

-- a pick after these two tests
abbrev pub pick_bare : ℕ → World → lane.Called
pick_bare p w = refuse (no_process p w) 8 w (picked p w)

-- a call after them
unfoldable pub bare : Call → World → Made
bare (pick p) w = made (pick_bare p w)
bare (feed c v) w = made (refuse (no_channel_there c w) 8 w (refuse (sender_inside c w) 9 w (refuse (is_closed c w) 11 w (lane.fed c v w))))
bare (close c) w = made (refuse (no_channel_there c w) 8 w (refuse (sender_inside c w) 9 w (refuse (is_closed c w) 11 w (lane.closed c w))))
bare (take c) w = made (refuse (no_channel_there c w) 8 w (refuse (receiver_inside c w) 9 w (lane.taken c w)))
bare (relieve buffer) w = eased (settled (found_in w.lane) w.lane buffer) w.cells

pick_bare_lem : (p : ℕ) (w : World) → Fit w → pick_of p w ≡ pick_bare p w
unfolding pick_of
pick_bare_lem p w f = rw (f.many, f.sound)

bare_is : (k : Call) (w : World) → Fit w → apply k w ≡ bare k w
unfolding apply bare feed_of close_of take_of relieve_of
bare_is (pick p) w f = ap made (pick_bare_lem p w f)
bare_is (feed c v) w f = rw (f.many, f.sound)
bare_is (close c) w f = rw f.sound
bare_is (take c) w f = rw (f.many, f.sound)
bare_is (relieve buffer) w f = rw f.sound

fit_next : (k : Call) (w : World) → Fit w → Fit (bare k w).world
fit_next k w f =
    let kept = apply_kept k w f.shaped in
    subst (λ (m : Made). Fit m.world) (bare_is k w f)
    (record { shaped = kept.shaped f.shaped; sound = kept.sound f.sound; many = kept.cells ∙ f.many })

-- ---- a list of calls: what they left, what they did on channel c, how many picks moved
abbrev fed_of : Call → Reply → ℕ → List ℤ
fed_of (pick p) r c = []
fed_of (feed d v) r c = one (eqb d c && was_accepted r) v
fed_of (close d) r c = []
fed_of (take d) r c = []
fed_of (relieve buffer) r c = []

abbrev sent_of : Call → World → Reply → ℕ → List ℤ
sent_of (pick p) w r c = one (was_moved r && stands_at_send w p c) (register_of (process_of w.lane p) (instruction_for p w.lane).a)
sent_of (feed d v) w r c = fed_of (feed d v) r c
sent_of (close d) w r c = []
sent_of (take d) w r c = []
sent_of (relieve buffer) w r c = []

abbrev closes_of : Call → Reply → ℕ → Bool
closes_of (pick p) r c = false
closes_of (feed d v) r c = false
closes_of (close d) r c = eqb d c && was_accepted r
closes_of (take d) r c = false
closes_of (relieve buffer) r c = false

abbrev none : List ℤ → Bool
none [] = true
none (x ∷ xs) = false

pub record Seen : Type 0 where
  pub left : World
  pub replies : List Reply
  pub fed : List ℤ
  pub taken : List ℤ
  pub sent : List ℤ
  pub moved : ℕ
  -- a closing was accepted
  pub shut : Bool
  -- no feed was accepted after an accepted closing
  pub last : Bool

abbrev nothing : World → Seen
nothing w = record { left = w; replies = []; fed = []; taken = []; sent = []; moved = 0; shut = false; last = true }

abbrev more : ℕ → Call → World → Reply → Seen → Seen
more c k w r s =
    record {
      left = s.left;
      replies = r ∷ s.replies;
      fed = fed_of k r c ++ s.fed;
      taken = given_of k r c ++ s.taken;
      sent = sent_of k w r c ++ s.sent;
      moved = count_one (was_moved r) + s.moved;
      shut = closes_of k r c || s.shut;
      last = (not (closes_of k r c) || none s.fed) && s.last;
    }

abbrev pub seen_by : (Call → World → Made) → ℕ → List Call → World → Seen
seen_by f c [] w = nothing w
seen_by f c (k ∷ ks) w = more c k w (f k w).reply (seen_by f c ks (f k w).world)

-- what calls on a fit lane did, by computation
abbrev pub computed : ℕ → List Call → World → Seen
computed c ks w = seen_by bare c ks w

-- the same in the words of specs/Calls.antt and Steps.antt
abbrev pub replies : List Call → World → List Reply
replies [] w = []
replies (k ∷ ks) w = (apply k w).reply ∷ replies ks (apply k w).world

-- a step is an accepted closing of channel c; some step of a list is; none after it fed that channel
abbrev closes_at : Step → World → ℕ → Bool
closes_at (call k) w c = closes_by k w c
closes_at inner_relief w c = false

abbrev was_shut : List Step → World → ℕ → Bool
was_shut [] w c = false
was_shut (s ∷ ss) w c = closes_at s w c || was_shut ss (after_step s w) c

abbrev shut_last : List Step → World → ℕ → Bool
shut_last [] w c = true
shut_last (s ∷ ss) w c = (not (closes_at s w c) || none (fed ss (after_step s w) c)) && shut_last ss (after_step s w) c

abbrev said : ℕ → List Call → World → Seen
said c ks w =
    record {
      left = after (calls ks) w;
      replies = replies ks w;
      fed = fed (calls ks) w c;
      taken = taken (calls ks) w c;
      sent = sent (calls ks) w c;
      moved = moved_in (calls ks) w;
      shut = was_shut (calls ks) w c;
      last = shut_last (calls ks) w c;
    }

said_is : (c : ℕ) (ks : List Call) (w : World) → said c ks w ≡ seen_by apply c ks w
said_is c [] w = refl
said_is c (pick p ∷ ks) w = ap (more c (pick p) w (apply (pick p) w).reply) (said_is c ks (apply (pick p) w).world)
said_is c (feed d v ∷ ks) w = ap (more c (feed d v) w (apply (feed d v) w).reply) (said_is c ks (apply (feed d v) w).world)
said_is c (close d ∷ ks) w = ap (more c (close d) w (apply (close d) w).reply) (said_is c ks (apply (close d) w).world)
said_is c (take d ∷ ks) w = ap (more c (take d) w (apply (take d) w).reply) (said_is c ks (apply (take d) w).world)
said_is c (relieve b ∷ ks) w = ap (more c (relieve b) w (apply (relieve b) w).reply) (said_is c ks (apply (relieve b) w).world)

seen_is : (c : ℕ) (ks : List Call) (w : World) → Fit w → seen_by apply c ks w ≡ computed c ks w
seen_is c [] w f = refl
seen_is c (k ∷ ks) w f =
    ap (λ (m : Made). more c k w m.reply (seen_by apply c ks m.world)) (bare_is k w f)
    ∙ ap (more c k w (bare k w).reply) (seen_is c ks (bare k w).world (fit_next k w f))

-- ---- what the tests of closings show
none_is : (l : List ℤ) → none l ≡ true → l ≡ []
none_is [] e = refl
none_is (x ∷ xs) e = absurd (false≢true e)

either : (a b : Bool) → b ≡ true → (a || b) ≡ true
either true b e = refl
either false b e = e

-- an accepted closing of channel c is a call `close c`
closing : (s : Step) (w : World) (c : ℕ) → closes_at s w c ≡ true → s ≡ call (close c)
closing (call (pick p)) w c e = absurd (false≢true e)
closing (call (feed d v)) w c e = absurd (false≢true e)
closing (call (close d)) w c e = ap (λ (x : ℕ). call (close x)) (eqb-true d c (both_true (eqb d c) _ e).0)
closing (call (take d)) w c e = absurd (false≢true e)
closing (call (relieve buffer)) w c e = absurd (false≢true e)
closing inner_relief w c e = absurd (false≢true e)

-- some closing was accepted, and where
was_closed : (ss : List Step) (w : World) (c : ℕ) → was_shut ss w c ≡ true → WasClosed ss w c
was_closed [] w c e = absurd (false≢true e)
was_closed (s ∷ ss) w c e = at (closes_at s w c) refl e (was_closed ss (after_step s w) c)
  where
    at : (t : Bool) → closes_at s w c ≡ t → (t || was_shut ss (after_step s w) c) ≡ true
        → (was_shut ss (after_step s w) c ≡ true → WasClosed ss (after_step s w) c) → WasClosed (s ∷ ss) w c
    at true q e later =
        let d = closing s w c q in
        ([], ss, ap (λ (x : Step). x ∷ ss) d, subst (λ (x : Step). closes_at x w c ≡ true) d q)
    at false q e later = let l = later e in (s ∷ l.0, l.1, ap (λ (x : List Step). s ∷ x) l.2, l.3)

closed_shut : (c : ℕ) (before later : List Step) (w : World) → closes_by (close c) (after before w) c ≡ true → was_shut (before ++ (call (close c) ∷ later)) w c ≡ true
closed_shut c [] later w e = ap (λ (t : Bool). t || was_shut later (apply (close c) w).world c) e
closed_shut c (s ∷ before) later w e = either (closes_at s w c) _ (closed_shut c before later (after_step s w) e)

-- what was fed before an accepted closing is all that was fed
fed_before : (c : ℕ) (before later : List Step) (w : World) → shut_last (before ++ (call (close c) ∷ later)) w c ≡ true
    → closes_by (close c) (after before w) c ≡ true → fed before w c ≡ fed (before ++ (call (close c) ∷ later)) w c
fed_before c [] later w e closes =
    sym (none_is _ (implied (closes_by (close c) w c) (none (fed later (apply (close c) w).world c)) (both_true _ _ e).0 closes))
fed_before c (s ∷ before) later w e closes =
    let w' : World = after_step s w in
    let later' : List Step = before ++ (call (close c) ∷ later) in
    ap (λ (l : List ℤ). fed_at s w c ++ l)
    (fed_before c before later w' (both_true (not (closes_at s w c) || none (fed later' w' c)) (shut_last later' w' c) e).1 closes)

-- ---- the facts of demand 3, from what is computed
module _ (ks : List Call) (w : World) (f : Fit w) where
  seen : (c : ℕ) → said c ks w ≡ computed c ks w
  seen c = said_is c ks w ∙ seen_is c ks w f

  pub replies_are : replies ks w ≡ (computed 0 ks w).replies
  replies_are = ap (λ (s : Seen). s.replies) (seen 0)

  pub moved_is : moved_in (calls ks) w ≡ (computed 0 ks w).moved
  moved_is = ap (λ (s : Seen). s.moved) (seen 0)

  pub left_is : after (calls ks) w ≡ (computed 0 ks w).left
  left_is = ap (λ (s : Seen). s.left) (seen 0)

  pub fed_is : (c : ℕ) → fed (calls ks) w c ≡ (computed c ks w).fed
  fed_is c = ap (λ (s : Seen). s.fed) (seen c)

  pub taken_is : (c : ℕ) → taken (calls ks) w c ≡ (computed c ks w).taken
  taken_is c = ap (λ (s : Seen). s.taken) (seen c)

  pub sent_is : (c : ℕ) → sent (calls ks) w c ≡ (computed c ks w).sent
  sent_is c = ap (λ (s : Seen). s.sent) (seen c)

  pub fit_left : Fit (after (calls ks) w)
  fit_left = rw left_is (go ks w f)
    where
      go : (ks : List Call) (w : World) → Fit w → Fit (computed 0 ks w).left
      go [] w f = f
      go (k ∷ ks) w f = go ks (bare k w).world (fit_next k w f)

  module _ (n : Network) (input : ℕ → List ℤ) where
    -- on channel c, feeds are a beginning of its input, and a closing comes after all of it
    pub record FairOn (c : ℕ) : Type 0 where
      pub feeds : Prefix (computed c ks w).fed (input c)
      pub last : (computed c ks w).last ≡ true
      pub whole : (computed c ks w).shut ≡ true → (computed c ks w).fed ≡ input c

    pub fair_by : ((c : ℕ) → from_outside n c ≡ true → FairOn c) → Fair n input (calls ks) w
    fair_by h =
        record {
          feeds = λ c o. subst⁻¹ (λ (l : List ℤ). Prefix l (input c)) (fed_is c) (h c o).feeds;
          closings = λ c before later o e closes.
              let last : shut_last (calls ks) w c ≡ true = ap (λ (s : Seen). s.last) (seen c) ∙ (h c o).last in
              let shut : (computed c ks w).shut ≡ true = ap (λ (s : Seen). s.shut) (sym (seen c)) ∙ ap (λ (l : List Step). was_shut l w c) e ∙ closed_shut c before later w closes in
              fed_before c before later w (sym (ap (λ (l : List Step). shut_last l w c) e) ∙ last) closes
              ∙ ap (λ (l : List Step). fed l w c) (sym e)
              ∙ fed_is c
              ∙ (h c o).whole shut;
        }

    -- all input of channel c fed, and a closing accepted
    abbrev pub WholeOn : ℕ → Type 0
    WholeOn c = ((computed c ks w).fed ≡ input c) × ((computed c ks w).shut ≡ true)

    -- process p has ended or would wait for a message
    abbrev pub Rests : ℕ → Type 0
    Rests p = is_resting (pick_bare p (computed 0 ks w).left).answer ≡ true

    pub all_in_by : ((c : ℕ) → from_outside n c ≡ true → WholeOn c) → AllIn n input (calls ks) w
    all_in_by h =
        record {
          fed_all = λ c o. fed_is c ∙ (h c o).0;
          closed_all = λ c o. was_closed (calls ks) w c (ap (λ (s : Seen). s.shut) (seen c) ∙ (h c o).1);
        }

    pub rest_by : ((c : ℕ) → from_outside n c ≡ true → WholeOn c) → ((p : ℕ) → p < n.processes → Rests p) → AtRest n input (calls ks) w
    rest_by h q =
        record {
          all_in = all_in_by h;
          quiet = λ p l.
              ap (λ (m : lane.Called). is_resting m.answer) (pick_bare_lem p (after (calls ks) w) fit_left)
              ∙ ap (λ (x : World). is_resting (pick_bare p x).answer) left_is
              ∙ q p l;
        }
