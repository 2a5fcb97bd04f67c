-- Steps that are fair to an input have a history that is legal for it.
-- Assumes nothing.
use mathlib.Core.Path.{◌≡◌, refl, sym, ap, ◌∙◌}
use mathlib.Core.Bool.{Bool, true, false, cond, ◌&&◌, false≢true}
use mathlib.Core.List.{List, [], ◌∷◌, ◌++◌, append-nil, append_assoc, append_cancel_left}
use Prim.Native.Nat.{ℕ}
use borrow.Author.Tests.{lt-ltb, eqb-true, eqb-false, eq-eqb, ne_eqb}
use lib.Dec.{eqb, ltb}
use lib.IntN.{ℤ}
use Rattle.network.specs.declared.Network.{Network}
use Rattle.network.specs.Rules.{sender_of, passes}
use Rattle.process.specs.Process.{Process}
use Rattle.lane.specs.State.{World}
use Rattle.lane.specs.Calls.{Called}
use Rattle.lane.proofs.CallCases.{feed_cases, close_cases}
use Rattle.kahn.specs.Plain.{from_outside}
use Rattle.kahn.specs.Calls.{pick, feed, close, take, relieve, told, apply, was_moved, was_accepted, one, fed_by, closes_by}
use Rattle.kahn.specs.Steps.{Step, call, inner_relief, after_step, fed_at, after, fed}
use Rattle.kahn.specs.Boards.{Prefix, Fair}
use Rattle.kahn.proofs.Unbounded.{State, Event, turn, arrive, finish, update, Legal}
use Rattle.kahn.proofs.Allowed.{sender_in}
use Rattle.kahn.proofs.Instance.{net_of}
use Rattle.kahn.proofs.PlainOrder.{outside_is}
use Rattle.kahn.proofs.Events.{Stands}
use Rattle.kahn.proofs.History.{history, stands_step}

-- a channel whose sender is 255 is there and comes from outside
pub from_outside_lem : (n : Network) (c : ℕ) → sender_in n c ≡ 255 → from_outside n c ≡ true
from_outside_lem n c e = outside_is (ltb c n.channels) (sender_of n c) ∙ eq-eqb (sender_in n c) 255 e

-- an accepted feed or closing is of a channel from outside
module _ (n : Network) (w : World) (network : w.lane.network ≡ n) where
  pub fed_outside : (c : ℕ) (v : ℤ) → was_accepted (apply (feed c v) w).reply ≡ true → sender_in n c ≡ 255
  unfolding apply
  fed_outside c v =
      feed_cases (λ (r : Called). was_accepted (told r.answer) ≡ true → sender_in n c ≡ 255) w (λ k e. absurd (false≢true e)) c v
      (λ t e. rw (← network, lt-ltb c w.lane.network.channels t.there) t.outer)

  pub closed_outside : (c : ℕ) → was_accepted (apply (close c) w).reply ≡ true → sender_in n c ≡ 255
  unfolding apply
  closed_outside c =
      close_cases (λ (r : Called). was_accepted (told r.answer) ≡ true → sender_in n c ≡ 255) w (λ k e. absurd (false≢true e)) c
      (λ t e. rw (← network, lt-ltb c w.lane.network.channels t.there) t.outer)

module _ (n : Network) (pass : passes n ≡ true) (input : ℕ → List ℤ) where
  -- steps are fair where `before` was fed already and `left` is left of the input
  record Due (steps : List Step) (w : World) (before left : ℕ → List ℤ) : Type 0 where
    fits : (c : ℕ) → sender_in n c ≡ 255 → before c ++ left c ≡ input c
    feeds : (c : ℕ) → sender_in n c ≡ 255 → Prefix (before c ++ fed steps w c) (input c)
    closings : (c : ℕ) (earlier later : List Step) → sender_in n c ≡ 255 → steps ≡ earlier ++ (call (close c) ∷ later)
        → closes_by (close c) (after earlier w) c ≡ true → before c ++ fed earlier w c ≡ input c

  due_next : (k : Step) (ks : List Step) (w : World) (before left left' : ℕ → List ℤ) → Due (k ∷ ks) w before left
      → ((c : ℕ) → sender_in n c ≡ 255 → (before c ++ fed_at k w c) ++ left' c ≡ input c)
      → Due ks (after_step k w) (λ c. before c ++ fed_at k w c) left'
  due_next k ks w before left left' d f =
      record {
        fits = f;
        feeds = λ c e.
            let p = d.feeds c e in
            record {
              rest = p.rest;
              longer = p.longer ∙ ap (λ (l : List ℤ). l ++ p.rest) (sym (append_assoc (before c) (fed_at k w c) (fed ks (after_step k w) c)));
            };
        closings = λ c earlier later e q h.
            append_assoc (before c) (fed_at k w c) (fed earlier (after_step k w) c)
            ∙ d.closings c (k ∷ earlier) later e (ap (λ (l : List Step). k ∷ l) q) h;
      }

  -- nothing was fed
  unfed : (k : Step) (ks : List Step) (w : World) (before left : ℕ → List ℤ) → Due (k ∷ ks) w before left → ((c : ℕ) → fed_at k w c ≡ [])
      → Due ks (after_step k w) (λ c. before c ++ fed_at k w c) left
  unfed k ks w before left d e =
      due_next k ks w before left left d
      (λ c o. ap (λ (l : List ℤ). l ++ left c) (ap (λ (l : List ℤ). before c ++ l) (e c) ∙ append-nil (before c)) ∙ d.fits c o)

  legal_turn : (t : Bool) (p : ℕ) (left : ℕ → List ℤ) (es : List (Event ℤ)) → Legal (net_of n pass) left es → Legal (net_of n pass) left (one t (turn p) ++ es)
  legal_turn true p left es l = l
  legal_turn false p left es l = l

  none_fed : (t : Bool) (v : ℤ) → one (t && false) v ≡ []
  none_fed true v = refl
  none_fed false v = refl

  legal_feed : (c : ℕ) (v : ℤ) (ks : List Step) (w : World) (before left : ℕ → List ℤ) → w.lane.network ≡ n → Due (call (feed c v) ∷ ks) w before left
      → ((left' : ℕ → List ℤ) → Due ks (apply (feed c v) w).world (λ d. before d ++ fed_by (feed c v) w d) left'
      → Legal (net_of n pass) left' (history ks (apply (feed c v) w).world))
      → (t : Bool) → was_accepted (apply (feed c v) w).reply ≡ t
      → Legal (net_of n pass) left (one t (arrive c v) ++ history ks (apply (feed c v) w).world)
  legal_feed c v ks w before left network d later false e = later left (unfed (call (feed c v)) ks w before left d (λ x. rw e (none_fed (eqb c x) v)))
  legal_feed c v ks w before left network d later true e = (rest, outer, now, later (update left c rest) (due_next (call (feed c v)) ks w before left (update left c rest) d still))
    where
      outer : sender_in n c ≡ 255
      outer = fed_outside n w network c v e

      p : Prefix (before c ++ fed (call (feed c v) ∷ ks) w c) (input c)
      p = d.feeds c outer

      rest : List ℤ
      rest = fed ks (apply (feed c v) w).world c ++ p.rest

      one_fed : fed_by (feed c v) w c ≡ v ∷ []
      one_fed = rw (e, eq-eqb c c refl)

      now : left c ≡ v ∷ rest
      now =
          append_cancel_left (before c) (left c) (v ∷ rest)
          (d.fits c outer ∙ p.longer ∙ rw one_fed (append_assoc (before c) (v ∷ fed ks (apply (feed c v) w).world c) p.rest))

      still : (x : ℕ) → sender_in n x ≡ 255 → (before x ++ fed_by (feed c v) w x) ++ update left c rest x ≡ input x
      still x o = at (eqb x c) refl ∙ d.fits x o
        where
          at : (t : Bool) → eqb x c ≡ t → (before x ++ fed_by (feed c v) w x) ++ cond t rest (left x) ≡ before x ++ left x
          at true q =
              let s = eqb-true x c q in
              rw (s, one_fed, now) (append_assoc (before c) (v ∷ []) rest)
          at false q = rw (ne_eqb c x (λ k. eqb-false x c q (sym k)), append-nil)

  legal_close : (c : ℕ) (ks : List Step) (w : World) (before left : ℕ → List ℤ) → w.lane.network ≡ n → Due (call (close c) ∷ ks) w before left
      → (t : Bool) → was_accepted (apply (close c) w).reply ≡ t → Legal (net_of n pass) left (history ks (apply (close c) w).world)
      → Legal (net_of n pass) left (one t (finish c) ++ history ks (apply (close c) w).world)
  legal_close c ks w before left network d false e l = l
  legal_close c ks w before left network d true e l = (outer, none, l)
    where
      outer : sender_in n c ≡ 255
      outer = closed_outside n w network c e

      none : left c ≡ []
      none = append_cancel_left (before c) (left c) [] (d.fits c outer ∙ sym (d.closings c [] ks outer refl (rw (e, eq-eqb c c refl))))

  lawful : (ks : List Step) (w : World) (H : State Process ℤ) (out : ℕ → List ℤ) (before left : ℕ → List ℤ) → Stands n pass w H out → Due ks w before left
      → Legal (net_of n pass) left (history ks w)
  lawful [] w H out before left s d = tt
  lawful (call (pick p) ∷ ks) w H out before left s d =
      legal_turn (was_moved (apply (pick p) w).reply) p left (history ks (apply (pick p) w).world) (lawful ks _ _ _ _ left (stands_step n pass w H out s (call (pick p))) (unfed (call (pick p)) ks w before left d (λ c. refl)))
  lawful (call (feed c v) ∷ ks) w H out before left s d =
      legal_feed c v ks w before left s.network d (λ left' d'. lawful ks _ _ _ _ left' (stands_step n pass w H out s (call (feed c v))) d') _ refl
  lawful (call (close c) ∷ ks) w H out before left s d =
      legal_close c ks w before left s.network d _ refl (lawful ks _ _ _ _ left (stands_step n pass w H out s (call (close c))) (unfed (call (close c)) ks w before left d (λ x. refl)))
  lawful (call (take c) ∷ ks) w H out before left s d =
      lawful ks _ _ _ _ left (stands_step n pass w H out s (call (take c))) (unfed (call (take c)) ks w before left d (λ x. refl))
  lawful (call (relieve buffer) ∷ ks) w H out before left s d =
      lawful ks _ _ _ _ left (stands_step n pass w H out s (call (relieve buffer))) (unfed (call (relieve buffer)) ks w before left d (λ x. refl))
  lawful (inner_relief ∷ ks) w H out before left s d =
      lawful ks _ _ _ _ left (stands_step n pass w H out s inner_relief) (unfed inner_relief ks w before left d (λ x. refl))

  pub fair_legal : (ks : List Step) (w : World) (H : State Process ℤ) (out : ℕ → List ℤ) → Stands n pass w H out → Fair n input ks w → Legal (net_of n pass) input (history ks w)
  fair_legal ks w H out s f =
      lawful ks w H out (λ c. []) input s
      (record {
        fits = λ c e. refl;
        feeds = λ c e. f.feeds c (from_outside_lem n c e);
        closings = λ c earlier later e q h. f.closings c earlier later (from_outside_lem n c e) q h;
      })
