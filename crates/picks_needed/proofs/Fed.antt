-- Once a channel from outside is closed nothing is fed on it; so a list after which all input is in was fair to it.
-- Assumes nothing.
use mathlib.Core.Path.{◌≡◌, refl, sym, ap, ◌∙◌}
use mathlib.Core.Bool.{Bool, true, false, ◌&&◌, true≢false}
use mathlib.Core.List.{List, [], ◌∷◌, ◌++◌, append-nil}
use Prim.Native.Nat.{ℕ, ◌<◌}
use native.Mathlib.Omega.{arith}
use borrow.Author.Tests.{eqb-true}
use lib.Dec.{eqb, ltb}
use lib.IntN.{ℤ}
use lib.ListN.{length}
use Rattle.network.specs.declared.Network.{Network}
use Rattle.network.specs.Rules.{sender_of, passes}
use Rattle.process.specs.Process.{Process}
use Rattle.lane.specs.State.{World, channel_of}
use Rattle.lane.specs.Calls.{Called}
use Rattle.lane.proofs.CallCases.{feed_cases}
use Rattle.kahn.specs.Plain.{from_outside}
use Rattle.kahn.specs.Calls.{pick, feed, close, take, relieve, told, apply, was_accepted, one, closes_by}
use Rattle.kahn.specs.Steps.{Step, call, inner_relief, after_step, fed_at, after, fed}
use Rattle.kahn.specs.Boards.{board, Fair, AllIn}
use Rattle.kahn.proofs.Unbounded.{State}
use Rattle.kahn.proofs.Determined.{happens_closed}
use Rattle.kahn.proofs.Allowed.{sender_in}
use Rattle.kahn.proofs.Instance.{net_of, machine_of}
use Rattle.kahn.proofs.PlainOrder.{outside_is}
use Rattle.kahn.proofs.Events.{Stands}
use Rattle.kahn.proofs.History.{events_at, stands_step, stands_after}
use Rattle.kahn.proofs.Lists.{fed_append}
use Rattle.kahn.proofs.Theorem.{stands_fresh, was_closed}

-- no accepted feed is of a closed channel
none_accepted : (c : ℕ) (v : ℤ) (w : World) → (channel_of w.lane c).closed ≡ true → was_accepted (apply (feed c v) w).reply ≡ false
unfolding apply
none_accepted c v w e = feed_cases (λ (r : Called). was_accepted (told r.answer) ≡ false) w (λ k. refl) c v (λ t. absurd (true≢false (sym e ∙ t.unclosed)))

none_fed : (d c : ℕ) (v : ℤ) (w : World) → (channel_of w.lane c).closed ≡ true → one (eqb d c && was_accepted (apply (feed d v) w).reply) v ≡ []
none_fed d c v w e = at (eqb d c) refl
  where
    at : (t : Bool) → eqb d c ≡ t → one (t && was_accepted (apply (feed d v) w).reply) v ≡ []
    at true q = let z : d ≡ c = eqb-true d c q in rw (z, none_accepted c v w e)
    at false q = refl

not_fed : (s : Step) (w : World) (c : ℕ) → (channel_of w.lane c).closed ≡ true → fed_at s w c ≡ []
not_fed (call (pick p)) w c e = refl
not_fed (call (feed d v)) w c e = none_fed d c v w e
not_fed (call (close d)) w c e = refl
not_fed (call (take d)) w c e = refl
not_fed (call (relieve buffer)) w c e = refl
not_fed inner_relief w c e = refl

module _ (n : Network) (pass : passes n ≡ true) where
  closed_fed : (ss : List Step) (w : World) (H : State Process ℤ) (out : ℕ → List ℤ) → Stands n pass w H out → (c : ℕ) → c < 32 → H.closed c ≡ true → fed ss w c ≡ []
  closed_fed [] w H out t c l e = refl
  closed_fed (s ∷ ss) w H out t c l e =
      rw (
        not_fed s w c ((t.related.lines c l).shut ∙ e),
        closed_fed ss (after_step s w) _ _ (stands_step n pass w H out t s) c l (happens_closed (net_of n pass) (events_at s w) H c e),
      )

  -- what was fed before an accepted closing is all that was fed
  fed_before : (before later : List Step) (w : World) (H : State Process ℤ) (out : ℕ → List ℤ) → Stands n pass w H out → (c : ℕ) → sender_in n c ≡ 255
      → closes_by (close c) (after before w) c ≡ true → fed (before ++ (call (close c) ∷ later)) w c ≡ fed before w c
  fed_before before later w H out t c o e =
      let w' : World = after before w in
      let t' = stands_after n pass before w H out t in
      let shut = was_closed n pass [] [] w' _ c o e in
      let none = closed_fed later (after_step (call (close c)) w') _ _ (stands_after n pass (call (close c) ∷ []) w' _ _ t') c ((machine_of n pass).senders c (λ z. omega arith)) shut in
      fed_append before (call (close c) ∷ later) w c ∙ ap (λ (l : List ℤ). fed before w c ++ l) none ∙ append-nil (fed before w c)

  -- all input in: fair to it
  pub all_in_fair : (cells : List ℤ) → length cells ≡ 8192 → (input : ℕ → List ℤ) (ss : List Step) → AllIn n input ss (board n cells) → Fair n input ss (board n cells)
  all_in_fair cells many input ss all =
      record {
        feeds = λ c o. record { rest = []; longer = sym (all.fed_all c o) ∙ sym (append-nil (fed ss (board n cells) c)) };
        closings = λ c before later o e h.
            sym (fed_before before later (board n cells) _ _ (stands_fresh n pass cells many) c (outer c o) h)
            ∙ ap (λ (l : List Step). fed l (board n cells) c) (sym e)
            ∙ all.fed_all c o;
      }
    where
      outer : (c : ℕ) → from_outside n c ≡ true → sender_in n c ≡ 255
      outer c o = eqb-true (sender_in n c) 255 (sym (outside_is (ltb c n.channels) (sender_of n c)) ∙ o)
