-- The history of a list of steps: the events that its calls stand for, a relief that nobody called being none. A lane and its cells stay related to
-- it; it makes as many moves as picks moved, and sends what the steps sent.
-- Assumes nothing.
use mathlib.Core.Path.{◌≡◌, refl, sym, ap, ◌∙◌, subst}
use mathlib.Core.Bool.{true}
use mathlib.Core.List.{List, [], ◌∷◌, ◌++◌, append-nil, append_assoc}
use Prim.Native.Nat.{ℕ}
use lib.IntN.{ℤ}
use Rattle.network.specs.declared.Network.{Network}
use Rattle.network.specs.Rules.{passes}
use Rattle.process.specs.Process.{Process}
use Rattle.lane.specs.declared.Lane.{Lane}
use Rattle.lane.specs.State.{World, world}
use Rattle.kahn.specs.Calls.{apply}
use Rattle.relief.specs.Relief.{larger}
use Rattle.kahn.specs.Steps.{Step, call, inner_relief, relieved_lane, after_step, taken_at, sent_at, moved_at, after, taken, sent, moved_in}
use Rattle.kahn.proofs.Unbounded.{State, Event, happens, moves_of}
use Rattle.kahn.proofs.Relation.{Related}
use Rattle.kahn.proofs.Keeps.{enlarge_kept}
use Rattle.kahn.proofs.Instance.{net_of, machine_of}
use Rattle.kahn.proofs.View.{board_of}
use Rattle.kahn.proofs.Events.{events_of, same_out, Stands, stands_next, counts_next, happens_append, moves_append}
use Rattle.kahn.proofs.Sent.{sent_next}
use Rattle.kahn.proofs.InnerRelief.{inner_cases, inner_kept, count_board}

-- the events that a step stands for
abbrev pub events_at : Step → World → List (Event ℤ)
events_at (call k) w = events_of k (apply k w).reply
events_at inner_relief w = []

abbrev pub history : List Step → World → List (Event ℤ)
history [] w = []
history (s ∷ ss) w = events_at s w ++ history ss (after_step s w)

module _ (n : Network) (pass : passes n ≡ true) where
  -- ---- one step
  inner_related : (w : World) (H : State Process ℤ) (out : ℕ → List ℤ) → Related (machine_of n pass) (board_of w) H out
      → Related (machine_of n pass) (board_of (world (relieved_lane w.lane) w.cells)) H out
  inner_related w H out R =
      inner_cases (λ (l : Lane). Related (machine_of n pass) (board_of (world l w.cells)) H out) w.lane R
      (λ c s e. rw (count_board (larger c w.lane) w.cells) (enlarge_kept (machine_of n pass) (board_of w) H out c R e.below))

  module _ (w : World) (H : State Process ℤ) (out : ℕ → List ℤ) (t : Stands n pass w H out) where
    pub stands_step : (s : Step) → Stands n pass (after_step s w) (happens (net_of n pass) (events_at s w) H) (λ c. out c ++ taken_at s w c)
    stands_step (call k) = stands_next n pass k w H out t
    stands_step inner_relief =
        let kept = inner_kept w in
        record {
          network = kept.network ∙ t.network;
          sound = kept.sound t.sound;
          related = same_out n pass _ H out (λ c. []) (λ c. refl) (inner_related w H out t.related);
        }

    pub counts_step : (s : Step) → moves_of (net_of n pass) (events_at s w) H ≡ moved_at s w
    counts_step (call k) = counts_next n pass k w H out t
    counts_step inner_relief = refl

    sent_step : (s : Step) (c : ℕ) → (happens (net_of n pass) (events_at s w) H).sent c ≡ H.sent c ++ sent_at s w c
    sent_step (call k) c = sent_next n pass k w H out t c
    sent_step inner_relief c = sym (append-nil (H.sent c))

  -- ---- a list of them
  pub stands_after : (ss : List Step) (w : World) (H : State Process ℤ) (out : ℕ → List ℤ) → Stands n pass w H out
      → Stands n pass (after ss w) (happens (net_of n pass) (history ss w) H) (λ c. out c ++ taken ss w c)
  stands_after [] w H out t = record { network = t.network; sound = t.sound; related = same_out n pass (board_of w) H out (λ c. []) (λ c. refl) t.related }
  stands_after (s ∷ ss) w H out t =
      rw (happens_append n pass (events_at s w) (history ss (after_step s w)) H)
      (subst (Stands n pass (after ss (after_step s w)) _) (λ i c. append_assoc (out c) (taken_at s w c) (taken ss (after_step s w) c) i)
      (stands_after ss (after_step s w) _ _ (stands_step w H out t s)))

  pub moves_are : (ss : List Step) (w : World) (H : State Process ℤ) (out : ℕ → List ℤ) → Stands n pass w H out
      → moves_of (net_of n pass) (history ss w) H ≡ moved_in ss w
  moves_are [] w H out t = refl
  moves_are (s ∷ ss) w H out t =
      moves_append n pass (events_at s w) (history ss (after_step s w)) H
      ∙ rw (counts_step w H out t s, moves_are ss (after_step s w) _ _ (stands_step w H out t s))

  pub sent_is : (ss : List Step) (w : World) (H : State Process ℤ) (out : ℕ → List ℤ) → Stands n pass w H out → (c : ℕ)
      → (happens (net_of n pass) (history ss w) H).sent c ≡ H.sent c ++ sent ss w c
  sent_is [] w H out t c = sym (append-nil (H.sent c))
  sent_is (s ∷ ss) w H out t c =
      let H' = happens (net_of n pass) (events_at s w) H in
      ap (λ (T : State Process ℤ). T.sent c) (happens_append n pass (events_at s w) (history ss (after_step s w)) H)
      ∙ sent_is ss (after_step s w) H' _ (stands_step w H out t s) c
      ∙ ap (λ (l : List ℤ). l ++ sent ss (after_step s w) c) (sent_step w H out t s c)
      ∙ append_assoc (H.sent c) (sent_at s w c) (sent ss (after_step s w) c)
