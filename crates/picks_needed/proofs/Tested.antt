-- A computed test of what the theorem asks of the plain order, and the rule that it shows; a drive after calls, computed.
-- Assumes nothing.
use mathlib.Core.Path.{◌≡◌, refl, ap, ◌∙◌}
use mathlib.Core.List.{List}
use mathlib.Core.Bool.{Bool, true, false, not, ◌&&◌, ◌||◌, false≢true}
use Prim.Native.Nat.{ℕ, ◌/◌, ◌≤◌, ◌<◌}
use native.Mathlib.Omega.{arith}
use borrow.Author.Tests.{eqb-true, leb-true, eq-eqb}
use lib.Dec.{eqb, leb}
use lib.ListN.{length}
use Rattle.base.specs.Tests.{first_bad, is_good}
use Rattle.base.proofs.Tests.{each_true}
use Rattle.base.proofs.Conjunction.{both_true, good_is}
use Rattle.network.specs.declared.Network.{Network}
use Rattle.network.specs.Rules.{receiver_of, capacity_of, outside}
use Rattle.lane.specs.State.{World, is_ended}
use Rattle.schedule.specs.Running.{begun}
use Rattle.schedule.proofs.Ready.{Ready}
use Rattle.drives.specs.Drive.{Result, done, drive_of}
use Rattle.kahn.specs.Plain.{Plain}
use Rattle.kahn.specs.Calls.{Call}
use Rattle.kahn.specs.Steps.{calls, after}
use Rattle.kahn_witnesses.proofs.Traces.{Fit, computed, left_is}
use Rattle.courses.proofs.Inside.{ready_steps}
use Rattle.courses.proofs.Bare.{bare_rounds, drive_bare}
use Rattle.picks_needed.specs.Totals.{total_of}
use Rattle.picks_needed.specs.Theorem.{sent_inside, Finishes}

-- a test holds of each below k
abbrev all_below : (ℕ → Bool) → ℕ → Bool
all_below test k = is_good (first_bad test 0 k)

all_below_lem : (test : ℕ → Bool) (k : ℕ) → all_below test k ≡ true → (i : ℕ) → i < k → test i ≡ true
all_below_lem test k e i l = each_true test 0 k (good_is (first_bad test 0 k) e) i (omega arith) (omega arith)

-- an output has room
abbrev has_room : Network → Plain → ℕ → Bool
has_room n s c = not (eqb (receiver_of n c) outside) || leb (length (s.sent c)) (capacity_of n c)

has_room_lem : (n : Network) (s : Plain) (c : ℕ) → has_room n s c ≡ true → receiver_of n c ≡ outside → length (s.sent c) ≤ capacity_of n c
has_room_lem n s c e o = leb-true _ _ (at (eqb (receiver_of n c) outside) (eq-eqb (receiver_of n c) outside o) e)
  where
    at : (b : Bool) → b ≡ true → (not b || leb (length (s.sent c)) (capacity_of n c)) ≡ true → leb (length (s.sent c)) (capacity_of n c) ≡ true
    at true z e = e
    at false z e = absurd (false≢true z)

abbrev pub finishes : Network → Plain → ℕ → ℕ → Bool
finishes n s N G =
    all_below (λ p. is_ended (s.processes p).condition) n.processes
    && (eqb (total_of (λ p. (s.processes p).moves) n.processes) N
    && (eqb (total_of (sent_inside n s) n.channels) G
    && (all_below (λ c. leb (length (s.sent c)) 256) n.channels && all_below (has_room n s) n.channels)))

pub finishes_by : (n : Network) (s : Plain) (N G : ℕ) → finishes n s N G ≡ true → Finishes n s N G
finishes_by n s N G e =
    let a = both_true (all_below (λ p. is_ended (s.processes p).condition) n.processes) _ e in
    let b = both_true (eqb (total_of (λ p. (s.processes p).moves) n.processes) N) _ a.1 in
    let c = both_true (eqb (total_of (sent_inside n s) n.channels) G) _ b.1 in
    let d = both_true (all_below (λ c. leb (length (s.sent c)) 256) n.channels) _ c.1 in
    record {
      all = all_below_lem (λ p. is_ended (s.processes p).condition) n.processes a.0;
      moves = eqb-true _ _ b.0;
      messages = eqb-true _ _ c.0;
      few = λ k l. leb-true _ _ (all_below_lem (λ c. leb (length (s.sent c)) 256) n.channels d.0 k l);
      room = λ k l. has_room_lem n s k (all_below_lem (has_room n s) n.channels d.1 k l);
    }

-- ---- a drive after calls on a lane that passes the tests 15 and 16
module _ (ks : List Call) (w : World) (f : Fit w) where
  abbrev n : Network
  n = w.lane.network

  ready : Ready n (after (calls ks) w)
  ready = ready_steps n (calls ks) w (record { same = refl; long = f.many; shaped = f.shaped; sound = f.sound })

  pub drive_is : (budget : ℕ) → (drive_of budget (after (calls ks) w)).answer ≡ (done n.processes (bare_rounds (budget / n.processes) 0 (begun (computed 0 ks w).left))).answer
  drive_is budget =
      ap (λ (x : Result). x.answer) (drive_bare n budget (after (calls ks) w) ready)
      ∙ ap (λ (x : World). (done n.processes (bare_rounds (budget / n.processes) 0 (begun x))).answer) (left_is ks w f)
