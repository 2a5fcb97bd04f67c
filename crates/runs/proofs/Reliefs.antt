-- Each relief that a run makes enlarges, or is refused with 13 or 14: the lane is sound on the way, and there is room for any ring.
-- Assumes nothing.
use mathlib.Core.Path.{◌≡◌}
use mathlib.Core.Bool.{cond}
use mathlib.Core.List.{List, [], ◌∷◌}
use Prim.Native.Nat.{ℕ, suc, ◌<◌}
use native.Mathlib.Decide.{ℕ_discrete}
use native.Mathlib.Omega.{arith}
use borrow.Author.Tests.{eq-eqb, ne_eqb, not-false}
use lib.Dec.{eqb}
use lib.ListN.{length, get_or}
use Rattle.network.specs.declared.Network.{Network}
use Rattle.lane.specs.State.{World}
use Rattle.schedule.specs.Running.{Running, begun, picks, relieves}
use Rattle.schedule.proofs.Ready.{Ready, ready_answers, ready_picks, ready_relieves, ready}
use Rattle.runs.specs.Run.{byte_run}
use Rattle.runs.specs.Reliefs.{InBytes, InRun}
use Rattle.runs.proofs.Tests.{process_named}

module _ (n : Network) where
  -- ---- the bytes of a run
  ready_byte : (b : ℕ) (r : Running) → ((b ≡ 255 → ⊥) → b < n.processes) → Ready n r.world → Ready n (byte_run b r).world
  unfolding byte_run
  ready_byte b r h s = by (ℕ_discrete b 255)
    where
      by : Dec (b ≡ 255) → Ready n (cond (eqb b 255) (relieves r) (picks b r)).world
      by (yes e) = rw (eq-eqb b 255 e) (ready_relieves n r s)
      by (no e) = rw (ne_eqb b 255 e) (ready_picks n b r (h e) s)

  in_bytes : (bs : List ℕ) (r : Running) → ((k : ℕ) → k < length bs → (get_or bs k 0 ≡ 255 → ⊥) → get_or bs k 0 < n.processes) → Ready n r.world → InBytes bs r
  in_bytes [] r h s = tt
  in_bytes (b ∷ bs) r h s =
      ((λ e. ready_answers n r.world s), in_bytes bs (byte_run b r) (λ k l. h (suc k) (omega arith)) (ready_byte b r (h 0 (omega arith)) s))

-- ---- from the tests on
pub run_no_other : (bytes : List ℕ) (w : World) → InRun bytes w
run_no_other bytes w shaped e f g = in_bytes w.lane.network bytes (begun w) (process_named bytes w.lane.network.processes (not-false _ g)) (ready w shaped e f)
