-- Each relief that a drive makes enlarges, or is refused with 13 or 14: the lane is sound on the way, and there is room for any ring.
-- Assumes nothing.
use mathlib.Core.Path.{ap}
use Prim.Native.Nat.{ℕ, zero, suc, ◌+◌, ◌/◌, ◌≤◌}
use native.Mathlib.Omega.{arith}
use Rattle.network.specs.declared.Network.{Network}
use Rattle.lane.specs.State.{World}
use Rattle.schedule.specs.Running.{Running, begun, picks}
use Rattle.schedule.proofs.Ready.{Ready, ready_answers, ready_picks, ready_relieves, ready}
use Rattle.drives.specs.Drive.{turns, afresh, round, left_after}
use Rattle.drives.specs.Reliefs.{InRounds, InDrive}

module _ (n : Network) where
  -- ---- the lane stays sound
  ready_turns : (k p : ℕ) (r : Running) → p + k ≤ n.processes → Ready n r.world → Ready n (turns p k r).world
  ready_turns zero p r h s = s
  ready_turns (suc k) p r h s = ready_turns k (suc p) (picks p r) (omega arith) (ready_picks n p r (omega arith) s)

  ready_round : (r : Running) → Ready n r.world → Ready n (round r).world
  ready_round r s = ready_turns r.world.lane.network.processes 0 (afresh r) (omega (arith, ap (λ (m : Network). m.processes) s.same)) s

  -- ---- the rounds of a drive
  in_rounds : (k : ℕ) (r : Running) → Ready n r.world → InRounds k r
  in_rounds zero r s = tt
  in_rounds (suc k) r s =
      let t = ready_round r s in
      (ready_answers n (round r).world t, λ e. in_rounds k (left_after (round r)) (ready_relieves n (round r) t))

-- ---- from the tests on
pub drive_no_other : (budget : ℕ) (w : World) → InDrive budget w
drive_no_other budget w shaped e f = in_rounds w.lane.network (budget / w.lane.network.processes) (begun w) (ready w shaped e f)
