-- A run and a drive on any lane, with any cells and bytes: refused, they make no step.
-- Assumes nothing.
use mathlib.Core.Path.{◌≡◌, refl, ap}
use mathlib.Core.Bool.{Bool, true, false, cond}
use mathlib.Core.List.{List, []}
use Prim.Native.Nat.{ℕ}
use Rattle.lane.specs.State.{World}
use Rattle.lane.specs.Calls.{cells_wrong, unsound}
use Rattle.lane.proofs.Shape.{Shaped}
use Rattle.schedule.proofs.Ready.{ready}
use Rattle.runs.specs.Run.{some_unnamed, run_of}
use Rattle.runs.specs.Run as run
use Rattle.drives.specs.Drive.{drive_of}
use Rattle.drives.specs.Drive as drive
use Rattle.kahn.specs.Steps.{after}
use Rattle.courses.specs.Courses.{byte_steps, course_steps}
use Rattle.courses.specs.Ends.{run_steps, DriveIs}
use Rattle.courses.proofs.Runs.{run_ready}
use Rattle.courses.proofs.Courses.{course_ready}
use Rattle.courses.proofs.Ends.{inner_course}

module _ (w : World) (shaped : Shaped w.lane) where
  pub run_shaped : (bytes : List ℕ) → (run_of bytes w).world ≡ after (run_steps bytes w) w
  unfolding run_of
  run_shaped bytes = go (cells_wrong w) (unsound w) (some_unnamed bytes w) refl refl refl
    where
      go : (a b c : Bool) → cells_wrong w ≡ a → unsound w ≡ b → some_unnamed bytes w ≡ c
          → (run_of bytes w).world ≡ after (cond a [] (cond b [] (cond c [] (byte_steps bytes)))) w
      go true b c e f g = rw e
      go false true c e f g = rw (e, f)
      go false false true e f g = rw (e, f, g)
      go false false false e f g = ap (λ (r : run.Result). r.world) (run_ready w.lane.network bytes w (ready w shaped e f) g)

  pub drive_shaped : (budget : ℕ) → DriveIs budget w
  unfolding drive_of
  drive_shaped budget = go (cells_wrong w) (unsound w) refl refl
    where
      go : (a b : Bool) → cells_wrong w ≡ a → unsound w ≡ b → DriveIs budget w
      go true b e f = record { steps = []; inner = tt; leaves = rw e }
      go false true e f = record { steps = []; inner = tt; leaves = rw (e, f) }
      go false false e f =
          let c = course_ready budget w (ready w shaped e f) in
          record {
            steps = course_steps w.lane.network.processes c.rounds;
            inner = inner_course w.lane.network.processes c.rounds;
            leaves = ap (λ (r : drive.Result). r.world) c.drives;
          }
