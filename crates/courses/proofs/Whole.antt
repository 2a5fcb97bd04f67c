-- The statements of specs/Theorem.antt, whole, from what holds of a sound lane with its cells.
-- Assumes nothing.
use mathlib.Core.Path.{ap}
use mathlib.Core.Bool.{not}
use borrow.Author.Tests.{eq-eqb}
use Rattle.network.specs.declared.Network.{Network}
use Rattle.lane.specs.State.{World}
use Rattle.schedule.proofs.Ready.{Ready, ready}
use Rattle.courses.specs.Theorem.{NotRefused, RunsAreSteps, DrivesHaveCourses, CoursesAreOne, DrivesAreCourses, DrivesEndExactly, RunsAlways, DrivesAlways, StoppedStill, SettledQuiet}
use Rattle.courses.proofs.Runs.{run_ready}
use Rattle.courses.proofs.Courses.{course_ready, course_one, exactly_ready}
use Rattle.courses.proofs.Exactly.{ends_ready, still_ready, quiet_ready}
use Rattle.courses.proofs.Always.{run_shaped, drive_shaped}

there : (w : World) → NotRefused w → Ready w.lane.network w
there w k = ready w k.shaped k.cells k.sound

-- a sound lane of a network, with its cells, is not refused
pub not_refused : (n : Network) (w : World) → Ready n w → NotRefused w
not_refused n w s = record { shaped = s.shaped; cells = ap not (eq-eqb _ 8192 s.long); sound = ap not s.sound }

pub run_is : RunsAreSteps
run_is bytes w k named = run_ready w.lane.network bytes w (there w k) named

pub has_course : DrivesHaveCourses
has_course budget w k = course_ready budget w (there w k)

pub one_course : CoursesAreOne
one_course P most w e e' r r' t t' = course_one P most w e e' r r' t t'

pub exactly : DrivesAreCourses
exactly budget w k = exactly_ready budget w (there w k)

pub ends_exactly : DrivesEndExactly
ends_exactly budget w k = ends_ready budget w (there w k)

pub run_always : RunsAlways
run_always bytes w shaped = run_shaped w shaped bytes

pub drive_always : DrivesAlways
drive_always budget w shaped = drive_shaped w shaped budget

pub stopped_still : StoppedStill
stopped_still number going w k = still_ready w.lane.network w (there w k) number going

pub settled_quiet : SettledQuiet
settled_quiet most rounds w k = quiet_ready w.lane.network w (there w k) most rounds
