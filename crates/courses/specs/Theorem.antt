-- The statements of this crate, whole; proofs/Whole.antt proves them. Where a run or a drive is not refused with 15 or 16 it has 8,192 cells and a sound
-- lane. (`Shaped`: the arrays are as long as the types of the code have them.)
-- Assumes nothing.
use Rattle.std.specs.Prelude.{◌≡◌, false, List, ℕ, suc, ◌<◌}
use Rattle.lane.specs.State.{World, Shaped}
use Rattle.lane.specs.Calls.{cells_wrong, unsound, pick_of}
use Rattle.runs.specs.Run.{some_unnamed, run_of}
use Rattle.drives.specs.Drive.{Ended, settled}
use Rattle.kahn.specs.Calls.{told, was_moved}
use Rattle.kahn.specs.Steps.{after}
use Rattle.kahn.specs.Boards.{Quiet}
use Rattle.courses.specs.Courses.{RunIs, beginning, course_steps, Stops, Course, HasCourse, Exactly}
use Rattle.courses.specs.Exactly.{EndsExactly}
use Rattle.courses.specs.Ends.{run_steps, DriveIs, NoneFull}

pub record NotRefused (w : World) : Type 0 where
  pub shaped : Shaped w.lane
  pub cells : cells_wrong w ≡ false
  pub sound : unsound w ≡ false

-- a run whose bytes name processes is the list of their steps
abbrev pub RunsAreSteps : Type 0
RunsAreSteps = (bytes : List ℕ) (w : World) → NotRefused w → some_unnamed bytes w ≡ false → RunIs bytes w

-- a drive has a course, it has one alone, and whatever course there is, the drive answers and leaves what that says
abbrev pub DrivesHaveCourses : Type 0
DrivesHaveCourses = (budget : ℕ) (w : World) → NotRefused w → HasCourse budget w

abbrev pub CoursesAreOne : Type 0
CoursesAreOne = (P most : ℕ) (w : World) (e e' : Ended) (r r' : ℕ) → Course P most w e r → Course P most w e' r' → (e ≡ e') × (r ≡ r')

abbrev pub DrivesAreCourses : Type 0
DrivesAreCourses = (budget : ℕ) (w : World) → NotRefused w → Exactly budget w

-- "It ends as settled exactly after .., and as ceiling exactly after .."
abbrev pub DrivesEndExactly : Type 0
DrivesEndExactly = (budget : ℕ) (w : World) → NotRefused w → EndsExactly w.lane.network.processes budget w

-- any cells and bytes, any lane, refused or not
abbrev pub RunsAlways : Type 0
RunsAlways = (bytes : List ℕ) (w : World) → Shaped w.lane → (run_of bytes w).world ≡ after (run_steps bytes w) w

abbrev pub DrivesAlways : Type 0
DrivesAlways = (budget : ℕ) (w : World) → Shaped w.lane → DriveIs budget w

-- where a drive stopped no pick moves
abbrev pub StoppedStill : Type 0
StoppedStill =
    (number going : ℕ) (w : World) → NotRefused w → Stops number w.lane.network.processes (beginning w.lane.network.processes going w)
    → (p : ℕ) → p < w.lane.network.processes
    → was_moved (told (pick_of p (after (course_steps w.lane.network.processes (suc going)) w)).answer) ≡ false

-- so the end of a settled drive is quiet, where no process would wait on a full channel
abbrev pub SettledQuiet : Type 0
SettledQuiet =
    (most rounds : ℕ) (w : World) → NotRefused w → Course w.lane.network.processes most w settled rounds
    → NoneFull w.lane.network (after (course_steps w.lane.network.processes rounds) w)
    → Quiet w.lane.network (after (course_steps w.lane.network.processes rounds) w)
