-- A board after some steps and then a run or a drive: what that list is, that demand 3 holds of it, and when its end is at rest.
-- Assumes nothing.
use Rattle.std.specs.Prelude.{◌≡◌, Bool, true, false, cond, List, [], ◌∷◌, ◌++◌, ℕ, ◌/◌, ◌<◌, length, ℤ}
use Rattle.network.specs.declared.Network.{Network}
use Rattle.lane.specs.State.{World}
use Rattle.lane.specs.Calls.{waiting_full, cells_wrong, unsound, pick_of}
use Rattle.runs.specs.Run.{some_unnamed}
use Rattle.drives.specs.Drive.{Ended}
use Rattle.drives.specs.Drive as drive
use Rattle.kahn.specs.Calls.{pick, feed, close, take, relieve}
use Rattle.kahn.specs.Boards.{board, Fair, AllIn, Quiet, AtRest}
use Rattle.kahn.specs.Theorem.{ReadAs, Holds}
use Rattle.kahn.specs.Steps.{Step, call, inner_relief, after}
use Rattle.courses.specs.Courses.{byte_steps, RunIs, course_steps, Course, driven_by}

-- a step that nobody outside made: a pick, or a relief that nobody called
abbrev pub is_inner : Step → Bool
is_inner (call (pick p)) = true
is_inner (call (feed c v)) = false
is_inner (call (close c)) = false
is_inner (call (take c)) = false
is_inner (call (relieve buffer)) = false
is_inner inner_relief = true

abbrev pub Inner : List Step → Type 0
Inner [] = Unit {0}
Inner (s ∷ ss) = (is_inner s ≡ true) × Inner ss

-- a list of steps on a board, and then more inside: demand 3 holds of both together, and they are at rest where all input was in and the end is quiet
pub record Continued (n : Network) (input : ℕ → List ℤ) (steps more : List Step) (w : World) : Type 0 where
  pub fair : Fair n input (steps ++ more) w
  pub holds : Holds n input (steps ++ more) w
  pub rests : AllIn n input steps w → Quiet n (after more (after steps w)) → AtRest n input (steps ++ more) w

-- ---- a run and a drive on any lane, refused ones too: lists of steps inside
abbrev pub run_steps : List ℕ → World → List Step
run_steps bytes w = cond (cells_wrong w) [] (cond (unsound w) [] (cond (some_unnamed bytes w) [] (byte_steps bytes)))

pub record DriveIs (budget : ℕ) (w : World) : Type 0 where
  pub steps : List Step
  pub inner : Inner steps
  pub leaves : (drive.drive_of budget w).world ≡ after steps w

-- ---- then a run
abbrev pub ThenRun : Type 0
ThenRun =
    (f : List ℕ) (n : Network) → ReadAs f n → (cells : List ℤ) → length cells ≡ 8192
    → (input : ℕ → List ℤ) (steps : List Step) → Fair n input steps (board n cells)
    → (bytes : List ℕ) → some_unnamed bytes (after steps (board n cells)) ≡ false
    → RunIs bytes (after steps (board n cells)) × Continued n input steps (byte_steps bytes) (board n cells)

-- ---- then a drive
pub record Driven (n : Network) (input : ℕ → List ℤ) (steps : List Step) (w : World) (budget : ℕ) : Type 0 where
  pub end : Ended
  pub rounds : ℕ
  pub course : Course n.processes (budget / n.processes) (after steps w) end rounds
  pub drives : drive.drive_of budget (after steps w) ≡ driven_by n.processes (after steps w) end rounds
  pub continued : Continued n input steps (course_steps n.processes rounds) w

abbrev pub ThenDrive : Type 0
ThenDrive =
    (f : List ℕ) (n : Network) → ReadAs f n → (cells : List ℤ) → length cells ≡ 8192
    → (input : ℕ → List ℤ) (steps : List Step) → Fair n input steps (board n cells)
    → (budget : ℕ) → Driven n input steps (board n cells) budget

-- ---- the end of a drive that stopped: no pick moves there; so it is quiet where none would wait on a full channel
abbrev pub NoneFull : Network → World → Type 0
NoneFull n w = (p : ℕ) → p < n.processes → (c : ℕ) → (pick_of p w).answer ≡ waiting_full c → ⊥
