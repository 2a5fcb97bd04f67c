-- A run and a drive as lists of steps, and the course of a drive's rounds: the states before and after the picks of each, how many moved, what the
-- relief after it answers. Nothing here cites the driver's own definition of what follows a round.
-- Assumes nothing.
use Rattle.std.specs.Prelude.{◌≡◌, ◌⊎◌, ◌≢◌, cond, List, [], ◌∷◌, ◌++◌, ℕ, zero, suc, ◌*◌, ◌/◌, ◌<◌, eqb}
use Rattle.lane.specs.State.{World}
use Rattle.relief.specs.Relief.{enlarged, refused}
use Rattle.schedule.specs.Running.{relief_in}
use Rattle.runs.specs.Run as run
use Rattle.drives.specs.Drive.{Ended, settled, ceiling, spent}
use Rattle.drives.specs.Drive as drive
use Rattle.kahn.specs.Calls.{pick}
use Rattle.kahn.specs.Steps.{Step, call, inner_relief, after, moved_in, grown_in}

-- ---- a run: "bytes, one per pick, 255 meaning relief"
abbrev pub byte_step : ℕ → Step
byte_step b = cond (eqb b 255) inner_relief (call (pick b))

abbrev pub byte_steps : List ℕ → List Step
byte_steps [] = []
byte_steps (b ∷ bs) = byte_step b ∷ byte_steps bs

-- a run is its bytes' steps: the states of the list, its moves and enlargements
abbrev pub RunIs : List ℕ → World → Type 0
RunIs bytes w = run.run_of bytes w ≡ run.result (run.ran (moved_in (byte_steps bytes) w) (grown_in (byte_steps bytes) w)) (after (byte_steps bytes) w)

-- ---- a round: processes p, p + 1, .., k of them, picked in turn
abbrev pub turn_steps : ℕ → ℕ → List Step
turn_steps p zero = []
turn_steps p (suc k) = call (pick p) ∷ turn_steps (suc p) k

-- the picks of a round of P processes, which begins at w: where they lead, and how many moved
abbrev pub picked_to : ℕ → World → World
picked_to P w = after (turn_steps 0 P) w

abbrev pub moved_over : ℕ → World → ℕ
moved_over P w = moved_in (turn_steps 0 P) w

-- a round's steps: its picks, and the relief after them, "once after every round, moves or not"
abbrev pub round_steps : ℕ → List Step
round_steps P = turn_steps 0 P ++ (inner_relief ∷ [])

-- where round i begins, the first being 0
abbrev pub beginning : ℕ → ℕ → World → World
beginning P zero w = w
beginning P (suc i) w = beginning P i (after (round_steps P) w)

-- the steps of k rounds
abbrev pub course_steps : ℕ → ℕ → List Step
course_steps P zero = []
course_steps P (suc k) = round_steps P ++ course_steps P k

-- a round that begins at w: it had a move, or its relief enlarged
abbrev pub GoesOn : ℕ → World → Type 0
GoesOn P w = (moved_over P w ≢ 0) ⊎ ((k : ℕ) × (c : ℕ) × (relief_in (picked_to P w) ≡ enlarged k c))

-- it had none, and its relief was refused so
abbrev pub Stops : ℕ → ℕ → World → Type 0
Stops number P w = (moved_over P w ≡ 0) × (relief_in (picked_to P w) ≡ refused number)

-- how it ended, after `going` rounds that went on, of `most` that could be made
abbrev pub EndsSo : Ended → ℕ → ℕ → World → ℕ → ℕ → Type 0
EndsSo settled P most w going rounds = (rounds ≡ suc going) × (going < most) × Stops 13 P (beginning P going w)
EndsSo ceiling P most w going rounds = (rounds ≡ suc going) × (going < most) × Stops 14 P (beginning P going w)
EndsSo spent P most w going rounds = (rounds ≡ going) × (going ≡ most)

-- so many rounds were made, and it ended so
pub record Course (P most : ℕ) (w : World) (end : Ended) (rounds : ℕ) : Type 0 where
  pub going : ℕ
  pub on : (i : ℕ) → i < going → GoesOn P (beginning P i w)
  pub last : EndsSo end P most w going rounds

-- what a drive with such a course answers and leaves: "It answers picks and enlargements made."
abbrev pub driven_by : ℕ → World → Ended → ℕ → drive.Result
driven_by P w end rounds = drive.result (drive.drove end (P * rounds) (grown_in (course_steps P rounds) w)) (after (course_steps P rounds) w)

-- a drive has a course, and answers and leaves what that says
pub record HasCourse (budget : ℕ) (w : World) : Type 0 where
  pub end : Ended
  pub rounds : ℕ
  pub course : Course w.lane.network.processes (budget / w.lane.network.processes) w end rounds
  pub drives : drive.drive_of budget w ≡ driven_by w.lane.network.processes w end rounds

-- and whatever course there is, it is that one: settled exactly so, ceiling exactly so, spent exactly so
abbrev pub Exactly : ℕ → World → Type 0
Exactly budget w =
    (end : Ended) (rounds : ℕ) → Course w.lane.network.processes (budget / w.lane.network.processes) w end rounds
    → drive.drive_of budget w ≡ driven_by w.lane.network.processes w end rounds
