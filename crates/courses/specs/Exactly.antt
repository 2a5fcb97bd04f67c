-- How a drive ends, read off its course. Document 02, request 5: "It ends as settled exactly after a round with no move and refusal 13, and as ceiling
-- exactly after a round with no move and refusal 14." And spent exactly where no round that the budget holds was such.
-- Assumes nothing.
use Rattle.std.specs.Prelude.{◌≡◌, ◌↔◌, ℕ, ◌/◌, ◌<◌}
use Rattle.lane.specs.State.{World}
use Rattle.drives.specs.Drive.{Ended, settled, ceiling, spent, drove, drive_of}
use Rattle.courses.specs.Courses.{beginning, GoesOn, Stops}

-- round `place` had no move and its relief was refused so, and every round before it had a move or an enlargement
pub record StopsAt (number P most : ℕ) (w : World) : Type 0 where
  pub place : ℕ
  pub within : place < most
  pub before : (i : ℕ) → i < place → GoesOn P (beginning P i w)
  pub stops : Stops number P (beginning P place w)

-- all the rounds that the budget holds were made, and each went on
abbrev pub AllWentOn : ℕ → ℕ → World → Type 0
AllWentOn P most w = (i : ℕ) → i < most → GoesOn P (beginning P i w)

-- the drive answers this end, with some picks and enlargements
abbrev pub Answers : ℕ → World → Ended → Type 0
Answers budget w end = (picks : ℕ) × (grown : ℕ) × ((drive_of budget w).answer ≡ drove end picks grown)

pub record EndsExactly (P budget : ℕ) (w : World) : Type 0 where
  pub settles : Answers budget w settled ↔ StopsAt 13 P (budget / P) w
  pub ceilings : Answers budget w ceiling ↔ StopsAt 14 P (budget / P) w
  pub spends : Answers budget w spent ↔ AllWentOn P (budget / P) w
