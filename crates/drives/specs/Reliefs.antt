-- Document 01, "Driver", and document 02, 5: every relief that a drive makes, and that each enlarges or is refused with 13 or 14. After a round with no
-- move 13 ends a drive as settled and 14 as ceiling; what `relieves` and `by_relief` say of other numbers is never asked.
-- Assumes nothing.
use Rattle.std.specs.Prelude.{◌≡◌, false, ℕ, zero, suc, ◌/◌}
use Rattle.lane.specs.State.{World, Shaped}
use Rattle.lane.specs.Calls.{cells_wrong, unsound}
use Rattle.relief.specs.Relief.{NoOther}
use Rattle.schedule.specs.Running.{Running, begun, relief_in}
use Rattle.drives.specs.Drive.{round, goes, next_after, left_after}

-- so many rounds at most, as `rounds` makes them: after each round, and then, where the drive goes on, in the rounds that are left
abbrev pub InRounds : ℕ → Running → Type 0
InRounds zero r = Unit {0}
InRounds (suc k) r = NoOther (relief_in (round r).world) × (next_after (round r) ≡ goes → InRounds k (left_after (round r)))

-- a drive that is not refused (`drive_no_other` of proofs/Reliefs.antt)
abbrev pub InDrive : ℕ → World → Type 0
InDrive budget w = Shaped w.lane → cells_wrong w ≡ false → unsound w ≡ false → InRounds (budget / w.lane.network.processes) (begun w)
