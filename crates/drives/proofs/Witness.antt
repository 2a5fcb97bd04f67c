-- The hypotheses of `drive_no_other` are met: by the fresh lane of one process that sends to itself for ever, on a channel of capacity 1
-- (schedule/proofs/Fixture.antt). A drive of three rounds is not refused there.
-- Assumes nothing.
use Rattle.lane.specs.State.{fresh_of}
use Rattle.schedule.specs.Running.{begun}
use Rattle.schedule.proofs.Fixture.{fresh, fresh_shaped, fresh_cells, fresh_safe}
use Rattle.drives.specs.Reliefs.{InRounds}
use Rattle.drives.proofs.Reliefs.{drive_no_other}

-- three rounds: the third has no move
pub drive_met : InRounds 3 (begun fresh)
unfolding fresh_of
drive_met = drive_no_other 3 fresh fresh_shaped fresh_cells fresh_safe
