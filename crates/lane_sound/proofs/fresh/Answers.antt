-- `lane_sound::fresh` meets its contract.
-- Assumes nothing.
use Rattle.lane.specs.State.{fresh_of}
use Rattle.lane_sound.proofs.fresh.Goals as goal

pub returns : goal.returns
unfolding fresh_of
returns c = rw c.fresh_channels-channels.ensures
