-- `file_blocks::network_of` meets its contract, field by field.
-- Assumes nothing.
use Rattle.lane_file.specs.Read.{network_of}
use Rattle.file_blocks.proofs.network_of.Goals as goal

pub returns : goal.returns
unfolding network_of
returns c = cc
