-- `lane_writer::pair` meets its contract: two stores are one of both bytes.
-- Assumes nothing.
use native.Mathlib.Numerals.{add-one}
use Rattle.lane_writer.specs.Put.{put}
use Rattle.lane_writer.proofs.pair.Goals as goal

pub returns : goal.returns
unfolding put
returns c = rw add-one
