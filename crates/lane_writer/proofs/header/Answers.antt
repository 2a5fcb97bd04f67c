-- `lane_writer::header` meets its contract: eight bytes at the front.
-- Assumes nothing.
use mathlib.Core.Path.{refl, sym}
use Rattle.lane_writer.proofs.Stores.{put_front}
use Rattle.lane_writer.proofs.header.Goals as goal

pub returns : goal.returns
returns c = rw c.copy_from_slice.ensures.after (sym (put_front _ c.args.buffer.now 8 refl c.requires))
