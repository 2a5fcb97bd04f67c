-- `lane_writer::slots` meets its contract. The loop's invariant: so many slots are written.
-- Assumes nothing.
use mathlib.Core.Path.{◌≡◌}
use lib.ListN.{length}
use Rattle.base.specs.Lists.{joined}
use Rattle.lane_file.specs.File.{slot_of}
use Rattle.lane_writer.specs.Put.{put}
use Rattle.lane_writer.proofs.slots.Given as goal

abbrev pub invariant-loop-p : goal.invariant-loop-p
invariant-loop-p l = (length l.buffer ≡ length l.initial.buffer) × (l.buffer ≡ put l.initial.buffer 8 (joined (slot_of l.net) 0 l.p))
