-- `lane_writer::records` meets its contract. The loop's invariant: so many records are written.
-- Assumes nothing.
use mathlib.Core.Path.{◌≡◌}
use lib.ListN.{length}
use Rattle.base.specs.Lists.{joined}
use Rattle.lane_file.specs.File.{record_of}
use Rattle.lane_writer.specs.Put.{put}
use Rattle.lane_writer.proofs.records.Given as goal

abbrev pub invariant-loop-c : goal.invariant-loop-c
invariant-loop-c l = (length l.buffer ≡ length l.initial.buffer) × (l.buffer ≡ put l.initial.buffer 72 (joined (record_of l.net) 0 l.c))
