-- `lane_writer::file` meets its contract. The loop's invariant: so many code blocks are written behind block 0.
-- Assumes nothing.
use mathlib.Core.Path.{◌≡◌}
use Prim.Native.Nat.{◌-◌}
use lib.ListN.{length}
use Rattle.base.specs.Lists.{joined}
use Rattle.lane_writer.specs.Put.{put}
use Rattle.lane_file.specs.File.{block_of}
use Rattle.lane_writer.proofs.file.Given as goal

abbrev pub invariant-loop-k : goal.invariant-loop-k
invariant-loop-k l = (length l.buffer ≡ length l.initial.buffer) × (l.buffer ≡ put l.initial.buffer 512 (joined (block_of l.net) 1 (l.k - 1)))
