-- `file_blocks::checks` meets its contract. The loop's invariant: the blocks that are left give the answer of all of them.
-- Assumes nothing.
use mathlib.Core.Path.{◌≡◌}
use Prim.Native.Nat.{◌-◌}
use Rattle.base.specs.Tests.{first_bad}
use Rattle.lane_file.specs.Read.{check_right, checks}
use Rattle.file_blocks.proofs.checks.Given as goal

abbrev pub invariant-loop-k : goal.invariant-loop-k
invariant-loop-k l = first_bad (check_right l.s) l.k (l.blocks - l.k) ≡ checks l.s
