-- `file_blocks::code` meets its contract. The loop's invariant: the code of the blocks passed is there, the others are zero.
-- Assumes nothing.
use Prim.Native.Nat.{◌*◌, ◌-◌}
use lib.ListN.{get_or}
use Rattle.base.proofs.Lists.{Filled}
use Rattle.lane_file.specs.Read.{code_place}
use Rattle.file_blocks.proofs.Filling.{blank}
use Rattle.file_blocks.proofs.code.Given as goal

abbrev pub invariant-loop-k : goal.invariant-loop-k
invariant-loop-k l = Filled (λ j. get_or l.s (code_place j) 0) 0 (blank 4064) (508 * (l.k - 1)) l.code
