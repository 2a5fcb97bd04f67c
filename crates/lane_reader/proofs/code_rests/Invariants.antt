-- `lane_reader::code_rests` meets its contract. The loop's invariant: the code blocks that are left give the answer of all of them.
-- Assumes nothing.
use mathlib.Core.Path.{◌≡◌}
use Prim.Native.Nat.{◌-◌}
use Rattle.base.specs.Tests.{in_turn}
use Rattle.lane_file.specs.Read.{code_rest}
use Rattle.lane_reader.proofs.code_rests.Given as goal

abbrev pub invariant-loop-k : goal.invariant-loop-k
invariant-loop-k l = in_turn (code_rest l.s l.instructions) l.k (l.blocks - l.k) ≡ in_turn (code_rest l.s l.instructions) 1 (l.blocks - 1)
