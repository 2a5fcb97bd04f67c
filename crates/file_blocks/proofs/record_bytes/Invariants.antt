-- `file_blocks::record_bytes` meets its contract. The loop's invariant: the elements passed are the bytes of the records.
-- Assumes nothing.
use Prim.Native.Nat.{◌+◌, ◌*◌}
use lib.ListN.{get_or}
use Rattle.base.proofs.Lists.{Filled}
use Rattle.file_blocks.proofs.Filling.{blank}
use Rattle.file_blocks.proofs.record_bytes.Given as goal

abbrev pub invariant-loop-c : goal.invariant-loop-c
invariant-loop-c l = Filled (λ k. get_or l.s (l.at + 4 * k) 0) 0 (blank 32) l.c l.a
