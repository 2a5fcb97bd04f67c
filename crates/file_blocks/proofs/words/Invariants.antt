-- `file_blocks::words` meets its contract. The loop's invariant: the elements passed are the words of the slots or records.
-- Assumes nothing.
use Prim.Native.Nat.{◌+◌, ◌*◌}
use Rattle.base.specs.Lists.{word_at}
use Rattle.base.proofs.Lists.{Filled}
use Rattle.file_blocks.proofs.Filling.{blank}
use Rattle.file_blocks.proofs.words.Given as goal

abbrev pub invariant-loop-k : goal.invariant-loop-k
invariant-loop-k g l = Filled (λ k. word_at l.s (l.at + 4 * k)) 0 (blank g.row.N) l.k l.a
