-- `instruction_words::plain_words` meets its contract. The loop's invariant: the entries passed are the plain words, and `word` is what comes next.
-- Assumes nothing.
use mathlib.Core.Path.{◌≡◌}
use Prim.Native.Nat.{◌+◌, ◌*◌}
use Rattle.base.proofs.Lists.{Filled}
use Rattle.instruction_words.specs.Words.{plain_word}
use Rattle.instruction_words.proofs.plain_words.Given as goal

abbrev pub invariant-loop-b : goal.invariant-loop-b
invariant-loop-b l = (l.word ≡ 0x2041003C0000001E + 0xFFFFFF0000 * l.b) × Filled plain_word 0 l.initial.words l.b l.words
