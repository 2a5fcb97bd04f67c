use mathlib.Core.Path.{◌≡◌, ◌∙◌}
use native.Mathlib.Omega.{arith}
use Rattle.base.proofs.Lists.{filled_none}
use Rattle.instruction_words.specs.Words.{long_word, plain_word}
use Rattle.instruction_words.proofs.Tables.{next, table_long, same_rest, short_plain, long_plain}
use Rattle.instruction_words.proofs.plain_words.Goals as goal

pub loop-b-init : goal.loop-b-init
loop-b-init c = (omega arith, filled_none plain_word 0 _)

pub loop-b-preserved : goal.loop-b-preserved
loop-b-preserved c =
    let l = c.loop-b in (
      omega arith,
      next plain_word _ l.b l.words l.word (table_long long_word _ c.requires) (omega arith) (l.invariant.0 ∙ short_plain l.b (omega arith)) l.invariant.1,
    )

pub returns : goal.returns
returns c =
    let l = c.loop-b in
    let e : l.b ≡ 32 = omega arith in
    same_rest plain_word long_word _ c.requires 32 l.words (λ k h m. long_plain k h) (rw e at l.invariant.1)
