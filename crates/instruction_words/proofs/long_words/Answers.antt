use Rattle.base.specs.Lists.{values}
use Rattle.instruction_words.proofs.long_words.Goals as goal

-- one test, which the checker computes over all 256 entries
pub returns : goal.returns
unfolding values
returns c = rw (c.fill.ensures.after (λ y e. e), c.requires)
