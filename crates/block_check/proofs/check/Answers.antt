use mathlib.Core.Path.{refl}
use Rattle.base.specs.Lists.{values}
use Rattle.block_check.proofs.check.Goals as goal

-- the code's constant is the list of the rule's values: one test, which the checker computes over all 256 entries
pub step-crc-requires : goal.step-crc-requires
unfolding values
step-crc-requires c = refl
