use Rattle.outer_ends.proofs.Outers.{down_begins}
use Rattle.outer_ends.proofs.outer_after.Goals as goal

pub loop-c-init : goal.loop-c-init
loop-c-init c = down_begins _ _ _ c.requires.0 c.requires.1
