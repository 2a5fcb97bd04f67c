-- `instruction_sums::Sums::four` meets its contract: two pairs laid over one another tell of both.
-- Assumes nothing.
use Rattle.instruction_sums.specs.Sums.{flags, clean_at}
use Rattle.flags.proofs.Clean.{laid}
use Rattle.instruction_sums.proofs.Sums.four.Goals as goal

pub returns : goal.returns
returns c =
    let a = c.args in
    laid flags (clean_at a.self.code.now a.self.opcodes.now a.self.channels.now) a.i 2 2 c.two.result c.two-2.result
    c.two.ensures
    c.two-2.ensures
