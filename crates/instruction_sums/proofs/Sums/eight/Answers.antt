-- `instruction_sums::Sums::eight` meets its contract: two fours laid over one another tell of both.
-- Assumes nothing.
use Rattle.instruction_sums.specs.Sums.{flags, clean_at}
use Rattle.flags.proofs.Clean.{laid}
use Rattle.instruction_sums.proofs.Sums.eight.Goals as goal

pub returns : goal.returns
returns c =
    let a = c.args in
    laid flags (clean_at a.self.code.now a.self.opcodes.now a.self.channels.now) a.i 4 4 c.four.result c.four-2.result
    c.four.ensures
    c.four-2.ensures
