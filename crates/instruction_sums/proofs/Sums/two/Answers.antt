-- `instruction_sums::Sums::two` meets its contract: two sums laid over one another tell of both instructions.
-- Assumes nothing.
use mathlib.Core.Path.{ap}
use Prim.Native.Nat.{◌+◌}
use Rattle.flags.specs.Clean.{clean}
use Rattle.instruction_sums.specs.Sums.{flags, clean_at}
use Rattle.flags.proofs.Clean.{laid, one}
use Rattle.instruction_sums.proofs.Sums.two.Goals as goal

pub returns : goal.returns
returns c =
    let a = c.args in
    let test = clean_at a.self.code.now a.self.opcodes.now a.self.channels.now in
    laid flags test a.i 1 1 c.sum.result c.sum-2.result
    (one flags test c.sum.result a.i (ap (clean flags) c.sum.ensures))
    (one flags test c.sum-2.result (a.i + 1) (ap (clean flags) c.sum-2.ensures))
