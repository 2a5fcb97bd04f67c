-- `block_check::step` meets its contract: the law of eight bits at once.
-- Assumes nothing.
use mathlib.Core.Path.{sym}
use native.Mathlib.Omega.{arith}
use Rattle.block_check.proofs.Law.{law}
use Rattle.block_check.proofs.step.Goals as goal

pub returns : goal.returns
returns c = rw (c.from-2.ensures, c.from.ensures, c.requires) (sym (law c.args.crc c.args.b (omega arith) (omega arith)))
