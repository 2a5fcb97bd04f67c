-- `block_check::check` meets its contract. The loop's invariant: what is left gives, from the remainder so far, what all gives from the start.
-- Assumes nothing.
use mathlib.Core.Path.{◌≡◌}
use lib.ListN.{drop}
use Rattle.block_check.specs.Crc.{from}
use Rattle.block_check.proofs.check.Given as goal

abbrev pub invariant-loop-b : goal.invariant-loop-b
invariant-loop-b l = from l.crc (drop l.b-index l.bytes) ≡ from 0xFFFF l.bytes
