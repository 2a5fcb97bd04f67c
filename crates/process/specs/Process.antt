-- A process as the rules speak of it, and what one instruction makes of it and of its channel. The code holds neither: the registers of all
-- processes lie in one register file, and an instruction answers what it changed there.
-- Assumes nothing.
use Rattle.std.specs.Prelude.{List, ℕ, ℤ}
use Rattle.process.specs.declared.Condition.{Condition}
use Rattle.process.specs.declared.Channel.{Channel}
use Rattle.process.specs.declared.Outcome.{Outcome}

-- "Per process: eight registers, position, condition (live, stopped, faulted), moves."
pub record Process : Type 0 where
  pub registers : List ℤ
  pub position : ℕ
  pub condition : Condition
  pub moves : ℕ

pub record Stepped : Type 0 where
  pub process : Process
  pub channel : Channel
  pub outcome : Outcome
