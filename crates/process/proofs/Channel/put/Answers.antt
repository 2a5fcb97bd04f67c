-- `Channel::put` meets its contract: more is held than ever before, or not.
-- Assumes nothing.
use native.Mathlib.Nat.{le_of_lt, max-eq_left, max-eq_right}
use Rattle.process.proofs.Channel.put.Goals as goal

pub returns-then-self : goal.returns-then-self
returns-then-self c = rw (max-eq_right (le_of_lt c.if-self.true))

pub returns-else-self : goal.returns-else-self
returns-else-self c = rw (max-eq_left c.if-self.false)
