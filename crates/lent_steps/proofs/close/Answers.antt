-- `lent_steps::close` meets its contract: a fault, or closed.
-- Assumes nothing.
use mathlib.Core.Path.{refl}
use native.Mathlib.Omega.{arith}
use Rattle.lent_steps.proofs.Cases.{close_closed, close_open, on_registers, on_channel}
use Rattle.lent_steps.proofs.close.Goals as goal

pub returns-then-channel : goal.returns-then-channel
returns-then-channel c = λ cells. on_registers (λ l k at. close_closed at cells c.channel_of-c.ensures.0 refl c.requires.1 c.if-channel.true)

pub returns : goal.returns
returns c = λ cells. on_channel c.channel_of-c.result _ (omega arith) refl (rw c.close.ensures) (λ l k at. close_open at cells c.channel_of-c.ensures.0 refl c.requires.1 c.if-channel.false c.close.ensures refl)
