-- What a process is about to do, as its own state says: the one meaning of an instruction, which a lane resolves with bounded channels and the
-- plain order with unlimited ones. X: the states of a process, W: the messages.
-- Assumes nothing.
use Rattle.std.specs.Prelude.{ℕ}

pub data Intent (X W : Type 0) : Type 0 where
  -- it has ended
  idle : Intent X W
  -- it moves by itself
  inner : X → Intent X W
  -- the channel; what follows on a message, and on the end
  receive : ℕ → (W → X) → X → Intent X W
  -- the channel, the message, what follows, and the fault if the channel is closed
  send : ℕ → W → X → X → Intent X W
  -- the channel, what follows, and the fault if the channel is closed
  close : ℕ → X → X → Intent X W
  -- it ends, by a stop or a fault
  halt : X → Intent X W
