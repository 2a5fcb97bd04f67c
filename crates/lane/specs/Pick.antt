-- Document 01, "The lane in operation": what one pick of a process does to a lane and its cells.
-- Assumes nothing.
use Rattle.std.specs.Prelude.{Bool, true, false, cond, List, [], ◌∷◌, ℕ, suc, ◌+◌, ◌%◌, set}
use Rattle.network.specs.declared.Network.{Network}
use Rattle.network.specs.declared.Instruction.{Instruction}
use Rattle.network.specs.Rules.{receiver_of, receives, sends}
use Rattle.process.specs.declared.Channel.{Channel}
use Rattle.process.specs.declared.Outcome.{Outcome}
use Rattle.process.specs.declared.Outcome.TheVariants.{Moved, Sent, Halted, WaitEmpty, WaitFull, Ended}
use Rattle.process.specs.Process.{Stepped}
use Rattle.process.specs.Channels.{slot, drop_one}
use Rattle.process.specs.Execute.{step_of}
use Rattle.lane.specs.declared.Lane.{Lane}
use Rattle.lane.specs.State.{World, world, cell_at, standing_of, process_of, put_process, ended_at, channel_of, put_channel, put_channels, stands_at}

-- the channel of an instruction: b, which is below 32 where the instruction names a channel at all
abbrev pub channel_in : Instruction → ℕ
channel_in i = i.b % 32

-- "A process that ends closes its outgoing channels and empties its incoming ones": the channels from number c on, when process p has ended
abbrev pub drop_from : Network → ℕ → ℕ → List Channel → List Channel
drop_from n p c [] = []
drop_from n p c (h ∷ hs) = drop_one (sends n p c) (receives n p c) h ∷ drop_from n p (suc c) hs

-- what follows for the channels and cells: a message that was sent goes to its cell; the channels of a process that ended are closed and emptied
abbrev pub settle : Outcome → ℕ → ℕ → World → World
settle Moved p to w = w
settle (Sent v) p to w = world w.lane (set w.cells to v)
settle Halted p to w = world (put_channels (drop_from w.lane.network p 0 w.lane.channels) w.lane) w.cells
settle WaitEmpty p to w = w
settle WaitFull p to w = w
settle Ended p to w = w

-- a step of process p at channel c, whose record was h, put back
unfoldable pub put_back : ℕ → ℕ → Channel → Stepped → World → World
put_back p c h r w = settle r.outcome p (slot c h h.held) (world (put_process p r.process (put_channel c r.channel w.lane)) w.cells)

-- process p takes instruction i, at channel c
unfoldable pub step_at : ℕ → Instruction → ℕ → World → Stepped
step_at p i c w =
    step_of i (process_of w.lane p) (channel_of w.lane c) (cell_at w (slot c (channel_of w.lane c) 0)) (ended_at w.lane (receiver_of w.lane.network c))

-- the instruction at which process p stands
abbrev pub instruction_for : ℕ → Lane → Instruction
instruction_for p l = stands_at l.network p (standing_of l p).position

-- "A pick does one instruction of one process": what it did, and where that leaves lane and cells
abbrev pub step_for : ℕ → World → Stepped
step_for p w = step_at p (instruction_for p w.lane) (channel_in (instruction_for p w.lane)) w

unfoldable pub pick_in : ℕ → World → World
pick_in p w = put_back p (channel_in (instruction_for p w.lane)) (channel_of w.lane (channel_in (instruction_for p w.lane))) (step_for p w) w

-- the pick moved
abbrev pub has_moved : Outcome → Bool
has_moved Moved = true
has_moved (Sent v) = true
has_moved Halted = true
has_moved WaitEmpty = false
has_moved WaitFull = false
has_moved Ended = false

-- ---- picks one after the other: the world, how many moved, and what the last one did, at which channel
pub record Progress : Type 0 where
  pub world : World
  pub moved : ℕ
  pub last : Outcome
  pub channel : ℕ

unfoldable pub pick_next : ℕ → Progress → Progress
pick_next p g =
    record {
      world = pick_in p g.world;
      moved = cond (has_moved (step_for p g.world).outcome) (g.moved + 1) g.moved;
      last = (step_for p g.world).outcome;
      channel = channel_in (instruction_for p g.world.lane);
    }

abbrev pub pick_all : List ℕ → Progress → Progress
pick_all [] g = g
pick_all (p ∷ ps) g = pick_all ps (pick_next p g)

-- no pick made yet
abbrev pub unpicked : World → Progress
unpicked w = record { world = w; moved = 0; last = Ended; channel = 0 }
