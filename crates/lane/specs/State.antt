-- Document 01, "The lane in operation": a lane with its cells, its parts, and the lane at the start.
-- Assumes nothing.
use Rattle.std.specs.Prelude.{◌≡◌, Bool, true, false, cond, List, ℕ, ◌+◌, ◌*◌, length, get_or, set, replicate, ltb, ℤ, pos}
use Rattle.base.specs.Lists.{table}
use Rattle.network.specs.declared.Network.{Network}
use Rattle.network.specs.declared.Instruction.{Instruction}
use Rattle.network.specs.Rules.{start_of, count_of, capacity_of, instruction_of}
use Rattle.process.specs.declared.Condition.{Condition}
use Rattle.process.specs.declared.Condition.TheVariants.{Live, Stopped, Faulted}
use Rattle.process.specs.Process.{Process}
use Rattle.process.specs.declared.Channel.{Channel}
use Rattle.process.specs.Channels.{no_channel}
use Rattle.process.specs.Want.{counted}
use Rattle.lane.specs.declared.Standing.{Standing}
use Rattle.lane.specs.declared.Lane.{Lane}
use Rattle.process.specs.Window.{eight, put_eight}

-- a lane and the cells lent to it
pub record World : Type 0 where
  pub lane : Lane
  pub cells : List ℤ

abbrev pub world : Lane → List ℤ → World
world l cells = record { lane = l; cells = cells }

abbrev pub cell_at : World → ℕ → ℤ
cell_at w i = get_or w.cells i (pos 0)

-- The arrays of a lane have their lengths. Every value of the declared record has this shape, and the definitions speak of lists; nobody has to show it
-- to make a call.
pub record Shaped (l : Lane) : Type 0 where
  pub registers : length l.registers ≡ 128
  pub processes : length l.processes ≡ 16
  pub channels : length l.channels ≡ 32

-- ---- processes
-- "At the start all 128 registers and all counts are zero": a process there, and what stands past the end of the list
abbrev pub no_standing : Standing
no_standing = record { position = 0; condition = Live; moves = 0 }

abbrev pub standing_of : Lane → ℕ → Standing
standing_of l p = get_or l.processes p no_standing

abbrev pub joined : List ℤ → Standing → Process
joined registers s = record { registers = registers; position = s.position; condition = s.condition; moves = s.moves }

abbrev pub split : Process → Standing
split q = record { position = q.position; condition = q.condition; moves = q.moves }

abbrev pub process_of : Lane → ℕ → Process
process_of l p = joined (eight l.registers (8 * p)) (standing_of l p)

-- process p becomes q
abbrev pub put_process : ℕ → Process → Lane → Lane
put_process p q l =
    record {
      network = l.network;
      registers = put_eight l.registers (8 * p) q.registers;
      processes = set l.processes p (split q);
      channels = l.channels;
      accepted = l.accepted;
    }

-- stopped or faulted
abbrev pub is_ended : Condition → Bool
is_ended Live = false
is_ended Stopped = true
is_ended Faulted = true

-- the process at an end of a channel has ended; the outside, 255, never has
abbrev pub ended_at : Lane → ℕ → Bool
ended_at l p = is_ended (standing_of l p).condition

-- ---- channels
abbrev pub channel_of : Lane → ℕ → Channel
channel_of l c = get_or l.channels c no_channel

abbrev pub put_channels : List Channel → Lane → Lane
put_channels channels l =
    record { network = l.network; registers = l.registers; processes = l.processes; channels = channels; accepted = l.accepted }

abbrev pub put_channel : ℕ → Channel → Lane → Lane
put_channel c h l = put_channels (set l.channels c h) l

-- ---- "One count of accepted calls"
abbrev pub count : Lane → Lane
count l =
    record {
      network = l.network;
      registers = l.registers;
      processes = l.processes;
      channels = l.channels;
      accepted = counted l.accepted;
    }

-- ---- the instruction at which process p of a network stands. No position of a sound lane is past the process's count; one that is reads as stop
abbrev pub no_instruction : Instruction
no_instruction = record { op = 0; a = 0; b = 0; c = 0 }

unfoldable pub stands_at : Network → ℕ → ℕ → Instruction
stands_at n p position = cond (ltb position (count_of n p)) (instruction_of n (start_of n p + position)) no_instruction

-- ---- the lane at the start: "channels open and empty, oldest at place 0", capacity "at first the file's", none held "since the start"
abbrev pub fresh_channel : Network → ℕ → Channel
fresh_channel n c = record { capacity = capacity_of n c; oldest = 0; held = 0; peak = 0; closed = false }

unfoldable pub fresh_of : Network → Lane
fresh_of n =
    record {
      network = n;
      registers = replicate 128 (pos 0);
      processes = replicate 16 no_standing;
      channels = table 32 (fresh_channel n);
      accepted = 0;
    }
