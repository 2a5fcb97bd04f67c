-- How the table of examples writes down a lane: the programs of its processes, its channels, and the state of each. All beyond them is zero.
-- Assumes nothing.
use Rattle.std.specs.Prelude.{Bool, true, false, ◌&&◌, List, [], ◌∷◌, ◌++◌, map, ℕ, ◌+◌, ◌-◌, eqb, length, replicate, ℤ, pos, ◌-ℤ◌}
use Rattle.network.specs.declared.Instruction.{Instruction}
use Rattle.network.specs.declared.Network.{Network}
use Rattle.process.specs.declared.Condition.{Condition}
use Rattle.process.specs.Process.{Process}
use Rattle.process.specs.declared.Channel.{Channel}
use Rattle.process.specs.Channels.{no_channel}
use Rattle.lane.specs.declared.Lane.{Lane}
use Rattle.lane.specs.State.{no_standing, split}

abbrev pub minus : ℕ → ℤ
minus n = pos 0 -ℤ pos n

-- a list filled up to a length
abbrev pub filled : {A : Type 0} → ℕ → A → List A → List A
filled n d xs = xs ++ replicate (n - length xs) d

-- ---- a network
-- "op, a, b, c, one byte each"
abbrev pub op : ℕ → ℕ → ℕ → ℕ → Instruction
op o a b c = record { op = o; a = a; b = b; c = c }

-- the ends and the capacity of a channel
pub record Wire : Type 0 where
  pub sender : ℕ
  pub receiver : ℕ
  pub capacity : ℕ

abbrev pub wire : ℕ → ℕ → ℕ → Wire
wire sender receiver capacity = record { sender = sender; receiver = receiver; capacity = capacity }

-- the program of each process, and the channels
pub record Plan : Type 0 where
  pub programs : List (List Instruction)
  pub wires : List Wire

abbrev pub plan : List (List Instruction) → List Wire → Plan
plan programs wires = record { programs = programs; wires = wires }

-- "Process 0 starts at instruction 0, each next where the one before ended."
abbrev pub starts : ℕ → List (List Instruction) → List ℕ
starts i [] = []
starts i (p ∷ ps) = i ∷ starts (i + length p) ps

abbrev pub program_bytes : List Instruction → List ℕ
program_bytes [] = []
program_bytes (i ∷ is) = i.op ∷ i.a ∷ i.b ∷ i.c ∷ program_bytes is

abbrev pub code_bytes : List (List Instruction) → List ℕ
code_bytes [] = []
code_bytes (p ∷ ps) = program_bytes p ++ code_bytes ps

abbrev pub network_of : Plan → Network
network_of n =
    record {
      processes = length n.programs;
      channels = length n.wires;
      first = filled 16 0 (starts 0 n.programs);
      count = filled 16 0 (map length n.programs);
      sender = filled 32 0 (map (λ (w : Wire). w.sender) n.wires);
      receiver = filled 32 0 (map (λ (w : Wire). w.receiver) n.wires);
      capacity = filled 32 0 (map (λ (w : Wire). w.capacity) n.wires);
      code = filled 4064 0 (code_bytes n.programs);
    }

-- ---- a lane
-- a process: its first registers, position, condition, moves
abbrev pub process : List ℤ → ℕ → Condition → ℕ → Process
process registers position condition moves =
    record { registers = filled 8 (pos 0) registers; position = position; condition = condition; moves = moves }

-- an open channel that holds so many messages of so many and never held more, the oldest at place 0; the same closed; one that was emptied
infix 90 ◌of◌
abbrev pub ◌of◌ : ℕ → ℕ → Channel
held of capacity = record { capacity = capacity; oldest = 0; held = held; peak = held; closed = false }

abbrev pub closed : Channel → Channel
closed h = record { capacity = h.capacity; oldest = h.oldest; held = h.held; peak = h.peak; closed = true }

abbrev pub emptied : Channel → Channel
emptied h = record { capacity = h.capacity; oldest = h.oldest; held = 0; peak = h.peak; closed = h.closed }

-- the network, its processes, its channels, and how many calls were accepted
pub record Board : Type 0 where
  pub plan : Plan
  pub processes : List Process
  pub channels : List Channel
  pub accepted : ℕ

abbrev pub board : Plan → List Process → List Channel → ℕ → Board
board n processes channels accepted = record { plan = n; processes = processes; channels = channels; accepted = accepted }

abbrev pub registers_of : List Process → List ℤ
registers_of [] = []
registers_of (q ∷ qs) = q.registers ++ registers_of qs

abbrev pub lane_of : Board → Lane
lane_of b =
    record {
      network = network_of b.plan;
      registers = filled 128 (pos 0) (registers_of b.processes);
      processes = filled 16 no_standing (map split b.processes);
      channels = filled 32 no_channel b.channels;
      accepted = b.accepted;
    }

-- its lists have the lengths of the arrays of the code
abbrev pub is_whole : Lane → Bool
is_whole l =
    eqb (length l.registers) 128 && eqb (length l.processes) 16 && eqb (length l.channels) 32
    && eqb (length l.network.first) 16
    && eqb (length l.network.count) 16
    && eqb (length l.network.sender) 32
    && eqb (length l.network.receiver) 32
    && eqb (length l.network.capacity) 32
    && eqb (length l.network.code) 4064
