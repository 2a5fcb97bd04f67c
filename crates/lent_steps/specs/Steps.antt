-- What an instruction did, as the code answers it, and what is left to do: with that the pick is whole.
-- Assumes nothing.
use Rattle.std.specs.Prelude.{Bool, true, ◌≡◌, List, ℕ, ◌+◌, ◌≤◌, ◌<◌, length, set, ℤ}
use Rattle.network.specs.declared.Instruction.{Instruction}
use Rattle.network.specs.Code.{fields_right}
use Rattle.process.specs.declared.Condition.{Condition}
use Rattle.process.specs.declared.Condition.TheVariants.{Live, Stopped, Faulted}
use Rattle.process.specs.declared.Channel.{Channel}
use Rattle.process.specs.Want.{counted}
use Rattle.lane.specs.declared.Lane.{Lane}
use Rattle.lane.specs.State.{World, world, standing_of, ended_at, channel_of, put_channels}
use Rattle.lane.specs.Pick.{channel_in, drop_from, instruction_for, step_for, pick_in}
use Rattle.register_steps.specs.declared.Did.{Did}
use Rattle.register_steps.specs.declared.Did.TheVariants.{On, To, WaitEmpty, WaitFull, Stop, Fault}
use Rattle.lane.specs.Calls.{Told, moved, waiting_empty, waiting_full, answer_to}

-- process p, at this position and in this condition, has moved once more
abbrev pub stand : ℕ → ℕ → Condition → Lane → Lane
stand p position condition l =
    record {
      network = l.network;
      registers = l.registers;
      processes = set l.processes p (record { position = position; condition = condition; moves = counted (standing_of l p).moves });
      channels = l.channels;
      accepted = l.accepted;
    }

-- process p ends where it stands
abbrev pub ended : ℕ → Condition → World → World
ended p condition w =
    world (put_channels (drop_from w.lane.network p 0 w.lane.channels) (stand p (standing_of w.lane p).position condition w.lane)) w.cells

-- what is left to do for process p, its registers, its channel and the cells apart
unfoldable pub finish : Did → ℕ → World → World
finish On p w = world (stand p ((standing_of w.lane p).position + 1) (standing_of w.lane p).condition w.lane) w.cells
finish (To c) p w = world (stand p c (standing_of w.lane p).condition w.lane) w.cells
finish WaitEmpty p w = w
finish WaitFull p w = w
finish Stop p w = ended p Stopped w
finish Fault p w = ended p Faulted w

-- what the pick answers, at channel c
abbrev pub says : Did → ℕ → Told
says On c = moved
says (To k) c = moved
says WaitEmpty c = waiting_empty c
says WaitFull c = waiting_full c
says Stop c = moved
says Fault c = moved

-- ---- an instruction
-- the lane l with these registers and these channels
abbrev pub with_state : List ℤ → List Channel → Lane → Lane
with_state file hs l = record { network = l.network; registers = file; processes = l.processes; channels = hs; accepted = l.accepted }

-- the lane l with the registers and channels of w, and the cells of w beside it
abbrev pub in_lane : Lane → World → World
in_lane l w = world (with_state w.lane.registers w.lane.channels l) w.cells

-- l and m have the same receivers, and the same processes have ended in both
pub record SameEnds (l m : Lane) : Type 0 where
  pub receivers : l.network.receiver ≡ m.network.receiver
  pub ended : (e : ℕ) → ended_at l e ≡ ended_at m e

-- process p is live in l and stands at instruction i
pub record At (l : Lane) (p : ℕ) (i : Instruction) : Type 0 where
  pub low : p < 16
  pub all : length l.registers ≡ 128
  pub instruction : instruction_for p l ≡ i
  pub live : (standing_of l p).condition ≡ Live

-- with what is left to do, w' is what the pick of p makes of w, and r what it answers; the positions are left to do
pub record Turned (r : Did) (p : ℕ) (w w' : World) : Type 0 where
  pub leaves : finish r p w' ≡ pick_in p w
  pub network : w'.lane.network ≡ w.lane.network
  pub stays : w'.lane.processes ≡ w.lane.processes
  pub told : answer_to (step_for p w).outcome (channel_in (instruction_for p w.lane)) ≡ says r (channel_in (instruction_for p w.lane))

-- in every lane with the registers, channels, receivers and ended processes of w where p is live and stands at i, that is the pick
abbrev pub TurnedAnywhere : Instruction → Did → ℕ → World → World → Type 0
TurnedAnywhere i r p w w' = (l : Lane) → SameEnds l w.lane → At (in_lane l w).lane p i → Turned r p (in_lane l w) (in_lane l w')

-- instruction i for process p: it did r, and left w'. Wherever p stands at it, that is the pick; whoever p is, w' is w but for registers, what
-- channels hold, and cells
pub record Means (i : Instruction) (r : Did) (p : ℕ) (w w' : World) : Type 0 where
  pub turned : TurnedAnywhere i r p w w'
  pub network : w'.lane.network ≡ w.lane.network
  pub stays : w'.lane.processes ≡ w.lane.processes
  pub accepted : w'.lane.accepted ≡ w.lane.accepted
  pub capacities : (c : ℕ) → (channel_of w'.lane c).capacity ≡ (channel_of w.lane c).capacity

-- what the caller of an instruction has shown: it passes the file's rules for some process (with so many instructions, at these ends of channel
-- b), and its channel is that of a sound lane
pub record Ready (i : Instruction) (l : Lane) : Type 0 where
  pub count : ℕ
  pub receives : Bool
  pub sends : Bool
  pub right : fields_right count receives sends i ≡ true
  pub place : (channel_of l (channel_in i)).oldest < 256
  pub within : (channel_of l (channel_in i)).held ≤ (channel_of l (channel_in i)).capacity
