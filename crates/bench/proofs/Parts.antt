-- The changing arrays of a lane, each a list by itself, and the lane that they are. The code works on the lane; `fresh_is` of Fresh.antt says by them
-- what a fresh one has.
-- Assumes nothing.
use mathlib.Core.Bool.{Bool}
use mathlib.Core.List.{List, [], ◌∷◌}
use Prim.Native.Nat.{ℕ, zero, suc}
use lib.IntN.{ℤ}
use Rattle.network.specs.declared.Network.{Network}
use Rattle.process.specs.declared.Condition.{Condition}
use Rattle.process.specs.declared.Condition.TheVariants.{Live, Stopped, Faulted}
use Rattle.process.specs.declared.Channel.{Channel}
use Rattle.lane.specs.declared.Standing.{Standing}
use Rattle.lane.specs.declared.Lane.{Lane}

-- a condition as a number
abbrev pub condition_of : ℕ → Condition
condition_of zero = Live
condition_of (suc zero) = Stopped
condition_of (suc (suc n)) = Faulted

abbrev pub standing : ℕ → ℕ → ℕ → Standing
standing position condition moves = record { position = position; condition = condition_of condition; moves = moves }

abbrev pub channel : ℕ → ℕ → ℕ → ℕ → Bool → Channel
channel capacity oldest held peak closed = record { capacity = capacity; oldest = oldest; held = held; peak = peak; closed = closed }

-- the processes with these positions, conditions and moves
unfoldable pub standings_of : List ℕ → List ℕ → List ℕ → List Standing
standings_of [] ks ms = []
standings_of (p ∷ ps) [] ms = []
standings_of (p ∷ ps) (k ∷ ks) [] = []
standings_of (p ∷ ps) (k ∷ ks) (m ∷ ms) = standing p k m ∷ standings_of ps ks ms

-- the channels with these capacities, places of the oldest, numbers held, highest fillings, and closed or open
unfoldable pub channels_of : List ℕ → List ℕ → List ℕ → List ℕ → List Bool → List Channel
channels_of [] os hs ms cs = []
channels_of (n ∷ ns) [] hs ms cs = []
channels_of (n ∷ ns) (o ∷ os) [] ms cs = []
channels_of (n ∷ ns) (o ∷ os) (h ∷ hs) [] cs = []
channels_of (n ∷ ns) (o ∷ os) (h ∷ hs) (m ∷ ms) [] = []
channels_of (n ∷ ns) (o ∷ os) (h ∷ hs) (m ∷ ms) (c ∷ cs) = channel n o h m c ∷ channels_of ns os hs ms cs

-- a network's lane with these registers, processes and channels
abbrev pub lane_with : Network → ℕ → List ℤ → List Standing → List Channel → Lane
lane_with n accepted registers processes channels =
    record { network = n; registers = registers; processes = processes; channels = channels; accepted = accepted }

pub record Parts : Type 0 where
  pub registers : List ℤ
  pub positions : List ℕ
  pub conditions : List ℕ
  pub moves : List ℕ
  pub capacity : List ℕ
  pub oldest : List ℕ
  pub held : List ℕ
  pub peak : List ℕ
  pub closed : List Bool

abbrev pub parts : List ℤ → List ℕ → List ℕ → List ℕ → List ℕ → List ℕ → List ℕ → List ℕ → List Bool → Parts
parts registers positions conditions moves capacity oldest held peak closed =
    record {
      registers = registers;
      positions = positions;
      conditions = conditions;
      moves = moves;
      capacity = capacity;
      oldest = oldest;
      held = held;
      peak = peak;
      closed = closed;
    }

-- the lane of a network that they are, with its count of accepted calls
abbrev pub lane_of : Network → ℕ → Parts → Lane
lane_of n accepted t =
    lane_with n accepted t.registers (standings_of t.positions t.conditions t.moves) (channels_of t.capacity t.oldest t.held t.peak t.closed)
