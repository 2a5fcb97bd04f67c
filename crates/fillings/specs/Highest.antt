-- Document 02, request 6: "in each channel's record, the most messages it has held since the start", said of the states on the way and not by the rule that
-- keeps the record. proofs/Whole.antt proves the statements.
-- Assumes nothing.
use Rattle.std.specs.Prelude.{◌≡◌, List, ℕ, ◌≤◌, ℤ, take}
use Rattle.network.specs.declared.Network.{Network}
use Rattle.lane.specs.State.{World, channel_of}
use Rattle.kahn.specs.Steps.{Step, after}
use Rattle.kahn.specs.Boards.{board}
use Rattle.with_bursts.specs.Acts.{Act, written_out}
use Rattle.with_bursts.specs.Acts as with-bursts

-- how many messages channel c holds, and its highest filling as the record has it
abbrev pub held_on : ℕ → World → ℕ
held_on c w = (channel_of w.lane c).held

abbrev pub peak_of : ℕ → World → ℕ
peak_of c w = (channel_of w.lane c).peak

-- m is the most that channel c held in any state on the way, the first and the last among them: never more, and once just that. The states are those after
-- the first k steps, after all of them where the list has no more
pub record Most (c : ℕ) (steps : List Step) (w : World) (m : ℕ) : Type 0 where
  pub never_more : (k : ℕ) → held_on c (after (take k steps) w) ≤ m
  pub once : (k : ℕ) × (held_on c (after (take k steps) w) ≡ m)

-- of every channel, after any list of calls, and reliefs that nobody called, from the start; a run and a drive are such lists
abbrev pub HighestFilling : Type 0
HighestFilling = (n : Network) (cells : List ℤ) (steps : List Step) (c : ℕ) → Most c steps (board n cells) (peak_of c (after steps (board n cells)))

-- bursts among them: the states are those after each single feed of a burst, too
abbrev pub HighestFillingWithBursts : Type 0
HighestFillingWithBursts =
    (n : Network) (cells : List ℤ) (acts : List Act) (c : ℕ) → Most c (written_out acts) (board n cells) (peak_of c (with-bursts.after acts (board n cells)))
