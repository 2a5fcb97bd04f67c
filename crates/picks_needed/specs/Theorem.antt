-- Document 02, request 11, "How many picks a lane can need": a limit on the driver's picks. `picks_needed` of proofs/Whole.antt proves it.
-- Assumes nothing.
use Rattle.std.specs.Prelude.{◌≡◌, ◌≢◌, true, cond, List, ◌++◌, ℕ, ◌+◌, ◌*◌, ◌/◌, ◌≤◌, ◌<◌, length, ℤ}
use Rattle.network.specs.declared.Network.{Network}
use Rattle.network.specs.Rules.{receiver_of, capacity_of, outside}
use Rattle.lane.specs.State.{World, is_ended}
use Rattle.lane.specs.Calls.{ended, pick_of}
use Rattle.relief.specs.Relief.{refused}
use Rattle.schedule.specs.Running.{relief_in}
use Rattle.drives.specs.Drive.{settled, drive_of}
use Rattle.kahn.specs.Plain.{Plain, without_capacities, from_outside, plain_after}
use Rattle.kahn.specs.Steps.{Step, after, moved_in, grown_in}
use Rattle.kahn.specs.Boards.{board, Fair, AllIn, AtRest, Agrees}
use Rattle.kahn.specs.Theorem.{ReadAs}
use Rattle.courses.specs.Courses.{picked_to, beginning, course_steps, Course, driven_by}
use Rattle.picks_needed.specs.Totals.{total_of}

-- ---- "whose plain order ends every process, after N moves and G messages sent from inside": s is that order after some number of rounds
-- the messages sent on channel c from inside
abbrev pub sent_inside : Network → Plain → ℕ → ℕ
sent_inside n s c = cond (from_outside n c) 0 (length (s.sent c))

pub record Finishes (n : Network) (s : Plain) (N G : ℕ) : Type 0 where
  pub all : (p : ℕ) → p < n.processes → is_ended (s.processes p).condition ≡ true
  pub moves : total_of (λ p. (s.processes p).moves) n.processes ≡ N
  pub messages : total_of (sent_inside n s) n.channels ≡ G
  -- "no channel sent more than 256 in all"
  pub few : (c : ℕ) → c < n.channels → length (s.sent c) ≤ 256
  -- "each outside output with capacity for all it gets": the file's capacity
  pub room : (c : ℕ) → c < n.channels → receiver_of n c ≡ outside → length (s.sent c) ≤ capacity_of n c

-- ---- what the driver comes to: w is the fresh lane with its cells, `steps` what was done before the drive
pub record Limited (n : Network) (input : ℕ → List ℤ) (steps : List Step) (w : World) (s : Plain) (N G budget : ℕ) : Type 0 where
  -- "the driver must end settled .. The picks it reports are P for each round made": the rounds of its course, as request 5 has them
  pub rounds : ℕ
  pub course : Course n.processes (budget / n.processes) (after steps w) settled rounds
  pub drives : drive_of budget (after steps w) ≡ driven_by n.processes (after steps w) settled rounds
  -- "Given P × (N + G + 1) picks": no more rounds than that holds; what was done before is taken off
  pub most : moved_in steps w + grown_in steps w + rounds ≤ N + G + 1
  -- "with no more than G enlargements", those before the drive among them
  pub few : grown_in steps w + grown_in (course_steps n.processes rounds) (after steps w) ≤ G
  -- "and never at the ceiling": no relief on the way is refused with 14
  pub never : (i : ℕ) → i < rounds → relief_in (picked_to n.processes (beginning n.processes i (after steps w))) ≢ refused 14
  -- "at rest": all input in, and quiet
  pub rest : AtRest n input (steps ++ course_steps n.processes rounds) w
  -- "every process ended"
  pub over : (p : ℕ) → p < n.processes → (pick_of p (drive_of budget (after steps w)).world).answer ≡ ended
  -- and so its end is that of the plain order, by demand 3 (ours)
  pub agrees : Agrees n input (steps ++ course_steps n.processes rounds) w s

-- "Take a fresh lane, all input fed and closed, whose plain order ends every process, .. Given P × (N + G + 1) picks, where 64 bits hold that, the
-- driver must ..": that many, and any more that 64 bits hold (ours). "All input fed and closed" is `AllIn`, of whatever steps were made on the fresh
-- lane: feeds and closings alone, or others among them, so that an input longer than its channel's capacity can be in too (ours).
abbrev pub PicksNeeded : Type 0
PicksNeeded =
    (f : List ℕ) (n : Network) → ReadAs f n → (cells : List ℤ) → length cells ≡ 8192
    → (input : ℕ → List ℤ) (steps : List Step) → AllIn n input steps (board n cells)
    → (rounds N G : ℕ) → Finishes n (plain_after (without_capacities n) input rounds) N G
    → (budget : ℕ) → n.processes * (N + G + 1) ≤ budget → budget < 18446744073709551616
    → Limited n input steps (board n cells) (plain_after (without_capacities n) input rounds) N G budget

-- ---- why: whatever is done to such a lane, in whatever order it is picked, no more moves and enlargements come (ours). A process's moves stay at
-- their largest, so N says how many there are only below that; under the limit, which 64 bits hold, it is.
pub record Within (N G : ℕ) (steps : List Step) (w : World) : Type 0 where
  pub moves : moved_in steps w ≤ N
  pub enlargements : grown_in steps w ≤ G

abbrev pub NeverMore : Type 0
NeverMore =
    (f : List ℕ) (n : Network) → ReadAs f n → (cells : List ℤ) → length cells ≡ 8192
    → (input : ℕ → List ℤ) (steps : List Step) → Fair n input steps (board n cells)
    → (rounds N G : ℕ) → Finishes n (plain_after (without_capacities n) input rounds) N G → N < 18446744073709551615
    → Within N G steps (board n cells)
