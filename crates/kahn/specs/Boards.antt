-- Demand 3: what is asked of the steps on a board, when it is at rest, which files are alike, and how a board stands to the plain order. All is said
-- of lists of steps. A list of calls `ks`, as document 01 has them, is `calls ks`; a relief that nobody called may stand anywhere among the steps, so
-- that more is said, and runs and drives are covered.
-- Assumes nothing.
use Rattle.std.specs.Prelude.{◌≡◌, ◌⊎◌, Bool, true, false, List, ◌∷◌, ◌++◌, ℕ, ◌+◌, ◌*◌, ◌≤◌, ◌<◌, length, get_or, ℤ}
use Rattle.network.specs.declared.Network.{Network}
use Rattle.lane.specs.State.{World, world, process_of, fresh_of}
use Rattle.lane.specs.Calls.{Told, moved, waiting_empty, waiting_full, ended, accepted, value, the_end, refused, pick_of}
use Rattle.kahn.specs.Plain.{Plain, without_capacities, from_outside, plain_after}
use Rattle.kahn.specs.Calls.{close, closes_by}
use Rattle.kahn.specs.Steps.{Step, call, after, fed, taken, sent, moved_in}

-- "a beginning may be none or all"
pub record Prefix {A : Type 0} (xs ys : List A) : Type 0 where
  pub rest : List A
  pub longer : ys ≡ xs ++ rest

-- a board: the fresh lane of its network, and its cells
abbrev pub board : Network → List ℤ → World
board n cells = world (fresh_of n) cells

-- "on each channel from outside the accepted feeds are a beginning of its input, and a closing is accepted only after all of it"
pub record Fair (n : Network) (input : ℕ → List ℤ) (steps : List Step) (w : World) : Type 0 where
  pub feeds : (c : ℕ) → from_outside n c ≡ true → Prefix (fed steps w c) (input c)
  pub closings : (c : ℕ) (before later : List Step) → from_outside n c ≡ true → steps ≡ before ++ (call (close c) ∷ later)
      → closes_by (close c) (after before w) c ≡ true → fed before w c ≡ input c

-- an answer of a pick that ends or waits on an empty channel
abbrev pub is_resting : Told → Bool
is_resting moved = false
is_resting (waiting_empty c) = true
is_resting (waiting_full c) = false
is_resting ended = true
is_resting accepted = false
is_resting (value v) = false
is_resting the_end = false
is_resting (refused n) = false

-- some step of the list was an accepted closing of channel c
abbrev pub WasClosed : List Step → World → ℕ → Type 0
WasClosed steps w c =
    (before : List Step) × (later : List Step) × (steps ≡ before ++ (call (close c) ∷ later)) × (closes_by (close c) (after before w) c ≡ true)

-- ---- "At rest", in two parts
-- of the steps: "on each channel from outside all input and a closing were accepted"
pub record AllIn (n : Network) (input : ℕ → List ℤ) (steps : List Step) (w : World) : Type 0 where
  pub fed_all : (c : ℕ) → from_outside n c ≡ true → fed steps w c ≡ input c
  pub closed_all : (c : ℕ) → from_outside n c ≡ true → WasClosed steps w c

-- of the lane alone: "and a pick of every process would answer ended or waiting-empty"
abbrev pub Quiet : Network → World → Type 0
Quiet n w = (p : ℕ) → p < n.processes → is_resting (pick_of p w).answer ≡ true

pub record AtRest (n : Network) (input : ℕ → List ℤ) (steps : List Step) (w : World) : Type 0 where
  pub all_in : AllIn n input steps w
  pub quiet : Quiet n (after steps w)

-- two files "alike but for the capacities and block 0's check": the two bytes of each record's capacity, from 74 + 4c on, and 510 and 511
abbrev pub MayDiffer : ℕ → Type 0
MayDiffer k = ((c : ℕ) × (c < 32) × ((k ≡ 74 + 4 * c) ⊎ (k ≡ 75 + 4 * c))) ⊎ ((k ≡ 510) ⊎ (k ≡ 511))

pub record Alike (f g : List ℕ) : Type 0 where
  pub long : length f ≡ length g
  pub same : (k : ℕ) → k < length f → (MayDiffer k → ⊥) → get_or f k 0 ≡ get_or g k 0

-- ---- what the theorem says of one board with its steps, against the plain order
-- (a) "what the board sent on any channel is a beginning of what the plain order sends .. for any number of rounds not below the number of picks
-- that moved"; "What takes gave is a beginning of this"
pub record SendsPrefix (n : Network) (input : ℕ → List ℤ) (steps : List Step) (w : World) : Type 0 where
  pub takes : (c : ℕ) → Prefix (taken steps w c) (sent steps w c)
  pub sends : (rounds : ℕ) → moved_in steps w ≤ rounds → (c : ℕ)
      → Prefix (sent steps w c) ((plain_after (without_capacities n) input rounds).sent c)

-- (b) a board at rest "agrees with that order .. in everything sent and in each process's registers, position, condition and moves"
pub record Agrees (n : Network) (input : ℕ → List ℤ) (steps : List Step) (w : World) (s : Plain) : Type 0 where
  pub sends : (c : ℕ) → sent steps w c ≡ s.sent c
  pub processes : (p : ℕ) → p < n.processes → process_of (after steps w).lane p ≡ s.processes p

-- (c) two boards agree with each other
pub record AgreeWith (n : Network) (steps₁ steps₂ : List Step) (w₁ w₂ : World) : Type 0 where
  pub sends : (c : ℕ) → sent steps₁ w₁ c ≡ sent steps₂ w₂ c
  pub processes : (p : ℕ) → p < n.processes → process_of (after steps₁ w₁).lane p ≡ process_of (after steps₂ w₂).lane p
