-- Demand 3 with bursts among the calls: what kahn/specs/Boards.antt and Theorem.antt say of lists of steps, said of lists of acts. proofs/Whole.antt proves
-- the statements.
-- Assumes nothing.
use Rattle.std.specs.Prelude.{◌≡◌, ◌↔◌, true, List, ◌∷◌, ◌++◌, ℕ, ◌≤◌, ◌<◌, ℤ, length}
use Rattle.network.specs.declared.Network.{Network}
use Rattle.lane.specs.State.{World, process_of}
use Rattle.kahn.specs.Plain.{Plain, from_outside, without_capacities, plain_after}
use Rattle.kahn.specs.Calls.{close, closes_by}
use Rattle.kahn.specs.Steps.{call}
use Rattle.kahn.specs.Boards as steps
use Rattle.kahn.specs.Boards.{Prefix, board, Quiet, Alike}
use Rattle.kahn.specs.Theorem.{ReadAs}
use Rattle.with_bursts.specs.Acts.{Act, step, after, fed, taken, sent, moved_in, written_out, Same}

-- ---- a list of calls with bursts is a list of single feeds with the same states and sendings
abbrev pub BurstsAreSteps : Type 0
BurstsAreSteps = (acts : List Act) (w : World) → Same acts w

-- so are the states on the way: a beginning of the one, written out, is a beginning of the other
abbrev pub OnTheWay : Type 0
OnTheWay = (acts later : List Act) → written_out (acts ++ later) ≡ written_out acts ++ written_out later

-- ---- fair, and at rest
-- "on each channel from outside the accepted feeds", those of bursts among them, "are a beginning of its input, and a closing is accepted only after all
-- of it"
pub record Fair (n : Network) (input : ℕ → List ℤ) (acts : List Act) (w : World) : Type 0 where
  pub feeds : (c : ℕ) → from_outside n c ≡ true → Prefix (fed acts w c) (input c)
  pub closings : (c : ℕ) (before later : List Act) → from_outside n c ≡ true → acts ≡ before ++ (step (call (close c)) ∷ later)
      → closes_by (close c) (after before w) c ≡ true → fed before w c ≡ input c

abbrev pub WasClosed : List Act → World → ℕ → Type 0
WasClosed acts w c =
    (before : List Act) × (later : List Act) × (acts ≡ before ++ (step (call (close c)) ∷ later)) × (closes_by (close c) (after before w) c ≡ true)

-- "on each channel from outside all input and a closing were accepted"
pub record AllIn (n : Network) (input : ℕ → List ℤ) (acts : List Act) (w : World) : Type 0 where
  pub fed_all : (c : ℕ) → from_outside n c ≡ true → fed acts w c ≡ input c
  pub closed_all : (c : ℕ) → from_outside n c ≡ true → WasClosed acts w c

-- "and a pick of every process would answer ended or waiting-empty"
pub record AtRest (n : Network) (input : ℕ → List ℤ) (acts : List Act) (w : World) : Type 0 where
  pub all_in : AllIn n input acts w
  pub quiet : Quiet n (after acts w)

-- these are demand 3's, of the list written out: none is lost, and none is added
pub record Exactly (n : Network) (input : ℕ → List ℤ) (acts : List Act) (w : World) : Type 0 where
  pub fair : Fair n input acts w ↔ steps.Fair n input (written_out acts) w
  pub all_in : AllIn n input acts w ↔ steps.AllIn n input (written_out acts) w
  pub rest : AtRest n input acts w ↔ steps.AtRest n input (written_out acts) w

abbrev pub FairAsSteps : Type 0
FairAsSteps = (n : Network) (input : ℕ → List ℤ) (acts : List Act) (w : World) → Exactly n input acts w

-- ---- one board: (a) and (b)
pub record Agrees (n : Network) (acts : List Act) (w : World) (s : Plain) : Type 0 where
  pub sends : (c : ℕ) → sent acts w c ≡ s.sent c
  pub processes : (p : ℕ) → p < n.processes → process_of (after acts w).lane p ≡ s.processes p

pub record Holds (n : Network) (input : ℕ → List ℤ) (acts : List Act) (w : World) : Type 0 where
  pub takes : (c : ℕ) → Prefix (taken acts w c) (sent acts w c)
  pub sends : (rounds : ℕ) → moved_in acts w ≤ rounds → (c : ℕ) → Prefix (sent acts w c) ((plain_after (without_capacities n) input rounds).sent c)
  pub rests : AtRest n input acts w → (rounds : ℕ) → moved_in acts w ≤ rounds → Agrees n acts w (plain_after (without_capacities n) input rounds)

abbrev pub OneBoardWithBursts : Type 0
OneBoardWithBursts =
    (f : List ℕ) (n : Network) → ReadAs f n → (cells : List ℤ) → length cells ≡ 8192
    → (input : ℕ → List ℤ) (acts : List Act) → Fair n input acts (board n cells)
    → Holds n input acts (board n cells)

-- ---- two boards: (c)
pub record AgreeWith (n : Network) (acts₁ acts₂ : List Act) (w₁ w₂ : World) : Type 0 where
  pub sends : (c : ℕ) → sent acts₁ w₁ c ≡ sent acts₂ w₂ c
  pub processes : (p : ℕ) → p < n.processes → process_of (after acts₁ w₁).lane p ≡ process_of (after acts₂ w₂).lane p

-- any spare fits any lane, whichever of them is fed in bursts
abbrev pub AnySpareFitsWithBursts : Type 0
AnySpareFitsWithBursts =
    (f₁ f₂ : List ℕ) (n₁ n₂ : Network) → ReadAs f₁ n₁ → ReadAs f₂ n₂ → Alike f₁ f₂
    → (cells₁ cells₂ : List ℤ) → length cells₁ ≡ 8192 → length cells₂ ≡ 8192
    → (input : ℕ → List ℤ) (acts₁ acts₂ : List Act) → Fair n₁ input acts₁ (board n₁ cells₁) → Fair n₂ input acts₂ (board n₂ cells₂)
    → AtRest n₁ input acts₁ (board n₁ cells₁) → AtRest n₂ input acts₂ (board n₂ cells₂)
    → AgreeWith n₁ acts₁ acts₂ (board n₁ cells₁) (board n₂ cells₂)
