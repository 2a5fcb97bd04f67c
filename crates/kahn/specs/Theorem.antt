-- Demand 3, the statement: of one board, and of two whose files are alike but for the capacities and block 0's check; any 8,192 cells each, any input,
-- any lists of steps that are fair to it: a list of calls `ks` is `calls ks`, and reliefs that nobody called may stand among the calls (a run and a
-- drive make them), so that this says more than the demand. `one_board_holds` and `any_spare_fits` of proofs/Whole.antt prove them.
-- Assumes nothing.
use Rattle.std.specs.Prelude.{◌≡◌, List, ℕ, ◌≤◌, length, ℤ}
use Rattle.network.specs.declared.Network.{Network}
use Rattle.lane.specs.State.{World}
pub use Rattle.lane_file.specs.RoundTrip.{ReadAs}
use Rattle.kahn.specs.Plain.{without_capacities, plain_after}
use Rattle.kahn.specs.Steps.{Step, moved_in}
use Rattle.kahn.specs.Boards.{board, Fair, AtRest, Alike, SendsPrefix, Agrees, AgreeWith}

-- what holds of one board
pub record Holds (n : Network) (input : ℕ → List ℤ) (steps : List Step) (w : World) : Type 0 where
  -- (a)
  pub sends : SendsPrefix n input steps w
  -- (b)
  pub rests : AtRest n input steps w → (rounds : ℕ) → moved_in steps w ≤ rounds → Agrees n input steps w (plain_after (without_capacities n) input rounds)

-- "after the list what the board sent on any channel is a beginning of what the plain order sends .. A board at rest .. agrees with that order": every
-- file that is read, whatever its capacities, with no second board beside it
abbrev pub OneBoardHolds : Type 0
OneBoardHolds =
    (f : List ℕ) (n : Network) → ReadAs f n → (cells : List ℤ) → length cells ≡ 8192
    → (input : ℕ → List ℤ) (steps : List Step) → Fair n input steps (board n cells)
    → Holds n input steps (board n cells)

-- what holds of two
pub record Determined (n₁ n₂ : Network) (input : ℕ → List ℤ) (steps₁ steps₂ : List Step) (w₁ w₂ : World) : Type 0 where
  -- one plain order for both
  pub same : without_capacities n₁ ≡ without_capacities n₂
  pub first : Holds n₁ input steps₁ w₁
  pub second : Holds n₂ input steps₂ w₂
  -- (c)
  pub agree : AtRest n₁ input steps₁ w₁ → AtRest n₂ input steps₂ w₂ → AgreeWith n₁ steps₁ steps₂ w₁ w₂

-- "Then any spare fits any lane."
abbrev pub AnySpareFits : Type 0
AnySpareFits =
    (f₁ f₂ : List ℕ) (n₁ n₂ : Network) → ReadAs f₁ n₁ → ReadAs f₂ n₂ → Alike f₁ f₂
    → (cells₁ cells₂ : List ℤ) → length cells₁ ≡ 8192 → length cells₂ ≡ 8192
    → (input : ℕ → List ℤ) (steps₁ steps₂ : List Step) → Fair n₁ input steps₁ (board n₁ cells₁) → Fair n₂ input steps₂ (board n₂ cells₂)
    → Determined n₁ n₂ input steps₁ steps₂ (board n₁ cells₁) (board n₂ cells₂)
