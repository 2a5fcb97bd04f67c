-- The channels with an end at the outside, listed so that a loop can go from one to the next and pass over those inside.
-- Assumes nothing.
use Rattle.std.specs.Prelude.{◌≡◌, List, ℕ, ◌+◌, ◌≤◌, ◌<◌, get_or}
use Rattle.network.specs.Rules.{outside}

-- of the channels from c on, e is the first with this end at the outside; their number where there is none
pub record Onward (ends : List ℕ) (channels c e : ℕ) : Type 0 where
  pub from : c ≤ e
  pub within : e ≤ channels
  pub inside : (d : ℕ) → c ≤ d → d < e → get_or ends d 0 ≡ outside → ⊥
  pub outer : e < channels → get_or ends e 0 ≡ outside

-- the first of all, and for each channel the first after it
pub record Outer (ends : List ℕ) (channels begin : ℕ) (after : List ℕ) : Type 0 where
  pub first : Onward ends channels 0 begin
  pub next : (c : ℕ) → c < channels → Onward ends channels (c + 1) (get_or after c 0)
