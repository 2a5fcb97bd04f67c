-- Rounds of picks with a relief after each but the last, as far as they go: up to the first that is idle, or to the last that there is room for. The
-- driver's own definition (`rounds` of specs/Drive.antt) does not cite them; `rounds_are` of proofs/RoundLaws.antt says that its rounds are these, and
-- the rule after the last of them.
-- Assumes nothing.
use Rattle.std.specs.Prelude.{Bool, cond, not, ◌&&◌, List, ℕ, zero, suc, eqb}
use Rattle.lane.specs.Pick.{pick_all, unpicked}
use Rattle.schedule.specs.Running.{Running, running, relief_in, has_grown, relieves}

-- a round of the picks, its moves counted from 0
abbrev pub round_of : List ℕ → Running → Running
round_of picks r = running (pick_all picks (unpicked r.world)).world (pick_all picks (unpicked r.world)).moved r.grown

-- it had no move, and a relief after it enlarges nothing
abbrev pub idle : Running → Bool
idle r = eqb r.moved 0 && not (has_grown (relief_in r.world))

-- a series of rounds: what the last one left, before the relief after it, and how many more might have followed
pub record Series : Type 0 where
  pub last : Running
  pub left : ℕ

abbrev pub series : Running → ℕ → Series
series r left = record { last = r; left = left }

-- one round, and so many more at most, each after the relief of the one before it, as long as that was not idle
abbrev pub pick_rounds : ℕ → List ℕ → Running → Series
pick_rounds zero picks r = series (round_of picks r) 0
pick_rounds (suc again) picks r =
    cond (idle (round_of picks r)) (series (round_of picks r) (suc again)) (pick_rounds again picks (relieves (round_of picks r)))
