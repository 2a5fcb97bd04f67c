-- Document 01, "Driver": "With a number of picks: while at least P are left, pick 0 to P−1 in turn. .. Refusal 13 ends it as settled, 14 as ceiling;
-- fewer than P left ends it as spent. It answers picks and enlargements made." Document 02, 5: "It shall try relief once after every round, moves or
-- not. It ends as settled exactly after a round with no move and refusal 13, and as ceiling exactly after a round with no move and refusal 14."
-- (The "exactly" is `ends_exactly` of courses/proofs/Whole.antt.)
-- Assumes nothing.
use Rattle.std.specs.Prelude.{cond, ℕ, zero, suc, ◌+◌, ◌*◌, ◌/◌, eqb}
use Rattle.base.specs.Refusals.{number_of}
use Rattle.lane.specs.State.{World}
use Rattle.lane.specs.Calls.{cells_wrong, unsound}
use Rattle.relief.specs.Relief as relief
use Rattle.schedule.specs.Running.{Running, begun, picks, relief_in, relieves}
use Rattle.drives.specs.declared.End.{End}
use Rattle.drives.specs.declared.End.TheVariants.{Settled, Ceiling, Spent}
use Rattle.drives.specs.declared.Driven.{Driven}
use Rattle.std.specs.declared.result.Result.{Result as Answer}
use Rattle.std.specs.declared.result.Result.TheVariants.{Ok, Err}
use Rattle.base.specs.declared.Refusal.{Refusal}

-- processes p, p + 1, .., k of them, picked in turn
abbrev pub turns : ℕ → ℕ → Running → Running
turns p zero r = r
turns p (suc k) r = turns (suc p) k (picks p r)

-- a round: its moves are counted from 0
abbrev pub afresh : Running → Running
afresh r = record { world = r.world; moved = 0; grown = r.grown }

abbrev pub round : Running → Running
round r = turns 0 r.world.lane.network.processes (afresh r)

pub data Ended : Type 0 where
  settled : Ended
  ceiling : Ended
  spent : Ended

-- what comes after a round: it ends so, or it goes on
pub data Next : Type 0 where
  ends : Ended → Next
  goes : Next

-- after a round with no move: 13 ends it as settled, 14 as ceiling; a relief that enlarged goes on. 15 and 16 do not come: there is room for any ring,
-- and the lane is sound (`drive_no_other` of proofs/Reliefs.antt).
abbrev pub by_relief : relief.Told → Next
by_relief (relief.enlarged n c) = goes
by_relief (relief.refused n) = cond (eqb n 14) (ends ceiling) (ends settled)

-- the rule after a round: it ends only after one with no move
abbrev pub next_after : Running → Next
next_after r = cond (eqb r.moved 0) (by_relief (relief_in r.world)) goes

-- "relief once after every round, moves or not"
abbrev pub left_after : Running → Running
left_after r = relieves r

pub record Drive : Type 0 where
  pub end : Ended
  pub rounds : ℕ
  pub running : Running

abbrev pub driven : Ended → ℕ → Running → Drive
driven e n r = record { end = e; rounds = n; running = r }

-- so many rounds at most, n made before: "while at least P are left"
abbrev pub rounds : ℕ → ℕ → Running → Drive
rounds zero n r = driven spent n r
rounds (suc k) n r =
    elim (next_after (round r)) [ ends e ↦ driven e (n + 1) (left_after (round r)) | goes ↦ rounds k (n + 1) (left_after (round r)) ]

pub data Told : Type 0 where
  drove : Ended → ℕ → ℕ → Told
  refused : ℕ → Told

abbrev pub end_of : End → Ended
end_of Settled = settled
end_of Ceiling = ceiling
end_of Spent = spent

-- the answer of the code, in these terms
abbrev pub told : Answer Driven Refusal → Told
told (Ok d) = drove (end_of d.end) d.picks d.enlarged
told (Err r) = refused (number_of r)

pub record Result : Type 0 where
  pub answer : Told
  pub world : World

abbrev pub result : Told → World → Result
result a w = record { answer = a; world = w }

-- the picks made are P for each round
abbrev pub done : ℕ → Drive → Result
done processes d = result (drove d.end (processes * d.rounds) d.running.grown) d.running.world

-- 15, 16; else the rounds that the number of picks holds
unfoldable pub drive_of : ℕ → World → Result
drive_of budget w =
    cond (cells_wrong w) (result (refused 15) w)
    (cond (unsound w) (result (refused 16) w)
    (done w.lane.network.processes (rounds (budget / w.lane.network.processes) 0 (begun w))))
