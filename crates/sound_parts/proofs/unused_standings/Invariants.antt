-- `sound_parts::unused_standings` meets its contract. The loop's invariant: the processes that are left give the answer of all of them.
-- Assumes nothing.
use Rattle.std.proofs.Common.{◌≡◌, Bool, ℕ, ◌-◌}
use Rattle.base.specs.Tests.{first_bad}
use Rattle.lane.specs.declared.Lane.{Lane}
use Rattle.lane.specs.State.{standing_of}
use Rattle.lane.specs.Sound.{standing_zero}
use Rattle.sound_parts.proofs.unused_standings.Given as goal

-- the test of one of them
abbrev pub zero_at : Lane → ℕ → Bool
zero_at lane p = standing_zero (standing_of lane p)

abbrev pub invariant-loop-p : goal.invariant-loop-p
invariant-loop-p l = first_bad (zero_at l.lane) l.p (16 - l.p) ≡ first_bad (zero_at l.lane) l.lane.network.processes (16 - l.lane.network.processes)
