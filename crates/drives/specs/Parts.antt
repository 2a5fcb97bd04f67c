-- What the parts of the driver hand on to one another. `drive` says nothing of these.
-- Assumes nothing.
use Rattle.std.specs.Prelude.{◌≡◌, Bool, cond, ℕ, ◌+◌}
use Rattle.std.specs.declared.ops.ControlFlow.{ControlFlow}
use Rattle.std.specs.declared.ops.ControlFlow.TheVariants.{Break, Continue}
use Rattle.lane.specs.State.{World}
use Rattle.schedule.specs.Running.{running}
use Rattle.drives.specs.declared.End.{End}
use Rattle.drives.specs.Drive as drive

-- what comes after a round, in the terms of the driver
abbrev pub next_of : ControlFlow End Bool → drive.Next
next_of (Break e) = drive.ends (drive.end_of e)
next_of (Continue grew) = drive.goes

-- how many channels its relief enlarged: one, or none
abbrev pub gain_of : ControlFlow End Bool → ℕ
gain_of (Break e) = 0
gain_of (Continue grew) = cond grew 1 0

-- the rule after a round that moved so many processes and left w: what comes next, and what its relief leaves
pub record Ruled (moved : ℕ) (w : World) (next : ControlFlow End Bool) (w' : World) : Type 0 where
  pub follows : (grown : ℕ) → next_of next ≡ drive.next_after (running w moved grown)
  pub leaves : (grown : ℕ) → running w' moved (grown + gain_of next) ≡ drive.left_after (running w moved grown)

-- how a drive ends with what comes after its last round: where it would go on, no round is left (`rounds_end` of proofs/RoundLaws.antt)
abbrev pub end_by : drive.Next → drive.Ended
end_by (drive.ends e) = e
end_by drive.goes = drive.spent
