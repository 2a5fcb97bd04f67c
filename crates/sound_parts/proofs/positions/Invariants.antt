-- `sound_parts::positions` meets its contract. The loop's invariant: none was found wrong exactly where the positions passed are below their counts.
-- Assumes nothing.
use Rattle.std.proofs.Common.{◌≡◌, eqb}
use Rattle.base.specs.Tests.{first_bad, is_good}
use Rattle.lane.specs.Sound.{position_sound}
use Rattle.sound_parts.proofs.positions.Given as goal

abbrev pub invariant-loop-p : goal.invariant-loop-p
invariant-loop-p l = eqb l.wrong 0 ≡ is_good (first_bad (position_sound l.lane) 0 l.p)
