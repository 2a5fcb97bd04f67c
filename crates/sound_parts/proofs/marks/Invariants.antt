-- `sound_parts::marks` meets its contract. The loop's invariant: the marks are filled as far as the processes passed.
-- Assumes nothing.
use Rattle.std.proofs.Common.{ℕ, cond, replicate}
use Rattle.base.proofs.Lists.{Filled}
use Rattle.lane.specs.declared.Lane.{Lane}
use Rattle.lane.specs.State.{ended_at}
use Rattle.sound_parts.proofs.marks.Given as goal

-- the mark of an end
abbrev pub mark_of : Lane → ℕ → ℕ
mark_of lane e = cond (ended_at lane e) 65535 0

abbrev pub invariant-loop-p : goal.invariant-loop-p
invariant-loop-p l = Filled (mark_of l.lane) 0 (replicate 256 0) l.p l.marks
