-- `sound_parts::unused_registers` meets its contract. The loop's invariant: the registers that are left give the answer of all of them.
-- Assumes nothing.
use Rattle.std.proofs.Common.{◌≡◌, Bool, ℕ, ◌-◌, ◌*◌, get_or, pos}
use Rattle.base.specs.Tests.{first_bad}
use Rattle.lane.specs.declared.Lane.{Lane}
use Rattle.process.specs.Want.{is_null}
use Rattle.sound_parts.proofs.unused_registers.Given as goal

-- the test of one of them
abbrev pub zero_at : Lane → ℕ → Bool
zero_at lane r = is_null (get_or lane.registers r (pos 0))

abbrev pub invariant-loop-r : goal.invariant-loop-r
invariant-loop-r l = first_bad (zero_at l.lane) l.r (128 - l.r) ≡ first_bad (zero_at l.lane) (8 * l.lane.network.processes) (128 - 8 * l.lane.network.processes)
