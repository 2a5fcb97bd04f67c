-- `sound_parts::unused_channels` meets its contract. The loop's invariant: the channels that are left give the answer of all of them.
-- Assumes nothing.
use Rattle.std.proofs.Common.{◌≡◌, Bool, ℕ, ◌-◌}
use Rattle.base.specs.Tests.{first_bad}
use Rattle.lane.specs.declared.Lane.{Lane}
use Rattle.lane.specs.State.{channel_of}
use Rattle.lane.specs.Sound.{channel_zero}
use Rattle.sound_parts.proofs.unused_channels.Given as goal

-- the test of one of them
abbrev pub zero_at : Lane → ℕ → Bool
zero_at lane c = channel_zero (channel_of lane c)

abbrev pub invariant-loop-c : goal.invariant-loop-c
invariant-loop-c l = first_bad (zero_at l.lane) l.c (32 - l.c) ≡ first_bad (zero_at l.lane) l.lane.network.channels (32 - l.lane.network.channels)
