-- `sound_parts::ends` meets its contract. The loop's invariant, of all that the marks can say: none was found wrong exactly where the channels
-- passed have what their ends ask for.
-- Assumes nothing.
use Rattle.std.proofs.Common.{◌≡◌, Bool, cond, not, ◌&&◌, ◌||◌, ℕ, eqb}
use Rattle.base.specs.Lists.{table}
use Rattle.base.specs.Tests.{first_bad, is_good}
use Rattle.network.specs.Rules.{sender_of, receiver_of}
use Rattle.lane.specs.declared.Lane.{Lane}
use Rattle.lane.specs.State.{channel_of}
use Rattle.sound_parts.proofs.ends.Given as goal

-- what is asked of a channel, by which ends have ended
abbrev pub asked : (ℕ → Bool) → Lane → ℕ → Bool
asked ended lane c =
    (not (ended (sender_of lane.network c)) || (channel_of lane c).closed) && (not (ended (receiver_of lane.network c)) || eqb (channel_of lane c).held 0)

abbrev pub mark_of : (ℕ → Bool) → ℕ → ℕ
mark_of ended e = cond (ended e) 65535 0

abbrev pub invariant-loop-c : goal.invariant-loop-c
invariant-loop-c l =
    (ended : ℕ → Bool) → l.marks ≡ table 256 (mark_of ended) → eqb l.wrong 0 ≡ is_good (first_bad (asked ended l.lane) 0 l.c)
