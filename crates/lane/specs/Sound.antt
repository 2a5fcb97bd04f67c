-- Document 01, below the refusal table: when a lane is sound (16); document 02, request 6: the highest filling of a channel.
-- Assumes nothing.
use Rattle.std.specs.Prelude.{Bool, not, ◌&&◌, ◌||◌, ℕ, ◌-◌, ◌*◌, eqb, ltb, leb, get_or, pos}
use Rattle.base.specs.Tests.{first_bad, is_good, between}
use Rattle.network.specs.Rules.{count_of, sender_of, receiver_of, passes}
use Rattle.process.specs.declared.Channel.{Channel}
use Rattle.process.specs.Want.{is_null}
use Rattle.lane.specs.declared.Standing.{Standing}
use Rattle.lane.specs.declared.Lane.{Lane}
use Rattle.lane.specs.State.{standing_of, is_ended, ended_at, channel_of}

-- "positions are below the counts"
abbrev pub position_sound : Lane → ℕ → Bool
position_sound l p = ltb (standing_of l p).position (count_of l.network p)

-- "held at most capacity, capacity 1 to 256, oldest at most 255; a sender that ended has closed; a receiver that ended holds 0"; request 6: "It is at least
-- the number held and at most the capacity, and a lane failing that is unsound"; the sender has ended, the receiver has ended, the channel
unfoldable pub channel_sound : Bool → Bool → Channel → Bool
channel_sound sender_ended receiver_ended h =
    leb h.held h.capacity && between 1 h.capacity 256 && leb h.oldest 255
    && leb h.held h.peak && leb h.peak h.capacity
    && (not sender_ended || h.closed)
    && (not receiver_ended || eqb h.held 0)

abbrev pub channel_sound_at : Lane → ℕ → Bool
channel_sound_at l c = channel_sound (ended_at l (sender_of l.network c)) (ended_at l (receiver_of l.network c)) (channel_of l c)

-- "entries beyond P and C are zero": a process there is live, a channel open
abbrev pub standing_zero : Standing → Bool
standing_zero s = eqb s.position 0 && not (is_ended s.condition) && eqb s.moves 0

abbrev pub channel_zero : Channel → Bool
channel_zero h = eqb h.capacity 0 && eqb h.oldest 0 && eqb h.held 0 && eqb h.peak 0 && not h.closed

abbrev pub positions : Lane → Bool
positions l = is_good (first_bad (position_sound l) 0 l.network.processes)

abbrev pub channels_sound : Lane → Bool
channels_sound l = is_good (first_bad (channel_sound_at l) 0 l.network.channels)

abbrev pub unused_standings : Lane → Bool
unused_standings l = is_good (first_bad (λ p. standing_zero (standing_of l p)) l.network.processes (16 - l.network.processes))

abbrev pub unused_registers : Lane → Bool
unused_registers l = is_good (first_bad (λ r. is_null (get_or l.registers r (pos 0))) (8 * l.network.processes) (128 - 8 * l.network.processes))

abbrev pub unused_channels : Lane → Bool
unused_channels l = is_good (first_bad (λ c. channel_zero (channel_of l c)) l.network.channels (32 - l.network.channels))

-- "Sound means: the network passes the file's rules; .."
unfoldable pub sound_of : Lane → Bool
sound_of l = passes l.network && positions l && channels_sound l && unused_standings l && unused_registers l && unused_channels l
