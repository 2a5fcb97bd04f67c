-- Document 01, "The lane in operation": "A channel's operations take the channel record and hand it back." Document 02, request 6: "in each channel's
-- record, the most messages it has held since the start", `peak`.
-- Assumes nothing.
use Rattle.std.specs.Prelude.{Bool, true, false, cond, ℕ, ◌+◌, ◌-◌, ◌*◌, ◌%◌, max}
use Rattle.process.specs.declared.Channel.{Channel}

-- what stands past the end of a list of channels
abbrev pub no_channel : Channel
no_channel = record { capacity = 0; oldest = 0; held = 0; peak = 0; closed = false }

-- no other operation makes more be held: "Enlarging and emptying leave it", and so do getting and closing
abbrev pub put_one : Channel → Channel
put_one h = record { capacity = h.capacity; oldest = h.oldest; held = h.held + 1; peak = max h.peak (h.held + 1); closed = h.closed }

-- the place of the oldest counts modulo 256, whatever the capacity
abbrev pub get_one : Channel → Channel
get_one h = record { capacity = h.capacity; oldest = (h.oldest + 1) % 256; held = h.held - 1; peak = h.peak; closed = h.closed }

abbrev pub close_one : Channel → Channel
close_one h = record { capacity = h.capacity; oldest = h.oldest; held = h.held; peak = h.peak; closed = true }

-- "empties its incoming ones (held 0, place kept)"
abbrev pub empty_one : Channel → Channel
empty_one h = record { capacity = h.capacity; oldest = h.oldest; held = 0; peak = h.peak; closed = h.closed }

abbrev pub enlarge_one : Channel → Channel
enlarge_one h = record { capacity = h.capacity + 1; oldest = h.oldest; held = h.held; peak = h.peak; closed = h.closed }

-- the cell of message i of channel c: "a message goes to cell 256 × channel + (oldest + held) mod 256"
abbrev pub slot : ℕ → Channel → ℕ → ℕ
slot c h i = 256 * c + (h.oldest + i) % 256

-- a channel whose sender (s) or receiver (r) ends: "A process that ends closes its outgoing channels and empties its incoming ones"
abbrev pub drop_one : Bool → Bool → Channel → Channel
drop_one s r h = record { capacity = h.capacity; oldest = h.oldest; held = cond r 0 h.held; peak = h.peak; closed = cond s true h.closed }
