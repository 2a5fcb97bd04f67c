-- Document 02, request 1: "The detector hands over a burst of values for one channel. One call shall feed a list of values and answer how many went in
-- and, if it stopped early, the refusal of the first value that did not."
-- Assumes nothing.
use Rattle.std.specs.Prelude.{Bool, true, false, cond, List, [], ◌∷◌, ℕ, suc, ℤ}
use Rattle.lane.specs.State.{World}
use Rattle.lane.specs.Calls.{Told, moved, waiting_empty, waiting_full, ended, accepted, value, the_end, refused, Called, called, refuse, cells_wrong, unsound, no_channel_there, sender_inside, feed_of}

-- what a burst leaves: how many values went in; `accepted`, or the refusal of the first that did not; the lane and cells
pub record Delivery : Type 0 where
  pub fed : ℕ
  pub answer : Told
  pub world : World

abbrev pub delivery : ℕ → Told → World → Delivery
delivery n a w = record { fed = n; answer = a; world = w }

abbrev pub is_accepted : Told → Bool
is_accepted moved = false
is_accepted (waiting_empty c) = false
is_accepted (waiting_full c) = false
is_accepted ended = false
is_accepted accepted = true
is_accepted (value v) = false
is_accepted the_end = false
is_accepted (refused k) = false

-- one feed; and then the rest, on what it left, with that one more; or its refusal
abbrev pub onward : Called → Delivery → Delivery
onward r rest = cond (is_accepted r.answer) (delivery (suc rest.fed) rest.answer rest.world) (delivery 0 r.answer r.world)

-- single feeds, until one is refused
unfoldable pub feeds_of : ℕ → List ℤ → World → Delivery
feeds_of c [] w = delivery 0 accepted w
feeds_of c (v ∷ vs) w = onward (feed_of c v w) (feeds_of c vs (feed_of c v w).world)

-- "An empty list is tested as a single feed is, except that full or closed is not looked at; past these tests it feeds nothing and is no refusal."
unfoldable pub feed_none : ℕ → World → Called
feed_none c w =
    refuse (cells_wrong w) 15 w
    (refuse (unsound w) 16 w (refuse (no_channel_there c w) 8 w (refuse (sender_inside c w) 9 w (called accepted w))))

unfoldable pub burst_of : ℕ → List ℤ → World → Delivery
burst_of c [] w = delivery 0 (feed_none c w).answer (feed_none c w).world
burst_of c (v ∷ vs) w = feeds_of c (v ∷ vs) w
