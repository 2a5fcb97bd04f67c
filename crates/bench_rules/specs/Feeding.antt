-- Document 01, "Bench listing": "Before each pick byte (255 too) it feeds each outside input, channels rising, until full or spent, and closes a
-- spent one, once."
-- Assumes nothing.
use Rattle.std.specs.Prelude.{Bool, true, false, cond, List, [], ◌∷◌, ℕ, zero, suc, eqb, get_or, set, ℤ}
use Rattle.network.specs.Rules.{sender_of, outside}
use Rattle.lane.specs.State.{World}
use Rattle.lane.specs.Calls.{Told, moved, waiting_empty, waiting_full, ended, accepted, value, the_end, refused, feed_of, close_of}

abbrev pub is_accepted : Told → Bool
is_accepted moved = false
is_accepted (waiting_empty c) = false
is_accepted (waiting_full c) = false
is_accepted ended = false
is_accepted accepted = true
is_accepted (value v) = false
is_accepted the_end = false
is_accepted (refused k) = false

-- what is left of one channel's input, and the lane and cells
pub record Fed : Type 0 where
  pub left : List ℤ
  pub world : World

abbrev pub fed : List ℤ → World → Fed
fed left w = record { left = left; world = w }

-- feeds one after the other until one is refused, for the channel is full; when all is fed a closing, which is refused after the first
abbrev pub feeding : ℕ → List ℤ → World → Fed
feeding c [] w = fed [] (close_of c w).world
feeding c (v ∷ vs) w = cond (is_accepted (feed_of c v w).answer) (feeding c vs (feed_of c v w).world) (fed (v ∷ vs) w)

-- the same of all channels
pub record Inputs : Type 0 where
  pub left : List (List ℤ)
  pub world : World

abbrev pub inputs : List (List ℤ) → World → Inputs
inputs left w = record { left = left; world = w }

-- channel c, if that comes from outside
abbrev pub put : ℕ → Fed → List (List ℤ) → Inputs
put c f left = inputs (set left c f.left) f.world

unfoldable pub feeds_at : ℕ → Inputs → Inputs
feeds_at c i =
    cond (eqb (sender_of i.world.lane.network c) outside) (put c (feeding c (get_or i.left c []) i.world) i.left) i

-- channels c, c + 1, .., k of them
abbrev pub feeds_from : ℕ → ℕ → Inputs → Inputs
feeds_from c zero i = i
feeds_from c (suc k) i = feeds_from (suc c) k (feeds_at c i)

unfoldable pub feeds : Inputs → Inputs
feeds i = feeds_from 0 i.world.lane.network.channels i
