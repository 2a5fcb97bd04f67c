-- What a burst is for, in the request's words and without its recursion: "It must leave the lane and cells exactly as single feeds up to that place
-- would, accepted count included." proofs/Whole.antt proves the statements.
-- Assumes nothing.
use Rattle.std.specs.Prelude.{◌≡◌, ◌⊎◌, Bool, false, cond, List, [], ◌∷◌, ℕ, ◌-◌, ◌≤◌, ◌<◌, min, ltb, ℤ, pos, length, get_or, take}
use Rattle.process.specs.declared.Channel.{Channel}
use Rattle.lane.specs.State.{World, channel_of}
use Rattle.lane.specs.Calls.{Told, accepted, refused, called, cells_wrong, unsound, no_channel_there, sender_inside, is_closed, receiver_ended, feed_of}
use Rattle.bursts.specs.Bursts.{Delivery, delivery, feed_none, burst_of}

-- the lane and cells after single feeds of all values of a list, refused ones too
unfoldable pub singly : ℕ → List ℤ → World → World
singly c [] w = w
singly c (v ∷ vs) w = singly c vs (feed_of c v w).world

-- what a burst answers and leaves, of values that are fed one by one
pub record AsSingly (c : ℕ) (vs : List ℤ) (w : World) (b : Delivery) : Type 0 where
  pub within : b.fed ≤ length vs
  -- "exactly as single feeds up to that place would"
  pub left : b.world ≡ singly c (take b.fed vs) w
  -- each of them went in
  pub went : (i : ℕ) → i < b.fed → (feed_of c (get_or vs i (pos 0)) (singly c (take i vs) w)).answer ≡ accepted
  -- "if it stopped early, the refusal of the first value that did not"; "the value refused changed nothing"
  pub early : b.fed < length vs → (k : ℕ) × (b.answer ≡ refused k) × (feed_of c (get_or vs b.fed (pos 0)) b.world ≡ called (refused k) b.world)
  -- else none was refused
  pub whole : b.fed ≡ length vs → b.answer ≡ accepted

-- a burst of one value or more is so, and nothing else is: whatever the lane, the cells, the channel and the values
abbrev pub BurstsAreSingleFeeds : Type 0
BurstsAreSingleFeeds = (c : ℕ) (v : ℤ) (vs : List ℤ) (w : World) → AsSingly c (v ∷ vs) w (burst_of c (v ∷ vs) w)

abbrev pub NothingElse : Type 0
NothingElse = (c : ℕ) (v : ℤ) (vs : List ℤ) (w : World) (b : Delivery) → AsSingly c (v ∷ vs) w b → b ≡ burst_of c (v ∷ vs) w

-- one of none "feeds nothing", refused or not
abbrev pub EmptyFeedsNothing : Type 0
EmptyFeedsNothing = (c : ℕ) (w : World) → burst_of c [] w ≡ delivery 0 (feed_none c w).answer w

-- the values after the first that is refused would be refused too: a burst leaves what single feeds of all its values leave
abbrev pub RestRefused : Type 0
RestRefused = (c : ℕ) (vs : List ℤ) (w : World) → (burst_of c vs w).world ≡ singly c vs w

-- ---- how many go in
-- what the tests 15, 16, 8, 9 and 11 have shown where they pass
pub record Open (c : ℕ) (w : World) : Type 0 where
  pub cells : cells_wrong w ≡ false
  pub sound : unsound w ≡ false
  pub there : no_channel_there c w ≡ false
  pub outer : sender_inside c w ≡ false
  pub unclosed : is_closed c w ≡ false

-- of n values as many as the channel has room for; all, where its receiver has ended (`gone`)
abbrev pub room_in : Bool → ℕ → Channel → ℕ
room_in gone n h = cond gone n (min n (h.capacity - h.held))

abbrev pub room_for : ℕ → ℕ → World → ℕ
room_for c n w = room_in (receiver_ended c w) n (channel_of w.lane c)

abbrev pub stopped : ℕ → ℕ → Told
stopped fed n = cond (ltb fed n) (refused 10) accepted

abbrev pub AsManyAsFit : Type 0
AsManyAsFit =
    (c : ℕ) (vs : List ℤ) (w : World) → Open c w
    → ((burst_of c vs w).fed ≡ room_for c (length vs) w) × ((burst_of c vs w).answer ≡ stopped (room_for c (length vs) w) (length vs))

-- once some went in, only a full channel stops a burst
abbrev pub ThenOnlyFull : Type 0
ThenOnlyFull = (c : ℕ) (vs : List ℤ) (w : World) → 0 < (burst_of c vs w).fed → ((burst_of c vs w).answer ≡ accepted) ⊎ ((burst_of c vs w).answer ≡ refused 10)
