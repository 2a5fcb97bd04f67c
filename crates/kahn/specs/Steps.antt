-- What can happen to a lane is a step: a call, or a relief inside a run or a drive, which nobody called. Document 01's "Lists of calls", said of lists
-- of steps, each on what the last one left. A list of calls `ks` is the list of steps `calls ks`.
-- Assumes nothing.
use Rattle.std.specs.Prelude.{Bool, true, false, cond, ◌&&◌, List, [], ◌∷◌, ◌++◌, ℕ, ◌+◌, ℤ}
use Rattle.lane.specs.declared.Lane.{Lane}
use Rattle.lane.specs.State.{World, world, count}
use Rattle.lane.specs.Sound.{sound_of}
use Rattle.rings.specs.Rings.{Found, no_ring, ceiling, found}
use Rattle.relief.specs.Relief as relief
use Rattle.relief.specs.Relief.{found_in, larger}
use Rattle.kahn.specs.Calls.{Call, Reply, told, relieved, apply, was_moved, fed_by, taken_by, sent_by, count_one}

pub data Step : Type 0 where
  call : Call → Step
  -- a relief inside a run or a drive, which nobody called: with room for any ring, and no answer to anybody
  inner_relief : Step

-- calls are steps
abbrev pub calls : List Call → List Step
calls [] = []
calls (k ∷ ks) = call k ∷ calls ks

-- ---- a relief that nobody called
-- what it counts: today a relief that enlarged is an accepted call, called or not. Demand 3 asks of it only that it leaves the board and soundness as
-- they are (`count_kept`, `count_board` of proofs/InnerRelief.antt).
abbrev pub count_uncalled : Lane → Lane
count_uncalled l = count l

-- by what the search finds
abbrev pub enlarged_by : Found → Lane → Lane
enlarged_by no_ring l = l
enlarged_by ceiling l = l
enlarged_by (found ring c) l = count_uncalled (larger c l)

abbrev pub is_found : Found → Bool
is_found no_ring = false
is_found ceiling = false
is_found (found ring c) = true

-- what it leaves: a lane that is not sound stays as it is
unfoldable pub relieved_lane : Lane → Lane
relieved_lane l = cond (sound_of l) (enlarged_by (found_in l) l) l

-- it enlarges a channel
unfoldable pub enlarges : Lane → Bool
enlarges l = sound_of l && is_found (found_in l)

-- ---- one step: what it leaves, and what it fed, gave and sent on channel c
abbrev pub after_step : Step → World → World
after_step (call k) w = (apply k w).world
after_step inner_relief w = world (relieved_lane w.lane) w.cells

abbrev pub fed_at : Step → World → ℕ → List ℤ
fed_at (call k) w c = fed_by k w c
fed_at inner_relief w c = []

abbrev pub taken_at : Step → World → ℕ → List ℤ
taken_at (call k) w c = taken_by k w c
taken_at inner_relief w c = []

abbrev pub sent_at : Step → World → ℕ → List ℤ
sent_at (call k) w c = sent_by k w c
sent_at inner_relief w c = []

-- 1 where it is a pick that moved
abbrev pub moved_at : Step → World → ℕ
moved_at (call k) w = count_one (was_moved (apply k w).reply)
moved_at inner_relief w = 0

abbrev pub was_enlarged : Reply → Bool
was_enlarged (told a) = false
was_enlarged (relieved (relief.enlarged n c) ring) = true
was_enlarged (relieved (relief.refused n) ring) = false

-- 1 where it is a relief that enlarged, called or not
abbrev pub grown_at : Step → World → ℕ
grown_at (call k) w = count_one (was_enlarged (apply k w).reply)
grown_at inner_relief w = count_one (enlarges w.lane)

-- ---- a list of steps: each "gets the lane and cells that the last one returned or left, refused or not; nobody else writes them"
abbrev pub after : List Step → World → World
after [] w = w
after (s ∷ ss) w = after ss (after_step s w)

-- what it fed, what takes gave and what was sent on channel c, "in the order of the calls"
abbrev pub fed : List Step → World → ℕ → List ℤ
fed [] w c = []
fed (s ∷ ss) w c = fed_at s w c ++ fed ss (after_step s w) c

abbrev pub taken : List Step → World → ℕ → List ℤ
taken [] w c = []
taken (s ∷ ss) w c = taken_at s w c ++ taken ss (after_step s w) c

abbrev pub sent : List Step → World → ℕ → List ℤ
sent [] w c = []
sent (s ∷ ss) w c = sent_at s w c ++ sent ss (after_step s w) c

-- "the number of picks that moved": a true count, which does not stay at a largest
abbrev pub moved_in : List Step → World → ℕ
moved_in [] w = 0
moved_in (s ∷ ss) w = moved_at s w + moved_in ss (after_step s w)

-- how many reliefs enlarged, called or not
abbrev pub grown_in : List Step → World → ℕ
grown_in [] w = 0
grown_in (s ∷ ss) w = grown_at s w + grown_in ss (after_step s w)
