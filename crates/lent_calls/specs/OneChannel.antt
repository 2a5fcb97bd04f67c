-- Feed and close at one channel of a lane: what is left of document 01's rules after the tests that the caller has made (15, 16, 8, 9). A take's rest is `taken`.
-- Assumes nothing.
use Rattle.std.specs.Prelude.{ℕ, ℤ}
use Rattle.lane.specs.State.{World}
use Rattle.lane.specs.Calls.{Called, refuse, is_closed, fed, closed}

-- 11, 10, or the message
abbrev pub fed_or_not : ℕ → ℤ → World → Called
fed_or_not c v w = refuse (is_closed c w) 11 w (fed c v w)

-- 11, or closed
abbrev pub closed_or_not : ℕ → World → Called
closed_or_not c w = refuse (is_closed c w) 11 w (closed c w)
