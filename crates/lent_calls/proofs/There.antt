-- A channel that is there, of a sound lane: what is left of document 01's rules after the tests before (15, 16, 8, 9).
-- Assumes nothing.
use mathlib.Core.Path.{◌≡◌}
use mathlib.Core.Bool.{true}
use Prim.Native.Nat.{ℕ, ◌<◌}
use borrow.Author.Tests.{eq-eqb, lt-ltb}
use lib.IntN.{ℤ}
use lib.ListN.{length}
use Rattle.network.specs.Rules.{sender_of, receiver_of, outside}
use Rattle.lane.specs.State.{World}
use Rattle.lane.specs.Sound.{sound_of}
use Rattle.lane.specs.Calls.{feed_of, close_of, taken, take_of}
use Rattle.lent_calls.specs.OneChannel.{fed_or_not, closed_or_not}

module _ (c : ℕ) (w : World) (sound : sound_of w.lane ≡ true) (there : c < w.lane.network.channels) where
  pub feed_there : (v : ℤ) → length w.cells ≡ 8192 → sender_of w.lane.network c ≡ outside → feed_of c v w ≡ fed_or_not c v w
  unfolding feed_of
  feed_there v long outer = rw (eq-eqb _ _ long, sound, lt-ltb _ _ there, eq-eqb _ _ outer)

  pub close_there : sender_of w.lane.network c ≡ outside → close_of c w ≡ closed_or_not c w
  unfolding close_of
  close_there outer = rw (sound, lt-ltb _ _ there, eq-eqb _ _ outer)

  pub take_there : length w.cells ≡ 8192 → receiver_of w.lane.network c ≡ outside → take_of c w ≡ taken c w
  unfolding take_of
  take_there long outer = rw (eq-eqb _ _ long, sound, lt-ltb _ _ there, eq-eqb _ _ outer)
