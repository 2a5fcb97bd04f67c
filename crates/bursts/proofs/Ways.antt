-- A burst by its tests, which are those of a feed without the last two; and the loop of single feeds behind them.
-- Assumes nothing.
use mathlib.Core.Path.{◌≡◌, refl}
use mathlib.Core.Bool.{Bool, true, false, cond}
use mathlib.Core.List.{List, [], ◌∷◌}
use Prim.Native.Nat.{ℕ, ◌<◌}
use borrow.Author.Tests.{eq-eqb, lt-ltb}
use lib.IntN.{ℤ}
use lib.ListN.{length}
use Rattle.network.specs.Rules.{sender_of, outside}
use Rattle.lane.specs.State.{World}
use Rattle.lane.specs.Sound.{sound_of}
use Rattle.lane.specs.Calls.{accepted, refused, Called, called, refuse, cells_wrong, unsound, no_channel_there, sender_inside, is_closed, fed, feed_of}
use Rattle.bursts.specs.Bursts.{Delivery, delivery, onward, feeds_of, feed_none, burst_of}

-- ---- the tests
abbrev tests : (cells sound there outer : Bool) → World → Delivery → Delivery
tests cells sound there outer w next =
    cond cells (delivery 0 (refused 15) w)
    (cond sound (delivery 0 (refused 16) w) (cond there (delivery 0 (refused 8) w) (cond outer (delivery 0 (refused 9) w) next)))

pub burst_tested : (c : ℕ) (vs : List ℤ) (w : World)
    → burst_of c vs w ≡ cond (cells_wrong w) (delivery 0 (refused 15) w)
    (cond (unsound w) (delivery 0 (refused 16) w)
    (cond (no_channel_there c w) (delivery 0 (refused 8) w) (cond (sender_inside c w) (delivery 0 (refused 9) w) (feeds_of c vs w))))
unfolding burst_of feeds_of feed_none feed_of
burst_tested c [] w = at (cells_wrong w) (unsound w) (no_channel_there c w) (sender_inside c w)
  where
    at : (a b d e : Bool)
        → delivery 0 (refuse a 15 w (refuse b 16 w (refuse d 8 w (refuse e 9 w (called accepted w))))).answer (refuse a 15 w (refuse b 16 w (refuse d 8 w (refuse e 9 w (called accepted w))))).world
        ≡ tests a b d e w (delivery 0 accepted w)
    at true b d e = refl
    at false true d e = refl
    at false false true e = refl
    at false false false true = refl
    at false false false false = refl
burst_tested c (v ∷ vs) w = at (cells_wrong w) (unsound w) (no_channel_there c w) (sender_inside c w)
  where
    next : Called
    next = refuse (is_closed c w) 11 w (fed c v w)

    at : (a b d e : Bool)
        → onward (refuse a 15 w (refuse b 16 w (refuse d 8 w (refuse e 9 w next)))) (feeds_of c vs (refuse a 15 w (refuse b 16 w (refuse d 8 w (refuse e 9 w next)))).world)
        ≡ tests a b d e w (onward (refuse a 15 w (refuse b 16 w (refuse d 8 w (refuse e 9 w next)))) (feeds_of c vs (refuse a 15 w (refuse b 16 w (refuse d 8 w (refuse e 9 w next)))).world))
    at true b d e = refl
    at false true d e = refl
    at false false true e = refl
    at false false false true = refl
    at false false false false = refl

-- past them
pub burst_open : (c : ℕ) (vs : List ℤ) (w : World) → length w.cells ≡ 8192 → sound_of w.lane ≡ true → c < w.lane.network.channels → sender_of w.lane.network c ≡ outside
    → burst_of c vs w ≡ feeds_of c vs w
burst_open c vs w long sound there outer = rw (burst_tested, eq-eqb _ _ long, sound, lt-ltb _ _ there, eq-eqb _ _ outer)
