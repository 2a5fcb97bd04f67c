-- The statements of specs/Singly.antt, whole.
-- Assumes nothing.
use mathlib.Core.Path.{◌≡◌, refl, ap}
use mathlib.Core.Bool.{Bool, true, false}
use mathlib.Core.List.{[], ◌∷◌}
use Prim.Native.Nat.{ℕ}
use Rattle.lane.specs.State.{World}
use Rattle.lane.specs.Calls.{accepted, called, refuse, cells_wrong, unsound, no_channel_there, sender_inside}
use Rattle.bursts.specs.Bursts.{delivery, feed_none, burst_of}
use Rattle.bursts.specs.Singly.{singly, BurstsAreSingleFeeds, NothingElse, EmptyFeedsNothing, RestRefused, AsManyAsFit, ThenOnlyFull}
use Rattle.bursts.proofs.Feeds.{feeds_singly, feeds_all, only_so}
use Rattle.bursts.proofs.Room as room

pub bursts_are_single_feeds : BurstsAreSingleFeeds
unfolding burst_of
bursts_are_single_feeds c v vs w = feeds_singly c (v ∷ vs) w

pub nothing_else : NothingElse
nothing_else c v vs w b s = only_so c (v ∷ vs) w b (burst_of c (v ∷ vs) w) s (bursts_are_single_feeds c v vs w)

none_world : (c : ℕ) (w : World) → (feed_none c w).world ≡ w
unfolding feed_none
none_world c w = at (cells_wrong w) (unsound w) (no_channel_there c w) (sender_inside c w)
  where
    at : (a b d e : Bool) → (refuse a 15 w (refuse b 16 w (refuse d 8 w (refuse e 9 w (called accepted w))))).world ≡ w
    at true b d e = refl
    at false true d e = refl
    at false false true e = refl
    at false false false true = refl
    at false false false false = refl

pub empty_feeds_nothing : EmptyFeedsNothing
unfolding burst_of
empty_feeds_nothing c w = ap (delivery 0 (feed_none c w).answer) (none_world c w)

pub rest_refused : RestRefused
unfolding burst_of singly
rest_refused c [] w = none_world c w
rest_refused c (v ∷ vs) w = feeds_all c (v ∷ vs) w

pub as_many_as_fit : AsManyAsFit
as_many_as_fit = room.as_many_as_fit

pub then_only_full : ThenOnlyFull
then_only_full = room.then_only_full
