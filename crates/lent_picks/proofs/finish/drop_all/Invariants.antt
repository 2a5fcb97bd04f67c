-- `lent_picks::finish::drop_all` meets its contract: the loop's invariant: the channels that are left, dropped, and those before them are the answer.
-- Assumes nothing.
use mathlib.Core.Path.{◌≡◌}
use mathlib.Core.List.{◌++◌}
use lib.ListN.{take, drop}
use Rattle.lane.specs.State.{put_channels}
use Rattle.lane.specs.Pick.{drop_from}
use Rattle.lent_picks.proofs.finish.drop_all.Given as goal

abbrev pub invariant-loop-c : goal.invariant-loop-c
invariant-loop-c l =
    (put_channels l.fn.lane.channels l.lane ≡ l.fn.lane)
    × (take l.c l.lane.channels ++ drop_from l.lane.network l.p l.c (drop l.c l.lane.channels) ≡ drop_from l.fn.lane.network l.p 0 l.fn.lane.channels)
