-- `lent_picks::finish::drop_all` meets its contract: no channel is left.
-- Assumes nothing.
use mathlib.Core.Path.{◌≡◌, sym, ap, ◌∙◌}
use Prim.Native.Nat.{◌≤◌}
use Rattle.lane.specs.declared.Lane.{Lane}
use Rattle.lane.specs.State.{put_channels}
use Rattle.lane.specs.Pick.{drop_from}
use Rattle.lent_picks.proofs.Drop.{drop_done}
use Rattle.lent_picks.proofs.finish.drop_all.Goals as goal

pub returns : goal.returns
returns c =
    let l = c.loop-c in
    let past : l.lane.network.channels ≤ l.c = rw (ap (λ (x : Lane). x.network.channels) l.invariant.0) c.loop-c-test.false in
    let dropped : l.lane.channels ≡ drop_from c.args.lane.now.network c.args.p 0 c.args.lane.now.channels =
    sym (drop_done l.lane.network c.args.p l.c l.lane.channels past) ∙ l.invariant.1 in
    rw (← dropped) (ap (put_channels l.lane.channels) l.invariant.0)
