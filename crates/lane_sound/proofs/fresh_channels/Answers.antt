-- `lane_sound::fresh_channels` meets its contract: each channel is the fresh one of its capacity.
-- Assumes nothing.
use Rattle.std.proofs.Common.{rules}
use Rattle.process.specs.Channels.{no_channel}
use Rattle.base.proofs.Lists.{table_is}
use Rattle.lane.specs.State.{fresh_channel}
use Rattle.lane_sound.proofs.fresh_channels.Goals as goal

pub returns : goal.returns
returns c =
    table_is (fresh_channel c.args.network.now) 32 no_channel c.map.result c.map.ensures.items.long
    (λ k h. let m = c.map.ensures.items.at k 0 no_channel h in search (rules, m))
