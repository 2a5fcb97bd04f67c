-- `bench::playing::start` meets its contract.
-- Assumes nothing.
use mathlib.Core.Path.{refl}
use Rattle.lane.proofs.SoundLaws.{fresh_sound}
use Rattle.bench_rules.specs.Playing.{start}
use Rattle.bench.proofs.Kept.{few_channels, fresh_few_processes, fresh_few_channels, fresh_network}
use Rattle.bench.proofs.playing.start.Goals as goal

pub ends_of-requires : goal.ends_of-requires
ends_of-requires c = few_channels c.args.network.now c.requires

pub ends_of-requires-2 : goal.ends_of-requires-2
ends_of-requires-2 c = few_channels c.args.network.now c.requires

pub invariant_of-result : goal.invariant_of-result
invariant_of-result c =
    let n = c.args.network.now in
    rw c.fresh-lane.ensures
    (record { sound = fresh_sound n c.requires; few_processes = fresh_few_processes n c.requires; few_channels = fresh_few_channels n c.requires })

pub invariant_of-result-2 : goal.invariant_of-result-2
invariant_of-result-2 c =
    let n = c.args.network.now in
    rw (c.fresh-lane.ensures, fresh_network n) (record { from_outside = c.ends_of.ensures; to_outside = c.ends_of-2.ensures })

pub returns : goal.returns
unfolding start
returns c = rw c.fresh-lane.ensures refl
