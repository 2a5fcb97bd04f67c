-- `bench_takes::drain` meets its contract. The loop's invariant: the takes that are left, after the lines written, are all takes.
-- Assumes nothing.
use Rattle.std.proofs.Common.{◌≡◌}
use Rattle.lane.specs.State.{world, channel_of}
use Rattle.bench_rules.specs.Emptying.{outputs}
use Rattle.bench_takes.proofs.Taking.{Draining}
use Rattle.bench_takes.proofs.drain.Given as goal

abbrev pub invariant-loop-v : goal.invariant-loop-v
invariant-loop-v l =
    record {
      draining : Draining l.c (outputs (world l.initial.sound.lane l.cells) l.initial.given) l.initial.listing (outputs (world l.sound.lane l.cells) l.given) l.listing;
      network : l.sound.lane.network ≡ l.initial.sound.lane.network;
    }

abbrev pub decreases-loop-v : goal.decreases-loop-v
decreases-loop-v l = (channel_of l.sound.lane l.c).held
