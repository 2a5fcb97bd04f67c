-- `bench_feeds::feed_all` meets its contract. The loop's invariant: the channels that are left lead to the same end as all of them did at the start.
-- Assumes nothing.
use Rattle.std.proofs.Common.{◌≡◌, ◌-◌, length}
use Rattle.lane.specs.State.{world}
use Rattle.bench_rules.specs.Input.{left_at}
use Rattle.bench_rules.specs.Feeding.{inputs}
use Rattle.bench_feeds.proofs.Rising.{Around}
use Rattle.bench_feeds.proofs.feed_all.Given as goal

abbrev pub invariant-loop-c : goal.invariant-loop-c
invariant-loop-c l = record {
  around :
      Around (inputs (left_at l.input l.initial.next) (world l.initial.sound.lane l.initial.cells)) (inputs (left_at l.input l.next) (world l.sound.lane l.cells)) l.channels l.c;
  network : l.sound.lane.network ≡ l.initial.sound.lane.network;
  long : length l.next ≡ 32;
  cells : length l.cells ≡ 8192;
}

abbrev pub decreases-loop-c : goal.decreases-loop-c
decreases-loop-c l = l.channels - l.c
