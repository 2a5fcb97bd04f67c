-- `bench_feeds::fill_in` meets its contract. The loop's invariant: the records that are left lead to the same end as all of them did at the start.
-- Assumes nothing.
use Rattle.std.proofs.Common.{◌≡◌, length}
use Rattle.lane.specs.State.{world}
use Rattle.bench_rules.specs.Input.{left_from}
use Rattle.bench_rules.specs.Feeding.{feeding}
use Rattle.bench_feeds.proofs.fill_in.Given as goal

abbrev pub invariant-loop-i : goal.invariant-loop-i
invariant-loop-i l = record {
  rest : feeding l.c (left_from l.input l.c l.from) (world l.initial.sound.lane l.initial.cells) ≡ feeding l.c (left_from l.input l.c l.i) (world l.sound.lane l.cells);
  network : l.sound.lane.network ≡ l.initial.sound.lane.network;
  long : length l.cells ≡ 8192;
}
