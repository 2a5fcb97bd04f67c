-- `bench::playing::play_all` meets its contract. The loop's invariant: the bytes before this one are played.
-- Assumes nothing.
use Rattle.bench_rules.specs.Holding.{held_by}
use Rattle.bench.proofs.Stages.{Played}
use Rattle.bench.proofs.playing.play_all.Given as goal

abbrev pub invariant-loop-pick : goal.invariant-loop-pick
invariant-loop-pick l = Played l.picks (held_by l.initial.bench) l.initial.listing l.pick-index (held_by l.bench) l.listing
