-- `bench_takes::take_all` meets its contract. The loop's invariant: the channels that are left, after the lines written, are all channels.
-- Assumes nothing.
use Rattle.std.proofs.Common.{◌-◌}
use Rattle.lane.specs.State.{world}
use Rattle.bench_rules.specs.Emptying.{outputs}
use Rattle.bench_takes.proofs.Outputs.{Emptying}
use Rattle.bench_takes.proofs.take_all.Given as goal

abbrev pub invariant-loop-c : goal.invariant-loop-c
invariant-loop-c l =
    Emptying (outputs (world l.initial.sound.lane l.cells) l.initial.given) l.initial.listing l.channels l.c (outputs (world l.sound.lane l.cells) l.given) l.listing

abbrev pub decreases-loop-c : goal.decreases-loop-c
decreases-loop-c l = l.channels - l.c
