-- `bursts::pour` meets its contract. The loop's invariant: what the values left will leave is what all leave; the network and the processes, and so the channel and whether its receiver has ended, stay.
-- Assumes nothing.
use mathlib.Core.Path.{◌≡◌}
use lib.ListN.{length, drop}
use Rattle.lane.specs.State.{world}
use Rattle.bursts.specs.Bursts.{feeds_of}
use Rattle.bursts.proofs.Pours.{further}
use Rattle.bursts.proofs.pour.Given as goal

abbrev pub invariant-loop-v : goal.invariant-loop-v
invariant-loop-v l =
    record {
      long : length l.cells ≡ 8192;
      counted : l.fed ≡ l.v-index;
      network : l.sound.lane.network ≡ l.initial.sound.lane.network;
      processes : l.sound.lane.processes ≡ l.initial.sound.lane.processes;
      rest : further l.fed (feeds_of l.c (drop l.fed l.values) (world l.sound.lane l.cells)) ≡ feeds_of l.c l.values (world l.initial.sound.lane l.initial.cells);
    }
