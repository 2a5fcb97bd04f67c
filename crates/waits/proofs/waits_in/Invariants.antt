-- `waits::waits_in` meets its contract. The loop's invariant: the arrays hold the waits of the processes passed, and beyond them those of free ones.
-- Assumes nothing.
use Rattle.std.proofs.Common.{replicate}
use Rattle.base.proofs.Lists.{Filled}
use Rattle.waits.specs.Waits.{pointing, full_wait, waits_at}
use Rattle.waits.proofs.waits_in.Given as goal

abbrev pub invariant-loop-p : goal.invariant-loop-p
invariant-loop-p l =
    record {
      pointings : Filled (pointing l.sound.lane) 0 (replicate 16 255) l.p l.waits.points;
      fulls : Filled (full_wait l.sound.lane) 0 (replicate 16 0) l.p l.waits.full;
      channels : Filled (waits_at l.sound.lane) 0 (replicate 16 0) l.p l.waits.channel;
    }
