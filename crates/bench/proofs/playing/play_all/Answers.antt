-- `bench::playing::play_all` meets its contract.
-- Assumes nothing.
use mathlib.Core.Path.{ap}
use Rattle.network.specs.declared.Network.{Network}
use Rattle.bench.proofs.Stages.{none_played, room_for_byte, one_played}
use Rattle.bench.proofs.playing.play_all.Goals as goal

pub loop-pick-init : goal.loop-pick-init
loop-pick-init c = none_played _ _ c.requires.room

pub play_one-requires-clause-named : goal.play_one-requires-clause-named
play_one-requires-clause-named c = rw (ap (λ (n : Network). n.processes) c.loop-pick.invariant.network) (c.requires.named c.loop-pick.pick-index c.loop-pick-test.true)

pub play_one-requires-clause-room : goal.play_one-requires-clause-room
play_one-requires-clause-room c = room_for_byte c.loop-pick.invariant c.loop-pick-test.true

pub loop-pick-preserved : goal.loop-pick-preserved
loop-pick-preserved c = one_played c.loop-pick.invariant c.loop-pick-test.true c.play_one.ensures.done
