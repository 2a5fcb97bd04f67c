-- `bench::playing::list` meets its contract.
-- Assumes nothing.
use mathlib.Core.Path.{refl, ap, ◌∙◌}
use borrow.Author.Rules.{rules}
use Rattle.network.specs.declared.Network.{Network}
use Rattle.bench_rules.specs.Playing.{Bench}
use Rattle.bench.proofs.Kept.{all_named, start_network}
use Rattle.bench.proofs.Stages.{room_for_plays, room_for_processes, listed}
use Rattle.bench.proofs.playing.list.Goals as goal

pub play_all-requires-clause-named : goal.play_all-requires-clause-named
play_all-requires-clause-named c =
    rw (ap (λ (b : Bench). b.world.lane.network.processes) c.start-bench.ensures ∙ ap (λ (n : Network). n.processes) (start_network c.args.network.now c.args.input.now))
    (all_named c.args.network.now c.args.picks.now c.requires.picks)

pub play_all-requires-clause-room : goal.play_all-requires-clause-room
play_all-requires-clause-room c = room_for_plays c.args.network.now c.args.input.now c.args.picks.now c.requires.passed c.requires.input refl c.requires.room c.start-bench.ensures

pub print_processes-requires : goal.print_processes-requires
print_processes-requires c =
    room_for_processes c.args.network.now c.args.input.now c.args.picks.now c.requires.passed c.requires.input refl c.requires.room c.start-bench.ensures c.play_all.ensures

pub returns : goal.returns
returns c =
    let w = listed c.args.network.now c.args.input.now c.args.picks.now c.requires.passed c.requires.input refl c.requires.room c.start-bench.ensures c.play_all.ensures c.print_processes.ensures in
    (w.0, search rules)
