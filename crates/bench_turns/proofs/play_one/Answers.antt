-- `bench_turns::play_one` meets its contract: the feeds, the byte, the takes.
-- Assumes nothing.
use Rattle.bench_rules.specs.Holding.{held_by}
use Rattle.bench_turns.proofs.Stages.{same_processes, room_for_byte, room_for_takes, played}
use Rattle.bench_turns.proofs.play_one.Goals as goal

pub pick_byte-requires-clause-named : goal.pick_byte-requires-clause-named
pick_byte-requires-clause-named c = rw (same_processes (held_by c.args.bench.now) c.feed.ensures.fed) c.requires.named

pub pick_byte-requires-clause-room : goal.pick_byte-requires-clause-room
pick_byte-requires-clause-room c = room_for_byte c.args.pick (held_by c.args.bench.now) c.requires.room c.feed.ensures.fed

pub take-requires : goal.take-requires
take-requires c = room_for_takes c.args.pick (held_by c.args.bench.now) c.requires.room c.feed.ensures.fed c.pick_byte.ensures.done

pub returns-clause-done : goal.returns-clause-done
returns-clause-done c = played c.args.pick (held_by c.args.bench.now) c.requires.room c.feed.ensures.fed c.pick_byte.ensures.done c.take.ensures.done
