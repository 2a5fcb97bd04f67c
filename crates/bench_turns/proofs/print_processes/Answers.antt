-- `bench_turns::print_processes` meets its contract.
-- Assumes nothing.
use Rattle.bench_turns.proofs.Processes.{no_process_yet, room_for_process, after_process}
use Rattle.bench_turns.proofs.print_processes.Goals as goal

pub loop-p-init : goal.loop-p-init
loop-p-init c = no_process_yet _ c.args.sound.now.lane c.requires

pub proc-requires-clause-room : goal.proc-requires-clause-room
proc-requires-clause-room c = room_for_process c.loop-p.invariant c.loop-p-test.true c.status.ensures

pub loop-p-preserved : goal.loop-p-preserved
loop-p-preserved c = after_process c.loop-p.invariant c.loop-p-test.true c.status.ensures c.proc.ensures
