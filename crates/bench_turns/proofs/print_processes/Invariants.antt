-- `bench_turns::print_processes` meets its contract. The loop's invariant: the lines of the processes before p are written.
-- Assumes nothing.
use Rattle.bench_rules.proofs.Underway.{Underway}
use Rattle.bench_turns.proofs.Processes.{procs_from}
use Rattle.bench_turns.proofs.print_processes.Given as goal

abbrev pub invariant-loop-p : goal.invariant-loop-p
invariant-loop-p l =
    Underway (procs_from l.sound.lane.network.processes 0 l.sound.lane) l.initial.listing (procs_from l.sound.lane.network.processes l.p) l.sound.lane l.listing
