-- `outer_ends::outer_after` meets its contract. The loop's invariant: the channels from c on are listed.
-- Assumes nothing.
use Rattle.outer_ends.proofs.Outers.{Down}
use Rattle.outer_ends.proofs.outer_after.Given as goal

abbrev pub invariant-loop-c : goal.invariant-loop-c
invariant-loop-c l = Down l.ends l.initial.after l.channels l.c l.next l.after
