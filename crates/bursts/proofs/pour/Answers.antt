-- `bursts::pour` meets its contract: a value that is refused, and one that goes in.
-- Assumes nothing.
use mathlib.Core.Path.{sym, ◌∙◌}
use native.Mathlib.Omega.{arith}
use lib.IntN.{pos}
use lib.ListN.{get_or}
use mir.Facts.{to_z-of_z}
use mir.Syntax.{w32}
use mir.Val.{SFits}
use Rattle.lane.specs.State.{world}
use Rattle.bursts.proofs.Pours.{one_in, next_refused}
use Rattle.bursts.proofs.pour.Goals as goal

pub returns-in-Err : goal.returns-in-Err
returns-in-Err c =
    let i = c.loop-v.invariant in
    let fits : SFits w32 (get_or c.args.values.now c.loop-v.v-index (pos 0)) = record { sfits = omega arith } in
    let refused = rw (to_z-of_z fits, ← i.counted) at c.in-Err.ensures.0 in
    sym (next_refused c.args.c c.args.values.now c.loop-v.fed (world c.loop-v.sound.lane c.loop-v.cells) c.loop-v.sound.sound (rw i.network c.requires.0) (rw i.network c.requires.1) i.long (omega arith) refused)
    ∙ i.rest

pub loop-v-preserved : goal.loop-v-preserved
loop-v-preserved c =
    let i = c.loop-v.invariant in
    let fits : SFits w32 (get_or c.args.values.now c.loop-v.v-index (pos 0)) = record { sfits = omega arith } in
    let taken = rw (to_z-of_z fits, ← i.counted) at c.in_default.ensures.0 in
    record {
      long = c.feed_to.array_long;
      counted = omega arith;
      network = c.in_default.ensures.1 ∙ i.network;
      processes = c.in_default.ensures.2 ∙ i.processes;
      rest =
          sym (one_in c.args.c c.args.values.now c.loop-v.fed (world c.loop-v.sound.lane c.loop-v.cells) c.loop-v.sound.sound (rw i.network c.requires.0) (rw i.network c.requires.1) i.long (omega arith) taken)
          ∙ i.rest;
    }
