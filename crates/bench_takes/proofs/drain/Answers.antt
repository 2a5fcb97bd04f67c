-- `bench_takes::drain` meets its contract.
-- Assumes nothing.
use mathlib.Core.Path.{◌≡◌, refl, ◌∙◌}
use native.Mathlib.Omega.{arith}
use borrow.Author.Rules.{rules}
use mir.Facts.{to_z-of_z}
use mir.Syntax.{w32}
use mir.Val.{to_z, of_z, SFits}
use Rattle.bench_takes.proofs.Taking.{draining_begins, less_held, room_for_message, message_drained, room_for_end, end_drained, refused_drained}
use Rattle.bench_takes.proofs.drain.Goals as goal

pub loop-v-init : goal.loop-v-init
loop-v-init c =
    record {
      draining = draining_begins (record { long = omega arith; sound = c.args.sound.now.sound; there = c.requires.there; outer = c.requires.outer }) c.requires.room;
      network = refl;
    }

pub output-requires-clause-room : goal.output-requires-clause-room
output-requires-clause-room c =
    let fits : SFits w32 c.in-Ok-Some.v = search rules in
    let same : to_z w32 (of_z w32 c.in-Ok-Some.v) ≡ c.in-Ok-Some.v = to_z-of_z {w = w32} {z = c.in-Ok-Some.v} fits in
    rw same (room_for_message c.loop-v.invariant.draining _ _ (rw c.in-Ok-Some.field-0-is at c.in-Ok-Some.ensures).0)

pub loop-v-smaller : goal.loop-v-smaller
loop-v-smaller c = less_held c.loop-v.invariant.draining _ _ (rw c.in-Ok-Some.field-0-is at c.in-Ok-Some.ensures).0

pub loop-v-preserved : goal.loop-v-preserved
loop-v-preserved c =
    let fits : SFits w32 c.in-Ok-Some.v = search rules in
    let same : to_z w32 (of_z w32 c.in-Ok-Some.v) ≡ c.in-Ok-Some.v = to_z-of_z {w = w32} {z = c.in-Ok-Some.v} fits in
    record {
      draining = message_drained c.loop-v.invariant.draining _ _ (rw c.in-Ok-Some.field-0-is at c.in-Ok-Some.ensures).0 (rw same at c.output.ensures);
      network = c.in-Ok-Some.ensures.1 ∙ c.loop-v.invariant.network;
    }

pub end-requires-clause-room : goal.end-requires-clause-room
end-requires-clause-room c = room_for_end c.loop-v.invariant.draining _ (rw c.in-Ok-None.field-0-is at c.in-Ok-None.ensures).0

pub returns-in-Ok-None-clause-done : goal.returns-in-Ok-None-clause-done
returns-in-Ok-None-clause-done c = end_drained c.loop-v.invariant.draining _ (rw c.in-Ok-None.field-0-is at c.in-Ok-None.ensures).0 c.end.ensures

pub returns-in-Err-clause-done : goal.returns-in-Err-clause-done
returns-in-Err-clause-done c = refused_drained c.loop-v.invariant.draining _ _ c.in-Err.ensures.0
