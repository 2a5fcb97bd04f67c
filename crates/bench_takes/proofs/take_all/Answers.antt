-- `bench_takes::take_all` meets its contract.
-- Assumes nothing.
use mathlib.Core.Path.{sym, ◌∙◌}
use native.Mathlib.Omega.{arith}
use Rattle.lane.specs.State.{world}
use Rattle.bench_rules.specs.Emptying.{outputs}
use Rattle.bench_takes.proofs.Outputs.{emptying_begins, passed_over, room_for_channel, channel_drained}
use Rattle.bench_takes.proofs.take_all.Goals.{then-gives, else-gives}
use Rattle.bench_takes.proofs.take_all.Goals as goal

pub loop-c-init : goal.loop-c-init
loop-c-init c = emptying_begins (outputs (world c.args.sound.now.lane c.args.cells.now) c.args.given.now) c.requires.room c.requires.listed.first

pub drain-requires-clause-room : goal.drain-requires-clause-room
drain-requires-clause-room c = room_for_channel c.loop-c.invariant c.loop-c-test.true (sym c.if-gives.true ∙ c.gives.ensures)

pub loop-c-preserved : goal.loop-c-preserved
loop-c-preserved c =
    let s = c.loop-c.invariant in
    let h = c.loop-c-test.true in
    elim c.if-gives.branch [
      | then-gives w ↦
          rw (w.sound-is, w.given-is, w.listing-is) (channel_drained s h (sym w.if-gives.true ∙ c.gives.ensures) w.drain.ensures.done w.drain.ensures.network (rw c.from-c.ensures (c.requires.listed.next c.loop-c.c h)))
      | else-gives w ↦
          rw (w.sound-is, w.given-is, w.listing-is) (passed_over s h (sym w.if-gives.false ∙ c.gives.ensures) (rw c.from-c.ensures (c.requires.listed.next c.loop-c.c h)))
    ]

pub loop-c-smaller : goal.loop-c-smaller
loop-c-smaller c =
    let o = c.requires.listed.next c.loop-c.c c.loop-c-test.true in
    omega (arith, o.from, o.within, c.loop-c-test.true, c.from-c.ensures)
