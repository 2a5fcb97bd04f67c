-- `bench_turns::pick_byte` meets its contract.
-- Assumes nothing.
use mathlib.Core.Path.{refl, ap, ◌∙◌}
use native.Mathlib.Omega.{arith}
use Rattle.lane.specs.Calls.{Called}
use Rattle.lane.specs.State.{world}
use Rattle.lane.proofs.PickLaws.{pick_network}
use Rattle.bench_rules.specs.Holding.{held_by}
use Rattle.bench_turns.proofs.Bytes.{relief_refused, growth_fits, room_for_growth, growth_done, pick_done}
use Rattle.bench_turns.proofs.pick_byte.Goals as goal

pub invariant_of-bench : goal.invariant_of-bench
invariant_of-bench c =
    let b = c.args.bench.now in
    let n = c.relieve_in.ensures.same_network in
    record { from_outside = rw n b.from_outside; to_outside = rw n b.to_outside }

pub offset_bounds-bench-channel : goal.offset_bounds-bench-channel
offset_bounds-bench-channel c =
    let b = c.args.bench.now in
    omega (arith, (growth_fits (held_by b) c.if-pick-eq255.true (c.in-Ok.ensures.answered, c.in-Ok.ensures.left) refl b.sound.sound).0)

pub bounds-bench-channel : goal.bounds-bench-channel
bounds-bench-channel c =
    let b = c.args.bench.now in
    (growth_fits (held_by b) c.if-pick-eq255.true (c.in-Ok.ensures.answered, c.in-Ok.ensures.left) refl b.sound.sound).0

pub grow-requires-clause-capacity : goal.grow-requires-clause-capacity
grow-requires-clause-capacity c =
    let b = c.args.bench.now in
    (growth_fits (held_by b) c.if-pick-eq255.true (c.in-Ok.ensures.answered, c.in-Ok.ensures.left) refl b.sound.sound).1

pub grow-requires-clause-room : goal.grow-requires-clause-room
grow-requires-clause-room c = room_for_growth (held_by c.args.bench.now) c.if-pick-eq255.true (c.in-Ok.ensures.answered, c.in-Ok.ensures.left) refl c.requires.room

pub returns-in-Ok-clause-done : goal.returns-in-Ok-clause-done
returns-in-Ok-clause-done c = growth_done (held_by c.args.bench.now) c.if-pick-eq255.true (c.in-Ok.ensures.answered, c.in-Ok.ensures.left) refl c.grow.ensures

pub returns-in_default-clause-done : goal.returns-in_default-clause-done
returns-in_default-clause-done c = relief_refused (held_by c.args.bench.now) c.if-pick-eq255.true (c.in_default.ensures.answered, c.in_default.ensures.left) _ refl

pub pick_one-requires : goal.pick_one-requires
pick_one-requires c = rw c.from.ensures (c.requires.named c.if-pick-eq255.false)

pub invariant_of-bench-2 : goal.invariant_of-bench-2
invariant_of-bench-2 c =
    let b = c.args.bench.now in
    let n = ap (λ (r : Called). r.world.lane.network) c.pick_one.ensures ∙ pick_network _ (world b.sound.lane b.cells) in
    record { from_outside = rw n b.from_outside; to_outside = rw n b.to_outside }

pub returns-clause-done : goal.returns-clause-done
returns-clause-done c =
    pick_done (held_by c.args.bench.now) c.if-pick-eq255.false (rw c.from.ensures at (ap (λ (r : Called). r.world) c.pick_one.ensures))

pub grow-requires-clause-channel : goal.grow-requires-clause-channel
grow-requires-clause-channel c =
    let b = c.args.bench.now in
    (growth_fits (held_by b) c.if-pick-eq255.true (c.in-Ok.ensures.answered, c.in-Ok.ensures.left) refl b.sound.sound).0
