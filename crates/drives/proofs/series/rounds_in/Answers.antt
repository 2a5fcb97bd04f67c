-- `drives::series::rounds_in` meets its contract.
-- Assumes nothing.
use mathlib.Core.Path.{◌≡◌, sym, ◌∙◌}
use mathlib.Core.Bool.{true}
use native.Mathlib.Omega.{arith}
use Rattle.lane.specs.State.{world}
use Rattle.drives.proofs.Turns.{one_more}
use Rattle.drives.proofs.Picks.{last_of, idle_of, more_of}
use Rattle.drives.proofs.series.rounds_in.Goals as goal
use Rattle.drives.proofs.series.rounds_in.Goals.{else-moved-eq0-via-then-moved-eq0+else-not-grew, else-moved-eq0-via-else-moved-eq0}

pub returns-then-not-grew-clause-rounds : goal.returns-then-not-grew-clause-rounds
returns-then-not-grew-clause-rounds c =
    let l = c.loop-made in
    let e = c.ease_in-grew.ensures in
    sym l.invariant.0
    ∙ idle_of c.args.picks.now c.args.again l.made l.enlarged c.round_of-moved.result 0 (world l.sound.lane l.cells) (world c.round_of-moved.new.sound.lane c.round_of-moved.new.cells)
    (c.round_of-moved.ensures.round 0 l.enlarged) c.ease_in-grew.new.sound.lane c.ease_in-grew.result e.answered e.left c.if-moved-eq0.true c.if-not-grew.true

pub loop-made-preserved : goal.loop-made-preserved
loop-made-preserved c =
    let l = c.loop-made in
    let e = c.ease_in-grew.ensures in
    let busy : c.round_of-moved.result ≡ 0 → c.ease_in-grew.result ≡ true =
    elim c.else-moved-eq0.branch [ else-moved-eq0-via-then-moved-eq0+else-not-grew w ↦ λ z. w.if-not-grew.false | else-moved-eq0-via-else-moved-eq0 w ↦ λ z. absurd (w.if-moved-eq0.false z) ] in (
      rw c.from-enlarged.ensures
          (more_of c.args.picks.now c.args.again l.made l.enlarged c.round_of-moved.result 0 (world l.sound.lane l.cells) (world c.round_of-moved.new.sound.lane c.round_of-moved.new.cells)
          (c.round_of-moved.ensures.round 0 l.enlarged) c.ease_in-grew.new.sound.lane c.ease_in-grew.result e.answered e.left c.loop-made-test.true busy 0)
          ∙ l.invariant.0,
      e.same_network ∙ c.round_of-moved.ensures.network ∙ l.invariant.1,
      rw c.from-enlarged.ensures (let b = one_more c.ease_in-grew.result in omega (arith, b, l.invariant.2)),
      omega (arith, c.loop-made-test.true),
    )

pub returns-clause-rounds : goal.returns-clause-rounds
returns-clause-rounds c =
    let l = c.loop-made in
    sym l.invariant.0
    ∙ last_of c.args.picks.now c.args.again l.made l.enlarged c.round_of-moved-2.result 0 (world l.sound.lane l.cells) (world c.round_of-moved-2.new.sound.lane c.round_of-moved-2.new.cells)
    (c.round_of-moved-2.ensures.round 0 l.enlarged) c.loop-made-test.false
