-- `drives::rounds` meets its contract.
-- Assumes nothing.
use mathlib.Core.Path.{◌∙◌}
use native.Mathlib.Omega.{arith}
use Rattle.lane.specs.State.{world}
use Rattle.drives.proofs.Rule.{one_more_round, last_round, no_round}
use Rattle.drives.proofs.Turns.{one_more, bool_is}
use Rattle.drives.proofs.rounds.Goals as goal

pub returns-in-Break : goal.returns-in-Break
returns-in-Break c =
    let l = c.loop-made in
    last_round _ c.args.most l.made l.enlarged (world l.sound.lane l.cells) (world c.round-moved.new.sound.lane c.round-moved.new.cells) c.round-moved.result c.loop-made-test.true
    c.round-moved.ensures.round c.in-Break.end _ (rw c.in-Break.is at c.relieved_after.ensures.rule c.round-moved.new.cells) 0
    ∙ l.invariant.3 0

pub loop-made-preserved : goal.loop-made-preserved
loop-made-preserved c =
    let l = c.loop-made in
    let b = one_more c.in-Continue.grew in (
      c.relieved_after.ensures.network ∙ c.round-moved.ensures.network ∙ l.invariant.0,
      rw c.from-enlarged.ensures (omega (arith, b, l.invariant.1)),
      omega (arith, c.loop-made-test.true),
      λ m.
          rw (c.from-enlarged.ensures, bool_is c.in-Continue.grew)
          (one_more_round _ c.args.most l.made l.enlarged (world l.sound.lane l.cells) (world c.round-moved.new.sound.lane c.round-moved.new.cells) c.round-moved.result c.loop-made-test.true
          c.round-moved.ensures.round c.in-Continue.grew _ (rw c.in-Continue.is at c.relieved_after.ensures.rule c.round-moved.new.cells) m 0)
          ∙ l.invariant.3 0,
    )

pub returns : goal.returns
returns c =
    let l = c.loop-made in
    no_round _ c.args.most l.made 0 l.enlarged (world l.sound.lane l.cells) c.loop-made-test.false l.invariant.2 ∙ l.invariant.3 0
