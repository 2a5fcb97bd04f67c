-- `drives::series::round_of` meets its contract.
-- Assumes nothing.
use mathlib.Core.Path.{◌∙◌}
use native.Mathlib.Omega.{arith}
use Rattle.lane.specs.State.{world}
use Rattle.drives.proofs.Turns.{one_more}
use Rattle.drives.proofs.Picks.{pick_more, picked_all}
use Rattle.drives.proofs.series.round_of.Goals as goal

pub loop-p-preserved : goal.loop-p-preserved
loop-p-preserved c =
    let l = c.loop-p in
    let e = c.moves.ensures in (
      e.2 ∙ l.invariant.0,
      rw c.from-moved.ensures (let b = one_more c.moves.result in omega (arith, b, l.invariant.1)),
      λ g.
          rw c.from-moved.ensures
          (pick_more c.args.picks.now l.p-index l.moved g (world l.sound.lane l.cells) (world c.moves.new.sound.lane c.moves.new.cells) c.moves.result c.loop-p-test.true e.0 e.1)
          ∙ l.invariant.2 g,
    )

pub returns-clause-round : goal.returns-clause-round
returns-clause-round c =
    λ m g.
    let l = c.loop-p in
    picked_all c.args.picks.now l.p-index l.moved g m (world c.args.sound.now.lane c.args.cells.now) (world l.sound.lane l.cells) c.loop-p-test.false (l.invariant.2 g)
