-- `drives::round` meets its contract.
-- Assumes nothing.
use mathlib.Core.Path.{sym, ◌∙◌}
use native.Mathlib.Omega.{arith}
use Rattle.lane.specs.State.{world}
use Rattle.drives.proofs.Turns.{picked, one_more, all_picked}
use Rattle.drives.proofs.round.Goals as goal

pub loop-p-preserved : goal.loop-p-preserved
loop-p-preserved c =
    let l = c.loop-p in
    let e = c.moves.ensures in (
      e.2 ∙ l.invariant.0,
      rw c.from-moved.ensures (let b = one_more c.moves.result in omega (arith, b, l.invariant.1)),
      λ m g.
          rw c.from-moved.ensures
          (picked l.p c.args.sound.now.lane.network.processes l.moved g (world l.sound.lane l.cells) (world c.moves.new.sound.lane c.moves.new.cells) c.moves.result c.loop-p-test.true e.0 e.1)
          ∙ l.invariant.2 m g,
    )

pub returns-clause-round : goal.returns-clause-round
returns-clause-round c = λ m g. sym (c.loop-p.invariant.2 m g) ∙ all_picked c.loop-p.p _ _ c.loop-p-test.false
