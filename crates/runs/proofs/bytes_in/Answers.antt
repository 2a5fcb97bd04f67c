-- `runs::bytes_in` meets its contract.
-- Assumes nothing.
use mathlib.Core.Path.{◌∙◌}
use native.Mathlib.Omega.{arith}
use Rattle.lane.specs.State.{world}
use Rattle.runs.proofs.Bytes.{relieved, picked, one_at_most}
use Rattle.runs.proofs.bytes_in.Goals as goal

pub loop-byte-preserved-then-byte : goal.loop-byte-preserved-then-byte
loop-byte-preserved-then-byte c =
    let l = c.loop-byte in
    let e = c.eased.ensures in (
      e.same_network ∙ l.invariant.0,
      rw c.from.ensures (let b = one_at_most c.eased.result in omega (arith, b, l.invariant.1)),
      rw c.from.ensures (relieved c.args.picks.now l.byte-index l.ran.moved l.ran.enlarged (world l.sound.lane l.cells) c.eased.new.sound.lane c.eased.result c.loop-byte-test.true c.if-byte.true e.answered e.left) ∙ l.invariant.2,
    )

pub loop-byte-preserved : goal.loop-byte-preserved
loop-byte-preserved c =
    let l = c.loop-byte in
    let e = c.moves.ensures in (
      e.2 ∙ l.invariant.0,
      rw c.from-in-loop-byte.ensures (let b = one_at_most c.moves.result in omega (arith, b, l.invariant.1)),
      rw c.from-in-loop-byte.ensures (picked c.args.picks.now l.byte-index l.ran.moved l.ran.enlarged (world l.sound.lane l.cells) (world c.moves.new.sound.lane c.moves.new.cells) c.moves.result c.loop-byte-test.true c.if-byte.false e.0 e.1) ∙ l.invariant.2,
    )
