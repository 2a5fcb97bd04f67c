use native.Mathlib.Omega.{arith}
use Rattle.network.proofs.Slot.{right_at, ends_within}
use Rattle.network.proofs.instructions.Goals as goal

pub code_of-requires : goal.code_of-requires
code_of-requires c =
    let e = ends_within c.args.net.now c.requires.2 c.loop-p.p (omega arith) in
    let r = right_at c.args.net.now c.requires.2 c.loop-p.p (omega arith) in
    (omega arith, omega arith, omega arith, omega arith)
