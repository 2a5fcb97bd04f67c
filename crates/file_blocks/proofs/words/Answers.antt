use mathlib.Core.Path.{◌≡◌}
use native.Mathlib.Omega.{arith}
use Rattle.base.proofs.Lists.{filled_none, filled_more, filled_all}
use Rattle.file_blocks.proofs.Filling.{blank, length_blank}
use Rattle.file_blocks.proofs.words.Goals as goal

pub loop-k-init : goal.loop-k-init
unfolding blank
loop-k-init g c = filled_none _ 0 (blank g.row.N)

pub loop-k-preserved : goal.loop-k-preserved
loop-k-preserved g c =
    let l = c.loop-k in
    filled_more _ 0 (blank g.row.N) l.k l.a _ (omega (arith, l.invariant.long, length_blank g.row.N)) c.word.ensures l.invariant

pub returns : goal.returns
returns g c =
    let l = c.loop-k in
    let e : l.k ≡ g.row.N = omega arith in
    filled_all _ 0 (blank g.row.N) g.row.N l.a (length_blank g.row.N) (rw e at l.invariant)
