use mathlib.Core.Path.{◌≡◌, refl}
use native.Mathlib.Omega.{arith}
use Rattle.base.proofs.Lists.{filled_none, filled_more, filled_all}
use Rattle.file_blocks.proofs.Filling.{blank, length_blank}
use Rattle.file_blocks.proofs.record_bytes.Goals as goal

pub loop-c-init : goal.loop-c-init
unfolding blank
loop-c-init c = filled_none _ 0 (blank 32)

pub loop-c-preserved : goal.loop-c-preserved
loop-c-preserved c =
    let l = c.loop-c in
    filled_more _ 0 (blank 32) l.c l.a _ (omega (arith, l.invariant.long, length_blank 32)) refl l.invariant

pub returns : goal.returns
returns c =
    let l = c.loop-c in
    let e : l.c ≡ 32 = omega arith in
    filled_all _ 0 (blank 32) 32 l.a (length_blank 32) (rw e at l.invariant)
