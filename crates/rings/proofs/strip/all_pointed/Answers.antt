use mathlib.Core.Path.{refl}
use native.Mathlib.Omega.{arith}
use Rattle.std.specs.Cmp.{booleans_Decides}
use Rattle.std.proofs.lemmas.Slice.Eq.{slice_eq-Decides}
use Rattle.base.proofs.Lists.{filled_none, filled_more}
use Rattle.rings.proofs.Strips.{none_alone}
use Rattle.rings.proofs.strip.all_pointed.Goals as goal

pub loop-p-init : goal.loop-p-init
loop-p-init c = filled_none _ _ _

pub loop-p-preserved : goal.loop-p-preserved
loop-p-preserved c = filled_more _ _ _ _ _ _ (omega (arith, c.loop-p.invariant.long)) refl c.loop-p.invariant

pub returns : goal.returns
returns c =
    let e = slice_eq-Decides booleans_Decides _ _ _ c.eq.ensures in
    let filled = c.loop-p.invariant in
    let n = none_alone c.args.pointing.now _ filled.long (λ p h. filled.done p (omega arith)) in
    (λ t. n.0 (e.0 t), λ g. e.1 (n.1 g))
