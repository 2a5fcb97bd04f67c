use mathlib.Core.Path.{refl, sym, ap, ◌∙◌}
use mathlib.Core.Bool.{false, not}
use mathlib.Core.List.{List}
use Prim.Native.Nat.{ℕ}
use native.Mathlib.Omega.{arith}
use lib.Dec.{eqb}
use lib.ListN.{get_or}
use Rattle.base.proofs.Lists.{filled_none, filled_more, table_at, table_is}
use Rattle.rings.specs.Left.{pointers, left_of}
use Rattle.rings.specs.Arrays.{points_in}
use Rattle.rings.proofs.Pointings.{points_stay}
use Rattle.rings.proofs.Stripping.{left_pointed}
use Rattle.rings.proofs.Strips.{all_left}
use Rattle.rings.proofs.strip.left_of.Goals as goal

pub loop-p-init : goal.loop-p-init
loop-p-init c = filled_none _ _ _

pub loop-p-preserved : goal.loop-p-preserved
loop-p-preserved c = filled_more _ _ _ _ _ _ (omega (arith, c.loop-p.invariant.long)) refl c.loop-p.invariant

pub returns-then-all_pointed : goal.returns-then-all_pointed
returns-then-all_pointed c =
    all_left (points_in c.args.points.now c.args.count) c.args.count c.requires (points_stay _ _ (omega (arith, c.requires))) _ c.count_pointers.ensures
    (c.all_pointed.ensures.0 c.if-all_pointed.true)

pub returns : goal.returns
returns c =
    let filled = c.loop-p.invariant in
    let f : ℕ → ℕ = points_in c.args.points.now c.args.count in
    table_is (left_of f c.args.count) 16 false _ filled.long
    (λ p l.
    filled.done p (omega arith)
    ∙ ap (λ (ns : List ℕ). not (eqb (get_or ns p 0) 0)) c.strip.ensures
    ∙ ap (λ (m : ℕ). not (eqb m 0)) (table_at (pointers f c.args.count (left_of f c.args.count)) 256 p 0 (omega arith))
    ∙ sym (left_pointed f c.args.count (points_stay _ _ (omega (arith, c.requires))) p))
