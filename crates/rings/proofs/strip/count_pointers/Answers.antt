use mathlib.Core.Path.{refl, sym, ◌∙◌}
use Prim.Native.Nat.{◌<◌}
use native.Mathlib.Omega.{arith}
use borrow.Author.Rules.{rules}
use Rattle.base.proofs.Lists.{same_at}
use Rattle.rings.specs.Left.{tally}
use Rattle.rings.proofs.Pointings.{points_at}
use Rattle.rings.proofs.Strips.{counted_more, counted_high, counted_all}
use Rattle.rings.proofs.strip.count_pointers.Goals as goal

pub loop-p-init : goal.loop-p-init
unfolding tally
loop-p-init c =
    record {
      within = omega arith;
      size = omega arith;
      says = λ q l. rw c.requires.1 (same_at 256 q 0);
    }

pub overflow_add-pointing : goal.overflow_add-pointing
overflow_add-pointing c =
    let small : c.from.result < 256 = search rules in
    omega (arith, c.requires.0, counted_high _ _ _ _ c.loop-p.invariant c.from.result small)

pub loop-p-preserved : goal.loop-p-preserved
loop-p-preserved c =
    let more = c.loop-p-test.true in
    let small : c.from.result < 256 = search rules in
    counted_more _ _ _ _ c.loop-p.invariant more c.from.result small (points_at _ _ _ more ∙ sym c.from.ensures)

pub returns : goal.returns
returns c = counted_all _ _ _ _ c.loop-p.invariant c.loop-p-test.false
