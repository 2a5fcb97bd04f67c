use mathlib.Core.Path.{◌≡◌, refl, ap, ◌∙◌}
use Prim.Native.Nat.{ℕ, ◌+◌, ◌-◌}
use native.Mathlib.Omega.{arith}
use Rattle.base.specs.Tests.{first_bad, is_good, is_zero}
use Rattle.flags.proofs.Clean.{one_on}
use Rattle.slots_and_records.proofs.all_zero.Goals as goal

pub loop-i-preserved : goal.loop-i-preserved
loop-i-preserved c =
    let l = c.loop-i in
    let a = c.args.a in
    let f = is_zero c.args.code.now in
    let n : l.i - a + 1 ≡ l.i + 1 - a = omega arith in
    one_on f a (l.i - a) l.i l.all _ (omega arith) l.invariant refl ∙ ap (λ (k : ℕ). is_good (first_bad f a k)) n
