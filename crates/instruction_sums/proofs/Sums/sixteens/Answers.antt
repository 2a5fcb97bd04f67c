use mathlib.Core.Path.{◌≡◌}
use mathlib.Core.Bool.{Bool}
use Prim.Native.Nat.{ℕ, ◌+◌, ◌*◌}
use native.Mathlib.Omega.{arith}
use Rattle.instruction_sums.specs.Sums.{flags, clean_at}
use Rattle.flags.proofs.Clean.{none, laid}
use Rattle.instruction_sums.proofs.Sums.sixteens.Goals as goal

pub loop-k-init : goal.loop-k-init
loop-k-init c = none flags (clean_at c.args.self.code.now c.args.self.opcodes.now c.args.self.channels.now) c.args.start 0 (omega arith)

pub loop-k-preserved : goal.loop-k-preserved
loop-k-preserved c =
    let tests : ℕ → Bool = clean_at c.args.self.code.now c.args.self.opcodes.now c.args.self.channels.now in
    let l = c.loop-k in
    let s = c.args.start in
    let first = laid flags tests s (16 * l.k) 8 l.all c.eight.result l.invariant c.eight.ensures in
    let e : s + (16 * l.k + 8) ≡ s + 16 * l.k + 8 = omega arith in
    let m : 16 * (l.k + 1) ≡ 16 * l.k + 8 + 8 = omega arith in
    rw m (laid flags tests s (16 * l.k + 8) 8 _ c.eight-in-loop-k.result first (rw e c.eight-in-loop-k.ensures))
