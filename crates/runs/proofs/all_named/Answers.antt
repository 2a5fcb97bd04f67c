-- `runs::all_named` meets its contract.
-- Assumes nothing.
use mathlib.Core.Path.{◌≡◌, ap, ◌∙◌}
use mathlib.Core.Bool.{Bool, cond}
use Prim.Native.Nat.{ℕ}
use native.Mathlib.Omega.{arith}
use Rattle.flags.proofs.Clean.{one_on, unless_zero_lem}
use Rattle.runs.specs.Run.{named}
use Rattle.runs.proofs.all_named.Goals as goal

pub loop-byte-preserved : goal.loop-byte-preserved
loop-byte-preserved c =
    let l = c.loop-byte in
    let test : ℕ → Bool = named c.args.picks.now c.args.processes in
    let told : c.unless-wrong.result ≡ cond (test l.byte-index) 0 1 = c.unless-wrong.ensures ∙ ap (λ (b : Bool). cond b 0 1) c.names.ensures in
    one_on test 0 l.byte-index l.byte-index l.wrong c.unless-wrong.result (omega arith) l.invariant (rw told (unless_zero_lem (test l.byte-index)))
