-- `instruction_sums::Sums::run` meets its contract: the sixteens and the few after them, laid over one another, tell of all.
-- Assumes nothing.
use mathlib.Core.Path.{◌≡◌, subst}
use Prim.Native.Nat.{ℕ, ◌+◌, ◌*◌, ◌/◌, ◌%◌}
use native.Mathlib.Omega.{arith}
use lib.Bits.{bit_or}
use Rattle.instruction_sums.specs.Sums.{flags, clean_at}
use Rattle.flags.proofs.Clean.{Tells, laid}
use Rattle.instruction_sums.proofs.Sums.run.Goals as goal

pub returns : goal.returns
returns c =
    let a = c.args in
    let test = clean_at a.self.code.now a.self.opcodes.now a.self.channels.now in
    let e : 16 * (a.n / 16) + a.n % 16 ≡ a.n = omega arith in
    subst (λ (m : ℕ). Tells flags test a.start m (bit_or c.sixteens.result c.few.result)) e
    (laid flags test a.start (16 * (a.n / 16)) (a.n % 16) c.sixteens.result c.few.result
    c.sixteens.ensures
    c.few.ensures)
