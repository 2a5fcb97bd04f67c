-- The instruction at which a process of a sound lane stands passes the file's rules.
-- Assumes nothing.
use mathlib.Core.Path.{◌≡◌, subst⁻¹}
use mathlib.Core.Bool.{true, not, ◌||◌}
use Prim.Native.Nat.{ℕ, ◌+◌, ◌<◌}
use native.Mathlib.Omega.{arith}
use borrow.Author.Tests.{lt-ltb, eq-eqb, eqb-true}
use lib.Dec.{eqb}
use Rattle.std.specs.declared.result.Result.TheVariants.{Ok}
use Rattle.base.specs.Tests.{need}
use Rattle.base.proofs.Tests.{each, need_true}
use Rattle.network.specs.declared.Network.{Network}
use Rattle.network.specs.declared.Instruction.{Instruction}
use Rattle.network.specs.Code.{fields_right, stands_right, may_be_last}
use Rattle.network.specs.Rules.{start_of, count_of, end_of, receives, sends, instruction_of, instruction_right, code_of, instructions}
use Rattle.base.proofs.Conjunction.{both_true}
use Rattle.network.proofs.Passed.{passed}
use Rattle.lane.specs.declared.Lane.{Lane}
use Rattle.lane.specs.State.{standing_of, stands_at}
use Rattle.lane.specs.Pick.{instruction_for}
use Rattle.lane.proofs.SoundLaws.{Sound, implied, implies}

-- where all instructions are right, each is
pub right_at : (n : Network) → instructions n ≡ Ok tt → (p : ℕ) → p < n.processes → (k : ℕ) → k < count_of n p → instruction_right n p (start_of n p + k) ≡ true
unfolding instructions code_of
right_at n g p b k m =
    need_true _ (start_of n p + k)
    (each (λ j. need (instruction_right n p j) j) (count_of n p) (start_of n p) (each (code_of n) n.processes 0 g p (omega arith) (omega arith))
    (start_of n p + k)
    (omega arith)
    (omega arith))

-- what the rules say of an instruction of process p at a position: its fields, and that it may be the last where it is
pub record Right (n : Network) (p position : ℕ) (i : Instruction) : Type 0 where
  pub fields : fields_right (count_of n p) (receives n p i.b) (sends n p i.b) i ≡ true
  pub last : position + 1 ≡ count_of n p → may_be_last i.op ≡ true

-- the same as one test
pub right_stands : (n : Network) (p position : ℕ) (i : Instruction) → Right n p position i
    → stands_right (eqb (position + 1) (count_of n p)) (count_of n p) (receives n p i.b) (sends n p i.b) i ≡ true
unfolding stands_right
right_stands n p position i r = rw (r.fields, implies (eqb (position + 1) (count_of n p)) _ (λ e. r.last (eqb-true _ _ e)))

right_is : (n : Network) (p k : ℕ) → instruction_right n p (start_of n p + k) ≡ true → Right n p k (instruction_of n (start_of n p + k))
unfolding instruction_right stands_right
right_is n p k e =
    let b = both_true _ (not (eqb (start_of n p + k + 1) (end_of n p)) || may_be_last (instruction_of n (start_of n p + k)).op) e in
    record {
      fields = b.0;
      last = λ t. implied (eqb (start_of n p + k + 1) (end_of n p)) _ b.1 (eq-eqb (start_of n p + k + 1) (end_of n p) (omega arith));
    }

-- the instruction at which process p stands
stands_at_lem : (n : Network) (p position : ℕ) → position < count_of n p → stands_at n p position ≡ instruction_of n (start_of n p + position)
unfolding stands_at
stands_at_lem n p position m = rw (lt-ltb position (count_of n p) m)

pub stands_right_lem : (l : Lane) → Sound l → (p : ℕ) → p < l.network.processes → Right l.network p (standing_of l p).position (instruction_for p l)
stands_right_lem l s p b =
    let n : Network = l.network in
    let position : ℕ = (standing_of l p).position in
    let m = s.positions p b in
    subst⁻¹ (Right n p position) (stands_at_lem n p position m)
    (right_is n p position (right_at n (passed n s.passed).instructions_good p b position m))
