-- `instruction_sums::Sums::few` meets its contract: past each test, `all` has the answer of the instructions passed, all but n % 8, n % 4 and n % 2 of them in turn.
-- Assumes nothing.
use mathlib.Core.Path.{◌≡◌, refl, sym, ap}
use mathlib.Core.Bool.{Bool}
use Prim.Native.Nat.{ℕ, ◌+◌, ◌-◌, ◌%◌, ◌≤◌, ◌<◌}
use native.Mathlib.Omega.{arith}
use native.Mathlib.Nat.{add-zero}
use lib.Bits.{bit_or}
use Rattle.flags.specs.Clean.{clean}
use Rattle.instruction_sums.specs.Sums.{flags, clean_at}
use Rattle.flags.proofs.Clean.{Tells, none, one, laid}
use Rattle.instruction_sums.proofs.Sums.few.Goals as goal
use Rattle.instruction_sums.proofs.Sums.few.Goals.{then-n-ge8, else-n-ge8, then-n-ge4, else-n-ge4, then-n-ge2, else-n-ge2}

-- i stands m instructions past the start, and x has the answer of those passed
abbrev Reached : (ℕ → Bool) → ℕ → ℕ → ℕ → ℕ → Type 0
Reached tests start m x i = (i ≡ start + m) × Tells flags tests start m x

on : (tests : ℕ → Bool) (start m n m' i i' x y x' : ℕ) → Reached tests start m x i → m' ≡ m + n → Tells flags tests i n y → i' ≡ i + n →
    x' ≡ bit_or x y → Reached tests start m' x' i'
on tests start m n m' i i' x y x' r e t f g =
    let z : i' ≡ start + m' = omega (arith, r.0) in
    (z, rw (e, g) (laid flags tests start m n x y r.1 (rw r.0 at t)))

stay : (tests : ℕ → Bool) (start m m' i i' x x' : ℕ) → Reached tests start m x i → m' ≡ m → i' ≡ i → x' ≡ x → Reached tests start m' x' i'
stay tests start m m' i i' x x' r e f g = rw (e, f, g) r

-- what is left of fewer than sixteen after each test
of_8 : (n : ℕ) → n < 16 → 8 ≤ n → n - n % 8 ≡ 8
of_8 n h l = omega arith

none_of_8 : (n : ℕ) → n < 8 → n - n % 8 ≡ 0
none_of_8 n h = omega arith

of_4 : (n : ℕ) → 4 ≤ n % 8 → n - n % 4 ≡ n - n % 8 + 4
of_4 n h = omega arith

none_of_4 : (n : ℕ) → n % 8 < 4 → n - n % 4 ≡ n - n % 8
none_of_4 n h = omega arith

of_2 : (n : ℕ) → 2 ≤ n % 4 → n - n % 2 ≡ n - n % 4 + 2
of_2 n h = omega arith

none_of_2 : (n : ℕ) → n % 4 < 2 → n - n % 2 ≡ n - n % 4
none_of_2 n h = omega arith

last_of : (n : ℕ) → n % 2 ≡ 1 → n ≡ n - n % 2 + 1
last_of n h = omega arith

no_last : (n : ℕ) → (n % 2 ≡ 1 → ⊥) → n ≡ n - n % 2
no_last n h = omega arith

pub returns-then-n-eq1 : goal.returns-then-n-eq1
returns-then-n-eq1 c =
    let k = c.args.start in
    let n = c.args.n in
    let tests : ℕ → Bool = clean_at c.args.self.code.now c.args.self.opcodes.now c.args.self.channels.now in
    let at_1 : Reached tests k (n - n % 8) c.if-n-ge8.all c.if-n-ge8.i =
    elim c.if-n-ge8.branch [
      | then-n-ge8 w ↦
          stay tests k 8 (n - n % 8) (k + 8) c.if-n-ge8.i w.eight-all.result c.if-n-ge8.all (refl, w.eight-all.ensures)
          (of_8 n c.requires.0 w.if-n-ge8.true)
          w.i-is
          w.all-is
      | else-n-ge8 w ↦
          stay tests k 0 (n - n % 8) k c.if-n-ge8.i 0 c.if-n-ge8.all (sym (add-zero k), none flags tests k 0 refl) (none_of_8 n w.if-n-ge8.false) w.i-is w.all-is
    ] in
    let at_2 : Reached tests k (n - n % 4) c.if-n-ge4.all c.if-n-ge4.i =
    elim c.if-n-ge4.branch [
      | then-n-ge4 w ↦ on tests k (n - n % 8) 4 (n - n % 4) _ _ _ _ _ at_1 (of_4 n w.if-n-ge4.true) w.four-all.ensures w.i-is w.all-is
      | else-n-ge4 w ↦ stay tests k (n - n % 8) (n - n % 4) _ _ _ _ at_1 (none_of_4 n w.if-n-ge4.false) w.i-is w.all-is
    ] in
    let at_3 : Reached tests k (n - n % 2) c.if-n-ge2.all c.if-n-ge2.i =
    elim c.if-n-ge2.branch [
      | then-n-ge2 w ↦ on tests k (n - n % 4) 2 (n - n % 2) _ _ _ _ _ at_2 (of_2 n w.if-n-ge2.true) w.two-all.ensures w.i-is w.all-is
      | else-n-ge2 w ↦ stay tests k (n - n % 4) (n - n % 2) _ _ _ _ at_2 (none_of_2 n w.if-n-ge2.false) w.i-is w.all-is
    ] in
    let last = one flags tests c.sum-all.result c.if-n-ge2.i (ap (clean flags) c.sum-all.ensures) in
    (on tests k (n - n % 2) 1 n _ _ _ _ _ at_3 (last_of n c.if-n-eq1.true) last refl refl).1

pub returns-else-n-eq1 : goal.returns-else-n-eq1
returns-else-n-eq1 c =
    let k = c.args.start in
    let n = c.args.n in
    let tests : ℕ → Bool = clean_at c.args.self.code.now c.args.self.opcodes.now c.args.self.channels.now in
    let at_1 : Reached tests k (n - n % 8) c.if-n-ge8.all c.if-n-ge8.i =
    elim c.if-n-ge8.branch [
      | then-n-ge8 w ↦
          stay tests k 8 (n - n % 8) (k + 8) c.if-n-ge8.i w.eight-all.result c.if-n-ge8.all (refl, w.eight-all.ensures)
          (of_8 n c.requires.0 w.if-n-ge8.true)
          w.i-is
          w.all-is
      | else-n-ge8 w ↦
          stay tests k 0 (n - n % 8) k c.if-n-ge8.i 0 c.if-n-ge8.all (sym (add-zero k), none flags tests k 0 refl) (none_of_8 n w.if-n-ge8.false) w.i-is w.all-is
    ] in
    let at_2 : Reached tests k (n - n % 4) c.if-n-ge4.all c.if-n-ge4.i =
    elim c.if-n-ge4.branch [
      | then-n-ge4 w ↦ on tests k (n - n % 8) 4 (n - n % 4) _ _ _ _ _ at_1 (of_4 n w.if-n-ge4.true) w.four-all.ensures w.i-is w.all-is
      | else-n-ge4 w ↦ stay tests k (n - n % 8) (n - n % 4) _ _ _ _ at_1 (none_of_4 n w.if-n-ge4.false) w.i-is w.all-is
    ] in
    let at_3 : Reached tests k (n - n % 2) c.if-n-ge2.all c.if-n-ge2.i =
    elim c.if-n-ge2.branch [
      | then-n-ge2 w ↦ on tests k (n - n % 4) 2 (n - n % 2) _ _ _ _ _ at_2 (of_2 n w.if-n-ge2.true) w.two-all.ensures w.i-is w.all-is
      | else-n-ge2 w ↦ stay tests k (n - n % 4) (n - n % 2) _ _ _ _ at_2 (none_of_2 n w.if-n-ge2.false) w.i-is w.all-is
    ] in
    (stay tests k (n - n % 2) n _ _ _ _ at_3 (no_last n c.if-n-eq1.false) refl refl).1
