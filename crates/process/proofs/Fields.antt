-- The fields of a right instruction: the registers that it names are below 8. What holds by its opcode; an opcode above 13 faults.
-- Assumes nothing.
use mathlib.Core.Path.{◌≡◌, refl, sym, ap, subst}
use mathlib.Core.Bool.{Bool, true, false, ◌&&◌}
use mathlib.Core.List.{List}
use Prim.Native.Nat.{ℕ, zero, suc, ◌+◌, ◌≤◌, ◌<◌}
use native.Mathlib.Decide.{dec_lt, ℕ_discrete}
use native.Mathlib.Omega.{arith}
use lib.Dec.{T}
use lib.IntN.{ℤ}
use lib.ListN.{get_or-eq_default}
use borrow.Author.Tests.{ltb-true, eqb-true}
use Rattle.base.proofs.Conjunction.{both_true}
use Rattle.network.specs.Code.{register, unnamed, fields_right}
use Rattle.network.specs.declared.Instruction.{Instruction}
use Rattle.process.specs.Process.{Process}
use Rattle.process.specs.Intent.{halt}
use Rattle.process.specs.Want.{faulted, want_live}
use Rattle.process.specs.Window.{at, eight}

-- the first of three fields, the second, the third
pub first : (a : ℕ) (s t : Bool) → register a && s && t ≡ true → a < 8
first a s t e = ltb-true a 8 (both_true (register a) s (both_true (register a && s) t e).0).0

pub second : (r : Bool) (b : ℕ) (t : Bool) → r && register b && t ≡ true → b < 8
second r b t e = ltb-true b 8 (both_true r (register b) (both_true (r && register b) t e).0).1

pub third : (s : Bool) (c : ℕ) → s && register c ≡ true → c < 8
third s c e = ltb-true c 8 (both_true s (register c) e).1

-- a first field that is not named
first_zero : (a : ℕ) (s t : Bool) → unnamed a && s && t ≡ true → a < 8
first_zero a s t e = let z : a ≡ 0 = eqb-true a 0 (both_true (unnamed a) s (both_true (unnamed a && s) t e).0).0 in omega arith

-- ---- by the opcode: 0 to 13 in turn, and those above
module _ (P : ℕ → Type 0) where
  abbrev pub Run : ℕ → ℕ → Type 0
  Run k zero = Unit
  Run k (suc n) = P k × Run (suc k) n

  pub run_at : (n k : ℕ) → Run k n → (j : ℕ) → k ≤ j → j < k + n → P j
  run_at zero k r j l u = absurd (omega arith)
  run_at (suc n) k r j l u = go (ℕ_discrete j k) (run_at n (suc k) r.1 j)
    where
      go : Dec (j ≡ k) → (suc k ≤ j → j < suc k + n → P j) → P j
      go (yes e) s = rw e r.0
      go (no e) s = s (omega arith) (omega arith)

pub by_opcode : (i : Instruction) (Q : Type 0) → Run (λ k. i.op ≡ k → Q) 0 14 → (14 ≤ i.op → Q) → Q
by_opcode i Q r o = go (dec_lt i.op 14)
  where
    go : Dec (i.op < 14) → Q
    go (yes l) = run_at (λ k. i.op ≡ k → Q) 14 0 r i.op (omega arith) (omega arith) refl
    go (no l) = o (omega arith)

-- field a of a right instruction is a register, or zero
pub own_low : (count : ℕ) (receives sends : Bool) (i : Instruction) → fields_right count receives sends i ≡ true → i.a < 8
unfolding fields_right
own_low count receives sends i r =
    by_opcode i (i.a < 8) (
      λ e. first_zero _ _ _ (rw e at r),
      (
        λ e. ltb-true _ _ (rw e at r),
        (
          λ e. first _ _ _ (rw e at r),
          (
            λ e. first _ _ _ (rw e at r),
            (
              λ e. first _ _ _ (rw e at r),
              (
                λ e. first _ _ _ (rw e at r),
                (
                  λ e. first _ _ _ (rw e at r),
                  (
                    λ e. first _ _ _ (rw e at r),
                    (
                      λ e. first_zero _ _ _ (rw e at r),
                      (
                        λ e. first _ _ _ (rw e at r),
                        (
                          λ e. first _ _ _ (rw e at r),
                          (
                            λ e. first _ _ _ (rw e at r),
                            (λ e. first _ _ _ (rw e at r), (λ e. first_zero _ _ _ (rw e at r), tt)),
                          ),
                        ),
                      ),
                    ),
                  ),
                ),
              ),
            ),
          ),
        ),
      ),
    )
    (λ l. let z : false ≡ true = rw get_or-eq_default at r in absurd (subst T (sym z) tt))

-- register r of the eight is the file's from the base on
pub register_in : (file : List ℤ) (base r : ℕ) → r < 8 → at (eight file base) r ≡ at file (base + r)
unfolding eight
register_in file base zero l = ap (at file) (omega arith)
register_in file base (suc zero) l = ap (at file) (omega arith)
register_in file base (suc (suc zero)) l = ap (at file) (omega arith)
register_in file base (suc (suc (suc zero))) l = ap (at file) (omega arith)
register_in file base (suc (suc (suc (suc zero)))) l = ap (at file) (omega arith)
register_in file base (suc (suc (suc (suc (suc zero))))) l = ap (at file) (omega arith)
register_in file base (suc (suc (suc (suc (suc (suc zero)))))) l = ap (at file) (omega arith)
register_in file base (suc (suc (suc (suc (suc (suc (suc zero))))))) l = ap (at file) (omega arith)
register_in file base (suc (suc (suc (suc (suc (suc (suc (suc r)))))))) l = absurd (omega arith)

pub above : {k n : ℕ} → k ≤ n → (n ≡ k → ⊥) → k < n
above l e = omega arith

-- an opcode above 13 faults
pub beyond : (i : Instruction) (q : Process) → 14 ≤ i.op → want_live i q ≡ halt (faulted q)
unfolding want_live
beyond i q h = simp get_or-eq_default
