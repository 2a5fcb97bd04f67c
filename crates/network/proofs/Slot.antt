-- Process slots of which all are right: each starts where the one before ended, has 1 to 256 instructions, and ends within the total.
-- Assumes nothing.
use mathlib.Core.Path.{◌≡◌, ap}
use mathlib.Core.Bool.{true}
use Prim.Native.Nat.{ℕ, zero, suc, ◌+◌, ◌-◌, ◌≤◌, ◌<◌}
use borrow.Author.Tests.{eqb-true, ne_eqb}
use native.Mathlib.Omega.{arith}
use Rattle.std.specs.declared.result.Result.TheVariants.{Ok}
use Rattle.base.specs.Tests.{need}
use Rattle.base.proofs.Tests.{each, need_true}
use Rattle.network.specs.declared.Network.{Network}
use Rattle.network.specs.Rules.{start_of, count_of, end_of, due_start, slot_right, slots, total}
use Rattle.base.proofs.Conjunction.{both_true, between_true}

-- the process after p is due where p ends
pub due_next : (n : Network) (p : ℕ) → due_start n (p + 1) ≡ end_of n p
due_next n p =
    let q : p + 1 - 1 ≡ p = omega arith in
    rw (ne_eqb (p + 1) 0 (λ e. omega arith), q)

-- a slot that is right by itself
pub record Right (n : Network) (p : ℕ) : Type 0 where
  pub starts : start_of n p ≡ due_start n p
  pub low : 1 ≤ count_of n p
  pub high : count_of n p ≤ 256

pub right : (n : Network) (p : ℕ) → slot_right n p ≡ true → Right n p
right n p e =
    let b = both_true _ _ e in
    let d = between_true 1 (count_of n p) 256 b.1 in
    record { starts = eqb-true _ _ b.0; low = d.0; high = d.1 }

module _ (n : Network) (g : slots n ≡ Ok tt) where
  pub right_at : (p : ℕ) → p < n.processes → Right n p
  unfolding slots
  right_at p h = right n p (need_true (slot_right n p) p (each (λ k. need (slot_right n k) k) n.processes 0 g p (omega arith) (omega arith)))

  -- ends rise up to the total
  rises : (k p : ℕ) → p + suc k ≡ n.processes → end_of n p ≤ total n
  rises zero p e = let q : n.processes ≡ p + 1 = omega arith in omega (arith, ap (due_start n) q, due_next n p)
  rises (suc k) p e =
      let q : p + 1 + suc k ≡ n.processes = omega arith in
      let r = right_at (p + 1) (omega arith) in
      omega (arith, rises k (p + 1) q, due_next n p)

  pub ends_within : (p : ℕ) → p < n.processes → end_of n p ≤ total n
  ends_within p h = rises (n.processes - suc p) p (omega arith)
