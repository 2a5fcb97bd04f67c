-- A fact of every number, shown of those below n one by one and of all the others at once: how a fact of every opcode is shown.
-- Assumes nothing.
use Prim.Native.Nat.{ℕ, zero, suc}

abbrev pub Below : (ℕ → Type 0) → ℕ → Type 0
Below F zero = (k : ℕ) → F k
Below F (suc n) = F 0 × Below (λ k. F (suc k)) n

pub each_one : (F : ℕ → Type 0) (n : ℕ) → Below F n → (k : ℕ) → F k
each_one F zero t k = t k
each_one F (suc n) t zero = t.0
each_one F (suc n) t (suc k) = each_one (λ j. F (suc j)) n t.1 k
