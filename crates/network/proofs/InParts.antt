-- The instructions of a process: its fields first, of each of them, and then what the last one alone is asked.
-- Assumes nothing.
use mathlib.Core.Path.{◌≡◌}
use mathlib.Core.Bool.{Bool}
use Prim.Native.Nat.{ℕ, ◌-◌, ◌≤◌}
use Rattle.std.specs.declared.result.Result.TheVariants.{Ok, Err}
use Rattle.base.specs.Tests.{and_then, need, first_bad}
use Rattle.network.specs.declared.Network.{Network}
use Rattle.network.specs.Code.{fields_right, may_be_last, stands_right}
use Rattle.network.specs.Rules.{start_of, count_of, end_of, receives, sends, instruction_of, instruction_right, code_of}
use Rattle.network.proofs.Last.{last_after}

-- the fields of instruction i are right, as one of process p
abbrev pub fields_at : Network → ℕ → ℕ → Bool
fields_at n p i = fields_right (count_of n p) (receives n p (instruction_of n i).b) (sends n p (instruction_of n i).b) (instruction_of n i)

abbrev pub last_at : Network → ℕ → Bool
last_at n i = may_be_last (instruction_of n i).op

module _ (n : Network) (p : ℕ) (h : 1 ≤ count_of n p) where
  pub in_parts : code_of n p ≡ and_then (first_bad (fields_at n p) (start_of n p) (count_of n p)) (need (last_at n (end_of n p - 1)) (end_of n p - 1))
  unfolding code_of instruction_right stands_right
  in_parts = last_after (fields_at n p) (last_at n) (start_of n p) (count_of n p) h

  -- instruction i is the first whose fields are wrong
  pub stops : (i : ℕ) → first_bad (fields_at n p) (start_of n p) (count_of n p) ≡ Err i → code_of n p ≡ Err i
  stops i bad = rw bad at in_parts

  -- all fields are right, so the answer is that of the last instruction
  pub ends : first_bad (fields_at n p) (start_of n p) (count_of n p) ≡ Ok tt → code_of n p ≡ need (last_at n (end_of n p - 1)) (end_of n p - 1)
  ends good = rw good at in_parts
