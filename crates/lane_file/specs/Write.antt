-- Document 01, "Refusal table", 15 and 16: what writing a lane file answers, and what it leaves in the buffer.
-- Assumes nothing.
use Rattle.std.specs.Prelude.{cond, not, List, ◌++◌, ℕ, ltb, length, drop, Result, Ok, Err}
use Rattle.base.specs.declared.Refusal.{Refusal}
use Rattle.base.specs.Refusals.{number_of}
use Rattle.network.specs.declared.Network.{Network}
use Rattle.network.specs.Rules.{passes}
use Rattle.lane_file.specs.File.{size_of, file_of}

pub data Wrote : Type 0 where
  wrote : ℕ → Wrote
  denied : ℕ → Wrote

-- an answer of the code, with document 01's number
abbrev pub wrote_of : Result ℕ Refusal → Wrote
wrote_of (Ok n) = wrote n
wrote_of (Err r) = denied (number_of r)

pub record Outcome : Type 0 where
  pub answer : Wrote
  pub buffer : List ℕ

abbrev pub outcome : Wrote → List ℕ → Outcome
outcome a b = record { answer = a; buffer = b }

-- "writing a lane file tests 16 before 15"; "Bytes past what is written stay."
unfoldable pub write_of : Network → List ℕ → Outcome
write_of n buffer =
    cond (not (passes n)) (outcome (denied 16) buffer)
    (cond (ltb (length buffer) (size_of n)) (outcome (denied 15) buffer)
    (outcome (wrote (size_of n)) (file_of n ++ drop (size_of n) buffer)))
