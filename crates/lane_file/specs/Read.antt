-- Document 01, "The lane file" and "Refusal table", 1 to 7: what reading a list of bytes answers.
-- Assumes nothing.
use Rattle.std.specs.Prelude.{Bool, ◌&&◌, List, ℕ, ◌+◌, ◌-◌, ◌*◌, ◌/◌, ◌%◌, ◌<◌, min, eqb, length, get_or, take, drop, replicate}
use Rattle.std.specs.declared.result.Result.{Result as Either}
use Rattle.std.specs.declared.result.Result.TheVariants.{Ok, Err}
use Rattle.base.specs.Refusals.{number_of}
use Rattle.base.specs.Tests.{Verdict, and_then, need, in_turn, first_bad, between, is_zero}
use Rattle.base.specs.Lists.{table, word_at}
use Rattle.block_check.specs.Crc.{crc}
use Rattle.network.specs.declared.Network.{Network}
use Rattle.network.specs.Rules.{processes_right, channels_right, slots, total, blocks_for, records, instructions}
use Rattle.lane_file.specs.declared.Refused.{Refused}

-- a list of bytes
abbrev pub Bytes : List ℕ → Type 0
Bytes s = (k : ℕ) → get_or s k 0 < 256

-- ---- the fields of a file
abbrev pub blocks : List ℕ → ℕ
blocks s = length s / 512

-- byte j of the code: 508 bytes of it lie in each code block; past the file's end it is zero
abbrev pub code_place : ℕ → ℕ
code_place j = 512 * (1 + j / 508) + j % 508

unfoldable pub network_of : List ℕ → Network
network_of s =
    record {
      processes = get_or s 3 0;
      channels = get_or s 4 0;
      first = table 16 (λ p. word_at s (8 + 4 * p));
      count = table 16 (λ p. word_at s (10 + 4 * p));
      sender = table 32 (λ c. get_or s (72 + 4 * c) 0);
      receiver = table 32 (λ c. get_or s (73 + 4 * c) 0);
      capacity = table 32 (λ c. word_at s (74 + 4 * c));
      code = table 4064 (λ j. get_or s (code_place j) 0);
    }

-- ---- 1: "length not 512 × 2 to 9; place 0"
abbrev pub length_right : ℕ → Bool
length_right n = eqb (n % 512) 0 && between 2 (n / 512) 9

-- ---- 2: "check wrong; place is the block"
abbrev pub check_right : List ℕ → ℕ → Bool
check_right s k = eqb (word_at s (512 * k + 510)) (crc (take 510 (drop (512 * k) s)))

unfoldable pub checks : List ℕ → Verdict
checks s = first_bad (check_right s) 0 (blocks s)

-- ---- 3: "bytes 0 to 5 wrong, or K not the block count less 1; place is the byte (5 for K)"
unfoldable pub header : List ℕ → Verdict
header s =
    and_then (need (eqb (get_or s 0 0) 0x4C) 0)
    (and_then (need (eqb (get_or s 1 0) 0x4E) 1)
    (and_then (need (eqb (get_or s 2 0) 1) 2)
    (and_then (need (processes_right (get_or s 3 0)) 3)
    (and_then (need (channels_right (get_or s 4 0)) 4)
    (need (eqb (get_or s 5 0) (blocks s - 1)) 5)))))

-- ---- 4: "process slot below P wrong; place is the slot, 16 if K does not suit the total"
abbrev pub slots_in : List ℕ → Network → Verdict
slots_in s n = and_then (slots n) (need (eqb (get_or s 5 0) (blocks_for (total n))) 16)

-- ---- 5: "channel record below C wrong; place is the record": `records`

-- ---- 6: "zero byte (slots beyond P and records beyond C too) or block number wrong; place is the byte in the file"
-- the bytes from a on and before e are zero
abbrev pub zeros_in : List ℕ → ℕ → ℕ → Verdict
zeros_in s a e = first_bad (is_zero s) a (e - a)

-- where the unused instructions of code block k begin: "Unused instructions are zero."
abbrev pub unused_from : ℕ → ℕ → ℕ
unused_from instructions k = 512 * k + min 508 (4 * instructions - 508 * (k - 1))

-- of code block k: its unused instructions, and its number in bytes 508 and 509
unfoldable pub code_rest : List ℕ → ℕ → ℕ → Verdict
code_rest s instructions k =
    and_then (zeros_in s (unused_from instructions k) (512 * k + 508))
    (and_then (need (eqb (get_or s (512 * k + 508) 0) (k / 256)) (512 * k + 508))
    (need (eqb (get_or s (512 * k + 509) 0) (k % 256)) (512 * k + 509)))

-- all of them, by the byte's number: 6 and 7; slots from P; records from C and the rest to 509; the code blocks in turn
unfoldable pub rest_in : List ℕ → Network → Verdict
rest_in s n =
    and_then (zeros_in s 6 8)
    (and_then (zeros_in s (8 + 4 * n.processes) 72)
    (and_then (zeros_in s (72 + 4 * n.channels) 510)
    (in_turn (code_rest s (total n)) 1 (blocks s - 1))))

-- ---- 7: "instruction wrong; place is its number in the file": `instructions`

-- ---- the answer
pub data Told : Type 0 where
  accepted : Told
  refused : ℕ → ℕ → Told

-- an answer of the code, with document 01's number and place
abbrev pub told : Either (Unit {0}) Refused → Told
told (Ok u) = accepted
told (Err r) = refused (number_of r.refusal) r.place

-- the tests of a refusal with its number, and if they pass what follows
abbrev pub unless : ℕ → Verdict → Told → Told
unless number (Ok u) next = next
unless number (Err place) next = refused number place

-- "File tests run 1 to 7, places rising."
unfoldable pub answer_in : List ℕ → Network → Told
answer_in s n =
    unless 1 (need (length_right (length s)) 0)
    (unless 2 (checks s)
    (unless 3 (header s)
    (unless 4 (slots_in s n)
    (unless 5 (records n)
    (unless 6 (rest_in s n)
    (unless 7 (instructions n) accepted))))))

-- beside a refusal stands the network that is all zero
abbrev pub no_network : Network
no_network =
    record {
      processes = 0;
      channels = 0;
      first = replicate 16 0;
      count = replicate 16 0;
      sender = replicate 32 0;
      receiver = replicate 32 0;
      capacity = replicate 32 0;
      code = replicate 4064 0;
    }

abbrev pub or_none : Told → Network → Network
or_none accepted n = n
or_none (refused number place) n = no_network

pub record Result : Type 0 where
  pub answer : Told
  pub network : Network

unfoldable pub read_of : List ℕ → Result
read_of s = record { answer = answer_in s (network_of s); network = or_none (answer_in s (network_of s)) (network_of s) }

-- a reading of the code, in these terms
abbrev pub result_of : Either Network Refused → Result
result_of (Ok n) = record { answer = accepted; network = n }
result_of (Err r) = record { answer = refused (number_of r.refusal) r.place; network = no_network }
