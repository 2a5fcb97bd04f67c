-- Document 01, "Bench listing": what the bench answers, and what it leaves of the lent buffer.
-- Assumes nothing.
use Rattle.std.specs.Prelude.{Bool, cond, not, ◌&&◌, ◌||◌, List, ℕ, ◌%◌, eqb, ltb, length}
use Rattle.std.specs.Prelude.{Ok, Err}
use Rattle.std.specs.declared.result.Result as answer
use Rattle.base.specs.declared.Refusal.{Refusal}
use Rattle.base.specs.Refusals.{number_of}
use Rattle.base.specs.Tests.{first_bad, is_good}
use Rattle.network.specs.declared.Network.{Network}
use Rattle.network.specs.Rules.{sender_of, outside}
use Rattle.lane_file.specs.Read as file
use Rattle.runs.specs.Run.{named}
use Rattle.listing.specs.Text.{text}
use Rattle.listing.specs.Written.{written}
use Rattle.bench_rules.specs.Input.{records, channel_at}
use Rattle.bench_rules.specs.Playing.{lines_of}

pub data Told : Type 0 where
  listed : ℕ → Told
  refused : ℕ → Told

-- the answer of the code, in these terms
abbrev pub told : answer.Result ℕ Refusal → Told
told (Ok n) = listed n
told (Err r) = refused (number_of r)

-- the answer, and the listing buffer
pub record Result : Type 0 where
  pub answer : Told
  pub listing : List ℕ

abbrev pub result : Told → List ℕ → Result
result a listing = record { answer = a; listing = listing }

-- 17: "a channel not fed from outside"
abbrev pub from_outside : Network → List ℕ → ℕ → Bool
from_outside n input i = ltb (channel_at input i) n.channels && eqb (sender_of n (channel_at input i)) outside

-- 17: "input not records of 5 bytes, above 20,480, or a channel not fed from outside; more than 3,000 pick bytes"
unfoldable pub input_wrong : Network → List ℕ → List ℕ → Bool
input_wrong n input picks =
    not (eqb (length input % 5) 0) || ltb 20480 (length input) || ltb 3000 (length picks)
    || not (is_good (first_bad (from_outside n input) 0 (records input)))

-- 8: a pick byte that names no process
abbrev pub picks_wrong : Network → List ℕ → Bool
picks_wrong n picks = not (is_good (first_bad (named picks n.processes) 0 (length picks)))

-- the listing of an accepted file's network: from the buffer's start, "Bytes past what is written stay."
abbrev pub listing : List ℕ → List ℕ → Result
listing t buffer = result (listed (length t)) (written 0 t buffer)

abbrev pub played : Network → List ℕ → List ℕ → List ℕ → Result
played n input picks buffer =
    cond (input_wrong n input picks) (result (refused 17) buffer)
    (cond (picks_wrong n picks) (result (refused 8) buffer) (listing (text (lines_of n input picks)) buffer))

abbrev pub on_file : file.Told → Network → List ℕ → List ℕ → List ℕ → Result
on_file file.accepted n input picks buffer = played n input picks buffer
on_file (file.refused number place) n input picks buffer = result (refused number) buffer

-- "Tests: listing buffer (at least 65,536, else 15), file, 17, pick bytes (8)."
unfoldable pub bench_of : List ℕ → List ℕ → List ℕ → List ℕ → Result
bench_of bytes input picks buffer =
    cond (ltb (length buffer) 65536) (result (refused 15) buffer)
    (on_file (file.read_of bytes).answer (file.read_of bytes).network input picks buffer)
