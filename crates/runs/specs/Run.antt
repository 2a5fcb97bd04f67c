-- Document 01, "The lane in operation": "A run takes bytes, one per pick, 255 meaning relief, and answers how many picks moved and how many
-- reliefs enlarged. A byte that names no process gets 8 before the first pick."
-- Assumes nothing.
use Rattle.std.specs.Prelude.{Bool, cond, not, ◌||◌, List, [], ◌∷◌, ℕ, eqb, ltb, length, get_or}
use Rattle.base.specs.Refusals.{number_of}
use Rattle.base.specs.Tests.{first_bad, is_good}
use Rattle.lane.specs.State.{World}
use Rattle.lane.specs.Calls.{cells_wrong, unsound}
use Rattle.std.specs.declared.result.Result.{Result as Answer}
use Rattle.std.specs.declared.result.Result.TheVariants.{Ok, Err}
use Rattle.base.specs.declared.Refusal.{Refusal}
use Rattle.runs.specs.declared.Ran.{Ran}
use Rattle.schedule.specs.Running.{Running, begun, picks, relieves}

-- one byte
unfoldable pub byte_run : ℕ → Running → Running
byte_run b r = cond (eqb b 255) (relieves r) (picks b r)

abbrev pub bytes_run : List ℕ → Running → Running
bytes_run [] r = r
bytes_run (b ∷ bs) r = bytes_run bs (byte_run b r)

pub data Told : Type 0 where
  ran : ℕ → ℕ → Told
  refused : ℕ → Told

-- the answer of the code, in these terms
abbrev pub told : Answer Ran Refusal → Told
told (Ok r) = ran r.moved r.enlarged
told (Err r) = refused (number_of r)

pub record Result : Type 0 where
  pub answer : Told
  pub world : World

abbrev pub result : Told → World → Result
result a w = record { answer = a; world = w }

-- a byte names one of so many processes, or is 255
abbrev pub names : ℕ → ℕ → Bool
names b processes = ltb b processes || eqb b 255

-- of some bytes, that at k
abbrev pub named : List ℕ → ℕ → ℕ → Bool
named bytes processes k = names (get_or bytes k 0) processes

abbrev pub some_unnamed : List ℕ → World → Bool
some_unnamed bytes w = not (is_good (first_bad (named bytes w.lane.network.processes) 0 (length bytes)))

abbrev pub done : Running → Result
done r = result (ran r.moved r.grown) r.world

-- 15, 16, 8; else the bytes in turn
unfoldable pub run_of : List ℕ → World → Result
run_of bytes w =
    cond (cells_wrong w) (result (refused 15) w)
    (cond (unsound w) (result (refused 16) w) (cond (some_unnamed bytes w) (result (refused 8) w) (done (bytes_run bytes (begun w)))))
