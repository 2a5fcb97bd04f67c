-- What the theorem asks is met, with enlargements: a clock that counts down beside two processes that each send twice to the other before they
-- receive, with one message of input, and room for two of output.
-- Assumes nothing.
use mathlib.Core.Path.{◌≡◌, refl}
use mathlib.Core.Bool.{true, cond}
use mathlib.Core.List.{List, [], ◌∷◌, ◌++◌}
use Prim.Native.Nat.{ℕ}
use native.Mathlib.Omega.{arith}
use lib.Dec.{eqb}
use lib.ListN.{replicate}
use lib.IntN.{ℤ, pos}
use Rattle.base.specs.Tests.{in_turn}
use Rattle.network.specs.declared.Network.{Network}
use Rattle.network.specs.Rules.{passes}
use Rattle.network.proofs.Unused.{passes_by}
use Rattle.lane.specs.State.{World}
use Rattle.lane_file.specs.File.{file_of}
use Rattle.lane_file.proofs.RoundTrip.{Shaped}
use Rattle.drives.specs.Drive.{settled, drove, drive_of}
use Rattle.kahn.specs.Plain.{Plain, without_capacities, plain_after}
use Rattle.kahn.specs.Calls.{Call, feed, close}
use Rattle.kahn.specs.Steps.{calls, after}
use Rattle.kahn.specs.Boards.{board, AllIn}
use Rattle.kahn.specs.Theorem.{ReadAs}
use Rattle.kahn.proofs.InTurn.{plain}
use Rattle.kahn_witnesses.proofs.Computed.{tests, files, playing, filled, many_filled, fit, only_first}
use Rattle.kahn_witnesses.proofs.Tested.{read_by}
use Rattle.kahn_witnesses.proofs.Traces.{Fit, WholeOn, all_in_by}
use Rattle.courses.proofs.Witness.{driving}
use Rattle.picks_needed.specs.Theorem.{Finishes, Limited}
use Rattle.picks_needed.proofs.Whole.{picks_needed}
use Rattle.picks_needed.proofs.Tested.{finishes_by, drive_is}

-- ---- the lane: process 0 counts down from 2; 1 receives a value and sends it twice on channel 1, 2 sends 7 twice on channel 2; then they receive,
-- and 2 hands on what it got
abbrev code : List ℕ
code =
    1 ∷ 0 ∷ 0 ∷ 2 ∷ 1 ∷ 1 ∷ 0 ∷ 1 ∷ 9 ∷ 0 ∷ 0 ∷ 5 ∷ 4 ∷ 0 ∷ 0 ∷ 1 ∷ 8 ∷ 0 ∷ 0 ∷ 2 ∷ 0 ∷ 0 ∷ 0 ∷ 0
    ∷ 11 ∷ 0 ∷ 0 ∷ 5 ∷ 12 ∷ 0 ∷ 1 ∷ 0 ∷ 12 ∷ 0 ∷ 1 ∷ 0 ∷ 11 ∷ 1 ∷ 2 ∷ 5 ∷ 11 ∷ 1 ∷ 2 ∷ 5 ∷ 0 ∷ 0 ∷ 0 ∷ 0
    ∷ 1 ∷ 0 ∷ 0 ∷ 7 ∷ 12 ∷ 0 ∷ 2 ∷ 0 ∷ 12 ∷ 0 ∷ 2 ∷ 0 ∷ 11 ∷ 1 ∷ 1 ∷ 7 ∷ 12 ∷ 1 ∷ 3 ∷ 0 ∷ 11 ∷ 1 ∷ 1 ∷ 7 ∷ 12 ∷ 1 ∷ 3 ∷ 0 ∷ 0 ∷ 0 ∷ 0 ∷ 0 ∷ []

abbrev lane : Network
lane =
    record {
      processes = 3;
      channels = 4;
      first = 0 ∷ 6 ∷ 12 ∷ replicate 13 0;
      count = 6 ∷ 6 ∷ 8 ∷ replicate 13 0;
      sender = 255 ∷ 1 ∷ 2 ∷ 2 ∷ replicate 28 0;
      receiver = 1 ∷ 2 ∷ 1 ∷ 255 ∷ replicate 28 0;
      capacity = 1 ∷ 1 ∷ 1 ∷ 2 ∷ replicate 28 0;
      code = code ++ replicate 3984 0;
    }

pass : passes lane ≡ true
unfolding tests
pass = passes_by lane code 3984 refl (omega arith) refl

shaped : Shaped lane
shaped = record { first = refl; count = refl; sender = refl; receiver = refl; capacity = refl; code = refl }

reads : ReadAs (file_of lane) lane
unfolding files
reads = read_by lane shaped pass refl

abbrev fresh : World
fresh = board lane (filled (pos 0))

fits : Fit fresh
fits = fit lane (filled (pos 0)) pass (many_filled (pos 0))

-- ---- "all input fed and closed"
abbrev input : ℕ → List ℤ
input c = cond (eqb c 0) (pos 5 ∷ []) []

abbrev feeds : List Call
feeds = feed 0 (pos 5) ∷ close 0 ∷ []

all_in_lem : AllIn lane input (calls feeds) fresh
unfolding playing
all_in_lem = all_in_by feeds fresh fits lane input (only_first lane refl (WholeOn feeds fresh fits lane input) (refl, refl))

-- ---- "whose plain order ends every process, after N moves and G messages sent from inside": 24 and 6, in 10 rounds
abbrev end : Plain
end = plain_after (without_capacities lane) input 10

finished : Finishes lane end 24 6
unfolding plain in_turn
finished = finishes_by lane end 24 6 refl

-- ---- "Given P × (N + G + 1) picks": 93 are enough
pub limited : Limited lane input (calls feeds) fresh end 24 6 93
limited = picks_needed (file_of lane) lane reads (filled (pos 0)) (many_filled (pos 0)) input (calls feeds) all_in_lem 10 24 6 finished 93 (omega arith) (omega arith)

-- and the drive, computed: 11 rounds, one enlargement, made after a round in which the clock moved
pub answers : (drive_of 93 (after (calls feeds) fresh)).answer ≡ drove settled 33 1
unfolding driving
answers = drive_is feeds fresh fits 93
