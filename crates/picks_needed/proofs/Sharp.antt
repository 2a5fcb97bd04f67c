-- The limit is sharp: one process with `stop` alone needs all its rounds. And what was done before is taken off: an input longer than its channel's
-- capacity, fed with a pick between, needs all the rounds that are left.
-- Assumes nothing.
use mathlib.Core.Path.{◌≡◌, refl}
use mathlib.Core.Bool.{true, cond}
use mathlib.Core.List.{List, [], ◌∷◌, ◌++◌}
use Prim.Native.Nat.{ℕ, zero, suc}
use native.Mathlib.Omega.{arith}
use lib.Dec.{eqb}
use lib.ListN.{replicate}
use lib.IntN.{ℤ, pos}
use Rattle.base.specs.Tests.{in_turn}
use Rattle.network.specs.declared.Network.{Network}
use Rattle.network.specs.Rules.{passes}
use Rattle.network.proofs.Unused.{passes_by}
use Rattle.lane.specs.State.{World}
use Rattle.lane_file.specs.File.{file_of}
use Rattle.lane_file.proofs.RoundTrip.{Shaped}
use Rattle.drives.specs.Drive.{settled, spent, drove, drive_of}
use Rattle.kahn.specs.Plain.{from_outside, without_capacities, plain_after}
use Rattle.kahn.specs.Calls.{Call, pick, feed, close}
use Rattle.kahn.specs.Steps.{calls, after, moved_in}
use Rattle.kahn.specs.Boards.{board, Fair, AllIn}
use Rattle.kahn.specs.Theorem.{ReadAs}
use Rattle.kahn.proofs.InTurn.{plain}
use Rattle.kahn_witnesses.proofs.Computed.{tests, files, playing, filled, many_filled, fit, outside_says, only_first}
use Rattle.kahn_witnesses.proofs.Tested.{read_by}
use Rattle.kahn_witnesses.proofs.Traces.{Fit, moved_is, FairOn, fair_by, WholeOn, all_in_by}
use Rattle.courses.proofs.Witness.{driving}
use Rattle.picks_needed.specs.Theorem.{Finishes, Limited, Within}
use Rattle.picks_needed.proofs.Whole.{picks_needed, never_more}
use Rattle.picks_needed.proofs.Tested.{finishes_by, drive_is}

-- a lane of one process and one channel of capacity 1 between it and the outside
abbrev one : ℕ → ℕ → ℕ → List ℕ → ℕ → Network
one sender receiver count code spare =
    record {
      processes = 1;
      channels = 1;
      first = 0 ∷ replicate 15 0;
      count = count ∷ replicate 15 0;
      sender = sender ∷ replicate 31 0;
      receiver = receiver ∷ replicate 31 0;
      capacity = 1 ∷ replicate 31 0;
      code = code ++ replicate spare 0;
    }

abbrev cells : List ℤ
cells = filled (pos 0)

-- ==== `stop` alone: N = 1, G = 0
abbrev stops : Network
stops = one 0 255 1 (0 ∷ 0 ∷ 0 ∷ 0 ∷ []) 4060

stops_pass : passes stops ≡ true
unfolding tests
stops_pass = passes_by stops (0 ∷ 0 ∷ 0 ∷ 0 ∷ []) 4060 refl (omega arith) refl

stops_shaped : Shaped stops
stops_shaped = record { first = refl; count = refl; sender = refl; receiver = refl; capacity = refl; code = refl }

stops_read : ReadAs (file_of stops) stops
unfolding files
stops_read = read_by stops stops_shaped stops_pass refl

stops_fit : Fit (board stops cells)
stops_fit = fit stops cells stops_pass (many_filled (pos 0))

-- nothing comes from outside
none : (c : ℕ) → from_outside stops c ≡ true → ⊥
none zero o = omega (arith, (outside_says stops 0 o).1)
none (suc c) o = omega (arith, (outside_says stops (suc c) o).0)

stops_in : AllIn stops (λ c. []) [] (board stops cells)
stops_in = record { fed_all = λ c o. refl; closed_all = λ c o. absurd (none c o) }

stops_finished : Finishes stops (plain_after (without_capacities stops) (λ c. []) 1) 1 0
unfolding plain in_turn
stops_finished = finishes_by stops (plain_after (without_capacities stops) (λ c. []) 1) 1 0 refl

pub stops_limited : Limited stops (λ c. []) [] (board stops cells) (plain_after (without_capacities stops) (λ c. []) 1) 1 0 2
stops_limited = picks_needed (file_of stops) stops stops_read cells (many_filled (pos 0)) (λ c. []) [] stops_in 1 1 0 stops_finished 2 (omega arith) (omega arith)

-- both rounds are made; with P × (N + G) picks, 1, the drive is spent
pub stops_answers : (drive_of 2 (board stops cells)).answer ≡ drove settled 2 0
unfolding driving
stops_answers = drive_is [] (board stops cells) stops_fit 2

pub stops_short : (drive_of 1 (board stops cells)).answer ≡ drove spent 1 0
unfolding driving
stops_short = drive_is [] (board stops cells) stops_fit 1

-- ==== two messages over a channel of 1: the process receives until the end, and stops; N = 6, G = 0
abbrev eater : List ℕ
eater = 11 ∷ 0 ∷ 0 ∷ 2 ∷ 8 ∷ 0 ∷ 0 ∷ 0 ∷ 0 ∷ 0 ∷ 0 ∷ 0 ∷ []

abbrev eats : Network
eats = one 255 0 3 eater 4052

eats_pass : passes eats ≡ true
unfolding tests
eats_pass = passes_by eats eater 4052 refl (omega arith) refl

eats_shaped : Shaped eats
eats_shaped = record { first = refl; count = refl; sender = refl; receiver = refl; capacity = refl; code = refl }

eats_read : ReadAs (file_of eats) eats
unfolding files
eats_read = read_by eats eats_shaped eats_pass refl

abbrev fresh : World
fresh = board eats cells

eats_fit : Fit fresh
eats_fit = fit eats cells eats_pass (many_filled (pos 0))

abbrev input : ℕ → List ℤ
input c = cond (eqb c 0) (pos 5 ∷ pos 7 ∷ []) []

abbrev fed : List Call
fed = feed 0 (pos 5) ∷ pick 0 ∷ feed 0 (pos 7) ∷ close 0 ∷ []

eats_in : AllIn eats input (calls fed) fresh
unfolding playing
eats_in = all_in_by fed fresh eats_fit eats input (only_first eats refl (WholeOn fed fresh eats_fit eats input) (refl, refl))

eats_finished : Finishes eats (plain_after (without_capacities eats) input 6) 6 0
unfolding plain in_turn
eats_finished = finishes_by eats (plain_after (without_capacities eats) input 6) 6 0 refl

pub eats_limited : Limited eats input (calls fed) fresh (plain_after (without_capacities eats) input 6) 6 0 7
eats_limited = picks_needed (file_of eats) eats eats_read cells (many_filled (pos 0)) input (calls fed) eats_in 6 6 0 eats_finished 7 (omega arith) (omega arith)

-- one move was made before; 6 of the 7 rounds are left, and all are made
pub eats_before : moved_in (calls fed) fresh ≡ 1
unfolding playing
eats_before = moved_is fed fresh eats_fit

pub eats_answers : (drive_of 7 (after (calls fed) fresh)).answer ≡ drove settled 6 0
unfolding driving
eats_answers = drive_is fed fresh eats_fit 7

-- and no list that is fair to this input moves more often than 6 times; one that goes on to the end does so 6 times
abbrev whole : List Call
whole = fed ++ (pick 0 ∷ pick 0 ∷ pick 0 ∷ pick 0 ∷ pick 0 ∷ pick 0 ∷ [])

whole_fair : Fair eats input (calls whole) fresh
unfolding playing
whole_fair =
    fair_by whole fresh eats_fit eats input
    (only_first eats refl (FairOn whole fresh eats_fit eats input) (record { feeds = record { rest = []; longer = refl }; last = refl; whole = λ e. refl }))

pub never_more_met : Within 6 0 (calls whole) fresh
never_more_met = never_more (file_of eats) eats eats_read cells (many_filled (pos 0)) input (calls whole) whole_fair 6 6 0 eats_finished (omega arith)

pub whole_moves : moved_in (calls whole) fresh ≡ 6
unfolding playing
whole_moves = moved_is whole fresh eats_fit
