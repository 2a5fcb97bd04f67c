-- "a board still on the old one is no longer a fair partner in the two-board comparison" (document 02, request 3): a lane on which every board of these
-- rules, at rest, has sent −4, and one whose quotient is cut toward zero has sent −3, on the same file, input and calls.
-- Assumes nothing.
use mathlib.Core.Path.{◌≡◌, refl, sym, ◌∙◌}
use mathlib.Core.Bool.{true, cond}
use mathlib.Core.List.{List, [], ◌∷◌, ◌++◌}
use Prim.Native.Nat.{ℕ}
use native.Mathlib.Omega.{arith}
use lib.Dec.{eqb}
use lib.ListN.{length, replicate}
use lib.IntN.{ℤ, pos, negsuc}
use lib.Signed.{quot_z, rem_z}
use Rattle.network.specs.declared.Network.{Network}
use Rattle.network.specs.declared.Instruction.{Instruction}
use Rattle.network.specs.Rules.{receiver_of, passes}
use Rattle.network.proofs.Unused.{passes_by}
use Rattle.arithmetic.specs.Wrap.{wrap}
use Rattle.arithmetic.specs.Quotient.{value, unless_zero}
use Rattle.process.specs.declared.Condition.{Condition}
use Rattle.process.specs.declared.Condition.TheVariants.{Live, Stopped, Faulted}
use Rattle.process.specs.Process.{Process, Stepped}
use Rattle.process.specs.Intent.{Intent, idle}
use Rattle.process.specs.Channels.{slot}
use Rattle.process.specs.Want.{register_of, divided, want_live}
use Rattle.process.specs.Execute.{execute}
use Rattle.lane.specs.State.{World, cell_at, ended_at, process_of, channel_of}
use Rattle.lane.specs.Pick.{channel_in, instruction_for, put_back}
use Rattle.lane.specs.Calls.{moved, ended, accepted, Called, called, refuse, no_process, answer_to}
use Rattle.lane_file.specs.File.{file_of}
use Rattle.lane_file.proofs.RoundTrip.{Shaped}
use Rattle.kahn.specs.Calls.{Call, pick, feed, close, take, relieve, told, Made, made}
use Rattle.kahn.specs.Steps.{Step, calls, sent}
use Rattle.kahn.specs.Boards.{board, Fair, AtRest, Alike}
use Rattle.kahn.specs.Theorem.{ReadAs}
use Rattle.kahn_witnesses.proofs.Tested.{alike_by, read_by}
use Rattle.kahn_witnesses.proofs.Traces.{Fit, bare, seen_by, replies, replies_are, sent_is, FairOn, fair_by, WholeOn, Rests, rest_by}
use Rattle.kahn_witnesses.proofs.Computed.{tests, files, playing, filled, many_filled, fit, only_first, one_process, Entry, ◌⇒◌, calls_of, replies_of}
use Rattle.kahn.proofs.Whole.{any_spare_fits}

-- ---- the lane: an amount comes on channel 0, half of it goes out on channel 1
abbrev halves : List ℕ
halves = 11 ∷ 0 ∷ 0 ∷ 4 ∷ 1 ∷ 1 ∷ 0 ∷ 2 ∷ 6 ∷ 2 ∷ 0 ∷ 1 ∷ 12 ∷ 2 ∷ 1 ∷ 0 ∷ 0 ∷ 0 ∷ 0 ∷ 0 ∷ []

abbrev half : Network
half =
    record {
      processes = 1;
      channels = 2;
      first = replicate 16 0;
      count = 5 ∷ replicate 15 0;
      sender = 255 ∷ replicate 31 0;
      receiver = 0 ∷ 255 ∷ replicate 30 0;
      capacity = 1 ∷ 1 ∷ replicate 30 0;
      code = halves ++ replicate 4044 0;
    }

half_shaped : Shaped half
half_shaped = record { first = refl; count = refl; sender = refl; receiver = refl; capacity = refl; code = refl }

pass : passes half ≡ true
unfolding tests
pass = passes_by half halves 4044 refl (omega arith) refl

read : ReadAs (file_of half) half
unfolding files
read = read_by half half_shaped pass refl

-- −7 on channel 0
abbrev input : ℕ → List ℤ
input c = cond (eqb c 0) (negsuc 6 ∷ []) []

-- ---- a board of these rules
abbrev entries : List Entry
entries =
    feed 0 (negsuc 6) ⇒ told accepted
    ∷ close 0 ⇒ told accepted
    ∷ pick 0 ⇒ told moved
    ∷ pick 0 ⇒ told moved
    ∷ pick 0 ⇒ told moved
    ∷ pick 0 ⇒ told moved
    ∷ pick 0 ⇒ told moved
    ∷ pick 0 ⇒ told ended
    ∷ []

abbrev script : List Call
script = calls_of entries

abbrev start : World
start = board half (filled (pos 0))

fits : Fit start
fits = fit half (filled (pos 0)) pass (many_filled (pos 0))

answered : replies script start ≡ replies_of entries
unfolding playing
answered = replies_are script start fits

fair : Fair half input (calls script) start
unfolding playing
fair = fair_by script start fits half input (only_first half refl (FairOn script start fits half input) (record { feeds = record { rest = []; longer = refl }; last = refl; whole = λ e. refl }))

rest : AtRest half input (calls script) start
unfolding playing
rest = rest_by script start fits half input (only_first half refl (WholeOn script start fits half input) (refl, refl)) (one_process (Rests script start fits half input) refl)

rounded_down : sent (calls script) start 1 ≡ negsuc 3 ∷ []
unfolding playing
rounded_down = sent_is script start fits 1

-- and every other one, whatever its capacities, cells and steps
pub all_round_down : (f : List ℕ) (n : Network) → ReadAs f n → Alike (file_of half) f → (cells : List ℤ) → length cells ≡ 8192 → (steps : List Step)
    → Fair n input steps (board n cells) → AtRest n input steps (board n cells) → sent steps (board n cells) 1 ≡ negsuc 3 ∷ []
all_round_down f n r a cells many steps g h =
    let d = any_spare_fits (file_of half) f half n read r a (filled (pos 0)) cells (many_filled (pos 0)) many input (calls script) steps fair g in
    sym ((d.agree rest h).sends 1) ∙ rounded_down

-- the board above is one of these
one_of_these : sent (calls script) start 1 ≡ negsuc 3 ∷ []
unfolding files
one_of_these = all_round_down (file_of half) half read (alike_by (file_of half) (file_of half) refl) (filled (pos 0)) (many_filled (pos 0)) (calls script) fair rest

-- ---- a board from before: at a 6 the quotient is cut toward zero, at a 7 the remainder has the dividend's sign, all else is as in these rules. Its
-- calls after the tests 15 and 16
abbrev former_live : Instruction → Process → Intent Process ℤ
former_live i q =
    cond (eqb i.op 6) (divided i.a (unless_zero (register_of q i.c) (value (wrap (quot_z (register_of q i.b) (register_of q i.c))))) q)
    (cond (eqb i.op 7) (divided i.a (unless_zero (register_of q i.c) (value (rem_z (register_of q i.b) (register_of q i.c)))) q)
    (want_live i q))

abbrev former_want : Condition → Instruction → Process → Intent Process ℤ
former_want Live i q = former_live i q
former_want Stopped i q = idle
former_want Faulted i q = idle

abbrev former_step : ℕ → Instruction → ℕ → World → Stepped
former_step p i c w =
    execute (former_want (process_of w.lane p).condition i (process_of w.lane p)) (process_of w.lane p) (channel_of w.lane c)
    (cell_at w (slot c (channel_of w.lane c) 0)) (ended_at w.lane (receiver_of w.lane.network c))

abbrev former_pick : ℕ → Instruction → ℕ → World → Called
former_pick p i c w = called (answer_to (former_step p i c w).outcome c) (put_back p c (channel_of w.lane c) (former_step p i c w) w)

abbrev former : Call → World → Made
former (pick p) w = made (refuse (no_process p w) 8 w (former_pick p (instruction_for p w.lane) (channel_in (instruction_for p w.lane)) w))
former (feed c v) w = bare (feed c v) w
former (close c) w = bare (close c) w
former (take c) w = bare (take c) w
former (relieve buffer) w = bare (relieve buffer) w

-- the same calls get the same answers, all input is in and closed, a further pick would answer ended ..
former_answered : (seen_by former 1 script start).replies ≡ replies_of entries
unfolding playing
former_answered = refl

former_fed : (seen_by former 0 script start).fed ≡ input 0
unfolding playing
former_fed = refl

former_closed : (seen_by former 0 script start).shut ≡ true
unfolding playing
former_closed = refl

former_rests : (former (pick 0) (seen_by former 1 script start).left).reply ≡ told ended
unfolding playing
former_rests = refl

-- .. and another value went out
pub former_differs : (seen_by former 1 script start).sent ≡ negsuc 2 ∷ []
unfolding playing
former_differs = refl
