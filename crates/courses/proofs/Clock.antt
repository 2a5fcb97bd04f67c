-- Document 02, request 5: "A lane turned up where the clock process always moves while two others wait in a ring with a full channel; the driver never
-- relieves them." Such a lane, by the rule as it was, for every number of rounds, and by the rule as it is, computed.
-- Assumes nothing.
use mathlib.Core.Path.{◌≡◌, refl, sym, ap, ◌∙◌, subst⁻¹}
use mathlib.Core.Logic.{◌≢◌}
use mathlib.Core.Bool.{Bool, true, false, cond}
use mathlib.Core.List.{List, [], ◌∷◌, ◌++◌}
use Prim.Native.Nat.{ℕ, zero, suc, ◌+◌, ◌*◌}
use native.Mathlib.Omega.{arith}
use borrow.Author.Tests.{ne_eqb}
use lib.Dec.{eqb}
use lib.IntN.{ℤ, pos}
use lib.ListN.{replicate, set}
use Rattle.base.specs.Lists.{values}
use Rattle.base.specs.Tests.{in_turn}
use Rattle.network.specs.declared.Network.{Network}
use Rattle.network.specs.Rules.{passes}
use Rattle.network.proofs.Unused.{passes_by}
use Rattle.process.specs.declared.Channel.{Channel}
use Rattle.process.specs.declared.Condition.TheVariants.{Live}
use Rattle.process.specs.Channels.{no_channel}
use Rattle.process.specs.Want.{counted}
use Rattle.lane.specs.declared.Standing.{Standing}
use Rattle.lane.specs.State.{World, world, no_standing, standing_of, is_ended, fresh_of}
use Rattle.lane.specs.Sound.{channel_sound, sound_of}
use Rattle.lane.proofs.SoundLaws.{fresh_sound}
use Rattle.rings.specs.Rings.{found}
use Rattle.relief.specs.Relief.{Relief, refused, found_in}
use Rattle.schedule.specs.Running.{Running, running, begun, relief_in, relieves}
use Rattle.schedule.proofs.Ready.{Ready}
use Rattle.drives.specs.Drive.{round, spent, drove, next_after, Drive, driven, Result, done, drive_of}
use Rattle.kahn.specs.Boards.{board}
use Rattle.kahn_witnesses.proofs.Computed.{tests, filled, many_filled}
use Rattle.courses.proofs.Courses.{onward}
use Rattle.courses.proofs.Inside.{bare}
use Rattle.courses.proofs.Bare.{drive_bare}
use Rattle.courses.proofs.Witness.{driving}

-- ---- the lane: process 0 jumps to itself for ever; 1 sends 5 twice on channel 0 and 2 sends 7 twice on channel 1, both of capacity 1; then each
-- receives twice from the other, and stops
abbrev code : List ℕ
code =
    8 ∷ 0 ∷ 0 ∷ 0
    ∷ 1 ∷ 0 ∷ 0 ∷ 5 ∷ 12 ∷ 0 ∷ 0 ∷ 0 ∷ 12 ∷ 0 ∷ 0 ∷ 0 ∷ 11 ∷ 1 ∷ 1 ∷ 5 ∷ 11 ∷ 1 ∷ 1 ∷ 5 ∷ 0 ∷ 0 ∷ 0 ∷ 0
    ∷ 1 ∷ 0 ∷ 0 ∷ 7 ∷ 12 ∷ 0 ∷ 1 ∷ 0 ∷ 12 ∷ 0 ∷ 1 ∷ 0 ∷ 11 ∷ 1 ∷ 0 ∷ 5 ∷ 11 ∷ 1 ∷ 0 ∷ 5 ∷ 0 ∷ 0 ∷ 0 ∷ 0 ∷ []

abbrev pub lane : Network
lane =
    record {
      processes = 3;
      channels = 2;
      first = 0 ∷ 1 ∷ 7 ∷ replicate 13 0;
      count = 1 ∷ 6 ∷ 6 ∷ replicate 13 0;
      sender = 1 ∷ 2 ∷ replicate 30 0;
      receiver = 2 ∷ 1 ∷ replicate 30 0;
      capacity = 1 ∷ 1 ∷ replicate 30 0;
      code = code ++ replicate 4012 0;
    }

pass : passes lane ≡ true
unfolding tests
pass = passes_by lane code 4012 refl (omega arith) refl

abbrev pub start : World
start = board lane (filled (pos 0))

ready : Ready lane start
unfolding fresh_of values
ready = record { same = refl; long = many_filled (pos 0); shaped = record { registers = refl; processes = refl; channels = refl }; sound = fresh_sound lane pass }

-- ---- where it gets stuck: 1 and 2 stand at their second sendings, each to a full channel, and the clock has made some moves
abbrev standing : ℕ → ℕ → Standing
standing position moves = record { position = position; condition = Live; moves = moves }

abbrev full : ℕ → Channel
full capacity = record { capacity = capacity; oldest = 0; held = capacity; peak = capacity; closed = false }

abbrev pub stuck : ℕ → ℕ → List ℤ → World
stuck capacity ticks cells =
    world
    (record {
      network = lane;
      registers = replicate 8 (pos 0) ++ (pos 5 ∷ replicate 7 (pos 0)) ++ (pos 7 ∷ replicate 7 (pos 0)) ++ replicate 104 (pos 0);
      processes = standing 0 ticks ∷ standing 2 2 ∷ standing 2 2 ∷ replicate 13 no_standing;
      channels = full capacity ∷ full capacity ∷ replicate 30 no_channel;
      accepted = 0;
    })
    cells

-- the 5 and the 7 that wait in the channels
abbrev pub sent_cells : List ℤ
sent_cells = set (set (filled (pos 0)) 0 (pos 5)) 256 (pos 7)

-- relief there would enlarge channel 0 and name the ring 1, 2
would_relieve : (ticks : ℕ) (cells : List ℤ) → found_in (stuck 1 ticks cells).lane ≡ found (1 ∷ 2 ∷ []) 0
unfolding driving
would_relieve ticks cells = refl

-- a round there moves the clock and leaves all else as it is
stuck_round : (ticks moved grown : ℕ) (cells : List ℤ) → round (running (stuck 1 ticks cells) moved grown) ≡ running (stuck 1 (counted ticks) cells) 1 grown
unfolding driving
stuck_round ticks moved grown cells = refl

first_rounds : round (round (begun start)) ≡ running (stuck 1 2 sent_cells) 3 0
unfolding driving
first_rounds = refl

one_round : round (begun start) ≡ running (round (begun start)).world 3 0
unfolding driving
one_round = refl

-- ==== the rule as it was, document 01: "After a round without a move, relieve." All else is as the driver has it
abbrev former_left : Running → Running
former_left r = cond (eqb r.moved 0) (relieves r) r

abbrev pub former_rounds : ℕ → ℕ → Running → Drive
former_rounds zero n r = driven spent n r
former_rounds (suc k) n r = onward (former_rounds k (n + 1)) (n + 1) (former_left (round r)) (next_after (round r))

-- where its rounds lead from the start
abbrev pub former_after : ℕ → Running
former_after zero = begun start
former_after (suc k) = former_left (round (former_after k))

-- a round with a move: no relief, and on
former_goes : (k n moved : ℕ) (r : Running) (w : World) (grown : ℕ) → round r ≡ running w (suc moved) grown
    → former_rounds (suc k) n r ≡ former_rounds k (n + 1) (running w (suc moved) grown)
former_goes k n moved r w grown e = ap (λ (x : Running). onward (former_rounds k (n + 1)) (n + 1) (former_left x) (next_after x)) e ∙ rw (ne_eqb (suc moved) 0 (λ z. omega arith))

-- ---- so many rounds were made, nothing has grown, and 1 and 2 are stuck
record Stuck (made : ℕ) (d : Drive) : Type 0 where
  ticks : ℕ
  end : d.end ≡ spent
  rounds : d.rounds ≡ made
  grown : d.running.grown ≡ 0
  place : d.running.world ≡ stuck 1 ticks sent_cells

from_stuck : (k n ticks moved : ℕ) → Stuck (n + k) (former_rounds k n (running (stuck 1 ticks sent_cells) moved 0))
from_stuck zero n ticks moved = record { ticks = ticks; end = refl; rounds = omega arith; grown = refl; place = refl }
from_stuck (suc k) n ticks moved =
    let e : n + suc k ≡ n + 1 + k = omega arith in
    subst⁻¹ (Stuck (n + suc k)) (former_goes k n 0 (running (stuck 1 ticks sent_cells) moved 0) (stuck 1 (counted ticks) sent_cells) 0 (stuck_round ticks moved 0 sent_cells))
    (rw e (from_stuck k (n + 1) (counted ticks) 1))

from_start : (k : ℕ) → Stuck (suc (suc k)) (former_rounds (suc (suc k)) 0 (begun start))
from_start k =
    let e : suc (suc k) ≡ 2 + k = omega arith in
    subst⁻¹ (Stuck (suc (suc k)))
    (former_goes (suc k) 0 2 (begun start) (round (begun start)).world 0 one_round
    ∙ former_goes k 1 2 (running (round (begun start)).world 3 0) (stuck 1 2 sent_cells) 0 (sym (ap round one_round) ∙ first_rounds))
    (rw e (from_stuck k 2 2 3))

-- whatever the number of rounds: the drive is spent, and has enlarged nothing
pub former_never : (k : ℕ) → (done 3 (former_rounds k 0 (begun start))).answer ≡ drove spent (3 * k) 0
former_never zero = refl
former_never (suc zero) = ap (λ (d : Drive). (done 3 d).answer) (former_goes 0 0 2 (begun start) (round (begun start)).world 0 one_round)
former_never (suc (suc k)) =
    let s = from_start k in
    λ i. drove (s.end i) (3 * s.rounds i) (s.grown i)

-- from two rounds on 1 and 2 wait for room, each channel has capacity 1 and holds one message
pub former_stuck : (k : ℕ) → (ticks : ℕ) × ((done 3 (former_rounds (suc (suc k)) 0 (begun start))).world ≡ stuck 1 ticks sent_cells)
former_stuck k = let s = from_start k in (s.ticks, s.place)

-- every round has a move, so that no relief is tried after any
stuck_after : (k : ℕ) → (ticks : ℕ) × (moved : ℕ) × (former_after (suc (suc k)) ≡ running (stuck 1 ticks sent_cells) (suc moved) 0)
stuck_after zero =
    (2, 2, ap (λ (r : Running). former_left (round (former_left r))) one_round ∙ ap former_left (sym (ap round one_round) ∙ first_rounds))
stuck_after (suc k) =
    let s = stuck_after k in
    (counted s.0, 0, ap (λ (r : Running). former_left (round r)) s.2 ∙ ap former_left (stuck_round s.0 (suc s.1) 0 sent_cells))

moves_after : (k : ℕ) → (m : ℕ) × ((round (former_after k)).moved ≡ suc m)
moves_after zero = (2, ap (λ (r : Running). r.moved) one_round)
moves_after (suc zero) =
    (2, ap (λ (r : Running). (round (former_left r)).moved) one_round ∙ ap (λ (r : Running). r.moved) (sym (ap round one_round) ∙ first_rounds))
moves_after (suc (suc k)) =
    let s = stuck_after k in
    (0, ap (λ (r : Running). (round r).moved) s.2 ∙ ap (λ (r : Running). r.moved) (stuck_round s.0 (suc s.1) 0 sent_cells))

pub former_moves : (k : ℕ) → (round (former_after k)).moved ≢ 0
former_moves k e = let m = moves_after k in omega (arith, m.1, e)

-- ==== the rule as it is, document 02: "relief once after every round, moves or not"
-- one enlargement in ten rounds ..
pub relieved_now : (drive_of 30 start).answer ≡ drove spent 30 1
unfolding driving
relieved_now = ap (λ (x : Result). x.answer) (drive_bare lane 30 start ready)

-- .. and the two others end
abbrev ended_in : ℕ → World → Bool
ended_in p w = is_ended (standing_of w.lane p).condition

pub others_end : (ended_in 1 (drive_of 30 start).world ≡ true) × (ended_in 2 (drive_of 30 start).world ≡ true)
unfolding driving
others_end =
    let e = drive_bare lane 30 start ready in
    (ap (λ (x : Result). ended_in 1 x.world) e, ap (λ (x : Result). ended_in 2 x.world) e)

-- the enlargement was made after the second round, and counts where that is the last
in_the_last : (drive_of 6 start).answer ≡ drove spent 6 1
unfolding driving
in_the_last = ap (λ (x : Result). x.answer) (drive_bare lane 6 start ready)

-- with both channels full at 256 relief is refused with 14, after rounds in which the clock moved: that is passed over
abbrev brim : World
brim = stuck 256 2 (filled (pos 0))

brim_sound : sound_of brim.lane ≡ true
unfolding sound_of channel_sound in_turn
brim_sound = rw pass

brim_ready : Ready lane brim
brim_ready = record { same = refl; long = many_filled (pos 0); shaped = record { registers = refl; processes = refl; channels = refl }; sound = brim_sound }

brim_refused : relief_in brim ≡ refused 14
unfolding driving
brim_refused = ap (λ (x : Relief). x.answer) (bare brim.lane brim_sound)

pub goes_on : (drive_of 30 brim).answer ≡ drove spent 30 0
unfolding driving
goes_on = ap (λ (x : Result). x.answer) (drive_bare lane 30 brim brim_ready)
