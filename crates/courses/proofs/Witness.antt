-- The statements are not empty: two processes that each send twice before they receive, on channels of capacity 1. They wait in a ring; the driver's
-- relief enlarges a channel; both end. The whole list, with its relief that nobody called, is fair and at rest.
-- Assumes nothing.
use mathlib.Core.Path.{◌≡◌, refl, sym, ap, ◌∙◌, subst, subst⁻¹}
use mathlib.Core.Bool.{true, false, true≢false}
use mathlib.Core.List.{List, [], ◌∷◌, ◌++◌}
use Prim.Native.Nat.{ℕ, zero, suc, ◌*◌, ◌≤◌, ◌<◌}
use native.Mathlib.Omega.{arith}
use borrow.Author.Tests.{ltb-true, eqb-true}
use lib.Dec.{eqb, ltb}
use lib.ListN.{replicate}
use lib.IntN.{ℤ, pos}
use Rattle.base.specs.Lists.{values}
use Rattle.base.specs.Tests.{in_turn}
use Rattle.base.proofs.Conjunction.{both_true}
use Rattle.network.specs.declared.Network.{Network}
use Rattle.network.specs.Rules.{sender_of, outside, passes}
use Rattle.network.proofs.Unused.{passes_by}
use Rattle.process.specs.declared.Condition.TheVariants.{Live}
use Rattle.process.specs.Channels.{no_channel}
use Rattle.lane.specs.State.{World, world, no_standing, fresh_of}
use Rattle.lane.specs.Calls.{Called, pick_of}
use Rattle.lane.specs.Sound.{channel_sound, sound_of}
use Rattle.lane.proofs.SoundLaws.{fresh_sound}
use Rattle.lane_file.specs.File.{file_of}
use Rattle.lane_file.proofs.RoundTrip.{Shaped}
use Rattle.schedule.specs.Running.{begun, picks}
use Rattle.schedule.proofs.Ready.{Ready}
use Rattle.drives.specs.Drive.{Ended, settled, ceiling, spent, drove, Result, done, drive_of}
use Rattle.kahn.specs.Plain.{from_outside, without_capacities, plain_after}
use Rattle.kahn.specs.Boards.{board, is_resting, Fair, AllIn, Quiet, AtRest, Agrees}
use Rattle.kahn.specs.Theorem.{ReadAs}
use Rattle.kahn.specs.Steps.{after, moved_in, grown_in}
use Rattle.kahn_witnesses.proofs.Computed.{tests, files, playing, filled, many_filled}
use Rattle.kahn_witnesses.proofs.Tested.{read_by}
use Rattle.courses.specs.Exactly.{StopsAt, AllWentOn}
use Rattle.courses.specs.Courses.{RunIs, course_steps, Course}
use Rattle.courses.specs.Ends.{Driven, NoneFull}
use Rattle.courses.proofs.Inside.{ready_steps, picked_there}
use Rattle.courses.proofs.Whole.{not_refused, run_is, ends_exactly, settled_quiet}
use Rattle.courses.proofs.Ends.{then_drive}
use Rattle.courses.proofs.Bare.{bare_rounds, drive_bare}

-- what is unfolded to compute a drive
unfoldable pub driving : ℕ
unfolding playing bare_rounds picks
driving = 0

-- 0 sends 5 twice on channel 0 and 1 sends 7 twice on channel 1; then they receive, and stop
abbrev code : List ℕ
code =
    1 ∷ 0 ∷ 0 ∷ 5 ∷ 12 ∷ 0 ∷ 0 ∷ 0 ∷ 12 ∷ 0 ∷ 0 ∷ 0 ∷ 11 ∷ 1 ∷ 1 ∷ 5 ∷ 11 ∷ 1 ∷ 1 ∷ 5 ∷ 0 ∷ 0 ∷ 0 ∷ 0
    ∷ 1 ∷ 0 ∷ 0 ∷ 7 ∷ 12 ∷ 0 ∷ 1 ∷ 0 ∷ 12 ∷ 0 ∷ 1 ∷ 0 ∷ 11 ∷ 1 ∷ 0 ∷ 5 ∷ 11 ∷ 1 ∷ 0 ∷ 5 ∷ 0 ∷ 0 ∷ 0 ∷ 0 ∷ []

abbrev pair : Network
pair =
    record {
      processes = 2;
      channels = 2;
      first = 0 ∷ 6 ∷ replicate 14 0;
      count = 6 ∷ 6 ∷ replicate 14 0;
      sender = 0 ∷ 1 ∷ replicate 30 0;
      receiver = 1 ∷ 0 ∷ replicate 30 0;
      capacity = 1 ∷ 1 ∷ replicate 30 0;
      code = code ++ replicate 4016 0;
    }

pass : passes pair ≡ true
unfolding tests
pass = passes_by pair code 4016 refl (omega arith) refl

shaped : Shaped pair
shaped = record { first = refl; count = refl; sender = refl; receiver = refl; capacity = refl; code = refl }

reads : ReadAs (file_of pair) pair
unfolding files
reads = read_by pair shaped pass refl

abbrev cells : List ℤ
cells = filled (pos 0)

abbrev start : World
start = board pair cells

ready : Ready pair start
unfolding fresh_of values
ready = record { same = refl; long = many_filled (pos 0); shaped = record { registers = refl; processes = refl; channels = refl }; sound = fresh_sound pair pass }

-- nothing comes from outside
abbrev input : ℕ → List ℤ
input c = []

none : (c : ℕ) → from_outside pair c ≡ true → ⊥
none c o =
    let b = both_true (ltb c 2) (eqb (sender_of pair c) outside) o in
    at c (ltb-true c 2 b.0) (eqb-true (sender_of pair c) outside b.1)
  where
    at : (c : ℕ) → c < 2 → sender_of pair c ≡ outside → ⊥
    at zero l e = omega arith
    at (suc zero) l e = omega arith
    at (suc (suc c)) l e = omega arith

fair : Fair pair input [] start
fair = record { feeds = λ c o. absurd (none c o); closings = λ c before later o e h. absurd (none c o) }

all_in_lem : AllIn pair input [] start
all_in_lem = record { fed_all = λ c o. refl; closed_all = λ c o. absurd (none c o) }

-- the driver, computed: one enlargement, and settled
answers : (drive_of 40 start).answer ≡ drove settled 16 1
unfolding driving
answers = ap (λ (x : Result). x.answer) (drive_bare pair 40 start ready)

driven : Driven pair input [] start 40
driven = then_drive (file_of pair) pair reads cells (many_filled (pos 0)) input [] fair 40

-- no process moves there, nor waits: both have ended
quiet : Quiet pair (drive_of 40 start).world
unfolding driving
quiet p h = subst⁻¹ (λ (x : World). is_resting (pick_of p x).answer ≡ true) (ap (λ (x : Result). x.world) (drive_bare pair 40 start ready)) (at p h)
  where
    left : World
    left = (done 2 (bare_rounds 20 0 (begun start))).world

    still_ready : Ready pair left
    still_ready =
        subst (Ready pair) (ap (λ (x : Result). x.world) (sym driven.drives ∙ drive_bare pair 40 start ready))
        (ready_steps pair (course_steps 2 driven.rounds) start ready)

    at : (p : ℕ) → p < 2 → is_resting (pick_of p left).answer ≡ true
    at zero h = ap (λ (x : Called). is_resting x.answer) (picked_there pair left 0 still_ready h)
    at (suc zero) h = ap (λ (x : Called). is_resting x.answer) (picked_there pair left 1 still_ready h)
    at (suc (suc p)) h = absurd (omega arith)

-- so the list of the drive's steps is at rest, and demand 3's (b) applies to it
at_rest : AtRest pair input (course_steps 2 driven.rounds) start
at_rest = driven.continued.rests all_in_lem (subst (Quiet pair) (ap (λ (x : Result). x.world) driven.drives) quiet)

agrees : (rounds : ℕ) → moved_in (course_steps 2 driven.rounds) start ≤ rounds
    → Agrees pair input (course_steps 2 driven.rounds) start (plain_after (without_capacities pair) input rounds)
agrees rounds h = driven.continued.holds.rests at_rest rounds h

-- eight rounds, settled, and one of its reliefs enlarged
made : (driven.end ≡ settled) × (driven.rounds ≡ 8) × (grown_in (course_steps 2 driven.rounds) start ≡ 1)
made =
    let q : drove driven.end (2 * driven.rounds) (grown_in (course_steps 2 driven.rounds) start) ≡ drove settled 16 1 = sym (ap (λ (x : Result). x.answer) driven.drives) ∙ answers in
    let a : 2 * driven.rounds ≡ 16 = cc in
    (cc, omega arith, cc)

-- what `settled_quiet` asks is met there: no process of the end waits on a full channel
none_full : NoneFull pair (after (course_steps 2 driven.rounds) start)
none_full p h c e = true≢false (sym (at_rest.quiet p h) ∙ ap is_resting e)

settled_met : Quiet pair (after (course_steps 2 driven.rounds) start)
unfolding fresh_of
settled_met =
    settled_quiet 20 driven.rounds start (not_refused pair start ready)
    (subst (λ (e : Ended). Course 2 20 start e driven.rounds) made.0 driven.course) none_full

-- a run with a relief in it: picks until both wait in the ring, the relief, and on
runs : RunIs (0 ∷ 0 ∷ 0 ∷ 1 ∷ 1 ∷ 1 ∷ 255 ∷ 0 ∷ 1 ∷ []) start
unfolding fresh_of in_turn
runs = run_is (0 ∷ 0 ∷ 0 ∷ 1 ∷ 1 ∷ 1 ∷ 255 ∷ 0 ∷ 1 ∷ []) start (not_refused pair start ready) refl

-- ---- the same two, each at its second sending, on channels that have grown to 256 and are full
abbrev brim : World
brim =
    world
    (record {
      network = pair;
      registers = (pos 5 ∷ replicate 7 (pos 0)) ++ (pos 7 ∷ replicate 7 (pos 0)) ++ replicate 112 (pos 0);
      processes = record { position = 2; condition = Live; moves = 257 } ∷ record { position = 2; condition = Live; moves = 257 } ∷ replicate 14 no_standing;
      channels = record { capacity = 256; oldest = 0; held = 256; peak = 256; closed = false } ∷ record { capacity = 256; oldest = 0; held = 256; peak = 256; closed = false } ∷ replicate 30 no_channel;
      accepted = 510;
    })
    cells

brim_sound : sound_of brim.lane ≡ true
unfolding sound_of channel_sound in_turn
brim_sound = rw pass

brim_ready : Ready pair brim
brim_ready = record { same = refl; long = many_filled (pos 0); shaped = record { registers = refl; processes = refl; channels = refl }; sound = brim_sound }

-- one round, no move, and no channel of the ring is below 256
brim_answers : (drive_of 40 brim).answer ≡ drove ceiling 2 0
unfolding driving
brim_answers = ap (λ (x : Result). x.answer) (drive_bare pair 40 brim brim_ready)

-- two rounds alone: the relief after the last one enlarges, and counts
two_rounds : (drive_of 4 start).answer ≡ drove spent 4 1
unfolding driving
two_rounds = ap (λ (x : Result). x.answer) (drive_bare pair 4 start ready)

-- each of the three ends, as its course tells it
settles : StopsAt 13 2 20 start
unfolding fresh_of
settles = (ends_exactly 40 start (not_refused pair start ready)).settles.0 (16, 1, answers)

reaches : StopsAt 14 2 20 brim
reaches = (ends_exactly 40 brim (not_refused pair brim brim_ready)).ceilings.0 (2, 0, brim_answers)

spends : AllWentOn 2 2 start
unfolding fresh_of
spends = (ends_exactly 4 start (not_refused pair start ready)).spends.0 (4, 1, two_rounds)
