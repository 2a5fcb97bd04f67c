-- The hypotheses of demand 3 are met: two pairs of files, alike but for capacities 1 and 2 and block 0's check, and lists of calls on them that are
-- fair and come to rest, with refused calls, waits and a relief that enlarges among them; and what they sent is what it should be.
-- Assumes nothing.
use mathlib.Core.Path.{◌≡◌, refl, ap}
use mathlib.Core.Bool.{true, false≢true}
use mathlib.Core.List.{List, [], ◌∷◌, ◌++◌}
use Prim.Native.Nat.{ℕ, zero, suc, ◌<◌}
use native.Mathlib.Omega.{arith}
use lib.ListN.{length, get_or, take as first_of, replicate}
use lib.IntN.{ℤ, pos, negsuc}
use Rattle.network.specs.declared.Network.{Network}
use Rattle.network.specs.Rules.{sender_of, outside, passes}
use Rattle.network.proofs.Unused.{passes_by}
use Rattle.process.specs.declared.Condition.TheVariants.{Live, Stopped, Faulted}
use Rattle.lane.specs.State.{World, process_of, channel_of}
use Rattle.lane.specs.Calls.{moved, waiting_empty, waiting_full, ended, accepted, value, the_end, refused}
use Rattle.relief.specs.Relief as relief
use Rattle.lane_file.specs.File.{file_of}
use Rattle.lane_file.proofs.RoundTrip.{Shaped}
use Rattle.lane_file.proofs.Witness.{program, with_capacity as sample, shaped}
use Rattle.kahn.specs.Plain.{from_outside, without_capacities, plain_after}
use Rattle.kahn.specs.Calls.{Call, pick, feed, close, take, relieve, told, relieved}
use Rattle.kahn.specs.Steps.{calls, after, taken, sent, moved_in}
use Rattle.kahn.specs.Boards.{board, Fair, AtRest, Alike, AgreeWith}
use Rattle.kahn.specs.Theorem.{ReadAs, Determined}
use Rattle.kahn.proofs.InTurn.{plain, process, input}
use Rattle.kahn_witnesses.proofs.Tested.{alike_by, read_by}
use Rattle.kahn_witnesses.proofs.Traces.{Fit, replies, replies_are, moved_is, sent_is, taken_is, left_is, FairOn, fair_by, WholeOn, Rests, rest_by}
use Rattle.kahn_witnesses.proofs.Computed.{tests, files, playing, filled, many_filled, fit, outside_says, only_first, one_process, Entry, ◌⇒◌, calls_of, replies_of}
use Rattle.kahn.proofs.Whole.{any_spare_fits}

-- ==== document 01's sample lane, with capacities 1 and 2: one process, channel 0 in, 1 out; each message is doubled
pub pass₁ : passes (sample 1) ≡ true
unfolding tests
pass₁ = passes_by (sample 1) program 4044 refl (omega arith) refl

pub pass₂ : passes (sample 2) ≡ true
unfolding tests
pass₂ = passes_by (sample 2) program 4044 refl (omega arith) refl

pub read₁ : ReadAs (file_of (sample 1)) (sample 1)
unfolding files
read₁ = read_by (sample 1) (shaped 1) pass₁ refl

pub read₂ : ReadAs (file_of (sample 2)) (sample 2)
unfolding files
read₂ = read_by (sample 2) (shaped 2) pass₂ refl

pub alike : Alike (file_of (sample 1)) (file_of (sample 2))
unfolding files
alike = alike_by (file_of (sample 1)) (file_of (sample 2)) refl

-- the lower byte of channel 0's capacity
byte₁ : get_or (file_of (sample 1)) 75 0 ≡ 1
unfolding files
byte₁ = refl

byte₂ : get_or (file_of (sample 2)) 75 0 ≡ 2
unfolding files
byte₂ = refl

-- what is left to compute, on channel 0 and of process 0
pub sample_fair : (k : ℕ) (ks : List Call) (w : World) (f : Fit w) → FairOn ks w f (sample k) input 0 → Fair (sample k) input (calls ks) w
sample_fair k ks w f h = fair_by ks w f (sample k) input (only_first (sample k) refl (FairOn ks w f (sample k) input) h)

pub sample_rest : (k : ℕ) (ks : List Call) (w : World) (f : Fit w) → WholeOn ks w f (sample k) input 0 → Rests ks w f (sample k) input 0
    → AtRest (sample k) input (calls ks) w
sample_rest k ks w f h q =
    rest_by ks w f (sample k) input (only_first (sample k) refl (WholeOn ks w f (sample k) input) h) (one_process (Rests ks w f (sample k) input) q)

-- ---- capacities 1: a feed to a full channel and a pick of no process are refused; the process waits for room, then for a message
abbrev entries₁ : List Entry
entries₁ =
    feed 0 (pos 5) ⇒ told accepted
    ∷ feed 0 (negsuc 2) ⇒ told (refused 10)
    ∷ pick 0 ⇒ told moved
    ∷ feed 0 (negsuc 2) ⇒ told accepted
    ∷ pick 0 ⇒ told moved
    ∷ pick 0 ⇒ told moved
    ∷ pick 0 ⇒ told moved
    ∷ pick 7 ⇒ told (refused 8)
    ∷ pick 0 ⇒ told moved
    ∷ pick 0 ⇒ told moved
    ∷ pick 0 ⇒ told (waiting_full 1)
    ∷ take 1 ⇒ told (value (pos 10))
    ∷ pick 0 ⇒ told moved
    ∷ pick 0 ⇒ told moved
    ∷ pick 0 ⇒ told (waiting_empty 0)
    ∷ close 0 ⇒ told accepted
    ∷ feed 0 (pos 9) ⇒ told (refused 11)
    ∷ pick 0 ⇒ told moved
    ∷ pick 0 ⇒ told moved
    ∷ pick 0 ⇒ told ended
    ∷ take 1 ⇒ told (value (negsuc 5))
    ∷ take 1 ⇒ told the_end
    ∷ relieve [] ⇒ relieved (relief.refused 13) []
    ∷ []

abbrev calls₁ : List Call
calls₁ = calls_of entries₁

abbrev cells₁ : List ℤ
cells₁ = filled (pos 0)

many₁ : length cells₁ ≡ 8192
many₁ = many_filled (pos 0)

abbrev w₁ : World
w₁ = board (sample 1) cells₁

fit₁ : Fit w₁
fit₁ = fit (sample 1) cells₁ pass₁ many₁

answered₁ : replies calls₁ w₁ ≡ replies_of entries₁
unfolding playing
answered₁ = replies_are calls₁ w₁ fit₁

fair₁ : Fair (sample 1) input (calls calls₁) w₁
unfolding playing
fair₁ = sample_fair 1 calls₁ w₁ fit₁ (record { feeds = record { rest = []; longer = refl }; last = refl; whole = λ e. refl })

rest₁ : AtRest (sample 1) input (calls calls₁) w₁
unfolding playing
rest₁ = sample_rest 1 calls₁ w₁ fit₁ (refl, refl) refl

moved₁ : moved_in (calls calls₁) w₁ ≡ 10
unfolding playing
moved₁ = moved_is calls₁ w₁ fit₁

sent₁ : sent (calls calls₁) w₁ 1 ≡ pos 10 ∷ negsuc 5 ∷ []
unfolding playing
sent₁ = sent_is calls₁ w₁ fit₁ 1

taken₁ : taken (calls calls₁) w₁ 1 ≡ pos 10 ∷ negsuc 5 ∷ []
unfolding playing
taken₁ = taken_is calls₁ w₁ fit₁ 1

process₁ : process_of (after (calls calls₁) w₁).lane 0 ≡ process (negsuc 5) (pos 0) 4 Stopped 10
unfolding playing
process₁ = ap (λ (w : World). process_of w.lane 0) (left_is calls₁ w₁ fit₁)

-- ---- half way: the feeds are a proper beginning of the input, nothing is closed, and what was sent is a proper beginning
abbrev half : List Call
half = feed 0 (pos 5) ∷ pick 0 ∷ pick 0 ∷ pick 0 ∷ []

half_fair : Fair (sample 1) input (calls half) w₁
unfolding playing
half_fair =
    sample_fair 1 half w₁ fit₁
    (record { feeds = record { rest = negsuc 2 ∷ []; longer = refl }; last = refl; whole = λ e. absurd (false≢true e) })

half_sent : sent (calls half) w₁ 1 ≡ pos 10 ∷ []
unfolding playing
half_sent = sent_is half w₁ fit₁ 1

-- no fewer rounds would do: three picks moved, and in two rounds the plain order has sent nothing
half_moved : moved_in (calls half) w₁ ≡ 3
unfolding playing
half_moved = moved_is half w₁ fit₁

two_rounds : (plain_after (without_capacities (sample 1)) input 2).sent 1 ≡ []
unfolding plain
two_rounds = refl

-- ---- capacities 2, other cells, another order: the process waits at first, then all input is there and closed
abbrev entries₂ : List Entry
entries₂ =
    pick 0 ⇒ told (waiting_empty 0)
    ∷ take 1 ⇒ told (refused 12)
    ∷ feed 0 (pos 5) ⇒ told accepted
    ∷ feed 0 (negsuc 2) ⇒ told accepted
    ∷ close 0 ⇒ told accepted
    ∷ close 0 ⇒ told (refused 11)
    ∷ pick 0 ⇒ told moved
    ∷ pick 0 ⇒ told moved
    ∷ pick 0 ⇒ told moved
    ∷ pick 0 ⇒ told moved
    ∷ pick 0 ⇒ told moved
    ∷ relieve (0 ∷ []) ⇒ relieved (relief.refused 13) (0 ∷ [])
    ∷ pick 0 ⇒ told moved
    ∷ pick 0 ⇒ told moved
    ∷ take 0 ⇒ told (refused 9)
    ∷ pick 0 ⇒ told moved
    ∷ pick 0 ⇒ told moved
    ∷ pick 0 ⇒ told moved
    ∷ pick 0 ⇒ told ended
    ∷ take 1 ⇒ told (value (pos 10))
    ∷ []

abbrev calls₂ : List Call
calls₂ = calls_of entries₂

abbrev cells₂ : List ℤ
cells₂ = filled (pos 7)

many₂ : length cells₂ ≡ 8192
many₂ = many_filled (pos 7)

abbrev w₂ : World
w₂ = board (sample 2) cells₂

fit₂ : Fit w₂
fit₂ = fit (sample 2) cells₂ pass₂ many₂

answered₂ : replies calls₂ w₂ ≡ replies_of entries₂
unfolding playing
answered₂ = replies_are calls₂ w₂ fit₂

fair₂ : Fair (sample 2) input (calls calls₂) w₂
unfolding playing
fair₂ = sample_fair 2 calls₂ w₂ fit₂ (record { feeds = record { rest = []; longer = refl }; last = refl; whole = λ e. refl })

rest₂ : AtRest (sample 2) input (calls calls₂) w₂
unfolding playing
rest₂ = sample_rest 2 calls₂ w₂ fit₂ (refl, refl) refl

sent₂ : sent (calls calls₂) w₂ 1 ≡ pos 10 ∷ negsuc 5 ∷ []
unfolding playing
sent₂ = sent_is calls₂ w₂ fit₂ 1

-- ---- the theorem at these files, cells, input and calls
sample_fits : Determined (sample 1) (sample 2) input (calls calls₁) (calls calls₂) w₁ w₂
sample_fits =
    any_spare_fits (file_of (sample 1)) (file_of (sample 2)) (sample 1) (sample 2) read₁ read₂ alike cells₁ cells₂ many₁ many₂ input (calls calls₁) (calls calls₂) fair₁ fair₂

half_fits : Determined (sample 1) (sample 2) input (calls half) (calls calls₂) w₁ w₂
half_fits =
    any_spare_fits (file_of (sample 1)) (file_of (sample 2)) (sample 1) (sample 2) read₁ read₂ alike cells₁ cells₂ many₁ many₂ input (calls half) (calls calls₂) half_fair fair₂

sample_agrees : AgreeWith (sample 1) (calls calls₁) (calls calls₂) w₁ w₂
sample_agrees = sample_fits.agree rest₁ rest₂

-- and the plain order, computed: "out 1 10, out 1 -6, end 1, proc 0 stop 10"
plain_sent : (plain_after (without_capacities (sample 1)) input 10).sent 1 ≡ pos 10 ∷ negsuc 5 ∷ []
unfolding plain
plain_sent = refl

plain_process : (plain_after (without_capacities (sample 1)) input 10).processes 0 ≡ process (negsuc 5) (pos 0) 4 Stopped 10
unfolding plain
plain_process = refl

-- rest needs the closing: here all input was fed and the process waits for a message, and the plain order has gone further
abbrev unclosed : List Call
unclosed = first_of 15 calls₁

unclosed_process : process_of (after (calls unclosed) w₁).lane 0 ≡ process (negsuc 5) (pos 0) 0 Live 8
unfolding playing
unclosed_process = ap (λ (w : World). process_of w.lane 0) (left_is unclosed w₁ fit₁)

-- ==== one process with a channel to itself: it sends 1 twice, receives once, closes the channel, and faults at a third sending, of what it keeps
abbrev keeps : List ℕ
keeps = 1 ∷ 0 ∷ 0 ∷ 1 ∷ 12 ∷ 0 ∷ 0 ∷ 0 ∷ 12 ∷ 0 ∷ 0 ∷ 0 ∷ 11 ∷ 1 ∷ 0 ∷ 4 ∷ 13 ∷ 0 ∷ 0 ∷ 0 ∷ 12 ∷ 1 ∷ 0 ∷ 0 ∷ 0 ∷ 0 ∷ 0 ∷ 0 ∷ []

abbrev own : ℕ → Network
own capacity =
    record {
      processes = 1;
      channels = 1;
      first = replicate 16 0;
      count = 7 ∷ replicate 15 0;
      sender = replicate 32 0;
      receiver = replicate 32 0;
      capacity = capacity ∷ replicate 31 0;
      code = keeps ++ replicate 4036 0;
    }

own_shaped : (k : ℕ) → Shaped (own k)
own_shaped k = record { first = refl; count = refl; sender = refl; receiver = refl; capacity = refl; code = refl }

pass₃ : passes (own 1) ≡ true
unfolding tests
pass₃ = passes_by (own 1) keeps 4036 refl (omega arith) refl

pass₄ : passes (own 2) ≡ true
unfolding tests
pass₄ = passes_by (own 2) keeps 4036 refl (omega arith) refl

read₃ : ReadAs (file_of (own 1)) (own 1)
unfolding files
read₃ = read_by (own 1) (own_shaped 1) pass₃ refl

read₄ : ReadAs (file_of (own 2)) (own 2)
unfolding files
read₄ = read_by (own 2) (own_shaped 2) pass₄ refl

own_alike : Alike (file_of (own 1)) (file_of (own 2))
unfolding files
own_alike = alike_by (file_of (own 1)) (file_of (own 2)) refl

-- no channel comes from outside
inside : (k : ℕ) (P : ℕ → Type 0) (c : ℕ) → from_outside (own k) c ≡ true → P c
inside k P c o =
    let b = outside_says (own k) c o in
    absurd (at c b.0 b.1)
  where
    at : (c : ℕ) → c < 1 → sender_of (own k) c ≡ outside → ⊥
    at zero l e = omega arith
    at (suc c) l e = omega arith

-- no input
abbrev silent : ℕ → List ℤ
silent c = []

own_fair : (k : ℕ) (ks : List Call) (w : World) → Fit w → Fair (own k) silent (calls ks) w
own_fair k ks w f = fair_by ks w f (own k) silent (inside k (FairOn ks w f (own k) silent))

own_rest : (k : ℕ) (ks : List Call) (w : World) (f : Fit w) → Rests ks w f (own k) silent 0 → AtRest (own k) silent (calls ks) w
own_rest k ks w f q = rest_by ks w f (own k) silent (inside k (WholeOn ks w f (own k) silent)) (one_process (Rests ks w f (own k) silent) q)

-- ---- capacity 1: the process waits on itself for room; relief is refused before, and with too short a buffer, and then enlarges
abbrev entries₃ : List Entry
entries₃ =
    relieve [] ⇒ relieved (relief.refused 13) []
    ∷ pick 0 ⇒ told moved
    ∷ pick 0 ⇒ told moved
    ∷ pick 0 ⇒ told (waiting_full 0)
    ∷ relieve [] ⇒ relieved (relief.refused 15) []
    ∷ relieve (9 ∷ 9 ∷ []) ⇒ relieved (relief.enlarged 1 0) (0 ∷ 9 ∷ [])
    ∷ pick 0 ⇒ told moved
    ∷ pick 0 ⇒ told moved
    ∷ pick 0 ⇒ told moved
    ∷ pick 0 ⇒ told moved
    ∷ pick 0 ⇒ told ended
    ∷ []

abbrev calls₃ : List Call
calls₃ = calls_of entries₃

abbrev w₃ : World
w₃ = board (own 1) cells₁

fit₃ : Fit w₃
fit₃ = fit (own 1) cells₁ pass₃ many₁

answered₃ : replies calls₃ w₃ ≡ replies_of entries₃
unfolding playing
answered₃ = replies_are calls₃ w₃ fit₃

fair₃ : Fair (own 1) silent (calls calls₃) w₃
fair₃ = own_fair 1 calls₃ w₃ fit₃

rest₃ : AtRest (own 1) silent (calls calls₃) w₃
unfolding playing
rest₃ = own_rest 1 calls₃ w₃ fit₃ refl

sent₃ : sent (calls calls₃) w₃ 0 ≡ pos 1 ∷ pos 1 ∷ []
unfolding playing
sent₃ = sent_is calls₃ w₃ fit₃ 0

process₃ : process_of (after (calls calls₃) w₃).lane 0 ≡ process (pos 1) (pos 1) 5 Faulted 6
unfolding playing
process₃ = ap (λ (w : World). process_of w.lane 0) (left_is calls₃ w₃ fit₃)

-- the channel has grown
grown₃ : (channel_of (after (calls calls₃) w₃).lane 0).capacity ≡ 2
unfolding playing
grown₃ = ap (λ (w : World). (channel_of w.lane 0).capacity) (left_is calls₃ w₃ fit₃)

-- ---- capacity 2: nothing waits
abbrev entries₄ : List Entry
entries₄ =
    pick 0 ⇒ told moved
    ∷ pick 0 ⇒ told moved
    ∷ close 0 ⇒ told (refused 9)
    ∷ pick 0 ⇒ told moved
    ∷ pick 0 ⇒ told moved
    ∷ pick 0 ⇒ told moved
    ∷ pick 0 ⇒ told moved
    ∷ []

abbrev calls₄ : List Call
calls₄ = calls_of entries₄

abbrev w₄ : World
w₄ = board (own 2) cells₂

fit₄ : Fit w₄
fit₄ = fit (own 2) cells₂ pass₄ many₂

answered₄ : replies calls₄ w₄ ≡ replies_of entries₄
unfolding playing
answered₄ = replies_are calls₄ w₄ fit₄

fair₄ : Fair (own 2) silent (calls calls₄) w₄
fair₄ = own_fair 2 calls₄ w₄ fit₄

rest₄ : AtRest (own 2) silent (calls calls₄) w₄
unfolding playing
rest₄ = own_rest 2 calls₄ w₄ fit₄ refl

sent₄ : sent (calls calls₄) w₄ 0 ≡ pos 1 ∷ pos 1 ∷ []
unfolding playing
sent₄ = sent_is calls₄ w₄ fit₄ 0

-- ---- the theorem at these
own_fits : Determined (own 1) (own 2) silent (calls calls₃) (calls calls₄) w₃ w₄
own_fits =
    any_spare_fits (file_of (own 1)) (file_of (own 2)) (own 1) (own 2) read₃ read₄ own_alike cells₁ cells₂ many₁ many₂ silent (calls calls₃) (calls calls₄) fair₃ fair₄

own_agrees : AgreeWith (own 1) (calls calls₃) (calls calls₄) w₃ w₄
own_agrees = own_fits.agree rest₃ rest₄

own_plain_sent : (plain_after (without_capacities (own 1)) silent 6).sent 0 ≡ pos 1 ∷ pos 1 ∷ []
unfolding plain
own_plain_sent = refl

own_plain_process : (plain_after (without_capacities (own 1)) silent 6).processes 0 ≡ process (pos 1) (pos 1) 5 Faulted 6
unfolding plain
own_plain_process = refl

-- a wait for room is no rest: here the process waits so, and the plain order has gone further
abbrev stuck : List Call
stuck = first_of 4 calls₃

stuck_process : process_of (after (calls stuck) w₃).lane 0 ≡ process (pos 1) (pos 0) 2 Live 2
unfolding playing
stuck_process = ap (λ (w : World). process_of w.lane 0) (left_is stuck w₃ fit₃)
