-- Demand 3 with two processes on each board, picked in different orders: on the first board mostly process 0 first, on the second process 1 before 0
-- all the way. Both are fair and come to rest, and both sent the same on the channel between the processes and on the one out.
-- Assumes nothing.
use mathlib.Core.Path.{◌≡◌, refl, ap}
use mathlib.Core.Bool.{true}
use mathlib.Core.List.{List, [], ◌∷◌, ◌++◌}
use Prim.Native.Nat.{ℕ, zero, suc, ◌<◌}
use native.Mathlib.Omega.{arith}
use lib.IntN.{pos, negsuc}
use Rattle.network.specs.Rules.{passes}
use Rattle.network.proofs.Unused.{passes_by}
use Rattle.process.specs.declared.Condition.TheVariants.{Stopped}
use Rattle.lane.specs.State.{World, process_of}
use Rattle.lane.specs.Calls.{moved, waiting_empty, waiting_full, ended, accepted, value, the_end}
use Rattle.lane_file.specs.File.{file_of}
use Rattle.lane_file.proofs.RoundTrip.{Shaped}
use Rattle.kahn.specs.Plain.{without_capacities, plain_after}
use Rattle.kahn.specs.Calls.{Call, pick, feed, close, take, told}
use Rattle.kahn.specs.Steps.{calls, after, sent, moved_in}
use Rattle.kahn.specs.Boards.{board, Fair, AtRest, Alike, AgreeWith}
use Rattle.kahn.specs.Theorem.{ReadAs, Holds, Determined}
use Rattle.kahn.proofs.InTurn.{plain, process, passes_on, adds_up, relay, input}
use Rattle.kahn_witnesses.proofs.Tested.{alike_by, read_by}
use Rattle.kahn_witnesses.proofs.Traces.{Fit, replies, replies_are, moved_is, sent_is, left_is, FairOn, fair_by, WholeOn, Rests, rest_by}
use Rattle.kahn_witnesses.proofs.Computed.{tests, files, playing, filled, many_filled, fit, only_first, Entry, ◌⇒◌, calls_of, replies_of}
use Rattle.kahn.proofs.Whole.{one_board_holds, any_spare_fits}

-- ---- the two files
relay_shaped : (k : ℕ) → Shaped (relay k)
relay_shaped k = record { first = refl; count = refl; sender = refl; receiver = refl; capacity = refl; code = refl }

pass₁ : passes (relay 1) ≡ true
unfolding tests
pass₁ = passes_by (relay 1) (passes_on ++ adds_up) 4028 refl (omega arith) refl

pub pass₂ : passes (relay 2) ≡ true
unfolding tests
pass₂ = passes_by (relay 2) (passes_on ++ adds_up) 4028 refl (omega arith) refl

read₁ : ReadAs (file_of (relay 1)) (relay 1)
unfolding files
read₁ = read_by (relay 1) (relay_shaped 1) pass₁ refl

pub read₂ : ReadAs (file_of (relay 2)) (relay 2)
unfolding files
read₂ = read_by (relay 2) (relay_shaped 2) pass₂ refl

alike : Alike (file_of (relay 1)) (file_of (relay 2))
unfolding files
alike = alike_by (file_of (relay 1)) (file_of (relay 2)) refl

both : (P : ℕ → Type 0) → P 0 → P 1 → (p : ℕ) → p < 2 → P p
both P g h zero l = g
both P g h (suc zero) l = h
both P g h (suc (suc p)) l = absurd (omega arith)

-- what is left to compute, on channel 0 and of processes 0 and 1
pub relay_fair : (k : ℕ) (ks : List Call) (w : World) (f : Fit w) → FairOn ks w f (relay k) input 0 → Fair (relay k) input (calls ks) w
relay_fair k ks w f h = fair_by ks w f (relay k) input (only_first (relay k) refl (FairOn ks w f (relay k) input) h)

pub relay_rest : (k : ℕ) (ks : List Call) (w : World) (f : Fit w) → WholeOn ks w f (relay k) input 0 → Rests ks w f (relay k) input 0
    → Rests ks w f (relay k) input 1 → AtRest (relay k) input (calls ks) w
relay_rest k ks w f h q r =
    rest_by ks w f (relay k) input (only_first (relay k) refl (WholeOn ks w f (relay k) input) h) (both (Rests ks w f (relay k) input) q r)

-- ---- capacities 1: process 0 goes as far as it can, then process 1
abbrev entries₁ : List Entry
entries₁ =
    feed 0 (pos 5) ⇒ told accepted
    ∷ pick 0 ⇒ told moved
    ∷ pick 0 ⇒ told moved
    ∷ pick 0 ⇒ told moved
    ∷ feed 0 (negsuc 2) ⇒ told accepted
    ∷ close 0 ⇒ told accepted
    ∷ pick 0 ⇒ told moved
    ∷ pick 0 ⇒ told (waiting_full 1)
    ∷ pick 1 ⇒ told moved
    ∷ pick 0 ⇒ told moved
    ∷ pick 0 ⇒ told moved
    ∷ pick 0 ⇒ told moved
    ∷ pick 0 ⇒ told moved
    ∷ pick 0 ⇒ told ended
    ∷ pick 1 ⇒ told moved
    ∷ pick 1 ⇒ told moved
    ∷ pick 1 ⇒ told moved
    ∷ pick 1 ⇒ told moved
    ∷ pick 1 ⇒ told moved
    ∷ pick 1 ⇒ told (waiting_full 2)
    ∷ take 2 ⇒ told (value (pos 5))
    ∷ pick 1 ⇒ told moved
    ∷ pick 1 ⇒ told moved
    ∷ pick 1 ⇒ told moved
    ∷ pick 1 ⇒ told moved
    ∷ take 2 ⇒ told (value (pos 2))
    ∷ take 2 ⇒ told the_end
    ∷ []

abbrev calls₁ : List Call
calls₁ = calls_of entries₁

abbrev w₁ : World
w₁ = board (relay 1) (filled (pos 0))

fit₁ : Fit w₁
fit₁ = fit (relay 1) (filled (pos 0)) pass₁ (many_filled (pos 0))

answered₁ : replies calls₁ w₁ ≡ replies_of entries₁
unfolding playing
answered₁ = replies_are calls₁ w₁ fit₁

fair₁ : Fair (relay 1) input (calls calls₁) w₁
unfolding playing
fair₁ = relay_fair 1 calls₁ w₁ fit₁ (record { feeds = record { rest = []; longer = refl }; last = refl; whole = λ e. refl })

rest₁ : AtRest (relay 1) input (calls calls₁) w₁
unfolding playing
rest₁ = relay_rest 1 calls₁ w₁ fit₁ (refl, refl) refl refl

moved₁ : moved_in (calls calls₁) w₁ ≡ 18
unfolding playing
moved₁ = moved_is calls₁ w₁ fit₁

between₁ : sent (calls calls₁) w₁ 1 ≡ pos 5 ∷ negsuc 2 ∷ []
unfolding playing
between₁ = sent_is calls₁ w₁ fit₁ 1

sent₁ : sent (calls calls₁) w₁ 2 ≡ pos 5 ∷ pos 2 ∷ []
unfolding playing
sent₁ = sent_is calls₁ w₁ fit₁ 2

first₁ : process_of (after (calls calls₁) w₁).lane 0 ≡ process (negsuc 2) (pos 0) 3 Stopped 8
unfolding playing
first₁ = ap (λ (w : World). process_of w.lane 0) (left_is calls₁ w₁ fit₁)

second₁ : process_of (after (calls calls₁) w₁).lane 1 ≡ process (negsuc 2) (pos 2) 4 Stopped 10
unfolding playing
second₁ = ap (λ (w : World). process_of w.lane 1) (left_is calls₁ w₁ fit₁)

-- ---- capacities 2, other cells: process 1 is picked before 0, each time
abbrev pub entries₂ : List Entry
entries₂ =
    pick 1 ⇒ told (waiting_empty 1)
    ∷ feed 0 (pos 5) ⇒ told accepted
    ∷ feed 0 (negsuc 2) ⇒ told accepted
    ∷ close 0 ⇒ told accepted
    ∷ pick 0 ⇒ told moved
    ∷ pick 1 ⇒ told (waiting_empty 1)
    ∷ pick 0 ⇒ told moved
    ∷ pick 1 ⇒ told moved
    ∷ pick 0 ⇒ told moved
    ∷ pick 1 ⇒ told moved
    ∷ pick 0 ⇒ told moved
    ∷ pick 1 ⇒ told moved
    ∷ pick 0 ⇒ told moved
    ∷ pick 1 ⇒ told moved
    ∷ pick 0 ⇒ told moved
    ∷ pick 1 ⇒ told moved
    ∷ pick 0 ⇒ told moved
    ∷ pick 1 ⇒ told moved
    ∷ pick 0 ⇒ told moved
    ∷ pick 1 ⇒ told moved
    ∷ pick 0 ⇒ told ended
    ∷ pick 1 ⇒ told moved
    ∷ pick 1 ⇒ told moved
    ∷ pick 1 ⇒ told moved
    ∷ pick 1 ⇒ told ended
    ∷ take 2 ⇒ told (value (pos 5))
    ∷ []

abbrev pub calls₂ : List Call
calls₂ = calls_of entries₂

abbrev pub w₂ : World
w₂ = board (relay 2) (filled (pos 7))

pub fit₂ : Fit w₂
fit₂ = fit (relay 2) (filled (pos 7)) pass₂ (many_filled (pos 7))

answered₂ : replies calls₂ w₂ ≡ replies_of entries₂
unfolding playing
answered₂ = replies_are calls₂ w₂ fit₂

pub fair₂ : Fair (relay 2) input (calls calls₂) w₂
unfolding playing
fair₂ = relay_fair 2 calls₂ w₂ fit₂ (record { feeds = record { rest = []; longer = refl }; last = refl; whole = λ e. refl })

pub rest₂ : AtRest (relay 2) input (calls calls₂) w₂
unfolding playing
rest₂ = relay_rest 2 calls₂ w₂ fit₂ (refl, refl) refl refl

moved₂ : moved_in (calls calls₂) w₂ ≡ 18
unfolding playing
moved₂ = moved_is calls₂ w₂ fit₂

between₂ : sent (calls calls₂) w₂ 1 ≡ pos 5 ∷ negsuc 2 ∷ []
unfolding playing
between₂ = sent_is calls₂ w₂ fit₂ 1

sent₂ : sent (calls calls₂) w₂ 2 ≡ pos 5 ∷ pos 2 ∷ []
unfolding playing
sent₂ = sent_is calls₂ w₂ fit₂ 2

-- ---- the theorem at these
relay_fits : Determined (relay 1) (relay 2) input (calls calls₁) (calls calls₂) w₁ w₂
relay_fits =
    any_spare_fits (file_of (relay 1)) (file_of (relay 2)) (relay 1) (relay 2) read₁ read₂ alike (filled (pos 0)) (filled (pos 7))
    (many_filled (pos 0)) (many_filled (pos 7)) input (calls calls₁) (calls calls₂) fair₁ fair₂

relay_agrees : AgreeWith (relay 1) (calls calls₁) (calls calls₂) w₁ w₂
relay_agrees = relay_fits.agree rest₁ rest₂

-- one board alone
relay_holds : Holds (relay 1) input (calls calls₁) w₁
relay_holds = one_board_holds (file_of (relay 1)) (relay 1) read₁ (filled (pos 0)) (many_filled (pos 0)) input (calls calls₁) fair₁

-- and the plain order, computed for as many rounds as picks moved
plain_sent : (plain_after (without_capacities (relay 1)) input 18).sent 2 ≡ pos 5 ∷ pos 2 ∷ []
unfolding plain
plain_sent = refl

plain_first : (plain_after (without_capacities (relay 1)) input 18).processes 0 ≡ process (negsuc 2) (pos 0) 3 Stopped 8
unfolding plain
plain_first = refl

plain_second : (plain_after (without_capacities (relay 1)) input 18).processes 1 ≡ process (negsuc 2) (pos 2) 4 Stopped 10
unfolding plain
plain_second = refl
