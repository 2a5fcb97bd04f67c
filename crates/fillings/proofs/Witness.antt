-- "Two boards at rest may differ in it, since picks decide it; all else they agreed on they still agree on": two boards of one lane file, with the same
-- capacities, fed the same. On the one process 0 goes to its end before process 1 begins, on the other they take turns (kahn_witnesses/proofs/WitnessTwo).
-- Both are fair and come to rest, so demand 3 holds of them; the channel between the two has held two messages at the most on the one and one on the other.
-- Assumes nothing.
use mathlib.Core.Path.{◌≡◌, refl, ap, subst}
use mathlib.Core.List.{List, [], ◌∷◌}
use lib.IntN.{pos, negsuc}
use Rattle.lane.specs.State.{World}
use Rattle.lane.specs.Calls.{moved, ended, accepted}
use Rattle.lane_file.specs.File.{file_of}
use Rattle.kahn.specs.Calls.{Call, pick, feed, close, told}
use Rattle.kahn.specs.Steps.{calls, after}
use Rattle.kahn.specs.Boards.{board, Fair, AtRest, Alike, AgreeWith}
use Rattle.kahn.proofs.InTurn.{relay, input}
use Rattle.kahn.proofs.Whole.{any_spare_fits}
use Rattle.kahn_witnesses.proofs.Traces.{Fit, replies, replies_are, left_is}
use Rattle.kahn_witnesses.proofs.Computed.{playing, filled, many_filled, fit, Entry, ◌⇒◌, calls_of, replies_of}
use Rattle.kahn_witnesses.proofs.WitnessTwo as turns
use Rattle.fillings.specs.Highest.{peak_of, held_on, Most}
use Rattle.fillings.proofs.Whole.{highest_filling}

-- ---- process 0 first, then process 1
abbrev entries : List Entry
entries =
    feed 0 (pos 5) ⇒ told accepted
    ∷ feed 0 (negsuc 2) ⇒ told accepted
    ∷ close 0 ⇒ told accepted
    ∷ pick 0 ⇒ told moved
    ∷ pick 0 ⇒ told moved
    ∷ pick 0 ⇒ told moved
    ∷ pick 0 ⇒ told moved
    ∷ pick 0 ⇒ told moved
    ∷ pick 0 ⇒ told moved
    ∷ pick 0 ⇒ told moved
    ∷ pick 0 ⇒ told moved
    ∷ pick 0 ⇒ told ended
    ∷ pick 1 ⇒ told moved
    ∷ pick 1 ⇒ told moved
    ∷ pick 1 ⇒ told moved
    ∷ pick 1 ⇒ told moved
    ∷ pick 1 ⇒ told moved
    ∷ pick 1 ⇒ told moved
    ∷ pick 1 ⇒ told moved
    ∷ pick 1 ⇒ told moved
    ∷ pick 1 ⇒ told moved
    ∷ pick 1 ⇒ told moved
    ∷ pick 1 ⇒ told ended
    ∷ []

abbrev first : List Call
first = calls_of entries

abbrev w : World
w = board (relay 2) (filled (pos 0))

fit_first : Fit w
fit_first = fit (relay 2) (filled (pos 0)) turns.pass₂ (many_filled (pos 0))

answered : replies first w ≡ replies_of entries
unfolding playing
answered = replies_are first w fit_first

fair : Fair (relay 2) input (calls first) w
unfolding playing
fair = turns.relay_fair 2 first w fit_first (record { feeds = record { rest = []; longer = refl }; last = refl; whole = λ e. refl })

rest : AtRest (relay 2) input (calls first) w
unfolding playing
rest = turns.relay_rest 2 first w fit_first (refl, refl) refl refl

-- ---- demand 3 at the two: they agree in everything sent and in each process's registers, position, condition and moves
same_file : Alike (file_of (relay 2)) (file_of (relay 2))
same_file = record { long = refl; same = λ k l n. refl }

agree : AgreeWith (relay 2) (calls first) (calls turns.calls₂) w turns.w₂
agree =
    (any_spare_fits (file_of (relay 2)) (file_of (relay 2)) (relay 2) (relay 2) turns.read₂ turns.read₂ same_file (filled (pos 0)) (filled (pos 7))
    (many_filled (pos 0)) (many_filled (pos 7)) input (calls first) (calls turns.calls₂) fair turns.fair₂).agree rest turns.rest₂

-- ---- and differ in this
two_held : peak_of 1 (after (calls first) w) ≡ 2
unfolding playing
two_held = ap (peak_of 1) (left_is first w fit_first)

one_held : peak_of 1 (after (calls turns.calls₂) turns.w₂) ≡ 1
unfolding playing
one_held = ap (peak_of 1) (left_is turns.calls₂ turns.w₂ turns.fit₂)

-- nothing is held there at the end: the record says what was
none_left : held_on 1 (after (calls first) w) ≡ 0
unfolding playing
none_left = ap (held_on 1) (left_is first w fit_first)

-- ---- the theorem at these
most_first : Most 1 (calls first) w 2
most_first = subst (Most 1 (calls first) w) two_held (highest_filling (relay 2) (filled (pos 0)) (calls first) 1)

most_second : Most 1 (calls turns.calls₂) turns.w₂ 1
most_second = subst (Most 1 (calls turns.calls₂) turns.w₂) one_held (highest_filling (relay 2) (filled (pos 7)) (calls turns.calls₂) 1)
