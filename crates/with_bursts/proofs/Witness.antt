-- What the theorem asks is met by two boards of document 01's sample lane, fed in bursts: of capacity 1, where the first burst goes in part way, its rest
-- follows later, and an empty one finds the channel full; and of capacity 2, where one burst brings all.
-- Assumes nothing.
use mathlib.Core.Path.{◌≡◌, refl, sym, ap, ◌∙◌, subst⁻¹}
use mathlib.Core.Bool.{false, not}
use mathlib.Core.List.{List, [], ◌∷◌, ◌++◌}
use Prim.Native.Nat.{ℕ}
use borrow.Author.Tests.{eq-eqb}
use lib.IntN.{ℤ, pos, negsuc}
use lib.ListN.{length}
use Rattle.lane.specs.State.{World}
use Rattle.lane.specs.Calls.{moved, waiting_empty, waiting_full, ended, accepted, value, refused, no_channel_there, sender_inside, is_closed}
use Rattle.lane_file.specs.File.{file_of}
use Rattle.lane_file.proofs.Witness.{with_capacity as sample}
use Rattle.bursts.specs.Bursts.{burst_of}
use Rattle.bursts.specs.Singly.{Open, room_for, stopped}
use Rattle.bursts.proofs.Whole.{as_many_as_fit}
use Rattle.kahn.specs.Calls.{Call, pick, feed, close, take, told}
use Rattle.kahn.specs.Steps.{call, calls}
use Rattle.kahn.specs.Steps as steps
use Rattle.kahn.specs.Boards.{board}
use Rattle.kahn.proofs.InTurn.{input}
use Rattle.kahn_witnesses.proofs.Traces.{Fit, replies, replies_are, left_is, sent_is, fit_left, computed}
use Rattle.kahn_witnesses.proofs.Computed.{playing, filled, many_filled, fit, Entry, ◌⇒◌, calls_of, replies_of}
use Rattle.kahn_witnesses.proofs.Witness as lane
use Rattle.with_bursts.specs.Acts.{Act, step, burst, after, sent, written_out}
use Rattle.with_bursts.specs.Theorem.{Fair, AtRest, Holds, AgreeWith}
use Rattle.with_bursts.proofs.Written.{same}
use Rattle.with_bursts.proofs.Whole.{fair_as_steps, one_board_with_bursts, any_spare_fits_with_bursts}

-- calls as acts
abbrev singles : List Call → List Act
singles [] = []
singles (k ∷ ks) = step (call k) ∷ singles ks

-- ---- capacity 1: the calls between the bursts, and all of them with each burst written out
abbrev second : List Call
second = pick 0 ∷ []

abbrev last : List Call
last =
    pick 0 ∷ pick 0 ∷ pick 0 ∷ pick 0 ∷ pick 0 ∷ pick 0 ∷ take 1 ∷ pick 0 ∷ pick 0 ∷ pick 0 ∷ close 0 ∷ pick 0 ∷ pick 0 ∷ pick 0 ∷ []

abbrev before₁ : List Act
before₁ = burst 0 (pos 5 ∷ negsuc 2 ∷ []) ∷ singles second

abbrev acts₁ : List Act
acts₁ = before₁ ++ (burst 0 (negsuc 2 ∷ []) ∷ burst 0 [] ∷ singles last)

abbrev entries₁ : List Entry
entries₁ =
    feed 0 (pos 5) ⇒ told accepted
    ∷ feed 0 (negsuc 2) ⇒ told (refused 10)
    ∷ pick 0 ⇒ told moved
    ∷ feed 0 (negsuc 2) ⇒ told accepted
    ∷ pick 0 ⇒ told moved
    ∷ pick 0 ⇒ told moved
    ∷ pick 0 ⇒ told moved
    ∷ pick 0 ⇒ told moved
    ∷ pick 0 ⇒ told moved
    ∷ pick 0 ⇒ told (waiting_full 1)
    ∷ take 1 ⇒ told (value (pos 10))
    ∷ pick 0 ⇒ told moved
    ∷ pick 0 ⇒ told moved
    ∷ pick 0 ⇒ told (waiting_empty 0)
    ∷ close 0 ⇒ told accepted
    ∷ pick 0 ⇒ told moved
    ∷ pick 0 ⇒ told moved
    ∷ pick 0 ⇒ told ended
    ∷ []

abbrev w₁ : World
w₁ = board (sample 1) (filled (pos 0))

fit₁ : Fit w₁
fit₁ = fit (sample 1) (filled (pos 0)) lane.pass₁ (many_filled (pos 0))

answered₁ : replies (calls_of entries₁) w₁ ≡ replies_of entries₁
unfolding playing
answered₁ = replies_are (calls_of entries₁) w₁ fit₁

written₁ : written_out acts₁ ≡ calls (calls_of entries₁)
written₁ = refl

fair₁ : Fair (sample 1) input acts₁ w₁
unfolding playing
fair₁ =
    (fair_as_steps (sample 1) input acts₁ w₁).fair.1
    (lane.sample_fair 1 (calls_of entries₁) w₁ fit₁ (record { feeds = record { rest = []; longer = refl }; last = refl; whole = λ e. refl }))

rest₁ : AtRest (sample 1) input acts₁ w₁
unfolding playing
rest₁ = (fair_as_steps (sample 1) input acts₁ w₁).rest.1 (lane.sample_rest 1 (calls_of entries₁) w₁ fit₁ (refl, refl) refl)

-- ---- what the bursts answered, where so many steps were made before
module _ (acts : List Act) (ks : List Call) (w : World) (f : Fit w) (same_steps : written_out acts ≡ calls ks) (c : ℕ) (vs : List ℤ) where
  abbrev left : World
  left = (computed 0 ks w).left

  reached : after acts w ≡ left
  reached = sym (same acts w).left ∙ ap (λ (l : List steps.Step). steps.after l w) same_steps ∙ left_is ks w f

  fit_there : Fit left
  fit_there = subst⁻¹ Fit (sym (left_is ks w f)) (fit_left ks w f)

  answers : no_channel_there c left ≡ false → sender_inside c left ≡ false → is_closed c left ≡ false
      → ((burst_of c vs (after acts w)).fed ≡ room_for c (length vs) left) × ((burst_of c vs (after acts w)).answer ≡ stopped (room_for c (length vs) left) (length vs))
  answers there outer unclosed =
      let o : Open c left =
      record { cells = ap not (eq-eqb _ _ fit_there.many); sound = ap not fit_there.sound; there = there; outer = outer; unclosed = unclosed } in
      let r = as_many_as_fit c vs left o in
      (ap (λ (x : World). (burst_of c vs x).fed) reached ∙ r.0, ap (λ (x : World). (burst_of c vs x).answer) reached ∙ r.1)

-- the first value went in, the second found the channel full
part_way : ((burst_of 0 (pos 5 ∷ negsuc 2 ∷ []) w₁).fed ≡ 1) × ((burst_of 0 (pos 5 ∷ negsuc 2 ∷ []) w₁).answer ≡ refused 10)
unfolding playing
part_way = answers [] [] w₁ fit₁ refl 0 (pos 5 ∷ negsuc 2 ∷ []) refl refl refl

-- after a receive there was room for it
rest_of_it : ((burst_of 0 (negsuc 2 ∷ []) (after before₁ w₁)).fed ≡ 1) × ((burst_of 0 (negsuc 2 ∷ []) (after before₁ w₁)).answer ≡ accepted)
unfolding playing
rest_of_it = answers before₁ (feed 0 (pos 5) ∷ feed 0 (negsuc 2) ∷ second) w₁ fit₁ refl 0 (negsuc 2 ∷ []) refl refl refl

-- and no burst of nothing is refused where the channel is full
abbrev full₁ : List Act
full₁ = before₁ ++ (burst 0 (negsuc 2 ∷ []) ∷ [])

none_on_full : ((burst_of 0 [] (after full₁ w₁)).fed ≡ 0) × ((burst_of 0 [] (after full₁ w₁)).answer ≡ accepted)
unfolding playing
none_on_full = answers full₁ (feed 0 (pos 5) ∷ feed 0 (negsuc 2) ∷ pick 0 ∷ feed 0 (negsuc 2) ∷ []) w₁ fit₁ refl 0 [] refl refl refl

-- ---- capacity 2, other cells: all in one burst
abbrev acts₂ : List Act
acts₂ =
    burst 0 (pos 5 ∷ negsuc 2 ∷ [])
    ∷ singles (close 0 ∷ pick 0 ∷ pick 0 ∷ pick 0 ∷ pick 0 ∷ pick 0 ∷ pick 0 ∷ pick 0 ∷ pick 0 ∷ pick 0 ∷ pick 0 ∷ pick 0 ∷ [])

abbrev calls₂ : List Call
calls₂ =
    feed 0 (pos 5) ∷ feed 0 (negsuc 2)
    ∷ close 0 ∷ pick 0 ∷ pick 0 ∷ pick 0 ∷ pick 0 ∷ pick 0 ∷ pick 0 ∷ pick 0 ∷ pick 0 ∷ pick 0 ∷ pick 0 ∷ pick 0 ∷ []

abbrev w₂ : World
w₂ = board (sample 2) (filled (pos 7))

fit₂ : Fit w₂
fit₂ = fit (sample 2) (filled (pos 7)) lane.pass₂ (many_filled (pos 7))

whole : ((burst_of 0 (pos 5 ∷ negsuc 2 ∷ []) w₂).fed ≡ 2) × ((burst_of 0 (pos 5 ∷ negsuc 2 ∷ []) w₂).answer ≡ accepted)
unfolding playing
whole = answers [] [] w₂ fit₂ refl 0 (pos 5 ∷ negsuc 2 ∷ []) refl refl refl

fair₂ : Fair (sample 2) input acts₂ w₂
unfolding playing
fair₂ =
    (fair_as_steps (sample 2) input acts₂ w₂).fair.1
    (lane.sample_fair 2 calls₂ w₂ fit₂ (record { feeds = record { rest = []; longer = refl }; last = refl; whole = λ e. refl }))

rest₂ : AtRest (sample 2) input acts₂ w₂
unfolding playing
rest₂ = (fair_as_steps (sample 2) input acts₂ w₂).rest.1 (lane.sample_rest 2 calls₂ w₂ fit₂ (refl, refl) refl)

-- ---- the theorem at these
holds : Holds (sample 1) input acts₁ w₁
holds = one_board_with_bursts (file_of (sample 1)) (sample 1) lane.read₁ (filled (pos 0)) (many_filled (pos 0)) input acts₁ fair₁

agree : AgreeWith (sample 1) acts₁ acts₂ w₁ w₂
agree =
    any_spare_fits_with_bursts (file_of (sample 1)) (file_of (sample 2)) (sample 1) (sample 2) lane.read₁ lane.read₂ lane.alike (filled (pos 0)) (filled (pos 7))
    (many_filled (pos 0)) (many_filled (pos 7)) input acts₁ acts₂ fair₁ fair₂ rest₁ rest₂

-- and what was sent, in and out
sent_in : sent acts₁ w₁ 0 ≡ pos 5 ∷ negsuc 2 ∷ []
unfolding playing
sent_in = sym ((same acts₁ w₁).sends 0) ∙ sent_is (calls_of entries₁) w₁ fit₁ 0

sent_out : sent acts₁ w₁ 1 ≡ pos 10 ∷ negsuc 5 ∷ []
unfolding playing
sent_out = sym ((same acts₁ w₁).sends 1) ∙ sent_is (calls_of entries₁) w₁ fit₁ 1
