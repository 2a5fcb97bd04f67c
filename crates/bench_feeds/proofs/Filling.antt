-- One channel's input: the records that are left, a feed taken or refused, the closing, and a channel at which nothing can be fed or closed.
-- Assumes nothing.
use mathlib.Core.Path.{◌≡◌, refl, sym, ap, ◌∙◌}
use mathlib.Core.Bool.{Bool, true, false, cond, ◌&&◌, ◌||◌, true≢false}
use mathlib.Core.List.{List, [], ◌∷◌}
use Prim.Native.Nat.{ℕ, suc, ◌+◌, ◌-◌, ◌≤◌, ◌<◌}
use native.Mathlib.Numerals.{add-one}
use native.Mathlib.Omega.{arith}
use borrow.Author.Tests.{ltb-true, eqb-true, eq-eqb, ne_eqb}
use lib.Dec.{eqb, ltb}
use lib.IntN.{ℤ}
use lib.ListN.{length}
use Rattle.std.specs.Prelude.{Result, Ok, Err}
use Rattle.std.specs.Result.{is_err}
use Rattle.base.specs.declared.Refusal.{Refusal}
use Rattle.base.specs.Refusals.{number_of}
use Rattle.base.proofs.Conjunction.{both_true}
use Rattle.network.specs.Rules.{sender_of, outside}
use Rattle.process.specs.Execute.{full}
use Rattle.lane.specs.declared.Lane.{Lane}
use Rattle.lane.specs.State.{World, world, channel_of}
use Rattle.lane.specs.Sound.{sound_of}
use Rattle.lane.specs.Calls.{Told, refused, Called, called, feed_told, is_closed, receiver_ended, feed_of}
use Rattle.lane.proofs.CallCases.{feed_cases, close_cases}
use Rattle.lane.proofs.CallLaws.{feed_refused}
use Rattle.lent_calls.specs.OneChannel.{fed_or_not, closed_or_not}
use Rattle.lent_calls.proofs.There.{feed_there, close_there}
use Rattle.bench_rules.specs.Input.{records, channel_at, value_at, left_from}
use Rattle.bench_rules.specs.Feeding.{is_accepted, fed, feeding}
use Rattle.bench_feeds.specs.Idle.{idle_at}

-- ---- what is left at record i
module _ (input : List ℕ) (c i : ℕ) where
  -- no record any more
  left_none : records input ≤ i → left_from input c i ≡ []
  left_none h = let n : records input - i ≡ 0 = omega arith in rw n

  -- a record of another channel
  left_other : i < records input → (channel_at input i ≡ c → ⊥) → left_from input c i ≡ left_from input c (i + 1)
  left_other h n = let l : records input - i ≡ suc (records input - (i + 1)) = omega arith in rw (l, ne_eqb (channel_at input i) c n, add-one i)

  -- a record of this one
  left_this : i < records input → channel_at input i ≡ c → left_from input c i ≡ value_at input i ∷ left_from input c (i + 1)
  left_this h e = let l : records input - i ≡ suc (records input - (i + 1)) = omega arith in rw (l, eq-eqb (channel_at input i) c e, add-one i)

-- ---- what feeding a value comes to, by what the feed answered
feeding_by : (c : ℕ) (v : ℤ) (vs : List ℤ) (w : World) (r : Called) → r ≡ feed_of c v w
    → feeding c (v ∷ vs) w ≡ cond (is_accepted r.answer) (feeding c vs r.world) (fed (v ∷ vs) w)
feeding_by c v vs w r e = ap (λ (s : Called). cond (is_accepted s.answer) (feeding c vs s.world) (fed (v ∷ vs) w)) (sym e)

-- a refused feed leaves the world
feed_left : (c : ℕ) (v : ℤ) (w w' : World) (k : ℕ) → called (refused k) w' ≡ feed_of c v w → w ≡ w'
feed_left c v w w' k e = sym (ap (λ (r : Called). r.world) e ∙ feed_refused w c v k (sym (ap (λ (r : Called). r.answer) e)))

-- ---- the channel that is fed is there, and comes from outside
pub record Inlet (c : ℕ) (w : World) : Type 0 where
  pub sound : sound_of w.lane ≡ true
  pub there : c < w.lane.network.channels
  pub outer : sender_of w.lane.network c ≡ outside
  pub long : length w.cells ≡ 8192

-- as it was at the start, with the same network
pub inlet_at : {c : ℕ} {l : Lane} (l₀ : Lane) {cells : List ℤ} → sound_of l ≡ true → l.network ≡ l₀.network → length cells ≡ 8192
    → (c < l₀.network.channels) × (sender_of l₀.network c ≡ outside) → Inlet c (world l cells)
inlet_at l₀ s e long at = record { sound = s; there = rw e at.0; outer = rw e at.1; long = long }

-- ---- a step of the loop over the records, at record i
module _ (input : List ℕ) (c i : ℕ) (w : World) where
  -- a record of another channel is passed
  pub passed_over : i < records input → (channel_at input i ≡ c → ⊥) → feeding c (left_from input c i) w ≡ feeding c (left_from input c (i + 1)) w
  passed_over h n = ap (λ (vs : List ℤ). feeding c vs w) (left_other input c i h n)

  -- a value is taken
  pub taken_in : (r : Result Unit Refusal) {w' : World} → is_err r ≡ false → Inlet c w → i < records input → channel_at input i ≡ c
      → called (feed_told r) w' ≡ fed_or_not c (value_at input i) w
      → feeding c (left_from input c i) w ≡ feeding c (left_from input c (i + 1)) w'
  taken_in (Ok u) e t h d f =
      ap (λ (vs : List ℤ). feeding c vs w) (left_this input c i h d)
      ∙ feeding_by c (value_at input i) (left_from input c (i + 1)) w _ (f ∙ sym (feed_there c w t.sound t.there (value_at input i) t.long t.outer))
  taken_in (Err k) e t h d f = absurd (true≢false e)

  -- a value is refused
  pub turned_down : (r : Result Unit Refusal) {w' : World} → is_err r ≡ true → Inlet c w → i < records input → channel_at input i ≡ c
      → called (feed_told r) w' ≡ fed_or_not c (value_at input i) w
      → feeding c (left_from input c i) w ≡ fed (left_from input c i) w'
  turned_down (Ok u) e t h d f = absurd (true≢false (sym e))
  turned_down (Err k) {w'} e t h d f =
      let g = f ∙ sym (feed_there c w t.sound t.there (value_at input i) t.long t.outer) in
      ap (λ (vs : List ℤ). feeding c vs w) (left_this input c i h d) ∙ feeding_by c (value_at input i) (left_from input c (i + 1)) w _ g
      ∙ (λ j. fed (sym (left_this input c i h d) j) (feed_left c (value_at input i) w w' (number_of k) g j))

  -- all is fed: the closing
  pub spent : {a : Told} {w' : World} (k : ℕ) → Inlet c w → records input ≤ i → records input ≤ k → called a w' ≡ closed_or_not c w
      → feeding c (left_from input c i) w ≡ fed (left_from input c k) w'
  spent k t h m f =
      let g = f ∙ sym (close_there c w t.sound t.there t.outer) in
      ap (λ (vs : List ℤ). feeding c vs w) (left_none input c i h) ∙ (λ j. fed (sym (left_none input c k m) j) (sym g j).world)

-- ---- a channel at which nothing can be fed or closed
module _ (c : ℕ) (w : World) where
  not_taken : (v : ℤ) (vs : List ℤ) → is_accepted (feed_of c v w).answer ≡ false → feeding c (v ∷ vs) w ≡ fed (v ∷ vs) w
  not_taken v vs e = rw e

  -- a closed one
  closed_stays : (vs : List ℤ) → is_closed c w ≡ true → feeding c vs w ≡ fed vs w
  closed_stays [] e = ap (fed []) (close_cases (λ (r : Called). r.world ≡ w) w (λ k. refl) c (λ t. absurd (true≢false (sym e ∙ t.unclosed))))
  closed_stays (v ∷ vs) e = not_taken v vs (feed_cases (λ (r : Called). is_accepted r.answer ≡ false) w (λ k. refl) c v (λ t. absurd (true≢false (sym e ∙ t.unclosed))))

  -- a full one, with a value left
  full_stays : (v : ℤ) (vs : List ℤ) → full (receiver_ended c w) (channel_of w.lane c) ≡ true → feeding c (v ∷ vs) w ≡ fed (v ∷ vs) w
  full_stays v vs e = not_taken v vs (feed_cases (λ (r : Called). is_accepted r.answer ≡ false) w (λ k. refl) c v (λ t. absurd (true≢false (sym e ∙ t.room))))

  pub idle_stays : (input : List ℕ) (next : ℕ) → idle_at (channel_of w.lane c) (receiver_ended c w) input c next ≡ true
      → feeding c (left_from input c next) w ≡ fed (left_from input c next) w
  unfolding idle_at
  idle_stays input next = go (is_closed c w) refl
    where
      go : (shut : Bool) → is_closed c w ≡ shut
          → (shut || (full (receiver_ended c w) (channel_of w.lane c) && (ltb next (records input) && eqb (channel_at input next) c))) ≡ true
          → feeding c (left_from input c next) w ≡ fed (left_from input c next) w
      go true e t = closed_stays (left_from input c next) e
      go false e t =
          let a = both_true _ _ t in
          let b = both_true _ _ a.1 in
          rw (left_this input c next (ltb-true _ _ b.0) (eqb-true _ _ b.1)) (full_stays _ _ a.0)
