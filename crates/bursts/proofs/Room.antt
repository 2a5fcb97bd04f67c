-- How many values of a burst go in: as many as there is room for, or all where the receiver has ended.
-- Assumes nothing.
use mathlib.Core.Path.{◌≡◌, refl, sym, ap, ◌∙◌, subst⁻¹}
use mathlib.Core.Logic.{◌⊎◌, inl, inr}
use mathlib.Core.Bool.{Bool, true, false, cond, not, false≢true}
use mathlib.Core.List.{List, [], ◌∷◌}
use Prim.Native.Nat.{ℕ, suc, ◌+◌, ◌≤◌, ◌<◌}
use native.Mathlib.Decide.{dec_lt}
use native.Mathlib.Omega.{arith}
use borrow.Author.Tests.{lt-ltb, eq-eqb, ltb-true, eqb-true, eqb-false, not-false}
use lib.Dec.{eqb, ltb}
use lib.IntN.{ℤ}
use lib.ListN.{length, get_or-eq_default}
use lib.Seq.{set-get_or}
use Rattle.process.specs.declared.Channel.{Channel}
use Rattle.process.specs.Channels.{no_channel, put_one}
use Rattle.lane.specs.declared.Lane.{Lane}
use Rattle.lane.specs.State.{World, world, channel_of, put_channels}
use Rattle.lane.specs.Sound.{sound_of}
use Rattle.lane.specs.Calls.{Told, accepted, refused, Called, receiver_ended, feed_of}
use Rattle.lane.proofs.CallCases.{feed_cases}
use Rattle.lane.proofs.SoundLaws.{sound_says}
use Rattle.bursts.specs.Bursts.{Delivery, delivery, is_accepted, feeds_of, burst_of}
use Rattle.bursts.proofs.Streams.{Stream, stream, pour_one, pour_of, poured, Outer, Ready, pour_feeds}
use Rattle.bursts.proofs.Ways.{burst_open}
use Rattle.bursts.specs.Singly.{Open, room_in, room_for, stopped, AsManyAsFit, ThenOnlyFull}

-- ---- on one channel
pour_room : (c : ℕ) (gone : Bool) (vs : List ℤ) (s : Stream) → s.channel.held ≤ s.channel.capacity
    → (pour_of c gone vs s).fed ≡ s.fed + room_in gone (length vs) s.channel
unfolding pour_of
pour_room c true [] s l = omega arith
pour_room c false [] s l = omega arith
pour_room c true (v ∷ vs) s l = omega (arith, pour_room c true vs (pour_one c true v s) l)
pour_room c false (v ∷ vs) s l = go (eqb s.channel.held s.channel.capacity) refl (pour_room c false vs (pour_one c false v s))
  where
    go : (f : Bool) → eqb s.channel.held s.channel.capacity ≡ f
        → (s.channel.held + 1 ≤ s.channel.capacity
        → (pour_of c false vs (pour_one c false v s)).fed ≡ s.fed + 1 + room_in false (length vs) (put_one s.channel))
        → (cond f s (pour_of c false vs (pour_one c false v s))).fed ≡ s.fed + room_in false (suc (length vs)) s.channel
    go true e later = let q = eqb-true s.channel.held s.channel.capacity e in omega arith
    go false e later = let q = eqb-false s.channel.held s.channel.capacity e in let r = later (omega arith) in omega arith

-- ---- on a lane
-- a sound lane has a record for each of its channels
channel_there : (l : Lane) (c : ℕ) → sound_of l ≡ true → c < l.network.channels → c < length l.channels
channel_there l c s t = at (dec_lt c (length l.channels))
  where
    at : Dec (c < length l.channels) → c < length l.channels
    at (yes d) = d
    at (no d) =
        let low = ((sound_says l s).channels c t).low in
        let e : (channel_of l c).capacity ≡ 0 = ap (λ (h : Channel). h.capacity) (get_or-eq_default l.channels no_channel (omega arith)) in
        absurd (omega arith)

module _ (c : ℕ) (vs : List ℤ) (w : World) (o : Open c w) where
  sound : sound_of w.lane ≡ true
  sound = not-false _ o.sound

  there : c < w.lane.network.channels
  there = ltb-true _ _ (not-false _ o.there)

  long : length w.cells ≡ 8192
  long = eqb-true _ _ (not-false _ o.cells)

  outer : Outer c w.lane (receiver_ended c w)
  outer = record { low = channel_there w.lane c sound there; there = there; outer = eqb-true _ _ (not-false _ o.outer); ended = refl }

  fits : ((burst_of c vs w).fed ≡ room_for c (length vs) w) × ((burst_of c vs w).answer ≡ stopped (room_for c (length vs) w) (length vs))
  fits =
      let l : Lane = w.lane in
      let s : Stream = stream 0 (channel_of l c) l.accepted w.cells in
      let same : poured c l s ≡ w = ap (λ (hs : List Channel). world (put_channels hs l) w.cells) (set-get_or l.channels c no_channel) in
      let ready : Ready c l s = record { long = long; sound = ap (λ (x : World). sound_of x.lane) same ∙ sound; unclosed = o.unclosed } in
      let e = pour_feeds c l (receiver_ended c w) outer vs s ready in
      let f = pour_room c (receiver_ended c w) vs s ((sound_says l sound).channels c there).within in
      let b : burst_of c vs w ≡ feeds_of c vs (poured c l s) = burst_open c vs w long sound there outer.outer ∙ ap (feeds_of c vs) (sym same) in
      let n : (feeds_of c vs (poured c l s)).fed ≡ room_for c (length vs) w = omega (arith, e.fed, f) in
      (ap (λ (d : Delivery). d.fed) b ∙ n, ap (λ (d : Delivery). d.answer) b ∙ e.answer ∙ ap (λ (k : ℕ). stopped k (length vs)) n)

pub as_many_as_fit : AsManyAsFit
as_many_as_fit = fits

-- ---- once one went in, the tests have passed
abbrev Opens : ℕ → World → Called → Type 0
Opens c w r = is_accepted r.answer ≡ true → Open c w

opened_by : (c : ℕ) (v : ℤ) (w : World) → is_accepted (feed_of c v w).answer ≡ true → Open c w
opened_by c v w =
    feed_cases (Opens c w) w (λ k e. absurd (false≢true e)) c v
    (λ t e.
    record {
      cells = ap not (eq-eqb _ _ t.long);
      sound = ap not t.sound;
      there = ap not (lt-ltb _ _ t.there);
      outer = ap not (eq-eqb _ _ t.outer);
      unclosed = t.unclosed;
    })

either : (fed n : ℕ) → (stopped fed n ≡ accepted) ⊎ (stopped fed n ≡ refused 10)
either fed n = at (ltb fed n)
  where
    at : (t : Bool) → (cond t (refused 10) accepted ≡ accepted) ⊎ (cond t (refused 10) accepted ≡ refused 10)
    at true = inr refl
    at false = inl refl

first_taken : (c : ℕ) (v : ℤ) (vs : List ℤ) (w : World) → 0 < (burst_of c (v ∷ vs) w).fed → is_accepted (feed_of c v w).answer ≡ true
unfolding burst_of feeds_of
first_taken c v vs w = at (is_accepted (feed_of c v w).answer) (feeds_of c vs (feed_of c v w).world)
  where
    at : (t : Bool) (b : Delivery) → 0 < (cond t (delivery (suc b.fed) b.answer b.world) (delivery 0 (feed_of c v w).answer (feed_of c v w).world)).fed → t ≡ true
    at true b l = refl
    at false b l = absurd (omega arith)

none_first : (c : ℕ) (w : World) → 0 < (burst_of c [] w).fed → ⊥
unfolding burst_of
none_first c w l = omega arith

pub then_only_full : ThenOnlyFull
then_only_full c [] w l = absurd (none_first c w l)
then_only_full c (v ∷ vs) w l =
    let o = opened_by c v w (first_taken c v vs w l) in
    subst⁻¹ (λ (a : Told). (a ≡ accepted) ⊎ (a ≡ refused 10)) (as_many_as_fit c (v ∷ vs) w o).1 (either (room_for c (length (v ∷ vs)) w) (length (v ∷ vs)))
