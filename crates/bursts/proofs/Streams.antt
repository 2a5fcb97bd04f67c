-- Single feeds told on one channel: how many go in, its record, the count of accepted calls and the cells, until the channel is full.
-- Assumes nothing.
use mathlib.Core.Path.{◌≡◌, refl, sym, ap, ap₂, ◌∙◌}
use mathlib.Core.Bool.{Bool, true, false, cond, not}
use mathlib.Core.List.{List, [], ◌∷◌}
use Prim.Native.Nat.{ℕ, suc, ◌+◌, ◌<◌}
use native.Mathlib.Decide.{dec_lt}
use native.Mathlib.Omega.{arith}
use borrow.Author.Tests.{lt-ltb, le-ltb, eq-eqb}
use lib.IntN.{ℤ}
use lib.ListN.{length, get_or, set}
use lib.Seq.{get_or-set_same, set-set}
use Rattle.process.specs.declared.Channel.{Channel}
use Rattle.process.specs.Channels.{no_channel, put_one, slot}
use Rattle.process.specs.Execute.{full}
use Rattle.process.specs.Want.{counted}
use Rattle.network.specs.Rules.{sender_of, outside}
use Rattle.lane.specs.declared.Lane.{Lane}
use Rattle.lane.specs.State.{World, world}
use Rattle.lane.specs.Sound.{sound_of}
use Rattle.lane.specs.Calls.{accepted, refused, Called, called, refuse, cells_wrong, unsound, no_channel_there, sender_inside, is_closed, receiver_ended, stored, counting, feed_of}
use Rattle.lane.proofs.CallLaws.{feed_kept}
use Rattle.bursts.specs.Bursts.{Delivery, onward, feeds_of}
use Rattle.bursts.specs.Singly.{stopped}

-- so far: how many values went in, the channel, the count of accepted calls, the cells
pub record Stream : Type 0 where
  pub fed : ℕ
  pub channel : Channel
  pub accepted : ℕ
  pub cells : List ℤ

abbrev pub stream : ℕ → Channel → ℕ → List ℤ → Stream
stream n h a cells = record { fed = n; channel = h; accepted = a; cells = cells }

-- a value at channel c, which has room, or whose receiver has ended (`gone`)
abbrev pub pour_one : ℕ → Bool → ℤ → Stream → Stream
pour_one c gone v s =
    stream (s.fed + 1) (cond gone s.channel (put_one s.channel)) (counted s.accepted)
    (cond gone s.cells (set s.cells (slot c s.channel s.channel.held) v))

-- values, until the channel is full
unfoldable pub pour_of : ℕ → Bool → List ℤ → Stream → Stream
pour_of c gone [] s = s
pour_of c gone (v ∷ vs) s = cond (full gone s.channel) s (pour_of c gone vs (pour_one c gone v s))

-- the lane with its channel c and its count so, and the cells
abbrev pub poured : ℕ → Lane → Stream → World
poured c l s =
    world
    (record { network = l.network; registers = l.registers; processes = l.processes; channels = set l.channels c s.channel; accepted = s.accepted })
    s.cells

-- ---- single feeds are so
-- channel c of the lane is there and comes from outside; its receiver has ended or not
pub record Outer (c : ℕ) (l : Lane) (gone : Bool) : Type 0 where
  pub low : c < length l.channels
  pub there : c < l.network.channels
  pub outer : sender_of l.network c ≡ outside
  pub ended : receiver_ended c (world l []) ≡ gone

-- what the tests 15, 16 and 11 look at, on the way
pub record Ready (c : ℕ) (l : Lane) (s : Stream) : Type 0 where
  pub long : length s.cells ≡ 8192
  pub sound : sound_of (poured c l s).lane ≡ true
  pub unclosed : s.channel.closed ≡ false

-- what single feeds leave, and what is told of the channel
pub record Ends (c : ℕ) (l : Lane) (n : ℕ) (s end : Stream) (b : Delivery) : Type 0 where
  pub fed : end.fed ≡ s.fed + b.fed
  pub answer : b.answer ≡ stopped b.fed n
  pub left : b.world ≡ poured c l end

stopped_suc : (a n : ℕ) → stopped (suc a) (suc n) ≡ stopped a n
stopped_suc a n = go (dec_lt a n)
  where
    go : Dec (a < n) → stopped (suc a) (suc n) ≡ stopped a n
    go (yes d) = rw (lt-ltb (suc a) (suc n) (omega arith), lt-ltb a n d)
    go (no d) = rw (le-ltb (suc a) (suc n) (omega arith), le-ltb a n (omega arith))

stopped_none : (n : ℕ) → stopped 0 (suc n) ≡ refused 10
stopped_none n = rw (lt-ltb 0 (suc n) (omega arith))

-- a test that passes
pub pass : (bad : Bool) (k : ℕ) (w : World) (next : Called) → bad ≡ false → refuse bad k w next ≡ next
pass bad k w next e = ap (λ (b : Bool). refuse b k w next) e

module _ (c : ℕ) (l : Lane) (gone : Bool) (o : Outer c l gone) where
  channel_is : (s : Stream) → get_or (set l.channels c s.channel) c no_channel ≡ s.channel
  channel_is s = get_or-set_same l.channels c s.channel no_channel o.low

  -- a feed passes all tests but the last
  feed_is : (s : Stream) (v : ℤ) → Ready c l s
      → feed_of c v (poured c l s) ≡ refuse (full gone s.channel) 10 (poured c l s) (called accepted (counting (stored c v (poured c l s))))
  unfolding feed_of
  feed_is s v r =
      let w = poured c l s in
      pass (cells_wrong w) 15 w _ (ap not (eq-eqb (length s.cells) 8192 r.long))
      ∙ pass (unsound w) 16 w _ (ap not r.sound)
      ∙ pass (no_channel_there c w) 8 w _ (ap not (lt-ltb c l.network.channels o.there))
      ∙ pass (sender_inside c w) 9 w _ (ap not (eq-eqb (sender_of l.network c) outside o.outer))
      ∙ pass (is_closed c w) 11 w _ (ap (λ (h : Channel). h.closed) (channel_is s) ∙ r.unclosed)
      ∙ ap (λ (f : Bool). refuse f 10 w (called accepted (counting (stored c v w)))) (ap₂ full o.ended (channel_is s))

  -- a full channel
  stops : (s : Stream) (v : ℤ) → Ready c l s → full gone s.channel ≡ true → feed_of c v (poured c l s) ≡ called (refused 10) (poured c l s)
  stops s v r e = feed_is s v r ∙ ap (λ (f : Bool). refuse f 10 (poured c l s) (called accepted (counting (stored c v (poured c l s))))) e

  -- a value that goes in
  stored_is : (s : Stream) (v : ℤ) (g : Bool) → gone ≡ g → counting (stored c v (poured c l s)) ≡ poured c l (pour_one c g v s)
  stored_is s v true e = rw (o.ended ∙ e)
  stored_is s v false e = rw (o.ended ∙ e, channel_is s, set-set l.channels c s.channel (put_one s.channel))

  closed_is : (s : Stream) (v : ℤ) (g : Bool) → (pour_one c g v s).channel.closed ≡ s.channel.closed
  closed_is s v true = refl
  closed_is s v false = refl

  goes : (s : Stream) (v : ℤ) → Ready c l s → full gone s.channel ≡ false → feed_of c v (poured c l s) ≡ called accepted (poured c l (pour_one c gone v s))
  goes s v r f = feed_is s v r ∙ rw f (ap (called accepted) (stored_is s v gone refl))

  ready_on : (s : Stream) (v : ℤ) → Ready c l s → full gone s.channel ≡ false → Ready c l (pour_one c gone v s)
  ready_on s v r f =
      let k = feed_kept (poured c l s) c v in
      let e = ap (λ (d : Called). d.world) (goes s v r f) in
      record {
        long = ap (λ (w : World). length w.cells) (sym e) ∙ k.cells ∙ r.long;
        sound = ap (λ (w : World). sound_of w.lane) (sym e) ∙ k.sound r.sound;
        unclosed = closed_is s v gone ∙ r.unclosed;
      }

  pub pour_feeds : (vs : List ℤ) (s : Stream) → Ready c l s → Ends c l (length vs) s (pour_of c gone vs s) (feeds_of c vs (poured c l s))
  unfolding pour_of feeds_of
  pour_feeds [] s r = record { fed = omega arith; answer = refl; left = refl }
  pour_feeds (v ∷ vs) s r = go (full gone s.channel) refl (pour_feeds vs (pour_one c gone v s))
    where
      go : (f : Bool) → full gone s.channel ≡ f
          → (Ready c l (pour_one c gone v s) → Ends c l (length vs) (pour_one c gone v s) (pour_of c gone vs (pour_one c gone v s)) (feeds_of c vs (poured c l (pour_one c gone v s))))
          → Ends c l (suc (length vs)) s (cond f s (pour_of c gone vs (pour_one c gone v s))) (onward (feed_of c v (poured c l s)) (feeds_of c vs (feed_of c v (poured c l s)).world))
      go true e later = rw (stops s v r e) (record { fed = omega arith; answer = sym (stopped_none (length vs)); left = refl })
      go false e later =
          let i = later (ready_on s v r e) in
          rw (goes s v r e) (record { fed = omega (arith, i.fed); answer = i.answer ∙ sym (stopped_suc (feeds_of c vs (poured c l (pour_one c gone v s))).fed (length vs)); left = i.left })
