-- What a sound lane has, fact by fact, and back; the lane at the start of a network that passes the file's rules is sound.
-- Assumes nothing.
use mathlib.Core.Path.{◌≡◌, refl, sym, ap, ◌∙◌}
use mathlib.Core.Bool.{Bool, true, false, not, ◌&&◌, ◌||◌, false≢true}
use mathlib.Core.List.{List}
use Prim.Native.Nat.{ℕ, zero, suc, ◌+◌, ◌-◌, ◌*◌, ◌%◌, ◌≤◌, ◌<◌}
use borrow.Author.Tests.{ltb-true, lt-ltb, le-ltb, leb-true, le-leb, eqb-true, eq-eqb, not-true}
use native.Mathlib.Decide.{dec_lt}
use native.Mathlib.Omega.{arith}
use lib.Dec.{eqb, ltb, leb}
use lib.IntN.{ℤ, pos, negsuc}
use lib.ListN.{length, get_or, get_or-eq_default}
use Rattle.base.specs.Tests.{first_bad, is_good}
use Rattle.base.proofs.Tests.{each_true, all_true}
use Rattle.base.proofs.Lists.{table_at, same_at}
use Rattle.network.specs.declared.Network.{Network}
use Rattle.network.specs.Rules.{count_of, sender_of, receiver_of, capacity_of, outside, end_right, ends_right, record_right, records, record_zero, unused_records, passes}
use Rattle.base.proofs.Conjunction.{both_true, good_is, between_true, true_between}
use Rattle.network.proofs.Slot.{right_at}
use Rattle.network.proofs.Passed.{passed}
use Rattle.process.specs.declared.Condition.{Condition}
use Rattle.process.specs.declared.Condition.TheVariants.{Live, Stopped, Faulted}
use Rattle.process.specs.declared.Channel.{Channel}
use Rattle.process.specs.Channels.{no_channel}
use Rattle.process.specs.Want.{is_null}
use Rattle.lane.specs.declared.Standing.{Standing}
use Rattle.lane.specs.declared.Lane.{Lane}
use Rattle.lane.specs.State.{no_standing, standing_of, is_ended, ended_at, channel_of, fresh_channel, fresh_of}
use Rattle.lane.specs.Sound.{position_sound, channel_sound, channel_sound_at, standing_zero, channel_zero, positions, channels_sound, unused_standings, unused_registers, unused_channels, sound_of}

-- ---- tests
-- "where a, b" as a test
pub implied : (a b : Bool) → (not a || b) ≡ true → a ≡ true → b ≡ true
implied true b e q = e
implied false b e q = absurd (false≢true q)

pub implies : (a b : Bool) → (a ≡ true → b ≡ true) → (not a || b) ≡ true
implies true b f = f refl
implies false b f = refl

-- a test of each place of a range, and what it says
pub at_each : (good : ℕ → Bool) (i n : ℕ) → is_good (first_bad good i n) ≡ true → (k : ℕ) → i ≤ k → k < i + n → good k ≡ true
at_each good i n e = each_true good i n (good_is _ e)

pub each_at : (good : ℕ → Bool) (i n : ℕ) → ((k : ℕ) → i ≤ k → k < i + n → good k ≡ true) → is_good (first_bad good i n) ≡ true
each_at good i n g = ap is_good (all_true good i n g)

-- ---- a channel
pub record ChannelSound (sender_ended receiver_ended : Bool) (h : Channel) : Type 0 where
  pub within : h.held ≤ h.capacity
  pub low : 1 ≤ h.capacity
  pub high : h.capacity ≤ 256
  pub place : h.oldest < 256
  pub reached : h.held ≤ h.peak
  pub topped : h.peak ≤ h.capacity
  pub shut : sender_ended ≡ true → h.closed ≡ true
  pub drained : receiver_ended ≡ true → h.held ≡ 0

pub channel_says : (s r : Bool) (h : Channel) → channel_sound s r h ≡ true → ChannelSound s r h
unfolding channel_sound
channel_says s r h e =
    let d = both_true _ (not r || eqb h.held 0) e in
    let c = both_true _ (not s || h.closed) d.0 in
    let t = both_true _ (leb h.peak h.capacity) c.0 in
    let m = both_true _ (leb h.held h.peak) t.0 in
    let o = both_true _ (leb h.oldest 255) m.0 in
    let b = both_true (leb h.held h.capacity) _ o.0 in
    let w = between_true 1 h.capacity 256 b.1 in
    record {
      within = leb-true _ _ b.0;
      low = w.0;
      high = w.1;
      place = omega (arith, leb-true h.oldest 255 o.1);
      reached = leb-true _ _ m.1;
      topped = leb-true _ _ t.1;
      shut = implied s _ c.1;
      drained = λ q. eqb-true _ _ (implied r _ d.1 q);
    }

pub says_channel : (s r : Bool) (h : Channel) → ChannelSound s r h → channel_sound s r h ≡ true
unfolding channel_sound
says_channel s r h g =
    rw (
      le-leb h.held h.capacity g.within,
      true_between 1 h.capacity 256 g.low g.high,
      le-leb h.oldest 255 (omega arith),
      le-leb h.held h.peak g.reached,
      le-leb h.peak h.capacity g.topped,
      implies s h.closed g.shut,
      implies r (eqb h.held 0) (λ q. eq-eqb _ _ (g.drained q)),
    )

-- ---- what is zero
abbrev standing : ℕ → Condition → ℕ → Standing
standing position condition moves = record { position = position; condition = condition; moves = moves }

abbrev channel : ℕ → ℕ → ℕ → ℕ → Bool → Channel
channel capacity oldest held peak closed = record { capacity = capacity; oldest = oldest; held = held; peak = peak; closed = closed }

not_ended : (k : Condition) → is_ended k ≡ false → k ≡ Live
not_ended Live e = refl
not_ended Stopped e = absurd (false≢true (sym e))
not_ended Faulted e = absurd (false≢true (sym e))

standing_is : (position : ℕ) (condition : Condition) (moves : ℕ) → position ≡ 0 → condition ≡ Live → moves ≡ 0 → standing position condition moves ≡ no_standing
standing_is position condition moves p q r = rw (p, q, r)

pub standing_zero_lem : (s : Standing) → standing_zero s ≡ true → s ≡ no_standing
standing_zero_lem s e =
    let m = both_true _ (eqb s.moves 0) e in
    let d = both_true (eqb s.position 0) (not (is_ended s.condition)) m.0 in
    standing_is _ _ _ (eqb-true _ _ d.0) (not_ended _ (not-true _ d.1)) (eqb-true _ _ m.1)

channel_is : (capacity oldest held peak : ℕ) (closed : Bool) → capacity ≡ 0 → oldest ≡ 0 → held ≡ 0 → peak ≡ 0 → closed ≡ false
    → channel capacity oldest held peak closed ≡ no_channel
channel_is capacity oldest held peak closed p q r m t = rw (p, q, r, m, t)

pub channel_zero_lem : (h : Channel) → channel_zero h ≡ true → h ≡ no_channel
channel_zero_lem h e =
    let c = both_true _ (not h.closed) e in
    let t = both_true _ (eqb h.peak 0) c.0 in
    let m = both_true _ (eqb h.held 0) t.0 in
    let o = both_true (eqb h.capacity 0) (eqb h.oldest 0) m.0 in
    channel_is _ _ _ _ _ (eqb-true _ _ o.0) (eqb-true _ _ o.1) (eqb-true _ _ m.1) (eqb-true _ _ t.1) (not-true _ c.1)

pub null_is : (z : ℤ) → is_null z ≡ true → z ≡ pos 0
null_is (pos zero) e = refl
null_is (pos (suc n)) e = absurd (false≢true e)
null_is (negsuc n) e = absurd (false≢true e)

-- ---- the end of a channel, read at its number modulo 16: only a process below 16 has ended
pub ended_at_lem : (s : List Standing) → length s ≡ 16 → (e : ℕ) → (ltb e 16 && is_ended (get_or s (e % 16) no_standing).condition) ≡ is_ended (get_or s e no_standing).condition
ended_at_lem s long e = go (dec_lt e 16)
  where
    go : Dec (e < 16) → (ltb e 16 && is_ended (get_or s (e % 16) no_standing).condition) ≡ is_ended (get_or s e no_standing).condition
    go (yes h) = let q : e % 16 ≡ e = omega arith in rw (lt-ltb e 16 h, q)
    go (no h) = rw (le-ltb e 16 (omega arith), get_or-eq_default s no_standing {n = e} (omega arith))

-- ---- a lane
pub record Sound (l : Lane) : Type 0 where
  pub passed : passes l.network ≡ true
  pub positions : (p : ℕ) → p < l.network.processes → (standing_of l p).position < count_of l.network p
  pub channels : (c : ℕ) → c < l.network.channels → ChannelSound (ended_at l (sender_of l.network c)) (ended_at l (receiver_of l.network c)) (channel_of l c)
  pub standings : (p : ℕ) → l.network.processes ≤ p → p < 16 → standing_of l p ≡ no_standing
  pub registers : (r : ℕ) → 8 * l.network.processes ≤ r → r < 128 → get_or l.registers r (pos 0) ≡ pos 0
  pub unused : (c : ℕ) → l.network.channels ≤ c → c < 32 → channel_of l c ≡ no_channel

pub sound_says : (l : Lane) → sound_of l ≡ true → Sound l
unfolding sound_of
sound_says l e =
    let u = both_true _ (unused_channels l) e in
    let r = both_true _ (unused_registers l) u.0 in
    let s = both_true _ (unused_standings l) r.0 in
    let c = both_true _ (channels_sound l) s.0 in
    let p = both_true (passes l.network) (positions l) c.0 in
    record {
      passed = p.0;
      positions = λ k h. ltb-true _ _ (at_each (position_sound l) 0 l.network.processes p.1 k (omega arith) (omega arith));
      channels = λ k h. channel_says _ _ _ (at_each (channel_sound_at l) 0 l.network.channels c.1 k (omega arith) (omega arith));
      standings =
          λ k h m. standing_zero_lem _
          (at_each (λ p. standing_zero (standing_of l p)) l.network.processes (16 - l.network.processes) s.1 k h (omega arith));
      registers =
          λ k h m. null_is _
          (at_each (λ r. is_null (get_or l.registers r (pos 0))) (8 * l.network.processes) (128 - 8 * l.network.processes) r.1 k h (omega arith));
      unused =
          λ k h m. channel_zero_lem _
          (at_each (λ c. channel_zero (channel_of l c)) l.network.channels (32 - l.network.channels) u.1 k h (omega arith));
    }

pub says_sound : (l : Lane) → Sound l → sound_of l ≡ true
unfolding sound_of
says_sound l s =
    rw (
      s.passed,
      each_at (position_sound l) 0 l.network.processes (λ k h m. lt-ltb _ _ (s.positions k (omega arith))),
      each_at (channel_sound_at l) 0 l.network.channels (λ k h m. says_channel _ _ _ (s.channels k (omega arith))),
      each_at (λ p. standing_zero (standing_of l p)) l.network.processes (16 - l.network.processes)
          (λ k h m. ap standing_zero (s.standings k h (omega arith))),
      each_at (λ r. is_null (get_or l.registers r (pos 0))) (8 * l.network.processes) (128 - 8 * l.network.processes)
          (λ k h m. ap is_null (s.registers k h (omega arith))),
      each_at (λ c. channel_zero (channel_of l c)) l.network.channels (32 - l.network.channels)
          (λ k h m. ap channel_zero (s.unused k h (omega arith))),
    )

-- ---- the lane at the start
ends_capacity : (sender receiver capacity processes : ℕ) → ends_right sender receiver capacity processes ≡ true → (1 ≤ capacity) × (capacity ≤ 256)
unfolding ends_right
ends_capacity sender receiver capacity processes e =
    let ends = end_right sender processes && end_right receiver processes && not (eqb sender outside && eqb receiver outside) in
    between_true 1 capacity 256 (both_true ends _ e).1

module _ (n : Network) (e : passes n ≡ true) where
  capacity_right : (c : ℕ) → c < n.channels → (1 ≤ capacity_of n c) × (capacity_of n c ≤ 256)
  unfolding records
  capacity_right c h =
      ends_capacity (sender_of n c) (receiver_of n c) _ n.processes
      (each_true (record_right n) 0 n.channels (passed n e).records_good c (omega arith) (omega arith))

  capacity_zero : (c : ℕ) → n.channels ≤ c → c < 32 → capacity_of n c ≡ 0
  unfolding unused_records
  capacity_zero c h l =
      let r = each_true (record_zero n) n.channels (32 - n.channels) (passed n e).unused_records_good c h (omega arith) in
      eqb-true _ _ (both_true (eqb (sender_of n c) 0 && eqb (receiver_of n c) 0) (eqb (capacity_of n c) 0) r).1

  -- a process that has not ended
  live : (p : ℕ) → ended_at (fresh_of n) p ≡ true → ⊥
  unfolding fresh_of
  live p q = false≢true (ap (λ (s : Standing). is_ended s.condition) (sym (same_at 16 p no_standing)) ∙ q)

  fresh_is_sound : Sound (fresh_of n)
  unfolding fresh_of
  fresh_is_sound =
      record {
        passed = e;
        positions = λ p h. rw (same_at 16 p no_standing) (right_at n (passed n e).slots_good p h).low;
        channels =
            λ c h.
            let b = capacity_right c h in
            rw (table_at (fresh_channel n) 32 c no_channel (omega (arith, (passed n e).channels_high)))
            (record { within = omega arith; low = b.0; high = b.1; place = omega arith; reached = omega arith; topped = omega arith; shut = λ q. absurd (live (sender_of n c) q); drained = λ q. refl });
        standings = λ p h l. same_at 16 p no_standing;
        registers = λ r h l. same_at 128 r (pos 0);
        unused =
            λ c h l. table_at (fresh_channel n) 32 c no_channel l ∙ channel_is _ _ _ _ _ (capacity_zero c h l) refl refl refl refl;
      }

pub fresh_sound : (n : Network) → passes n ≡ true → sound_of (fresh_of n) ≡ true
fresh_sound n e = says_sound (fresh_of n) (fresh_is_sound n e)
