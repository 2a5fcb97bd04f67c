-- A sound lane stays sound: when a channel is put back, when a process is, when one ends, and when a call is counted.
-- Assumes nothing.
use mathlib.Core.Path.{◌≡◌, refl, sym, ap, ◌∙◌, subst₂, subst⁻¹}
use mathlib.Core.Bool.{Bool, true, false, cond, true≢false}
use mathlib.Core.List.{List, [], ◌∷◌}
use Prim.Native.Nat.{ℕ, zero, suc, ◌+◌, ◌*◌, ◌≤◌, ◌<◌}
use native.Mathlib.Nat.{le_of_suc-le-suc, not-suc-le-zero, add-zero, zero-add}
use native.Mathlib.Omega.{arith}
use borrow.Author.Tests.{lt-ltb, le-ltb, eq-eqb}
use lib.IntN.{pos}
use lib.ListN.{length, get_or, set}
use Rattle.network.specs.declared.Network.{Network}
use Rattle.network.specs.Rules.{count_of, sender_of, receiver_of, receives, sends}
use Rattle.network.proofs.Passed.{passed}
use Rattle.process.specs.Process.{Process}
use Rattle.process.specs.declared.Channel.{Channel}
use Rattle.process.specs.Channels.{no_channel, put_one, get_one, close_one, drop_one}
use Rattle.lane.specs.declared.Standing.{Standing}
use Rattle.lane.specs.declared.Lane.{Lane}
use Rattle.lane.specs.State.{no_standing, standing_of, split, put_process, is_ended, ended_at, channel_of, put_channel, put_channels, count}
use Rattle.lane.specs.Pick.{drop_from}
use Rattle.lane.proofs.Windows.{put_other}
use Rattle.lane.proofs.Shape.{Shaped}
use Rattle.lane.proofs.SoundLaws.{Sound, ChannelSound}

-- what holds of the element put at i, and of the one that stood at k, holds of the one at k afterwards
pub after_set : {A : Type 0} (P : A → Type 0) (xs : List A) (i k : ℕ) (a d : A) → (k ≡ i → P a) → P (get_or xs k d) → P (get_or (set xs i a) k d)
after_set P [] i k a d new old = old
after_set P (x ∷ xs) zero zero a d new old = new refl
after_set P (x ∷ xs) zero (suc k) a d new old = old
after_set P (x ∷ xs) (suc i) zero a d new old = old
after_set P (x ∷ xs) (suc i) (suc k) a d new old = after_set P xs i k a d (λ e. new (ap suc e)) old

-- ---- the operations of a channel keep it sound
module _ (s r : Bool) (h : Channel) (g : ChannelSound s r h) where
  -- a message put, where there is room and the receiver lives
  pub put_one_lem : r ≡ false → (h.held ≡ h.capacity → ⊥) → ChannelSound s r (put_one h)
  put_one_lem live room =
      record {
        within = omega (arith, g.within);
        low = g.low;
        high = g.high;
        place = g.place;
        reached = omega arith;
        topped = omega (arith, g.within, g.topped);
        shut = g.shut;
        drained = λ e. absurd (true≢false (sym e ∙ live));
      }

  -- the oldest taken
  pub get_one_lem : ChannelSound s r (get_one h)
  get_one_lem =
      record {
        within = omega (arith, g.within);
        low = g.low;
        high = g.high;
        place = omega arith;
        reached = omega (arith, g.reached);
        topped = g.topped;
        shut = g.shut;
        drained = λ e. omega (arith, g.drained e);
      }

  -- a closing
  pub close_one_lem : ChannelSound s r (close_one h)
  close_one_lem =
      record {
        within = g.within;
        low = g.low;
        high = g.high;
        place = g.place;
        reached = g.reached;
        topped = g.topped;
        shut = λ e. refl;
        drained = g.drained;
      }

-- ---- a channel: one that is sound where it is used, and as it was where it is not
pub put_channel_sound :
    (c : ℕ) (h : Channel) (l : Lane) → Sound l
    → (c < l.network.channels → ChannelSound (ended_at l (sender_of l.network c)) (ended_at l (receiver_of l.network c)) h)
    → (l.network.channels ≤ c → h ≡ channel_of l c)
    → Sound (put_channel c h l)
put_channel_sound c h l s used unused =
    record {
      passed = s.passed;
      positions = s.positions;
      channels =
          λ k m. after_set (ChannelSound (ended_at l (sender_of l.network k)) (ended_at l (receiver_of l.network k))) l.channels c k h no_channel
          (λ e. rw e (used (rw e at m)))
          (s.channels k m);
      standings = s.standings;
      registers = s.registers;
      unused =
          λ k m b. after_set (λ (x : Channel). x ≡ no_channel) l.channels c k h no_channel
          (λ e. unused (rw e at m) ∙ ap (channel_of l) (sym e) ∙ s.unused k m b)
          (s.unused k m b);
    }

-- ---- process p put back: positions are below the counts, and the entries beyond P are as they were
module _ (p : ℕ) (q : Process) (l : Lane) (s : Sound l) (b : p < l.network.processes) where
  right_positions : q.position < count_of l.network p → (k : ℕ) → k < l.network.processes → (standing_of (put_process p q l) k).position < count_of l.network k
  right_positions place k m =
      after_set (λ (x : Standing). x.position < count_of l.network k) l.processes p k (split q) no_standing (λ e. rw e place) (s.positions k m)

  unused_standings_lem : (k : ℕ) → l.network.processes ≤ k → k < 16 → standing_of (put_process p q l) k ≡ no_standing
  unused_standings_lem k m t =
      after_set (λ (x : Standing). x ≡ no_standing) l.processes p k (split q) no_standing (λ e. absurd (omega arith)) (s.standings k m t)

  unused_registers_lem : (r : ℕ) → 8 * l.network.processes ≤ r → r < 128 → get_or (put_process p q l).registers r (pos 0) ≡ pos 0
  unused_registers_lem r m t = put_other l.registers p q.registers r (λ e. omega arith) ∙ s.registers r m t

-- ---- a process: a position that is right, and an end only where it had ended
ended_same : (p : ℕ) (q : Process) (l : Lane) → is_ended q.condition ≡ ended_at l p → (k : ℕ) → ended_at (put_process p q l) k ≡ ended_at l k
ended_same p q l same k =
    after_set (λ (x : Standing). is_ended x.condition ≡ ended_at l k) l.processes p k (split q) no_standing (λ e. same ∙ ap (ended_at l) (sym e)) refl

-- the lane stays sound
pub put_process_sound :
    (p : ℕ) (q : Process) (l : Lane) → Sound l → p < l.network.processes
    → q.position < count_of l.network p
    → is_ended q.condition ≡ ended_at l p
    → Sound (put_process p q l)
put_process_sound p q l s b place same =
    record {
      passed = s.passed;
      positions = right_positions p q l s b place;
      channels =
          λ k m. subst₂ (λ (x y : Bool). ChannelSound x y (channel_of l k))
          (sym (ended_same p q l same (sender_of l.network k)))
          (sym (ended_same p q l same (receiver_of l.network k)))
          (s.channels k m);
      standings = unused_standings_lem p q l s b;
      registers = unused_registers_lem p q l s b;
      unused = s.unused;
    }

-- ---- a process that ends: its outgoing channels are closed, its incoming ones empty
-- channel c + k of the list from c on
pub drop_at : (n : Network) (p : ℕ) (hs : List Channel) (c k : ℕ) → k < length hs
    → get_or (drop_from n p c hs) k no_channel ≡ drop_one (sends n p (c + k)) (receives n p (c + k)) (get_or hs k no_channel)
drop_at n p [] c k m = absurd (not-suc-le-zero m)
drop_at n p (h ∷ hs) c zero m = ap (λ (j : ℕ). drop_one (sends n p j) (receives n p j) h) (sym (add-zero c))
drop_at n p (h ∷ hs) c (suc k) m =
    drop_at n p hs (suc c) k (le_of_suc-le-suc m)
    ∙ ap (λ (j : ℕ). drop_one (sends n p j) (receives n p j) (get_or hs k no_channel)) (omega arith)

-- a channel that is not there is as it was
drop_none : (n : Network) (p c : ℕ) (h : Channel) → n.channels ≤ c → drop_one (sends n p c) (receives n p c) h ≡ h
drop_none n p c h m = rw (le-ltb c n.channels m)

emptied : (r : Bool) (a b : ℕ) → a ≤ b → cond r 0 a ≤ b
emptied true a b m = omega arith
emptied false a b m = m

empty_stays : (r : Bool) (a : ℕ) → a ≡ 0 → cond r 0 a ≡ 0
empty_stays true a e = refl
empty_stays false a e = e

closed_stays : (s a : Bool) → a ≡ true → cond s true a ≡ true
closed_stays true a e = refl
closed_stays false a e = e

module _ (p : ℕ) (q : Process) (l : Lane) (shaped : Shaped l) (s : Sound l) (b : p < l.network.processes) where
  -- each channel as the end leaves it
  dropped : (k : ℕ) → k < l.network.channels
      → ChannelSound (ended_at (put_process p q l) (sender_of l.network k)) (ended_at (put_process p q l) (receiver_of l.network k))
      (drop_one (sends l.network p k) (receives l.network p k) (channel_of l k))
  dropped k m =
      let n : Network = l.network in
      let h : Channel = channel_of l k in
      let old = s.channels k m in
      record {
        within = emptied (receives n p k) h.held h.capacity old.within;
        low = old.low;
        high = old.high;
        place = old.place;
        reached = emptied (receives n p k) h.held h.peak old.reached;
        topped = old.topped;
        shut =
            after_set (λ (x : Standing). is_ended x.condition ≡ true → cond (sends n p k) true h.closed ≡ true) l.processes p (sender_of n k) (split q)
            no_standing
            (λ e t. rw (lt-ltb k n.channels m, eq-eqb (sender_of n k) p e))
            (λ t. closed_stays (sends n p k) h.closed (old.shut t));
        drained =
            after_set (λ (x : Standing). is_ended x.condition ≡ true → cond (receives n p k) 0 h.held ≡ 0) l.processes p (receiver_of n k) (split q)
            no_standing
            (λ e t. rw (lt-ltb k n.channels m, eq-eqb (receiver_of n k) p e))
            (λ t. empty_stays (receives n p k) h.held (old.drained t));
      }

  -- the lane stays sound
  pub end_sound : q.position < count_of l.network p → Sound (put_channels (drop_from l.network p 0 l.channels) (put_process p q l))
  end_sound place =
      record {
        passed = s.passed;
        positions = right_positions p q l s b place;
        channels =
            λ k m. subst⁻¹ (ChannelSound (ended_at (put_process p q l) (sender_of l.network k)) (ended_at (put_process p q l) (receiver_of l.network k)))
            (at k (omega (arith, (passed l.network s.passed).channels_high)))
            (dropped k m);
        standings = unused_standings_lem p q l s b;
        registers = unused_registers_lem p q l s b;
        unused = λ k m t. at k t ∙ drop_none l.network p k (channel_of l k) m ∙ s.unused k m t;
      }
    where
      at : (k : ℕ) → k < 32
          → get_or (drop_from l.network p 0 l.channels) k no_channel ≡ drop_one (sends l.network p k) (receives l.network p k) (channel_of l k)
      at k m = drop_at l.network p l.channels 0 k (omega (arith, shaped.channels)) ∙ ap (λ (j : ℕ). drop_one (sends l.network p j) (receives l.network p j) (channel_of l k)) (zero-add k)

-- ---- one more accepted call
pub count_sound : (l : Lane) → Sound l → Sound (count l)
count_sound l s =
    record {
      passed = s.passed;
      positions = s.positions;
      channels = s.channels;
      standings = s.standings;
      registers = s.registers;
      unused = s.unused;
    }
