-- The four calls by cases: refused, and then nothing has changed, or done, with what each test has shown.
-- Assumes nothing.
use mathlib.Core.Path.{◌≡◌, refl}
use mathlib.Core.Bool.{Bool, true, false, cond, not}
use Prim.Native.Nat.{ℕ, ◌<◌}
use borrow.Author.Tests.{ltb-true, eqb-true, eqb-false, not-false}
use lib.Dec.{eqb, ltb}
use lib.IntN.{ℤ}
use lib.ListN.{length}
use Rattle.network.specs.Rules.{sender_of, receiver_of, outside}
use Rattle.process.specs.Channels.{get_one, slot}
use Rattle.process.specs.Execute.{full}
use Rattle.lane.specs.State.{World, world, cell_at, channel_of, put_channel}
use Rattle.lane.specs.Sound.{sound_of}
use Rattle.lane.specs.Calls.{accepted, value, the_end, refused, Called, called, refuse, cells_wrong, unsound, no_process, no_channel_there, sender_inside, receiver_inside, is_closed, receiver_ended, picked, pick_of, stored, counting, feed_of, closed, close_of, take_of}

-- ---- what the tests of a call have shown where it is not refused
-- a pick: 15, 16, 8
pub record Pickable (p : ℕ) (w : World) : Type 0 where
  pub long : length w.cells ≡ 8192
  pub sound : sound_of w.lane ≡ true
  pub there : p < w.lane.network.processes

-- a feed: 15, 16, 8, 9, 11, 10
pub record Feedable (c : ℕ) (w : World) : Type 0 where
  pub long : length w.cells ≡ 8192
  pub sound : sound_of w.lane ≡ true
  pub there : c < w.lane.network.channels
  pub outer : sender_of w.lane.network c ≡ outside
  pub unclosed : (channel_of w.lane c).closed ≡ false
  pub room : full (receiver_ended c w) (channel_of w.lane c) ≡ false

-- a closing: 16, 8, 9, 11
pub record Closable (c : ℕ) (w : World) : Type 0 where
  pub sound : sound_of w.lane ≡ true
  pub there : c < w.lane.network.channels
  pub outer : sender_of w.lane.network c ≡ outside
  pub unclosed : (channel_of w.lane c).closed ≡ false

-- a take: 15, 16, 8, 9; then 12 or a value
pub record Takeable (c : ℕ) (w : World) : Type 0 where
  pub long : length w.cells ≡ 8192
  pub sound : sound_of w.lane ≡ true
  pub there : c < w.lane.network.channels
  pub outer : receiver_of w.lane.network c ≡ outside

-- ---- a call by cases: refused with some number, or done
refuse_by : (P : Called → Type 0) (bad : Bool) (k : ℕ) (w : World) (next : Called) → P (called (refused k) w) → (bad ≡ false → P next) → P (refuse bad k w next)
refuse_by P true k w next stays done = stays
refuse_by P false k w next stays done = done refl

test_eq : (a b : ℕ) → not (eqb a b) ≡ false → a ≡ b
test_eq a b e = eqb-true a b (not-false _ e)

test_lt : (a b : ℕ) → not (ltb a b) ≡ false → a < b
test_lt a b e = ltb-true a b (not-false _ e)

module _ (P : Called → Type 0) (w : World) (stays : (k : ℕ) → P (called (refused k) w)) where
  -- a pick
  pub pick_cases : (p : ℕ) → (Pickable p w → P (picked p w)) → P (pick_of p w)
  unfolding pick_of
  pick_cases p done =
      refuse_by P (cells_wrong w) 15 w _ (stays 15)
      (λ long. refuse_by P (unsound w) 16 w _ (stays 16)
      (λ sound. refuse_by P (no_process p w) 8 w _ (stays 8)
      (λ there. done (record { long = test_eq _ _ long; sound = not-false _ sound; there = test_lt _ _ there }))))

  -- a feed
  pub feed_cases : (c : ℕ) (v : ℤ) → (Feedable c w → P (called accepted (counting (stored c v w)))) → P (feed_of c v w)
  unfolding feed_of
  feed_cases c v done =
      refuse_by P (cells_wrong w) 15 w _ (stays 15)
      (λ long. refuse_by P (unsound w) 16 w _ (stays 16)
      (λ sound. refuse_by P (no_channel_there c w) 8 w _ (stays 8)
      (λ there. refuse_by P (sender_inside c w) 9 w _ (stays 9)
      (λ outer. refuse_by P (is_closed c w) 11 w _ (stays 11)
      (λ unclosed. refuse_by P (full (receiver_ended c w) (channel_of w.lane c)) 10 w _ (stays 10)
      (λ room.
      done
      (record {
        long = test_eq _ _ long;
        sound = not-false _ sound;
        there = test_lt _ _ there;
        outer = test_eq _ _ outer;
        unclosed = unclosed;
        room = room;
      })))))))

  -- a closing
  pub close_cases : (c : ℕ) → (Closable c w → P (closed c w)) → P (close_of c w)
  unfolding close_of
  close_cases c done =
      refuse_by P (unsound w) 16 w _ (stays 16)
      (λ sound. refuse_by P (no_channel_there c w) 8 w _ (stays 8)
      (λ there. refuse_by P (sender_inside c w) 9 w _ (stays 9)
      (λ outer. refuse_by P (is_closed c w) 11 w _ (stays 11)
      (λ unclosed.
      done (record { sound = not-false _ sound; there = test_lt _ _ there; outer = test_eq _ _ outer; unclosed = unclosed })))))

  -- what follows the tests of a take: the end, where the channel is empty and closed, or the oldest message
  taken_cases : (c held : ℕ) (empty : Bool) (a : Called) → eqb held 0 ≡ empty → (held ≡ 0 → (channel_of w.lane c).closed ≡ true → P (called the_end (counting w)))
      → ((held ≡ 0 → ⊥) → P a)
      → P (cond empty (refuse (not (is_closed c w)) 12 w (called the_end (counting w))) a)
  taken_cases c held true a e over done = refuse_by P (not (is_closed c w)) 12 w _ (stays 12) (λ shut. over (eqb-true held 0 e) (not-false _ shut))
  taken_cases c held false a e over done = done (eqb-false held 0 e)

  -- a take
  pub take_cases :
      (c : ℕ)
      → (Takeable c w → (channel_of w.lane c).held ≡ 0 → (channel_of w.lane c).closed ≡ true → P (called the_end (counting w)))
      → (Takeable c w → ((channel_of w.lane c).held ≡ 0 → ⊥)
      → P (called (value (cell_at w (slot c (channel_of w.lane c) 0))) (counting (world (put_channel c (get_one (channel_of w.lane c)) w.lane) w.cells))))
      → P (take_of c w)
  unfolding take_of
  take_cases c over done =
      refuse_by P (cells_wrong w) 15 w _ (stays 15)
      (λ long. refuse_by P (unsound w) 16 w _ (stays 16)
      (λ sound. refuse_by P (no_channel_there c w) 8 w _ (stays 8)
      (λ there. refuse_by P (receiver_inside c w) 9 w _ (stays 9)
      (λ outer.
      let t : Takeable c w =
      record { long = test_eq _ _ long; sound = not-false _ sound; there = test_lt _ _ there; outer = test_eq _ _ outer } in
      taken_cases c (channel_of w.lane c).held (eqb (channel_of w.lane c).held 0) _ refl (over t) (done t)))))
