-- The four calls: a refused call changes nothing; every call, refused or not, keeps a lane sound, its network, the number of its cells and the
-- lengths of its arrays; a feed changes no cell but the one that its message goes to.
-- Assumes nothing.
use mathlib.Core.Path.{◌≡◌, refl, sym, ap, ◌∙◌}
use mathlib.Core.Bool.{Bool, true, false, cond, true≢false}
use mathlib.Core.List.{List}
use Prim.Native.Nat.{ℕ, ◌<◌}
use native.Mathlib.Omega.{arith}
use borrow.Author.Tests.{eqb-false}
use lib.IntN.{ℤ, pos}
use lib.ListN.{length, set, length-set}
use lib.Seq.{get_or-set_other}
use Rattle.network.specs.Rules.{sender_of, receiver_of}
use Rattle.process.specs.declared.Channel.{Channel}
use Rattle.process.specs.declared.Outcome.{Outcome}
use Rattle.process.specs.declared.Outcome.TheVariants.{Moved, Sent, Halted, WaitEmpty, WaitFull, Ended}
use Rattle.process.specs.Channels.{put_one, get_one, close_one, slot}
use Rattle.process.specs.Execute.{full}
use Rattle.lane.specs.State.{World, world, cell_at, ended_at, channel_of, put_channel, count}
use Rattle.lane.specs.Sound.{sound_of}
use Rattle.lane.specs.Pick.{step_for}
use Rattle.lane.specs.Calls.{Told, moved, waiting_empty, waiting_full, ended, accepted, value, the_end, refused, Called, called, receiver_ended, answer_to, pick_of, stored, counting, feed_of, close_of, take_of}
use Rattle.lane.proofs.Shape.{Shaped, put_channel_shaped, count_shaped}
use Rattle.lane.proofs.SoundLaws.{Sound, ChannelSound, sound_says, says_sound}
use Rattle.lane.proofs.Keeps.{put_one_lem, get_one_lem, close_one_lem, put_channel_sound, count_sound}
use Rattle.lane.proofs.PickLaws.{pick_sound, pick_network, pick_cells, pick_shaped}
use Rattle.lane.proofs.CallCases.{pick_cases, feed_cases, close_cases, take_cases}

-- ---- a refused call changes nothing: "lane, cells and buffers are unchanged"
abbrev is_refused : Told → Bool
is_refused moved = false
is_refused (waiting_empty c) = false
is_refused (waiting_full c) = false
is_refused ended = false
is_refused accepted = false
is_refused (value v) = false
is_refused the_end = false
is_refused (refused k) = true

abbrev Unchanged : World → Called → Type 0
Unchanged w r = (k : ℕ) → r.answer ≡ refused k → r.world ≡ w

not_refused : (w : World) (a : Told) (w' : World) → is_refused a ≡ false → Unchanged w (called a w')
not_refused w a w' n k e = absurd (true≢false (sym (ap is_refused e) ∙ n))

answer_given : (o : Outcome) (c : ℕ) → is_refused (answer_to o c) ≡ false
answer_given Moved c = refl
answer_given (Sent v) c = refl
answer_given Halted c = refl
answer_given WaitEmpty c = refl
answer_given WaitFull c = refl
answer_given Ended c = refl

module _ (w : World) where
  -- a pick
  pub pick_refused : (p k : ℕ) → (pick_of p w).answer ≡ refused k → (pick_of p w).world ≡ w
  pick_refused p = pick_cases (Unchanged w) w (λ k j e. refl) p (λ t. not_refused w _ _ (answer_given (step_for p w).outcome _))

  -- a feed
  pub feed_refused : (c : ℕ) (v : ℤ) (k : ℕ) → (feed_of c v w).answer ≡ refused k → (feed_of c v w).world ≡ w
  feed_refused c v = feed_cases (Unchanged w) w (λ k j e. refl) c v (λ t. not_refused w _ _ refl)

  -- a closing
  pub close_refused : (c k : ℕ) → (close_of c w).answer ≡ refused k → (close_of c w).world ≡ w
  close_refused c = close_cases (Unchanged w) w (λ k j e. refl) c (λ t. not_refused w _ _ refl)

  -- a take
  pub take_refused : (c k : ℕ) → (take_of c w).answer ≡ refused k → (take_of c w).world ≡ w
  take_refused c = take_cases (Unchanged w) w (λ k j e. refl) c (λ t e f. not_refused w _ _ refl) (λ t n. not_refused w _ _ refl)

-- ---- what every call keeps, refused or not
-- the network, the number of cells, the lengths of the arrays, soundness
pub record Preserves (w w' : World) : Type 0 where
  pub network : w'.lane.network ≡ w.lane.network
  pub cells : length w'.cells ≡ length w.cells
  pub shaped : Shaped w.lane → Shaped w'.lane
  pub sound : sound_of w.lane ≡ true → sound_of w'.lane ≡ true

abbrev Kept : World → Called → Type 0
Kept w r = Preserves w r.world

pub unchanged : (w : World) → Preserves w w
unchanged w = record { network = refl; cells = refl; shaped = λ s. s; sound = λ s. s }

-- one after the other
pub kept_then : {w w' w'' : World} → Preserves w w' → Preserves w' w'' → Preserves w w''
kept_then a b =
    record {
      network = b.network ∙ a.network;
      cells = b.cells ∙ a.cells;
      shaped = λ s. b.shaped (a.shaped s);
      sound = λ s. b.sound (a.sound s);
    }

-- a call that is counted
counted : (w w' : World) → Preserves w w' → Preserves w (counting w')
counted w w' k =
    record {
      network = k.network;
      cells = k.cells;
      shaped = λ s. count_shaped w'.lane (k.shaped s);
      sound = λ s. says_sound (count w'.lane) (count_sound w'.lane (sound_says w'.lane (k.sound s)));
    }

-- channel c, which is there, with one operation done
operated : (w : World) (c : ℕ) (h : Channel) (cells : List ℤ) → c < w.lane.network.channels → length cells ≡ length w.cells
    → (Sound w.lane → ChannelSound (ended_at w.lane (sender_of w.lane.network c)) (ended_at w.lane (receiver_of w.lane.network c)) h)
    → Preserves w (world (put_channel c h w.lane) cells)
operated w c h cells b long right =
    record {
      network = refl;
      cells = long;
      shaped = put_channel_shaped c h w.lane;
      sound =
          λ e.
          let s = sound_says w.lane e in
          says_sound _ (put_channel_sound c h w.lane s (λ m. right s) (λ m. absurd (omega arith)));
    }

-- a message fed
stored_kept : (w : World) (c : ℕ) (v : ℤ) → c < w.lane.network.channels → (gone : Bool) → receiver_ended c w ≡ gone → full gone (channel_of w.lane c) ≡ false
    → Preserves w
    (cond gone w (world (put_channel c (put_one (channel_of w.lane c)) w.lane) (set w.cells (slot c (channel_of w.lane c) (channel_of w.lane c).held) v)))
stored_kept w c v b true e room = unchanged w
stored_kept w c v b false e room =
    operated w c (put_one (channel_of w.lane c)) _ b (length-set w.cells _ v)
    (λ s. put_one_lem _ _ (channel_of w.lane c) (s.channels c b) e (eqb-false _ _ room))

module _ (w : World) where
  -- a pick
  pub pick_kept : (p : ℕ) → Shaped w.lane → Preserves w (pick_of p w).world
  pick_kept p shaped =
      pick_cases (Kept w) w (λ k. unchanged w) p
      (λ t. record { network = pick_network p w; cells = pick_cells p w; shaped = pick_shaped p w; sound = pick_sound p w shaped t.there })

  -- a feed
  pub feed_kept : (c : ℕ) (v : ℤ) → Preserves w (feed_of c v w).world
  feed_kept c v =
      feed_cases (Kept w) w (λ k. unchanged w) c v (λ t. counted w (stored c v w) (stored_kept w c v t.there (receiver_ended c w) refl t.room))

  -- a closing
  pub close_kept : (c : ℕ) → Preserves w (close_of c w).world
  close_kept c =
      close_cases (Kept w) w (λ k. unchanged w) c
      (λ t. counted w _ (operated w c (close_one (channel_of w.lane c)) w.cells t.there refl (λ s. close_one_lem _ _ (channel_of w.lane c) (s.channels c t.there))))

  -- a take
  pub take_kept : (c : ℕ) → Preserves w (take_of c w).world
  take_kept c =
      take_cases (Kept w) w (λ k. unchanged w) c (λ t e f. counted w w (unchanged w))
      (λ t n. counted w _ (operated w c (get_one (channel_of w.lane c)) w.cells t.there refl (λ s. get_one_lem _ _ (channel_of w.lane c) (s.channels c t.there))))

-- ---- "No other cell changes."
module _ (w : World) (c : ℕ) where
  -- the cell that a message into channel c goes to
  abbrev message_cell : ℕ
  message_cell = slot c (channel_of w.lane c) (channel_of w.lane c).held

  stored_other : (v : ℤ) (gone : Bool) (k : ℕ) → (k ≡ message_cell → ⊥)
      → cell_at (cond gone w (world (put_channel c (put_one (channel_of w.lane c)) w.lane) (set w.cells message_cell v))) k ≡ cell_at w k
  stored_other v true k n = refl
  stored_other v false k n = get_or-set_other w.cells message_cell k v (pos 0) n

  -- a feed: every cell but that one
  pub feed_other_cells : (v : ℤ) (k : ℕ) → (k ≡ slot c (channel_of w.lane c) (channel_of w.lane c).held → ⊥) → cell_at (feed_of c v w).world k ≡ cell_at w k
  feed_other_cells v k n =
      feed_cases (λ (r : Called). cell_at r.world k ≡ cell_at w k) w (λ j. refl) c v (λ t. stored_other v (receiver_ended c w) k n)

  -- a feed to a receiver that has ended: every cell
  pub feed_same_cells : (v : ℤ) → receiver_ended c w ≡ true → (feed_of c v w).world.cells ≡ w.cells
  feed_same_cells v e = feed_cases (λ (r : Called). r.world.cells ≡ w.cells) w (λ j. refl) c v (λ t. rw e)

  -- a closing and a take: every cell
  pub close_same_cells : (close_of c w).world.cells ≡ w.cells
  close_same_cells = close_cases (λ (r : Called). r.world.cells ≡ w.cells) w (λ j. refl) c (λ t. refl)

  pub take_same_cells : (take_of c w).world.cells ≡ w.cells
  take_same_cells = take_cases (λ (r : Called). r.world.cells ≡ w.cells) w (λ j. refl) c (λ t e f. refl) (λ t n. refl)
