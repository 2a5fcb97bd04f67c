-- The parts of the test of a lane. A channel is sound exactly where it is within its limits and does what its ends ask for. Where all places are in use
-- none has to be zero.
-- Assumes nothing.
use mathlib.Core.Path.{◌≡◌, refl, ap, ◌∙◌}
use mathlib.Core.Bool.{Bool, true, false, not, ◌&&◌, ◌||◌}
use mathlib.Core.Logic.{◌⊎◌, inl, inr}
use Prim.Native.Nat.{ℕ, ◌*◌, ◌≤◌}
use borrow.Author.Tests.{eqb-true}
use native.Mathlib.Omega.{arith}
use lib.Dec.{eqb, leb}
use lib.IntN.{pos}
use lib.ListN.{get_or}
use Rattle.base.specs.Tests.{need, first_bad, is_good, between}
use Rattle.base.proofs.Tests.{over}
use Rattle.base.proofs.Conjunction.{both_true}
use Rattle.network.specs.Rules.{sender_of, receiver_of, outside, end_right, ends_right, passes}
use Rattle.network.proofs.Passed.{passed}
use Rattle.process.specs.declared.Channel.{Channel}
use Rattle.process.specs.Want.{is_null}
use Rattle.lane.specs.declared.Lane.{Lane}
use Rattle.lane.specs.State.{standing_of, ended_at, channel_of}
use Rattle.lane.proofs.SoundLaws.{sound_says}
use Rattle.lane.specs.Sound.{channel_sound, channel_sound_at, standing_zero, channel_zero, positions, channels_sound, unused_standings, unused_registers, unused_channels, sound_of}
use Rattle.sound_parts.proofs.Pairs.{two_kinds}

-- ---- a channel: its limits, and what its ends ask for
regroup : (x d e : Bool) → (x && d && e) ≡ ((x && true && true) && (d && e))
regroup true d e = refl
regroup false d e = refl

channel_parts : (s r : Bool) (h : Channel) → channel_sound s r h ≡ (channel_sound false false h && ((not s || h.closed) && (not r || eqb h.held 0)))
unfolding channel_sound
channel_parts s r h =
    regroup (leb h.held h.capacity && between 1 h.capacity 256 && leb h.oldest 255 && leb h.held h.peak && leb h.peak h.capacity) (not s || h.closed) (not r || eqb h.held 0)

-- ---- the ends of a channel whose record is right
pub ends_right_lem : (sender receiver capacity processes : ℕ) → ends_right sender receiver capacity processes ≡ true → (end_right sender processes ≡ true) × (end_right receiver processes ≡ true)
unfolding ends_right
ends_right_lem sender receiver capacity processes e =
    let ends = end_right sender processes && end_right receiver processes in
    let apart = not (eqb sender outside && eqb receiver outside) in
    both_true _ _ (both_true ends apart (both_true (ends && apart) (between 1 capacity 256) e).0).0

pub either : (a b : Bool) → (a || b) ≡ true → (a ≡ true) ⊎ (b ≡ true)
either true b e = inl e
either false b e = inr e

-- ---- the tests that are made of a lane, beside those of its definition
-- channel c is within its limits
abbrev limits_at : Lane → ℕ → Bool
limits_at l c = channel_sound false false (channel_of l c)

-- its sender, where that has ended, has closed it, and its receiver, where that has, left nothing
abbrev ends_at : Lane → ℕ → Bool
ends_at l c =
    (not (ended_at l (sender_of l.network c)) || (channel_of l c).closed)
    && (not (ended_at l (receiver_of l.network c)) || eqb (channel_of l c).held 0)

abbrev pub limits : Lane → Bool
limits l = is_good (first_bad (limits_at l) 0 l.network.channels)

abbrev pub ends : Lane → Bool
ends l = is_good (first_bad (ends_at l) 0 l.network.channels)

abbrev pub rest : Lane → Bool
rest l = unused_standings l && unused_registers l && unused_channels l

channels_parts : (l : Lane) → channels_sound l ≡ (limits l && ends l)
channels_parts l =
    two_kinds (channel_sound_at l) (limits_at l) (ends_at l) 0 l.network.channels
    (λ c h m. channel_parts (ended_at l (sender_of l.network c)) (ended_at l (receiver_of l.network c)) (channel_of l c))

pub parts : (l : Lane) → sound_of l ≡ (passes l.network && (positions l && (limits l && (ends l && rest l))))
unfolding sound_of
parts l = rw (channels_parts l) (apart (passes l.network) (positions l) (limits l) (ends l) _ _ _)
  where
    apart : (n p a b x y z : Bool) → (n && p && (a && b) && x && y && z) ≡ (n && (p && (a && (b && (x && y && z)))))
    apart true true true true x y z = refl
    apart true true true false x y z = refl
    apart true true false b x y z = refl
    apart true false a b x y z = refl
    apart false p a b x y z = refl

-- ---- the tests of the code, one after the other: each that fails, and what is left where all pass
pub bad_network : (l : Lane) → passes l.network ≡ false → sound_of l ≡ false
bad_network l n = parts l ∙ rw n

pub bad_positions : (l : Lane) → passes l.network ≡ true → positions l ≡ false → sound_of l ≡ false
bad_positions l n p = parts l ∙ rw (n, p)

pub bad_limits : (l : Lane) → passes l.network ≡ true → positions l ≡ true → limits l ≡ false → sound_of l ≡ false
bad_limits l n p a = parts l ∙ rw (n, p, a)

pub bad_ends : (l : Lane) → passes l.network ≡ true → positions l ≡ true → limits l ≡ true → ends l ≡ false → sound_of l ≡ false
bad_ends l n p a b = parts l ∙ rw (n, p, a, b)

pub rest_left : (l : Lane) → passes l.network ≡ true → positions l ≡ true → limits l ≡ true → ends l ≡ true → sound_of l ≡ rest l
rest_left l n p a b = parts l ∙ rw (n, p, a, b)

-- ---- what a network that passes has
pub few : (l : Lane) → passes l.network ≡ true → l.network.processes ≤ 16
few l e = (passed l.network e).processes_high

pub few_channels : (l : Lane) → passes l.network ≡ true → l.network.channels ≤ 32
few_channels l e = (passed l.network e).channels_high

pub sound_few : (l : Lane) → sound_of l ≡ true → l.network.processes ≤ 16
sound_few l e = few l (sound_says l e).passed

pub sound_few_channels : (l : Lane) → sound_of l ≡ true → l.network.channels ≤ 32
sound_few_channels l e = few_channels l (sound_says l e).passed

pub all_used : (l : Lane) → (eqb l.network.processes 16 && eqb l.network.channels 32) ≡ true → rest l ≡ true
all_used l e =
    let both = both_true _ _ e in
    let p : l.network.processes ≡ 16 = eqb-true _ _ both.0 in
    let c : l.network.channels ≡ 32 = eqb-true _ _ both.1 in
    rw (
      ap is_good (over (λ k. need (standing_zero (standing_of l k)) k) l.network.processes 16 (omega arith)),
      ap is_good (over (λ k. need (is_null (get_or l.registers k (pos 0))) k) (8 * l.network.processes) 128 (omega arith)),
      ap is_good (over (λ k. need (channel_zero (channel_of l k)) k) l.network.channels 32 (omega arith)),
    )
