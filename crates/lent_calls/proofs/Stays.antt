-- One channel of a sound lane: what its operations ask of it, and that the lane they leave, counted, is sound.
-- Assumes nothing.
use mathlib.Core.Path.{◌≡◌}
use mathlib.Core.Bool.{true, false}
use Prim.Native.Nat.{ℕ, ◌≤◌, ◌<◌}
use native.Mathlib.Omega.{arith}
use Rattle.network.specs.Rules.{sender_of, receiver_of}
use Rattle.process.specs.declared.Channel.{Channel}
use Rattle.process.specs.Channels.{put_one, get_one, close_one}
use Rattle.lane.specs.declared.Lane.{Lane}
use Rattle.lane.specs.State.{ended_at, channel_of, put_channel, count}
use Rattle.lane.specs.Sound.{sound_of}
use Rattle.lane.proofs.SoundLaws.{ChannelSound, sound_says, says_sound}
use Rattle.lane.proofs.Keeps.{put_one_lem, get_one_lem, close_one_lem, put_channel_sound, count_sound}

-- a call that changes no channel
pub counted_stays : (l : Lane) → sound_of l ≡ true → sound_of (count l) ≡ true
counted_stays l e = says_sound (count l) (count_sound l (sound_says l e))

module _ (c : ℕ) (l : Lane) (e : sound_of l ≡ true) (there : c < l.network.channels) where
  -- the channel is sound itself
  pub at : ChannelSound (ended_at l (sender_of l.network c)) (ended_at l (receiver_of l.network c)) (channel_of l c)
  at = (sound_says l e).channels c there

  pub within : (channel_of l c).held ≤ (channel_of l c).capacity
  within = at.within

  pub place : (channel_of l c).oldest < 256
  place = at.place

  stays : (h : Channel) → ChannelSound (ended_at l (sender_of l.network c)) (ended_at l (receiver_of l.network c)) h → sound_of (count (put_channel c h l)) ≡ true
  stays h right = counted_stays _ (says_sound _ (put_channel_sound c h l (sound_says l e) (λ m. right) (λ m. absurd (omega arith))))

  -- a message more, where there is room and the receiver lives
  pub put_stays : ended_at l (receiver_of l.network c) ≡ false → ((channel_of l c).held ≡ (channel_of l c).capacity → ⊥)
      → sound_of (count (put_channel c (put_one (channel_of l c)) l)) ≡ true
  put_stays live room = stays _ (put_one_lem _ _ _ at live room)

  -- the oldest taken
  pub get_stays : sound_of (count (put_channel c (get_one (channel_of l c)) l)) ≡ true
  get_stays = stays _ (get_one_lem _ _ _ at)

  -- a closing
  pub close_stays : sound_of (count (put_channel c (close_one (channel_of l c)) l)) ≡ true
  close_stays = stays _ (close_one_lem _ _ _ at)
