-- A relief step by step: what the search found settles it; a channel that grows is there, and the lane that it leaves is sound.
-- Assumes nothing.
use Rattle.std.proofs.Common.{◌≡◌, sym, true, false, List, [], ◌++◌, ℕ, ◌<◌, ◌≤◌, length, take, drop, arith}
use borrow.Author.Tests.{lt-ltb, le-ltb}
use lib.Seq.{length-take-le}
use Rattle.network.proofs.Passed.{passed}
use Rattle.lane.specs.declared.Lane.{Lane}
use Rattle.lane.specs.Sound.{sound_of}
use Rattle.lane.proofs.SoundLaws.{sound_says}
use Rattle.rings.specs.Rings.{Found, found}
use Rattle.relief.specs.Relief.{Enlargeable, relief, refused, enlarged, found_in, larger, grown, settled, relieve_of}
use Rattle.relief.proofs.Enlarged.{found_enlargeable, larger_kept, count_kept}

pub unsound_relief : (l : Lane) (buffer : List ℕ) → sound_of l ≡ false → relieve_of l buffer ≡ relief (refused 16) l buffer
unfolding relieve_of
unsound_relief l buffer s = rw s

pub settles : (l : Lane) (o : Found) → sound_of l ≡ true → o ≡ found_in l → (buffer : List ℕ) → relieve_of l buffer ≡ settled o l buffer
unfolding relieve_of
settles l o s e buffer = rw (s, e)

-- a ring of the first n of some processes: there is no room for them, or they are written and the channel grows
module _ (l : Lane) (buffer members : List ℕ) (n c : ℕ) (few : n ≤ length members) where
  pub short_relief : length buffer < n → settled (found (take n members) c) l buffer ≡ relief (refused 15) l buffer
  short_relief h = rw (length-take-le n members few, lt-ltb (length buffer) n h)

  pub grown_relief : n ≤ length buffer → settled (found (take n members) c) l buffer ≡ relief (enlarged n c) (grown c l) (take n members ++ drop n buffer)
  grown_relief h = rw (length-take-le n members few, le-ltb (length buffer) n h)

-- the channel that grows
pub grows : (l : Lane) (ring : List ℕ) (c : ℕ) → sound_of l ≡ true → found ring c ≡ found_in l → Enlargeable l c
grows l ring c s e = found_enlargeable l s ring c (sym e)

pub grows_low : (l : Lane) (c : ℕ) → sound_of l ≡ true → Enlargeable l c → c < 32
grows_low l c s e = omega (arith, e.there, (passed _ (sound_says l s).passed).channels_high)

pub grown_stays : (c : ℕ) (l : Lane) → sound_of l ≡ true → Enlargeable l c → sound_of (grown c l) ≡ true
grown_stays c l s e = (count_kept (larger c l) []).sound ((larger_kept l [] c s e).sound s)
