-- The arrays of a fresh lane (`fresh_of`, which `lane_sound::fresh` makes): zeros, the capacities of the file, and no channel closed.
-- Assumes nothing.
use mathlib.Core.Path.{◌≡◌, refl, ap, ◌∙◌}
use mathlib.Core.Bool.{Bool, true, false}
use mathlib.Core.List.{List, [], ◌∷◌}
use Prim.Native.Nat.{ℕ, zero, suc}
use native.Mathlib.Omega.{arith}
use lib.IntN.{pos}
use lib.ListN.{length, get_or, replicate}
use Rattle.base.specs.Lists.{table}
use Rattle.base.proofs.Lists.{table_is, same_at}
use Rattle.network.specs.declared.Network.{Network}
use Rattle.process.specs.Channels.{no_channel}
use Rattle.lane.specs.State.{no_standing, fresh_channel, fresh_of}
use Rattle.lane.specs.Sound.{sound_of}
use Rattle.bench.proofs.Parts.{channel, standings_of, channels_of, lane_of, Parts, parts}

-- ---- channels of lists of one length: how many, and what stands at a place
pub channels_length : (n : ℕ) (ns os hs ms : List ℕ) (cs : List Bool) → length ns ≡ n → length os ≡ n → length hs ≡ n → length ms ≡ n → length cs ≡ n
    → length (channels_of ns os hs ms cs) ≡ n
unfolding channels_of
channels_length n [] os hs ms cs a b d f e = a
channels_length n (x ∷ ns) [] hs ms cs a b d f e = b
channels_length n (x ∷ ns) (o ∷ os) [] ms cs a b d f e = d
channels_length n (x ∷ ns) (o ∷ os) (h ∷ hs) [] cs a b d f e = f
channels_length n (x ∷ ns) (o ∷ os) (h ∷ hs) (m ∷ ms) [] a b d f e = e
channels_length zero (x ∷ ns) (o ∷ os) (h ∷ hs) (m ∷ ms) (c ∷ cs) a b d f e = absurd (omega arith)
channels_length (suc n) (x ∷ ns) (o ∷ os) (h ∷ hs) (m ∷ ms) (c ∷ cs) a b d f e =
    ap suc (channels_length n ns os hs ms cs (omega arith) (omega arith) (omega arith) (omega arith) (omega arith))

pub channel_at_lem : (n : ℕ) (ns os hs ms : List ℕ) (cs : List Bool) → length ns ≡ n → length os ≡ n → length hs ≡ n → length ms ≡ n → length cs ≡ n → (i : ℕ)
    → get_or (channels_of ns os hs ms cs) i no_channel ≡ channel (get_or ns i 0) (get_or os i 0) (get_or hs i 0) (get_or ms i 0) (get_or cs i false)
unfolding channels_of
channel_at_lem n [] [] [] [] [] a b d f e i = refl
channel_at_lem n [] [] [] [] (c ∷ cs) a b d f e i = absurd (omega arith)
channel_at_lem n [] [] [] (m ∷ ms) cs a b d f e i = absurd (omega arith)
channel_at_lem n [] [] (h ∷ hs) ms cs a b d f e i = absurd (omega arith)
channel_at_lem n [] (o ∷ os) hs ms cs a b d f e i = absurd (omega arith)
channel_at_lem n (x ∷ ns) [] hs ms cs a b d f e i = absurd (omega arith)
channel_at_lem n (x ∷ ns) (o ∷ os) [] ms cs a b d f e i = absurd (omega arith)
channel_at_lem n (x ∷ ns) (o ∷ os) (h ∷ hs) [] cs a b d f e i = absurd (omega arith)
channel_at_lem n (x ∷ ns) (o ∷ os) (h ∷ hs) (m ∷ ms) [] a b d f e i = absurd (omega arith)
channel_at_lem zero (x ∷ ns) (o ∷ os) (h ∷ hs) (m ∷ ms) (c ∷ cs) a b d f e i = absurd (omega arith)
channel_at_lem (suc n) (x ∷ ns) (o ∷ os) (h ∷ hs) (m ∷ ms) (c ∷ cs) a b d f e zero = refl
channel_at_lem (suc n) (x ∷ ns) (o ∷ os) (h ∷ hs) (m ∷ ms) (c ∷ cs) a b d f e (suc i) =
    channel_at_lem n ns os hs ms cs (omega arith) (omega arith) (omega arith) (omega arith) (omega arith) i

-- ---- the fresh lane
standings_fresh : standings_of (replicate 16 0) (replicate 16 0) (replicate 16 0) ≡ replicate 16 no_standing
unfolding standings_of
standings_fresh = refl

module _ (n : Network) where
  -- every register and count 0, each process at position 0 and live, each channel with the file's capacity, empty and open
  abbrev pub fresh_parts : Parts
  fresh_parts =
      parts (replicate 128 (pos 0)) (replicate 16 0) (replicate 16 0) (replicate 16 0) n.capacity (replicate 32 0) (replicate 32 0) (replicate 32 0) (replicate 32 false)

  -- a network has 32 capacities, as any value of the declared record does
  module _ (long : length n.capacity ≡ 32) where
    channels_fresh : channels_of n.capacity (replicate 32 0) (replicate 32 0) (replicate 32 0) (replicate 32 false) ≡ table 32 (fresh_channel n)
    channels_fresh =
        table_is (fresh_channel n) 32 no_channel _
        (channels_length 32 n.capacity (replicate 32 0) (replicate 32 0) (replicate 32 0) (replicate 32 false) long refl refl refl refl)
        (λ k h.
        channel_at_lem 32 n.capacity (replicate 32 0) (replicate 32 0) (replicate 32 0) (replicate 32 false) long refl refl refl refl k
        ∙ rw (same_at {A = ℕ} 32 k 0, same_at 32 k false))

    -- the lane of these arrays, with no call accepted, is the fresh one
    pub fresh_is : lane_of n 0 fresh_parts ≡ fresh_of n
    unfolding fresh_of
    fresh_is = rw (standings_fresh, channels_fresh)

-- the count of accepted calls says nothing of soundness
pub sound_counted : (n : Network) (t : Parts) (a b : ℕ) → sound_of (lane_of n a t) ≡ true → sound_of (lane_of n b t) ≡ true
unfolding sound_of
sound_counted n t a b e = e
