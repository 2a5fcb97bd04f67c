-- `sound_parts::limits` meets its contract. The loop's invariant: each of the three numbers has the answer of the channels passed.
-- Assumes nothing.
use mathlib.Core.Path.{◌≡◌, refl, sym}
use mathlib.Core.Bool.{Bool, true, false, ◌&&◌, and-false, false≢true}
use Prim.Native.Nat.{ℕ, ◌+◌}
use native.Mathlib.Nat.{zero-add}
use native.Mathlib.Omega.{arith}
use borrow.Author.Tests.{leb-true, le-leb}
use lib.Bits.{bit_or}
use lib.Dec.{leb}
use Rattle.base.specs.Tests.{between}
use Rattle.process.specs.declared.Channel.{Channel}
use Rattle.lane.specs.declared.Lane.{Lane}
use Rattle.lane.specs.State.{channel_of}
use Rattle.lane.specs.Sound.{channel_sound}
use Rattle.flags.specs.Clean.{clean}
use Rattle.flags.proofs.Clean.{Tells, laid, one}
use Rattle.sound_parts.proofs.limits.Given as goal

-- the three tests of a channel
abbrev pub roomy : Lane → ℕ → Bool
roomy lane c = between 1 (channel_of lane c).capacity 256

abbrev pub early : Lane → ℕ → Bool
early lane c = leb (channel_of lane c).oldest 255

abbrev pub filled : Lane → ℕ → Bool
filled lane c = leb (channel_of lane c).held (channel_of lane c).peak && leb (channel_of lane c).peak (channel_of lane c).capacity

-- one channel more
pub more : (mask : ℕ) (test : ℕ → Bool) (c x y : ℕ) → Tells mask test 0 c x → clean mask y ≡ test c → Tells mask test 0 (c + 1) (bit_or x y)
more mask test c x y p q = laid mask test 0 c 1 x y p (rw zero-add (one mask test y c q))

-- the limits of a channel are the two tests: that no more is held than the capacity follows from the second
pub turned : (a b c d e : Bool) → (d ≡ true → e ≡ true → a ≡ true) → (a && b && c && d && e && true && true) ≡ (b && c && (d && e))
turned true true true true true f = refl
turned true true true true false f = refl
turned true true true false e f = refl
turned true true false d e f = refl
turned true false c d e f = refl
turned false b c true true f = absurd (false≢true (f refl refl))
turned false b c true false f = sym (and-false (b && c))
turned false b c false e f = sym (and-false (b && c))

pub two : (h : Channel) → channel_sound false false h ≡ (between 1 h.capacity 256 && leb h.oldest 255 && (leb h.held h.peak && leb h.peak h.capacity))
unfolding channel_sound
two h =
    turned (leb h.held h.capacity) (between 1 h.capacity 256) (leb h.oldest 255) (leb h.held h.peak) (leb h.peak h.capacity)
    (λ d e. le-leb h.held h.capacity (omega (arith, leb-true h.held h.peak d, leb-true h.peak h.capacity e)))

abbrev pub invariant-loop-c : goal.invariant-loop-c
invariant-loop-c l =
    Tells 0xFF00 (roomy l.lane) 0 l.c l.rooms × Tells 0xFF00 (early l.lane) 0 l.c l.oldests × Tells 0x10000 (filled l.lane) 0 l.c l.fillings
