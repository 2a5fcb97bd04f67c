-- What the numbers of a channel leave in the sums that are laid over one another: one is clean of its flags exactly where the capacity is 1 to 256, one
-- where the oldest is at most 255, two others where no more is held than at the most, and where that is no more than the capacity.
-- Assumes nothing.
use mathlib.Core.Path.{◌≡◌, refl, ap, ◌∙◌}
use Prim.Native.Nat.{ℕ, zero, suc, ◌+◌, ◌-◌, ◌*◌, ◌/◌, ◌%◌, ◌<◌}
use native.Mathlib.Nat.{mod-eq_of_lt}
use native.Mathlib.Omega.{arith}
use borrow.Author.Tests.{leb-true, le-leb, eqb-true, eq-eqb}
use lib.Bits.{bit_and, and_high}
use lib.Dec.{leb}
use Rattle.base.specs.Tests.{between}
use Rattle.base.proofs.Conjunction.{iff, between_true, true_between}
use Rattle.flags.specs.Clean.{clean}

-- a number of two bytes, whatever stands above it, is clean of the upper one where it is at most 255
upper : (high d : ℕ) → d < 65536 → clean 0xFF00 (65536 * high + d) ≡ leb d 255
upper high d h =
    let e : bit_and (65536 * high + d) 0xFF00 ≡ (65536 * high + d) / 256 % 256 * 256 = and_high (65536 * high + d) 8 8 in
    let q : (65536 * high + d) / 256 ≡ 256 * high + d / 256 = omega arith in
    let r : (256 * high + d / 256) % 256 ≡ d / 256 = omega arith in
    let f : bit_and (65536 * high + d) 0xFF00 ≡ d / 256 * 256 = e ∙ rw (q, r) in
    iff _ _ (omega (arith, eqb-true, le-leb)) (omega (arith, leb-true, eq-eqb))

-- a capacity from 1 on, less 1
from_one : (k : ℕ) → leb k 255 ≡ between 1 (suc k) 256
from_one k = iff _ _ (λ t. true_between 1 (suc k) 256 (omega arith) (omega (arith, leb-true))) (λ t. le-leb k 255 (omega (arith, (between_true 1 (suc k) 256 t).1)))

-- the capacity less 1, below the digit that is carried; where it is 0, all digits
pub room_clean : (capacity : ℕ) → capacity < 65536 → clean 0xFF00 (capacity + 0xFFFF) ≡ between 1 capacity 256
room_clean zero h = refl
room_clean (suc k) h = let e : suc k + 0xFFFF ≡ 65536 * 1 + k = omega arith in ap (clean 0xFF00) e ∙ upper 1 k (omega arith) ∙ from_one k

pub oldest_clean : (oldest : ℕ) → oldest < 65536 → clean 0xFF00 oldest ≡ leb oldest 255
oldest_clean oldest h = let e : oldest ≡ 65536 * 0 + oldest = omega arith in ap (clean 0xFF00) e ∙ upper 0 oldest h

-- no number a above b
pub above_clean : (a b : ℕ) → a < 65536 → b < 65536 → clean 0x10000 (a + 0xFFFF - b) ≡ leb a b
above_clean a b h l =
    let e : bit_and (a + 0xFFFF - b) 0x10000 ≡ (a + 0xFFFF - b) / 65536 % 2 * 65536 = and_high (a + 0xFFFF - b) 1 16 in
    let q : (a + 0xFFFF - b) / 65536 % 2 ≡ (a + 0xFFFF - b) / 65536 = mod-eq_of_lt (omega arith) in
    iff _ _ (omega (arith, eqb-true, le-leb)) (omega (arith, leb-true, eq-eqb))
