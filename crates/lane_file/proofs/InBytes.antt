-- Lists of bytes: a test of one that is computed; and the file of a network that passes the file's rules, where the network's code is one.
-- Assumes nothing.
use mathlib.Core.Path.{◌≡◌, refl}
use mathlib.Core.Bool.{Bool, true, false, not, ◌&&◌, ◌||◌}
use mathlib.Core.List.{List, [], ◌∷◌, ◌++◌}
use Prim.Native.Nat.{ℕ, zero, suc, ◌+◌, ◌*◌, ◌≤◌, ◌<◌}
use native.Mathlib.Decide.{dec_lt}
use native.Mathlib.Omega.{arith}
use borrow.Author.Tests.{ltb-true, eqb-true}
use lib.Bits.{bit_xor, xor_lt}
use lib.Dec.{ltb, eqb}
use lib.ListN.{length, get_or, take, drop, get_or-eq_default}
use lib.Seq.{get_or-take, get_or-drop}
use Rattle.base.specs.Lists.{two_bytes}
use Rattle.base.specs.Tests.{between}
use Rattle.base.proofs.Conjunction.{both_true, between_true}
use Rattle.base.proofs.Tests.{each_true}
use Rattle.block_check.specs.Crc.{bit, bits, byte, from, crc}
use Rattle.block_check.proofs.Law.{bit_lt}
use Rattle.network.specs.declared.Network.{Network}
use Rattle.network.specs.Rules.{start_of, count_of, sender_of, receiver_of, capacity_of, outside, end_right, ends_right, record_right, records}
use Rattle.network.proofs.Passed.{Passed}
use Rattle.network.proofs.Slot.{ends_within}
use Rattle.lane_file.specs.File.{header_of, slot_of, record_of}
use Rattle.lane_file.specs.Read.{Bytes}
use Rattle.lane_file.proofs.Accepts.{slot_zero_lem, record_zero_lem}
use Rattle.lane_file.proofs.Joined.{length_part}
use Rattle.lane_file.proofs.Places.{blocks_of, Holds, first_places, body_places, all_places}

-- ---- a list is bytes: a test that is computed
abbrev pub all_bytes : List ℕ → Bool
all_bytes [] = true
all_bytes (b ∷ bs) = ltb b 256 && all_bytes bs

pub bytes_by : (l : List ℕ) → all_bytes l ≡ true → Bytes l
bytes_by [] e k = omega arith
bytes_by (b ∷ bs) e zero = ltb-true b 256 (both_true (ltb b 256) (all_bytes bs) e).0
bytes_by (b ∷ bs) e (suc k) = bytes_by bs (both_true (ltb b 256) (all_bytes bs) e).1 k

-- ---- the check of a list of bytes is a number of two
bits_lt : (n c : ℕ) → c < 65536 → bits n c < 65536
bits_lt zero c h = h
bits_lt (suc n) c h = bits_lt n (bit c) (bit_lt c h)

from_lt : (bs : List ℕ) (c : ℕ) → Bytes bs → c < 65536 → from c bs < 65536
from_lt [] c g h = h
from_lt (b ∷ bs) c g h = from_lt bs (byte c b) (λ k. g (suc k)) (bits_lt 8 (bit_xor c (b * 256)) (xor_lt 16 c (b * 256) h (omega (arith, g 0))))

crc_lt : (bs : List ℕ) → Bytes bs → crc bs < 65536
unfolding crc
crc_lt bs g = from_lt bs 0xFFFF g (omega arith)

-- ---- numbers of two bytes, and lists of them
two_bytes_lem : (x q : ℕ) → x < 65536 → get_or (two_bytes x) q 0 < 256
two_bytes_lem x zero h = omega arith
two_bytes_lem x (suc zero) h = omega arith
two_bytes_lem x (suc (suc q)) h = omega arith

-- the end of a channel
end_byte : (e processes : ℕ) → processes ≤ 16 → end_right e processes ≡ true → e < 256
end_byte e processes h t = go (ltb e processes) refl t
  where
    go : (b : Bool) → ltb e processes ≡ b → (b || eqb e outside) ≡ true → e < 256
    go true l t = omega (arith, ltb-true e processes l)
    go false l t = omega (arith, eqb-true e outside t)

module _ (n : Network) (passed : Passed n) where
  header_byte : (r : ℕ) → get_or (header_of n) r 0 < 256
  header_byte zero = omega arith
  header_byte (suc zero) = omega arith
  header_byte (suc (suc zero)) = omega arith
  header_byte (suc (suc (suc zero))) = omega (arith, passed.processes_high)
  header_byte (suc (suc (suc (suc zero)))) = omega (arith, passed.channels_high)
  header_byte (suc (suc (suc (suc (suc zero))))) = omega (arith, passed.total_high)
  header_byte (suc (suc (suc (suc (suc (suc zero)))))) = omega arith
  header_byte (suc (suc (suc (suc (suc (suc (suc zero))))))) = omega arith
  header_byte (suc (suc (suc (suc (suc (suc (suc (suc r)))))))) = omega arith

  slot_byte : (p q : ℕ) → p < 16 → q < 4 → get_or (slot_of n p) q 0 < 256
  slot_byte p q hp hq = go (dec_lt p n.processes)
    where
      fits : (x y q : ℕ) → x < 65536 → y < 65536 → get_or (two_bytes x ++ two_bytes y) q 0 < 256
      fits x y zero hx hy = two_bytes_lem x 0 hx
      fits x y (suc zero) hx hy = two_bytes_lem x 1 hx
      fits x y (suc (suc q)) hx hy = two_bytes_lem y q hy

      go : Dec (p < n.processes) → get_or (slot_of n p) q 0 < 256
      go (yes l) =
          let e = ends_within n passed.slots_good p l in
          fits (start_of n p) (count_of n p) q (omega (arith, e, passed.total_high)) (omega (arith, e, passed.total_high))
      go (no l) = omega (arith, slot_zero_lem n passed.unused_slots_good p q (omega arith) hp)

  -- a channel's record below C
  ends_byte : (c : ℕ) → c < n.channels → (sender_of n c < 256) × (receiver_of n c < 256) × (capacity_of n c < 65536)
  unfolding records ends_right
  ends_byte c h =
      let a = both_true _ (between 1 (capacity_of n c) 256) (each_true (record_right n) 0 n.channels passed.records_good c (omega arith) (omega arith)) in
      let b = both_true _ (not (eqb (sender_of n c) outside && eqb (receiver_of n c) outside)) a.0 in
      let e = both_true (end_right (sender_of n c) n.processes) _ b.0 in (
        end_byte (sender_of n c) n.processes passed.processes_high e.0,
        end_byte (receiver_of n c) n.processes passed.processes_high e.1,
        omega (arith, between_true 1 (capacity_of n c) 256 a.1),
      )

  channel_byte : (c q : ℕ) → c < 32 → q < 4 → get_or (record_of n c) q 0 < 256
  channel_byte c q hc hq = go (dec_lt c n.channels)
    where
      fits : (x y z q : ℕ) → x < 256 → y < 256 → z < 65536 → get_or (x ∷ y ∷ two_bytes z) q 0 < 256
      fits x y z zero hx hy hz = hx
      fits x y z (suc zero) hx hy hz = hy
      fits x y z (suc (suc q)) hx hy hz = two_bytes_lem z q hz

      go : Dec (c < n.channels) → get_or (record_of n c) q 0 < 256
      go (yes l) = let e = ends_byte c l in fits (sender_of n c) (receiver_of n c) (capacity_of n c) q e.0 e.1 e.2
      go (no l) = omega (arith, record_zero_lem n passed.unused_records_good c q (omega arith) hc)

-- ---- a list that holds the network
module _ (n : Network) (passed : Passed n) (bytes : Bytes n.code) (s : List ℕ) (h : Holds n s) where
  abbrev Byte : ℕ → Type 0
  Byte j = get_or s j 0 < 256

  body_byte : (k r : ℕ) → k < blocks_of n + 1 → r < 510 → Byte (512 * k + r)
  body_byte =
      body_places (blocks_of n) Byte
      (first_places Byte
      (λ r l. omega (arith, h.header r l, header_byte n passed r))
      (λ p q hp hq. omega (arith, h.slot p q hp hq, slot_byte n passed p q hp hq))
      (λ c q hc hq. omega (arith, h.channel c q hc hq, channel_byte n passed c q hc hq))
      (λ r l. omega (arith, h.zeros r l)))
      (λ k r hk hr. omega (arith, h.code k r hk hr, bytes (508 * k + r)))
      (λ k q hk hq. omega (arith, h.number k q hk hq, two_bytes_lem (k + 1) q (omega (arith, passed.total_high))))

  -- what the check of block k is over
  part_bytes : (k : ℕ) → k < blocks_of n + 1 → Bytes (take 510 (drop (512 * k) s))
  part_bytes k l i = go (dec_lt i 510)
    where
      go : Dec (i < 510) → get_or (take 510 (drop (512 * k) s)) i 0 < 256
      go (yes m) = omega (arith, get_or-take 510 (drop (512 * k) s) i 0 m, get_or-drop (512 * k) s i 0, body_byte k i l m)
      go (no m) = omega (arith, get_or-eq_default (take 510 (drop (512 * k) s)) 0 {n = i} (omega (arith, length_part s (512 * k) 510 (omega (arith, h.long)))))

  check_byte : (k q : ℕ) → k < blocks_of n + 1 → q < 2 → Byte (512 * k + (510 + q))
  check_byte k q l m =
      let part = take 510 (drop (512 * k) s) in
      omega (arith, h.check k q l m, two_bytes_lem (crc part) q (crc_lt part (part_bytes k l)))

  pub holds_bytes : Bytes s
  holds_bytes j = go (dec_lt j (length s))
    where
      go : Dec (j < length s) → get_or s j 0 < 256
      go (yes l) = all_places (blocks_of n) Byte body_byte check_byte j (omega (arith, h.long))
      go (no l) = omega (arith, get_or-eq_default s 0 {n = j} (omega arith))
