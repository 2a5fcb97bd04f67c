-- Of a list of bytes that passes the seven tests of a file, the network that is read passes the file's rules, and the list holds it.
-- Assumes nothing.
use mathlib.Core.Path.{◌≡◌, sym, ◌∙◌}
use mathlib.Core.Bool.{true}
use mathlib.Core.List.{List}
use Prim.Native.Nat.{ℕ, zero, suc, ◌+◌, ◌-◌, ◌*◌, ◌/◌, ◌%◌, ◌≤◌, ◌<◌}
use native.Mathlib.Decide.{dec_lt}
use native.Mathlib.Omega.{arith}
use borrow.Author.Tests.{eqb-true, eq-eqb}
use lib.Dec.{eqb}
use lib.ListN.{length, get_or, take, drop, get_or-eq_default}
use Rattle.std.specs.declared.result.Result.TheVariants.{Ok}
use Rattle.base.specs.Lists.{word_at, two_bytes}
use Rattle.base.specs.Tests.{need, is_zero}
use Rattle.base.proofs.Tests.{both, need_true, each_true, all_true}
use Rattle.block_check.specs.Crc.{crc}
use Rattle.network.specs.Rules.{start_of, count_of, sender_of, receiver_of, capacity_of, slot_zero, record_zero, slots, total, unused_slots, unused_records, unused_code}
use Rattle.base.proofs.Conjunction.{both_true, true_both, between_true}
use Rattle.network.proofs.Passed.{Passed, total_positive}
use Rattle.lane_file.specs.File.{header_of, slot_of, record_of}
use Rattle.lane_file.specs.Read.{Bytes, blocks, code_place, network_of, check_right, checks}
use Rattle.lane_file.proofs.Joined.{same_place}
use Rattle.lane_file.proofs.Places.{blocks_of, Holds}
use Rattle.lane_file.proofs.Verdicts.{Seven, Headed, headed, Rested, rested}
use Rattle.lane_file.proofs.Fields.{processes_of, channels_of_lem, start_of_lem, count_of_lem, sender_of_lem, receiver_of_lem, capacity_of_lem, code_of_lem}

-- the two bytes of a number that stands in a list of bytes
word_bytes : (s : List ℕ) → Bytes s → (k x : ℕ) → x ≡ word_at s k → (q : ℕ) → q < 2 → get_or s (k + q) 0 ≡ get_or (two_bytes x) q 0
word_bytes s bytes k x e zero h = same_place s (k + 0) k (omega arith) ∙ omega (arith, bytes (k + 1))
word_bytes s bytes k x e (suc zero) h = omega (arith, bytes (k + 1))
word_bytes s bytes k x e (suc (suc q)) h = absurd (omega arith)

-- ---- a list of bytes that passes the seven tests
module _ (s : List ℕ) (bytes : Bytes s) (v : Seven s (network_of s)) where
  header_facts : Headed s
  header_facts = headed s v.header_good

  rest_facts : Rested s (network_of s)
  rest_facts = rested s (network_of s) v.rest_good

  slots_facts : (slots (network_of s) ≡ Ok tt) × (need (eqb (get_or s 5 0) (blocks_of (network_of s))) 16 ≡ Ok tt)
  slots_facts = both (slots (network_of s)) _ v.slots_good

  -- 2 to 9 blocks
  whole : (length s % 512 ≡ 0) × (2 ≤ length s / 512) × (length s / 512 ≤ 9)
  whole =
      let a = both_true (eqb (length s % 512) 0) _ v.length_right_lem in
      let b = between_true 2 (length s / 512) 9 a.1 in
      (eqb-true (length s % 512) 0 a.0, b.0, b.1)

  blocks_are : get_or s 5 0 ≡ blocks_of (network_of s)
  blocks_are = eqb-true (get_or s 5 0) (blocks_of (network_of s)) (need_true _ 16 slots_facts.1)

  sized : blocks s ≡ blocks_of (network_of s) + 1
  sized = omega (arith, whole, blocks_are, header_facts.at_5)

  few : blocks_of (network_of s) ≤ 8
  few = omega (arith, whole, sized)

  -- ---- it holds the network that is read
  header_at : (r : ℕ) → r < 8 → get_or s r 0 ≡ get_or (header_of (network_of s)) r 0
  header_at zero h = header_facts.at_0
  header_at (suc zero) h = header_facts.at_1
  header_at (suc (suc zero)) h = header_facts.at_2
  header_at (suc (suc (suc zero))) h = sym (processes_of s)
  header_at (suc (suc (suc (suc zero)))) h = sym (channels_of_lem s)
  header_at (suc (suc (suc (suc (suc zero))))) h = blocks_are
  header_at (suc (suc (suc (suc (suc (suc zero)))))) h = rest_facts.header_zeros 6 (omega arith) (omega arith)
  header_at (suc (suc (suc (suc (suc (suc (suc zero))))))) h = rest_facts.header_zeros 7 (omega arith) (omega arith)
  header_at (suc (suc (suc (suc (suc (suc (suc (suc r)))))))) h = absurd (omega arith)

  slot_at : (p q : ℕ) → p < 16 → q < 4 → get_or s (8 + (4 * p + q)) 0 ≡ get_or (slot_of (network_of s) p) q 0
  slot_at p zero hp hq =
      same_place s (8 + (4 * p + 0)) (8 + 4 * p + 0) (omega arith)
      ∙ word_bytes s bytes (8 + 4 * p) (start_of (network_of s) p) (start_of_lem s p hp) 0 (omega arith)
  slot_at p (suc zero) hp hq =
      same_place s (8 + (4 * p + 1)) (8 + 4 * p + 1) (omega arith)
      ∙ word_bytes s bytes (8 + 4 * p) (start_of (network_of s) p) (start_of_lem s p hp) 1 (omega arith)
  slot_at p (suc (suc zero)) hp hq =
      same_place s (8 + (4 * p + 2)) (10 + 4 * p + 0) (omega arith)
      ∙ word_bytes s bytes (10 + 4 * p) (count_of (network_of s) p) (count_of_lem s p hp) 0 (omega arith)
  slot_at p (suc (suc (suc zero))) hp hq =
      same_place s (8 + (4 * p + 3)) (10 + 4 * p + 1) (omega arith)
      ∙ word_bytes s bytes (10 + 4 * p) (count_of (network_of s) p) (count_of_lem s p hp) 1 (omega arith)
  slot_at p (suc (suc (suc (suc q)))) hp hq = absurd (omega arith)

  channel_at_lem : (c q : ℕ) → c < 32 → q < 4 → get_or s (72 + (4 * c + q)) 0 ≡ get_or (record_of (network_of s) c) q 0
  channel_at_lem c zero hc hq = same_place s (72 + (4 * c + 0)) (72 + 4 * c) (omega arith) ∙ sym (sender_of_lem s c hc)
  channel_at_lem c (suc zero) hc hq = same_place s (72 + (4 * c + 1)) (73 + 4 * c) (omega arith) ∙ sym (receiver_of_lem s c hc)
  channel_at_lem c (suc (suc zero)) hc hq =
      same_place s (72 + (4 * c + 2)) (74 + 4 * c + 0) (omega arith)
      ∙ word_bytes s bytes (74 + 4 * c) (capacity_of (network_of s) c) (capacity_of_lem s c hc) 0 (omega arith)
  channel_at_lem c (suc (suc (suc zero))) hc hq =
      same_place s (72 + (4 * c + 3)) (74 + 4 * c + 1) (omega arith)
      ∙ word_bytes s bytes (74 + 4 * c) (capacity_of (network_of s) c) (capacity_of_lem s c hc) 1 (omega arith)
  channel_at_lem c (suc (suc (suc (suc q)))) hc hq = absurd (omega arith)

  code_at : (k r : ℕ) → k < blocks_of (network_of s) → r < 508 → get_or s (512 * (k + 1) + r) 0 ≡ get_or (network_of s).code (508 * k + r) 0
  code_at k r hk hr =
      same_place s (512 * (k + 1) + r) (code_place (508 * k + r)) (omega arith) ∙ sym (code_of_lem s (508 * k + r) (omega (arith, few)))

  number_at : (k q : ℕ) → k < blocks_of (network_of s) → q < 2 → get_or s (512 * (k + 1) + (508 + q)) 0 ≡ get_or (two_bytes (k + 1)) q 0
  number_at k zero hk hq = (rest_facts.code (k + 1) (omega arith) (omega (arith, sized))).high
  number_at k (suc zero) hk hq = (rest_facts.code (k + 1) (omega arith) (omega (arith, sized))).low
  number_at k (suc (suc q)) hk hq = absurd (omega arith)

  checked_at : (k : ℕ) → k < blocks s → check_right s k ≡ true
  unfolding checks
  checked_at k h = each_true (check_right s) 0 (blocks s) v.checks_good k (omega arith) (omega arith)

  check_at : (k q : ℕ) → k < blocks_of (network_of s) + 1 → q < 2
      → get_or s (512 * k + (510 + q)) 0 ≡ get_or (two_bytes (crc (take 510 (drop (512 * k) s)))) q 0
  check_at k q hk hq =
      same_place s (512 * k + (510 + q)) (512 * k + 510 + q) (omega arith)
      ∙ word_bytes s bytes (512 * k + 510) (crc (take 510 (drop (512 * k) s)))
      (sym (eqb-true (word_at s (512 * k + 510)) (crc (take 510 (drop (512 * k) s))) (checked_at k (omega (arith, sized))))) q hq

  pub read_holds : Holds (network_of s) s
  read_holds =
      record {
        long = omega (arith, whole, sized);
        header = header_at;
        slot = slot_at;
        channel = channel_at_lem;
        zeros = λ r h. rest_facts.record_zeros (200 + r) (omega (arith, channels_of_lem s, header_facts.channels)) (omega arith);
        code = code_at;
        number = number_at;
        check = check_at;
      }

  -- ---- and that network passes
  unused_slots_lem : unused_slots (network_of s) ≡ Ok tt
  unfolding unused_slots
  unused_slots_lem =
      all_true (slot_zero (network_of s)) (network_of s).processes (16 - (network_of s).processes)
      (λ p a b. let l : p < 16 = omega (arith, processes_of s, header_facts.processes) in
      true_both _ _
      (eq-eqb (start_of (network_of s) p) 0
      (omega (arith, start_of_lem s p l, rest_facts.slot_zeros (8 + 4 * p) (omega arith) (omega arith), rest_facts.slot_zeros (8 + 4 * p + 1) (omega arith) (omega arith))))
      (eq-eqb (count_of (network_of s) p) 0
      (omega (arith, count_of_lem s p l, rest_facts.slot_zeros (10 + 4 * p) (omega arith) (omega arith), rest_facts.slot_zeros (10 + 4 * p + 1) (omega arith) (omega arith)))))

  unused_records_lem : unused_records (network_of s) ≡ Ok tt
  unfolding unused_records
  unused_records_lem =
      all_true (record_zero (network_of s)) (network_of s).channels (32 - (network_of s).channels)
      (λ c a b. let l : c < 32 = omega (arith, channels_of_lem s, header_facts.channels) in
      true_both _ _
      (true_both _ _
      (eq-eqb (sender_of (network_of s) c) 0 (sender_of_lem s c l ∙ rest_facts.record_zeros (72 + 4 * c) (omega arith) (omega arith)))
      (eq-eqb (receiver_of (network_of s) c) 0 (receiver_of_lem s c l ∙ rest_facts.record_zeros (73 + 4 * c) (omega arith) (omega arith))))
      (eq-eqb (capacity_of (network_of s) c) 0
      (omega (arith, capacity_of_lem s c l, rest_facts.record_zeros (74 + 4 * c) (omega arith) (omega arith), rest_facts.record_zeros (74 + 4 * c + 1) (omega arith) (omega arith)))))

  -- byte j of the code past the last process's end: in a code block it is tested, and past the file's end it is zero
  unused_byte : (j : ℕ) → 4 * total (network_of s) ≤ j → j < 4064 → get_or s (code_place j) 0 ≡ 0
  unused_byte j a b = go (dec_lt (1 + j / 508) (blocks s))
    where
      go : Dec (1 + j / 508 < blocks s) → get_or s (code_place j) 0 ≡ 0
      go (yes l) = (rest_facts.code (1 + j / 508) (omega arith) l).zeros (code_place j) (omega arith) (omega arith)
      go (no l) = get_or-eq_default s 0 (omega (arith, whole))

  unused_code_lem : unused_code (network_of s) ≡ Ok tt
  unfolding unused_code
  unused_code_lem =
      all_true (is_zero (network_of s).code) (4 * total (network_of s)) (4064 - 4 * total (network_of s))
      (λ j a b. let l : j < 4064 = omega (arith, few) in
      eq-eqb (get_or (network_of s).code j 0) 0 (code_of_lem s j l ∙ unused_byte j a l))

  pub read_passed : Passed (network_of s)
  read_passed =
      let low : 1 ≤ (network_of s).processes = omega (arith, processes_of s, header_facts.processes) in
      record {
        processes_low = low;
        processes_high = omega (arith, processes_of s, header_facts.processes);
        channels_low = omega (arith, channels_of_lem s, header_facts.channels);
        channels_high = omega (arith, channels_of_lem s, header_facts.channels);
        slots_good = slots_facts.0;
        total_low = total_positive (network_of s) low slots_facts.0;
        total_high = omega (arith, few);
        records_good = v.records_good;
        unused_slots_good = unused_slots_lem;
        unused_records_good = unused_records_lem;
        unused_code_good = unused_code_lem;
        instructions_good = v.instructions_good;
      }
