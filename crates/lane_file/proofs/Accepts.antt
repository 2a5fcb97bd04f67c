-- A list of bytes that holds a network that passes the file's rules passes the seven tests of a file.
-- Assumes nothing.
use mathlib.Core.Path.{◌≡◌, refl, ap, ap₂, subst, ◌∙◌}
use mathlib.Core.Bool.{true, ◌&&◌}
use mathlib.Core.List.{List, [], ◌∷◌, ◌++◌}
use Prim.Native.Nat.{ℕ, zero, suc, ◌+◌, ◌-◌, ◌*◌, ◌/◌, ◌%◌, ◌≤◌, ◌<◌}
use native.Mathlib.Decide.{dec_lt}
use native.Mathlib.Omega.{arith}
use borrow.Author.Tests.{eqb-true, eq-eqb}
use lib.Dec.{eqb}
use lib.ListN.{length, get_or, take, drop}
use Rattle.std.specs.declared.result.Result.TheVariants.{Ok}
use Rattle.base.specs.Lists.{word_at, two_bytes}
use Rattle.base.proofs.Tests.{both_good, true_need, all, each_true, all_true}
use Rattle.block_check.specs.Crc.{crc}
use Rattle.network.specs.declared.Network.{Network}
use Rattle.network.specs.Rules.{start_of, count_of, sender_of, receiver_of, capacity_of, processes_right, channels_right, slot_zero, record_zero, slots, total, unused_slots, unused_records}
use Rattle.base.proofs.Conjunction.{both_true, true_both, true_between}
use Rattle.network.proofs.Passed.{Passed}
use Rattle.lane_file.specs.File.{slot_of, record_of}
use Rattle.lane_file.specs.Read.{blocks, length_right, check_right, checks, header, slots_in, unused_from, code_rest, rest_in}
use Rattle.lane_file.proofs.Joined.{same_place}
use Rattle.lane_file.proofs.Places.{blocks_of, Holds, first_places}
use Rattle.lane_file.proofs.Verdicts.{all_zero, Seven}
use Rattle.lane_file.proofs.Fields.{word_is, code_zero}

-- ---- unused entries are zero byte by byte
four_zeros : (q : ℕ) → get_or {A = ℕ} (0 ∷ 0 ∷ 0 ∷ 0 ∷ []) q 0 ≡ 0
four_zeros zero = refl
four_zeros (suc zero) = refl
four_zeros (suc (suc zero)) = refl
four_zeros (suc (suc (suc zero))) = refl
four_zeros (suc (suc (suc (suc q)))) = refl

pub slot_zero_lem : (n : Network) → unused_slots n ≡ Ok tt → (p q : ℕ) → n.processes ≤ p → p < 16 → get_or (slot_of n p) q 0 ≡ 0
unfolding unused_slots
slot_zero_lem n g p q a b =
    let z = both_true (eqb (start_of n p) 0) (eqb (count_of n p) 0)
    (each_true (slot_zero n) n.processes (16 - n.processes) g p a (omega arith)) in
    ap₂ (λ (a b : ℕ). get_or (two_bytes a ++ two_bytes b) q 0) (eqb-true (start_of n p) 0 z.0) (eqb-true (count_of n p) 0 z.1) ∙ four_zeros q

pub record_zero_lem : (n : Network) → unused_records n ≡ Ok tt → (c q : ℕ) → n.channels ≤ c → c < 32 → get_or (record_of n c) q 0 ≡ 0
unfolding unused_records
record_zero_lem n g c q a b =
    let z = both_true (eqb (sender_of n c) 0 && eqb (receiver_of n c) 0) (eqb (capacity_of n c) 0)
    (each_true (record_zero n) n.channels (32 - n.channels) g c a (omega arith)) in
    let y = both_true (eqb (sender_of n c) 0) (eqb (receiver_of n c) 0) z.0 in
    ap₂ (λ (a b : ℕ). get_or (a ∷ b ∷ two_bytes (capacity_of n c)) q 0) (eqb-true (sender_of n c) 0 y.0) (eqb-true (receiver_of n c) 0 y.1)
    ∙ ap (λ (a : ℕ). get_or (0 ∷ 0 ∷ two_bytes a) q 0) (eqb-true (capacity_of n c) 0 z.1)
    ∙ four_zeros q

module _ (n : Network) (s : List ℕ) (h : Holds n s) (passed : Passed n) where
  length_good : length_right (length s) ≡ true
  length_good =
      true_both (eqb (length s % 512) 0) _ (eq-eqb (length s % 512) 0 (omega (arith, h.long, passed)))
      (true_between 2 (length s / 512) 9 (omega (arith, h.long, passed)) (omega (arith, h.long, passed)))

  check_good : (k : ℕ) → k < blocks_of n + 1 → check_right s k ≡ true
  check_good k l =
      eq-eqb (word_at s (512 * k + 510)) (crc (take 510 (drop (512 * k) s)))
      (word_is s (512 * k + 510) (crc (take 510 (drop (512 * k) s)))
      (same_place s (512 * k + 510) (512 * k + (510 + 0)) (omega arith) ∙ h.check k 0 l (omega arith))
      (same_place s (512 * k + 510 + 1) (512 * k + (510 + 1)) (omega arith) ∙ h.check k 1 l (omega arith)))

  checks_good : checks s ≡ Ok tt
  unfolding checks
  checks_good = all_true (check_right s) 0 (blocks s) (λ k a b. check_good k (omega (arith, h.long)))

  blocks_are : get_or s 5 0 ≡ blocks_of n
  blocks_are = h.header 5 (omega arith)

  header_good : header s ≡ Ok tt
  unfolding header
  header_good =
      both_good _ _ (true_need _ 0 (eq-eqb (get_or s 0 0) 0x4C (h.header 0 (omega arith))))
      (both_good _ _ (true_need _ 1 (eq-eqb (get_or s 1 0) 0x4E (h.header 1 (omega arith))))
      (both_good _ _ (true_need _ 2 (eq-eqb (get_or s 2 0) 1 (h.header 2 (omega arith))))
      (both_good _ _ (true_need _ 3 (ap processes_right (h.header 3 (omega arith)) ∙ true_between 1 n.processes 16 passed.processes_low passed.processes_high))
      (both_good _ _ (true_need _ 4 (ap channels_right (h.header 4 (omega arith)) ∙ true_between 1 n.channels 32 passed.channels_low passed.channels_high))
      (true_need _ 5 (eq-eqb (get_or s 5 0) (blocks s - 1) (omega (arith, blocks_are, h.long))))))))

  slots_good : slots_in s n ≡ Ok tt
  slots_good = both_good (slots n) _ passed.slots_good (true_need _ 16 (eq-eqb (get_or s 5 0) (blocks_of n) blocks_are))

  -- ---- 6: what must be zero
  header_zeros : (j : ℕ) → 6 ≤ j → j < 8 → get_or s j 0 ≡ 0
  header_zeros j a b = go (dec_lt j 7)
    where
      go : Dec (j < 7) → get_or s j 0 ≡ 0
      go (yes l) = same_place s j 6 (omega arith) ∙ h.header 6 (omega arith)
      go (no l) = same_place s j 7 (omega arith) ∙ h.header 7 (omega arith)

  slot_zeros : (j : ℕ) → 8 + 4 * n.processes ≤ j → j < 72 → get_or s j 0 ≡ 0
  slot_zeros j a b =
      same_place s j (8 + (4 * ((j - 8) / 4) + (j - 8) % 4)) (omega arith)
      ∙ h.slot ((j - 8) / 4) ((j - 8) % 4) (omega arith) (omega arith)
      ∙ slot_zero_lem n passed.unused_slots_good ((j - 8) / 4) ((j - 8) % 4) (omega arith) (omega arith)

  record_zeros : (j : ℕ) → j < 510 → 72 + 4 * n.channels ≤ j → get_or s j 0 ≡ 0
  record_zeros =
      first_places (λ j. 72 + 4 * n.channels ≤ j → get_or s j 0 ≡ 0)
      (λ r l m. absurd (omega arith))
      (λ p q hp hq m. absurd (omega arith))
      (λ c q hc hq m. h.channel c q hc hq ∙ record_zero_lem n passed.unused_records_good c q (omega arith) hc)
      (λ r l m. h.zeros r l)

  code_zeros : (k : ℕ) → k < blocks_of n → (j : ℕ) → unused_from (total n) (k + 1) ≤ j → j < 512 * (k + 1) + 508 → get_or s j 0 ≡ 0
  code_zeros k l j a b =
      let r : ℕ = j - 512 * (k + 1) in
      same_place s j (512 * (k + 1) + r) (omega arith)
      ∙ h.code k r l (omega arith)
      ∙ code_zero n passed.unused_code_good (508 * k + r) (omega arith) (omega (arith, passed.total_high))

  code_rest_lem : (k : ℕ) → k < blocks_of n → code_rest s (total n) (k + 1) ≡ Ok tt
  unfolding code_rest
  code_rest_lem k l =
      both_good _ _ (all_zero s (unused_from (total n) (k + 1)) (512 * (k + 1) + 508) (code_zeros k l))
      (both_good _ _ (true_need _ _ (eq-eqb (get_or s (512 * (k + 1) + 508) 0) ((k + 1) / 256) (h.number k 0 l (omega arith))))
      (true_need _ _ (eq-eqb (get_or s (512 * (k + 1) + 509) 0) ((k + 1) % 256) (h.number k 1 l (omega arith)))))

  rest_good : rest_in s n ≡ Ok tt
  unfolding rest_in
  rest_good =
      both_good _ _ (all_zero s 6 8 header_zeros)
      (both_good _ _ (all_zero s (8 + 4 * n.processes) 72 slot_zeros)
      (both_good _ _ (all_zero s (72 + 4 * n.channels) 510 (λ j a b. record_zeros j b a))
      (all (code_rest s (total n)) (blocks s - 1) 1
      (λ k a b. subst (λ (i : ℕ). code_rest s (total n) i ≡ Ok tt) (omega arith) (code_rest_lem (k - 1) (omega (arith, h.long)))))))

  pub passes_seven : Seven s n
  passes_seven =
      record {
        length_right_lem = length_good;
        checks_good = checks_good;
        header_good = header_good;
        slots_good = slots_good;
        records_good = passed.records_good;
        rest_good = rest_good;
        instructions_good = passed.instructions_good;
      }
