-- The tests of a lane file, taken apart: an accepted file passed each of the seven, and what a verdict says of each byte.
-- Assumes nothing.
use mathlib.Core.Path.{◌≡◌, refl, sym, subst}
use mathlib.Core.Bool.{Bool, true, false}
use mathlib.Core.List.{List}
use Prim.Native.Nat.{ℕ, ◌+◌, ◌-◌, ◌*◌, ◌/◌, ◌%◌, ◌≤◌, ◌<◌}
use native.Mathlib.Omega.{arith}
use borrow.Author.Tests.{eqb-true, eq-eqb}
use lib.Dec.{T, eqb}
use lib.ListN.{length, get_or}
use Rattle.std.specs.declared.result.Result.TheVariants.{Ok, Err}
use Rattle.base.specs.Tests.{Verdict, need, in_turn, is_zero}
use Rattle.base.proofs.Tests.{both, each, need_true, each_true, all_true}
use Rattle.network.specs.declared.Network.{Network}
use Rattle.network.specs.Rules.{processes_right, channels_right, records, total, instructions}
use Rattle.base.proofs.Conjunction.{between_true}
use Rattle.lane_file.specs.Read.{Told, accepted, refused, blocks, length_right, checks, header, slots_in, unused_from, code_rest, rest_in, zeros_in, unless, answer_in}

-- ---- tests place by place
pub each_zero : (s : List ℕ) (a e : ℕ) → zeros_in s a e ≡ Ok tt → (j : ℕ) → a ≤ j → j < e → get_or s j 0 ≡ 0
each_zero s a e g j h l = eqb-true (get_or s j 0) 0 (each_true (is_zero s) a (e - a) g j h (omega arith))

pub all_zero : (s : List ℕ) (a e : ℕ) → ((j : ℕ) → a ≤ j → j < e → get_or s j 0 ≡ 0) → zeros_in s a e ≡ Ok tt
all_zero s a e g = all_true (is_zero s) a (e - a) (λ j h l. eq-eqb (get_or s j 0) 0 (g j h (omega arith)))

-- ---- the seven tests
pub record Seven (s : List ℕ) (n : Network) : Type 0 where
  pub length_right_lem : length_right (length s) ≡ true
  pub checks_good : checks s ≡ Ok tt
  pub header_good : header s ≡ Ok tt
  pub slots_good : slots_in s n ≡ Ok tt
  pub records_good : records n ≡ Ok tt
  pub rest_good : rest_in s n ≡ Ok tt
  pub instructions_good : instructions n ≡ Ok tt

abbrev is_accepted : Told → Bool
is_accepted accepted = true
is_accepted (refused number place) = false

-- a test that was passed over, and what followed
pub passing : (number : ℕ) (v : Verdict) (next : Told) → unless number v next ≡ accepted → (v ≡ Ok tt) × (next ≡ accepted)
passing number (Ok u) next e = (refl, e)
passing number (Err place) next e = absurd (subst (λ (t : Told). T (is_accepted t)) (sym e) tt)

pub seven : (s : List ℕ) (n : Network) → answer_in s n ≡ accepted → Seven s n
unfolding answer_in
seven s n e =
    let a = passing 1 (need (length_right (length s)) 0) _ e in
    let b = passing 2 (checks s) _ a.1 in
    let c = passing 3 (header s) _ b.1 in
    let d = passing 4 (slots_in s n) _ c.1 in
    let f = passing 5 (records n) _ d.1 in
    let g = passing 6 (rest_in s n) _ f.1 in
    let h = passing 7 (instructions n) accepted g.1 in
    record {
      length_right_lem = need_true (length_right (length s)) 0 a.0;
      checks_good = b.0;
      header_good = c.0;
      slots_good = d.0;
      records_good = f.0;
      rest_good = g.0;
      instructions_good = h.0;
    }

pub seven_back : (s : List ℕ) (n : Network) → Seven s n → answer_in s n ≡ accepted
unfolding answer_in
seven_back s n v =
    rw (v.length_right_lem, v.checks_good, v.header_good, v.slots_good, v.records_good, v.rest_good, v.instructions_good)

-- ---- what the tests of the header say
pub record Headed (s : List ℕ) : Type 0 where
  pub at_0 : get_or s 0 0 ≡ 0x4C
  pub at_1 : get_or s 1 0 ≡ 0x4E
  pub at_2 : get_or s 2 0 ≡ 1
  pub processes : (1 ≤ get_or s 3 0) × (get_or s 3 0 ≤ 16)
  pub channels : (1 ≤ get_or s 4 0) × (get_or s 4 0 ≤ 32)
  pub at_5 : get_or s 5 0 ≡ blocks s - 1

pub headed : (s : List ℕ) → header s ≡ Ok tt → Headed s
unfolding header
headed s e =
    let a = both (need (eqb (get_or s 0 0) 0x4C) 0) _ e in
    let b = both (need (eqb (get_or s 1 0) 0x4E) 1) _ a.1 in
    let c = both (need (eqb (get_or s 2 0) 1) 2) _ b.1 in
    let d = both (need (processes_right (get_or s 3 0)) 3) _ c.1 in
    let f = both (need (channels_right (get_or s 4 0)) 4) (need (eqb (get_or s 5 0) (blocks s - 1)) 5) d.1 in
    record {
      at_0 = eqb-true (get_or s 0 0) 0x4C (need_true _ 0 a.0);
      at_1 = eqb-true (get_or s 1 0) 0x4E (need_true _ 1 b.0);
      at_2 = eqb-true (get_or s 2 0) 1 (need_true _ 2 c.0);
      processes = between_true 1 (get_or s 3 0) 16 (need_true (processes_right (get_or s 3 0)) 3 d.0);
      channels = between_true 1 (get_or s 4 0) 32 (need_true (channels_right (get_or s 4 0)) 4 f.0);
      at_5 = eqb-true (get_or s 5 0) (blocks s - 1) (need_true _ 5 f.1);
    }

-- ---- what the tests of the bytes that must be zero say, and of the block numbers
pub record Numbered (s : List ℕ) (instructions k : ℕ) : Type 0 where
  pub zeros : (j : ℕ) → unused_from instructions k ≤ j → j < 512 * k + 508 → get_or s j 0 ≡ 0
  pub high : get_or s (512 * k + 508) 0 ≡ k / 256
  pub low : get_or s (512 * k + 509) 0 ≡ k % 256

pub numbered : (s : List ℕ) (instructions k : ℕ) → code_rest s instructions k ≡ Ok tt → Numbered s instructions k
unfolding code_rest
numbered s instructions k e =
    let a = both (zeros_in s (unused_from instructions k) (512 * k + 508)) _ e in
    let b = both (need (eqb (get_or s (512 * k + 508) 0) (k / 256)) (512 * k + 508)) (need (eqb (get_or s (512 * k + 509) 0) (k % 256)) (512 * k + 509)) a.1 in
    record {
      zeros = each_zero s (unused_from instructions k) (512 * k + 508) a.0;
      high = eqb-true (get_or s (512 * k + 508) 0) (k / 256) (need_true _ _ b.0);
      low = eqb-true (get_or s (512 * k + 509) 0) (k % 256) (need_true _ _ b.1);
    }

pub record Rested (s : List ℕ) (n : Network) : Type 0 where
  pub header_zeros : (j : ℕ) → 6 ≤ j → j < 8 → get_or s j 0 ≡ 0
  pub slot_zeros : (j : ℕ) → 8 + 4 * n.processes ≤ j → j < 72 → get_or s j 0 ≡ 0
  pub record_zeros : (j : ℕ) → 72 + 4 * n.channels ≤ j → j < 510 → get_or s j 0 ≡ 0
  pub code : (k : ℕ) → 1 ≤ k → k < blocks s → Numbered s (total n) k

pub rested : (s : List ℕ) (n : Network) → rest_in s n ≡ Ok tt → Rested s n
unfolding rest_in
rested s n e =
    let a = both (zeros_in s 6 8) _ e in
    let b = both (zeros_in s (8 + 4 * n.processes) 72) _ a.1 in
    let c = both (zeros_in s (72 + 4 * n.channels) 510) (in_turn (code_rest s (total n)) 1 (blocks s - 1)) b.1 in
    record {
      header_zeros = each_zero s 6 8 a.0;
      slot_zeros = each_zero s (8 + 4 * n.processes) 72 b.0;
      record_zeros = each_zero s (72 + 4 * n.channels) 510 c.0;
      code = λ k h l. numbered s (total n) k (each (code_rest s (total n)) (blocks s - 1) 1 c.1 k h (omega arith));
    }
