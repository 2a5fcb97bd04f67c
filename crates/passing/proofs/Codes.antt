-- A process's instructions have the right fields exactly where their sums are clean; a network's instructions are right exactly where the fields of each
-- process are and its last opcode is that of a stop or a jump.
-- Assumes nothing.
use mathlib.Core.Path.{◌≡◌, refl, sym, ap, ap₂, ◌∙◌}
use mathlib.Core.Bool.{Bool, true, false, ◌&&◌}
use Prim.Native.Nat.{ℕ, zero, suc, ◌+◌, ◌-◌, ◌*◌, ◌≤◌, ◌<◌}
use native.Mathlib.Omega.{arith}
use lib.ListN.{get_or}
use Rattle.std.specs.declared.result.Result.TheVariants.{Ok, Err}
use Rattle.base.specs.Lists.{table}
use Rattle.base.specs.Tests.{Verdict, and_then, need, in_turn, first_bad, is_good}
use Rattle.base.proofs.Lists.{table_at}
use Rattle.base.proofs.Tests.{same}
use Rattle.network.specs.declared.Network.{Network}
use Rattle.network.specs.Code.{instruction_at, may_be_last}
use Rattle.network.specs.Rules.{start_of, count_of, end_of, code_of, instructions}
use Rattle.network.proofs.InParts.{fields_at, last_at, in_parts}
use Rattle.instruction_sums.specs.Sums.{clean_at}
use Rattle.instruction_words.specs.Words.{opcode_word, channel_word}
use Rattle.passing.specs.Placed.{Placed}
use Rattle.passing.proofs.Right.{clean_right}

-- ---- tests in turn of which each is of two parts
good_both : (v w : Verdict) → is_good (and_then v w) ≡ (is_good v && is_good w)
good_both (Ok u) w = refl
good_both (Err k) w = refl

good_need : (b : Bool) (k : ℕ) → is_good (need b k) ≡ b
good_need true k = refl
good_need false k = refl

cross : (a b c d : Bool) → ((a && b) && (c && d)) ≡ ((a && c) && (b && d))
cross false b c d = refl
cross true false false d = refl
cross true false true d = refl
cross true true c d = refl

in_two : (f : ℕ → Verdict) (s l : ℕ → Bool) (n i : ℕ) → ((k : ℕ) → i ≤ k → k < i + n → is_good (f k) ≡ (s k && l k)) →
    is_good (in_turn f i n) ≡ (is_good (first_bad s i n) && is_good (first_bad l i n))
unfolding in_turn
in_two f s l zero i h = refl
in_two f s l (suc n) i h =
    good_both (f i) (in_turn f (suc i) n)
    ∙ ap₂ ◌&&◌ (h i (omega arith) (omega arith)) (in_two f s l n (suc i) (λ k p q. h k (omega arith) (omega arith)))
    ∙ cross (s i) (l i) (is_good (first_bad s (suc i) n)) (is_good (first_bad l (suc i) n))
    ∙ sym (
    ap₂ ◌&&◌ (good_both (need (s i) i) (first_bad s (suc i) n) ∙ ap (λ (b : Bool). b && is_good (first_bad s (suc i) n)) (good_need (s i) i))
    (good_both (need (l i) i) (first_bad l (suc i) n) ∙ ap (λ (b : Bool). b && is_good (first_bad l (suc i) n)) (good_need (l i) i))
    )

-- the last opcode of process p is right
abbrev pub last_right : Network → ℕ → Bool
last_right n p = may_be_last (get_or n.code (4 * end_of n p - 4) 0)

module _ (n : Network) where
  -- the sum of instruction i, with the words of process p, is clean
  abbrev sum_clean : ℕ → ℕ → Bool
  sum_clean p i = clean_at n.code (table 256 (opcode_word (count_of n p) p)) (table 256 (channel_word n.receiver n.sender n.channels)) i

  -- the fields of all instructions of process p are right
  abbrev pub all_right : ℕ → Bool
  all_right p = is_good (first_bad (fields_at n p) (start_of n p) (count_of n p))

  -- ---- the sums of a process
  module _ (bytes : (k : ℕ) → get_or n.code k 0 < 256) (p : ℕ) (below : p < 16) (low : 1 ≤ count_of n p) (high : count_of n p ≤ 256)
      (few : n.channels ≤ 32) where
    sum_clean_lem : (i : ℕ) → sum_clean p i ≡ fields_at n p i
    sum_clean_lem i =
        let o = bytes (4 * i) in
        let b = bytes (4 * i + 2) in
        rw (table_at (opcode_word (count_of n p) p) 256 (get_or n.code (4 * i) 0) 0 o, table_at (channel_word n.receiver n.sender n.channels) 256 (get_or n.code (4 * i + 2) 0) 0 b)
        (clean_right n.receiver n.sender n.channels (count_of n p) p (instruction_at n.code i) o (bytes (4 * i + 1)) b (bytes (4 * i + 3)) below low high few)

    pub sums_clean : is_good (first_bad (sum_clean p) (start_of n p) (count_of n p)) ≡ all_right p
    sums_clean =
        ap is_good
        (same (λ k. need (sum_clean p k) k) (λ k. need (fields_at n p k) k) (count_of n p) (start_of n p) (λ k h l. ap (λ (b : Bool). need b k) (sum_clean_lem k)))

  -- ---- the network
  of_process : (p : ℕ) → 1 ≤ count_of n p → is_good (code_of n p) ≡ (all_right p && last_right n p)
  of_process p low =
      ap is_good (in_parts n p low) ∙ good_both (first_bad (fields_at n p) (start_of n p) (count_of n p)) (need (last_at n (end_of n p - 1)) (end_of n p - 1))
      ∙ ap (λ (b : Bool). all_right p && b)
      (good_need (last_at n (end_of n p - 1)) (end_of n p - 1) ∙ ap (λ (k : ℕ). may_be_last (get_or n.code k 0)) (omega arith))

  pub of_all : Placed n.first n.count n.processes
      → is_good (instructions n) ≡ (is_good (first_bad all_right 0 n.processes) && is_good (first_bad (last_right n) 0 n.processes))
  unfolding instructions
  of_all placed = in_two (code_of n) all_right (last_right n) n.processes 0 (λ k h l. of_process k (placed k (omega arith)).0)
