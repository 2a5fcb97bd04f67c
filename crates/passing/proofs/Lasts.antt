-- What the loop over the processes needs of single numbers: a byte is clean of 247 exactly where it is the opcode of a stop or a jump; a table's words
-- are small where its function's values are.
-- Assumes nothing.
use mathlib.Core.Path.{◌≡◌, ap, ap₂, ◌∙◌}
use Prim.Native.Nat.{ℕ, ◌+◌, ◌*◌, ◌/◌, ◌%◌, ◌<◌}
use native.Mathlib.Decide.{ℕ_discrete, dec_lt}
use native.Mathlib.Omega.{arith}
use borrow.Author.Tests.{ne_eqb, leb-true, le-leb}
use lib.Bits.{bit_and, and_block, and_mask}
use lib.Dec.{leb}
use lib.ListN.{get_or, get_or-eq_default}
use Rattle.base.specs.Lists.{table}
use Rattle.base.proofs.Conjunction.{iff}
use Rattle.base.proofs.Lists.{table_at, length_values}
use Rattle.network.specs.Code.{may_be_last}
use Rattle.network.specs.Rules.{blocks_for}
use Rattle.flags.specs.Clean.{clean}
use Rattle.instruction_sums.specs.Sums.{Small}

-- ---- the last opcode
and_247 : (o : ℕ) → o < 256 → bit_and o 247 ≡ o / 16 * 16 + o % 8
and_247 o h =
    let e : o ≡ o / 16 * 16 + o % 16 = omega arith in
    ap (λ (n : ℕ). bit_and n 247) e ∙ and_block 4 (o / 16) 15 (o % 16) 7 (omega arith) (omega arith)
    ∙ ap₂ (λ (x y : ℕ). x * 16 + y) (and_mask (o / 16) 4 ∙ omega arith) (and_mask (o % 16) 3 ∙ omega arith)

pub clean_last : (o : ℕ) → o < 256 → clean 247 o ≡ may_be_last o
clean_last o h = go (ℕ_discrete o 0) (ℕ_discrete o 8)
  where
    go : Dec (o ≡ 0) → Dec (o ≡ 8) → clean 247 o ≡ may_be_last o
    go (yes p) q = rw p
    go (no p) (yes q) = rw q
    go (no p) (no q) = rw (ne_eqb o 0 p, ne_eqb o 8 q) (ne_eqb (bit_and o 247) 0 (λ e. omega (arith, and_247 o h)))

-- ---- small words
pub table_small : (f : ℕ → ℕ) → ((k : ℕ) → k < 256 → f k < 0x7000000000000000) → Small (table 256 f)
table_small f s k = go (dec_lt k 256)
  where
    go : Dec (k < 256) → get_or (table 256 f) k 0 < 0x7000000000000000
    go (yes h) = rw (table_at f 256 k 0 h) (s k h)
    go (no h) = rw (get_or-eq_default (table 256 f) 0 {n = k} (omega (arith, length_values f 256 0))) (omega arith)

-- ---- the code blocks
pub blocks_fit : (total : ℕ) → leb (blocks_for total) 8 ≡ leb total 1016
blocks_fit total = iff _ _ (λ e. le-leb total 1016 (omega (arith, leb-true))) (λ e. le-leb (blocks_for total) 8 (omega (arith, leb-true)))
