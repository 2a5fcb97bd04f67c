-- What a clean digit says: of a field, that it is within its limit, where the digit is the field and what is missing from the limit to the flag; of the
-- two digits of a channel's end and a process, that they are one number.
-- Assumes nothing.
use mathlib.Core.Path.{◌≡◌, refl, sym, ap, ◌∙◌}
use mathlib.Core.Bool.{Bool, false, ◌&&◌, and-true, and-false}
use Prim.Native.Nat.{ℕ, zero, suc, ◌+◌, ◌-◌, ◌*◌, ◌≤◌, ◌<◌}
use native.Mathlib.Decide.{dec_lt}
use native.Mathlib.Omega.{arith}
use borrow.Author.Tests.{ltb-true, lt-ltb, le-ltb, eqb-true, eq-eqb, ne_eqb}
use lib.Dec.{eqb, ltb}
use Rattle.base.proofs.Conjunction.{iff, both_true, true_both}
use Rattle.flags.specs.Clean.{clean}
use Rattle.instruction_words.specs.Words.{no_field}
use Rattle.passing.proofs.Digits.{field_flags, clean_field}

-- ---- the fields b and c
-- with so much missing to the flag, the field x is within its limit where the test says so
pub record Limit (flag x missing : ℕ) (test : Bool) : Type 0 where
  pub small : missing < flag
  pub within : ltb (x + missing) flag ≡ test

pub unnamed_limit : (flag x : ℕ) → 1 ≤ flag → Limit flag x (flag - 1) (eqb x 0)
unnamed_limit flag x h =
    record { small = omega arith; within = iff _ _ (omega (arith, ltb-true, eq-eqb)) (omega (arith, eqb-true, lt-ltb)) }

-- registers and targets
pub below_limit : (flag x limit : ℕ) → 1 ≤ limit → limit ≤ flag → Limit flag x (flag - limit) (ltb x limit)
below_limit flag x limit l h =
    record { small = omega arith; within = iff _ _ (omega (arith, ltb-true, lt-ltb)) (omega (arith, ltb-true, lt-ltb)) }

-- ---- the field a
-- with so much added, its digit is clean where the test says so
pub record Added (x added : ℕ) (test : Bool) : Type 0 where
  pub small : x + added < 65536
  pub within : clean field_flags (x + added) ≡ test

-- a register, with or without clear digits above it
pub register_added : (x above : ℕ) → x < 256 → above < 128 → Added x (256 * above) (ltb x 8)
register_added x above h l =
    record { small = omega arith; within = clean_field above x (omega arith) h ∙ rw (lt-ltb above 128 l) (and-true (ltb x 8)) }

pub unnamed_added : (x : ℕ) → x < 256 → Added x no_field (eqb x 0)
unnamed_added zero h = record { small = omega arith; within = refl }
unnamed_added (suc x) h = record { small = omega arith; within = go (dec_lt x 248) ∙ sym (ne_eqb (suc x) 0 (λ e. omega arith)) }
  where
    -- beyond 248 the sum carries
    go : Dec (x < 248) → clean field_flags (suc x + no_field) ≡ false
    go (yes l) =
        let e : suc x + no_field ≡ x + 8 + 256 * 127 = omega arith in
        ap (clean field_flags) e ∙ clean_field 127 (x + 8) (omega arith) (omega arith) ∙ rw (le-ltb (x + 8) 8 (omega arith))
    go (no l) =
        let e : suc x + no_field ≡ x - 248 + 256 * 128 = omega arith in
        ap (clean field_flags) e ∙ clean_field 128 (x - 248) (omega arith) (omega arith) ∙ and-false (ltb (x - 248) 8)

-- ---- ends
pub same_end : (e p : ℕ) → e ≤ 31 → p ≤ 31 → (ltb (e + (31 - p)) 32 && ltb (31 - e + p) 32) ≡ eqb e p
same_end e p h l =
    iff _ _
    (λ t. let b = both_true (ltb (e + (31 - p)) 32) (ltb (31 - e + p) 32) t in eq-eqb e p (omega (arith, ltb-true)))
    (λ t. let q : e ≡ p = eqb-true e p t in true_both _ _ (lt-ltb (e + (31 - p)) 32 (omega arith)) (lt-ltb (31 - e + p) 32 (omega arith)))
