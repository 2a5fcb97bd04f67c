-- Numbers laid over one another: the flags of an `or` are the flags of either, so that numbers laid over one another are clean exactly where each is; and
-- tests in turn pass exactly where the first of them and the others do. Together (`laid`): the answers of two runs of tests, one after the other, laid
-- over one another, are the answer of both.
-- Assumes nothing.
use mathlib.Core.Path.{◌≡◌, refl, sym, ap, ap₂, ◌∙◌}
use mathlib.Core.Bool.{Bool, true, false, cond, ◌&&◌}
use Prim.Native.Nat.{ℕ, zero, suc, ◌+◌, ◌-◌, ◌*◌, ◌/◌, ◌%◌, ◌≤◌, min, max}
use native.Mathlib.Decide.{ℕ_discrete}
use native.Mathlib.Nat.{zero-min, min-zero, zero-max, max-zero, suc-min-suc, suc-max-suc, min-le_left, max-le, zero-add, suc-add, add-zero}
use native.Mathlib.Omega.{arith}
use borrow.Author.Tests.{ne_eqb}
use lib.Arith.{bin_ind}
use lib.Bits.{bit_and, bit_or, and_step, or_step, and_shr, or_shr, and_le_r, or_add_and}
use lib.Dec.{eqb}
use Rattle.std.specs.declared.result.Result.TheVariants.{Ok, Err}
use Rattle.base.specs.Tests.{Verdict, and_then, need, in_turn, first_bad, is_good}
use Rattle.flags.specs.Clean.{clean}

-- ---- `and` of an `or`, digit by digit
one_digit : (a b c : ℕ) → min (max a b) c ≡ max (min a c) (min b c)
one_digit zero b c = rw (zero-max, zero-min, zero-max)
one_digit (suc a) zero c = rw (max-zero, zero-min, max-zero)
one_digit (suc a) (suc b) zero = rw (min-zero, min-zero (suc a), min-zero (suc b))
one_digit (suc a) (suc b) (suc c) =
    rw (suc-max-suc, suc-min-suc (max a b) c, suc-min-suc a c, suc-min-suc b c, suc-max-suc) (ap suc (one_digit a b c))

or_odd : (a b : ℕ) → bit_or a b % 2 ≡ max (a % 2) (b % 2)
or_odd a b = omega (arith, or_step a b, max-le {a = a % 2} {b = b % 2} {k = 1} (omega arith) (omega arith))

and_odd : (a b : ℕ) → bit_and a b % 2 ≡ min (a % 2) (b % 2)
and_odd a b = omega (arith, and_step a b, min-le_left (a % 2) (b % 2))

and_or : (m x y : ℕ) → bit_and (bit_or x y) m ≡ bit_or (bit_and x m) (bit_and y m)
and_or m x y =
    bin_ind (λ (n : ℕ). (m y : ℕ) → bit_and (bit_or n y) m ≡ bit_or (bit_and n m) (bit_and y m)) (λ m y. refl)
    (λ n ih m y. and_step (bit_or n y) m
    ∙ ap₂ (λ (p q : ℕ). p * 2 + q)
    (ap (λ (p : ℕ). bit_and p (m / 2)) (or_shr n y 1) ∙ ih (m / 2) (y / 2) ∙ sym (ap₂ bit_or (and_shr n m 1) (and_shr y m 1)))
    (ap (λ (p : ℕ). min p (m % 2)) (or_odd n y) ∙ one_digit (n % 2) (y % 2) (m % 2) ∙ sym (ap₂ max (and_odd n m) (and_odd y m)))
    ∙ sym (or_step (bit_and n m) (bit_and y m)))
    x m y

-- ---- an `or` is zero where both are
pub or_zero : (a b : ℕ) → eqb (bit_or a b) 0 ≡ (eqb a 0 && eqb b 0)
or_zero a b = go (ℕ_discrete a 0)
  where
    go : Dec (a ≡ 0) → eqb (bit_or a b) 0 ≡ (eqb a 0 && eqb b 0)
    go (yes p) = rw p
    go (no p) = rw (ne_eqb a 0 p) (ne_eqb (bit_or a b) 0 (λ e. p (omega (arith, or_add_and a b, and_le_r a b))))

pub clean_or : (mask x y : ℕ) → clean mask (bit_or x y) ≡ (clean mask x && clean mask y)
clean_or mask x y = ap (λ (n : ℕ). eqb n 0) (and_or mask x y) ∙ or_zero (bit_and x mask) (bit_and y mask)

-- ---- tests in turn, in two runs
one_more : (v w x y : Verdict) → is_good w ≡ (is_good x && is_good y) → is_good (and_then v w) ≡ (is_good (and_then v x) && is_good y)
one_more (Ok u) w x y e = e
one_more (Err k) w x y e = refl

pub good_join : (test : ℕ → Bool) (i m n : ℕ) → is_good (first_bad test i (m + n)) ≡ (is_good (first_bad test i m) && is_good (first_bad test (i + m) n))
unfolding in_turn
good_join test i zero n = rw (zero-add, add-zero)
good_join test i (suc m) n =
    rw (suc-add) (one_more (need (test i) i) (first_bad test (suc i) (m + n)) (first_bad test (suc i) m) (first_bad test (i + suc m) n)
    (good_join test (suc i) m n ∙ ap (λ (k : ℕ). is_good (first_bad test (suc i) m) && is_good (first_bad test k n)) (omega arith)))

need_good : (b : Bool) (k : ℕ) → is_good (and_then (need b k) (Ok tt)) ≡ b
need_good true k = refl
need_good false k = refl

pub good_one : (test : ℕ → Bool) (i : ℕ) → is_good (first_bad test i 1) ≡ test i
unfolding in_turn
good_one test i = need_good (test i) i

-- tests that are all made, n from a start on and then the one at i: what each leaves is laid over the rest, and all is zero exactly where all passed
pub one_on : (test : ℕ → Bool) (start n i all x : ℕ) → start + n ≡ i → eqb all 0 ≡ is_good (first_bad test start n) → eqb x 0 ≡ test i →
    eqb (bit_or all x) 0 ≡ is_good (first_bad test start (n + 1))
one_on test start n i all x e p q =
    or_zero all x ∙ ap₂ ◌&&◌ p (q ∙ sym (good_one test i) ∙ ap (λ (k : ℕ). is_good (first_bad test k 1)) (sym e)) ∙ sym (good_join test start n 1)

pub no_tests : (test : ℕ → Bool) (start n : ℕ) → n ≡ 0 → true ≡ is_good (first_bad test start n)
unfolding in_turn
no_tests test start n e = rw e

-- what `base::unless` leaves
pub unless_zero_lem : (right : Bool) → eqb (cond right 0 1) 0 ≡ right
unless_zero_lem true = refl
unless_zero_lem false = refl

-- what a loop that makes tests in turn and lays what each leaves over the rest needs at each of its goals
pub ruleset in_all = (one_on, no_tests, unless_zero_lem)

-- x has the answer of the n tests from i on
abbrev pub Tells : ℕ → (ℕ → Bool) → ℕ → ℕ → ℕ → Type 0
Tells mask test i n x = clean mask x ≡ is_good (first_bad test i n)

pub laid : (mask : ℕ) (test : ℕ → Bool) (i m n x y : ℕ) → Tells mask test i m x → Tells mask test (i + m) n y → Tells mask test i (m + n) (bit_or x y)
laid mask test i m n x y p q = clean_or mask x y ∙ ap₂ ◌&&◌ p q ∙ sym (good_join test i m n)

-- of one test
pub one : (mask : ℕ) (test : ℕ → Bool) (x i : ℕ) → clean mask x ≡ test i → Tells mask test i 1 x
one mask test x i e = e ∙ sym (good_one test i)

-- of none
pub none : (mask : ℕ) (test : ℕ → Bool) (i n : ℕ) → n ≡ 0 → Tells mask test i n 0
unfolding in_turn
none mask test i n e = rw e

-- a run that stands at i goes on by a number of tests
pub on : (mask : ℕ) (test : ℕ → Bool) (start i n x y : ℕ) → start ≤ i → Tells mask test start (i - start) x → Tells mask test i n y →
    Tells mask test start (i + n - start) (bit_or x y)
on mask test start i n x y h p q =
    let e : start + (i - start) ≡ i = omega arith in
    let f : i + n - start ≡ i - start + n = omega arith in
    rw f (laid mask test start (i - start) n x y p (rw e q))

-- by two times eight
pub lap : (mask : ℕ) (test : ℕ → Bool) (start i x y z : ℕ) → start ≤ i → Tells mask test start (i - start) x → Tells mask test i 8 y →
    Tells mask test (i + 8) 8 z → Tells mask test start (i + 16 - start) (bit_or (bit_or x y) z)
lap mask test start i x y z h p q r =
    let e : i + 16 ≡ i + 8 + 8 = omega arith in
    rw e (on mask test start (i + 8) 8 (bit_or x y) z (omega arith) (on mask test start i 8 x y h p q) r)
