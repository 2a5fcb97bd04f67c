-- Decimal digits: room for more of them changes nothing, and they are those that the library writes.
-- Assumes nothing.
use mathlib.Core.Path.{◌≡◌, sym, ap, ◌∙◌}
use mathlib.Core.List.{List, [], ◌∷◌, ◌++◌}
use Prim.Native.Nat.{ℕ, zero, suc, ◌+◌, ◌-◌, ◌*◌, ◌/◌, ◌%◌, ◌^◌, ◌≤◌, ◌<◌}
use native.Mathlib.Decide.{dec_lt}
use native.Mathlib.Nat.{pow-suc, one-le-pow}
use native.Mathlib.Omega.{arith}
use borrow.Author.Tests.{lt-ltb, le-ltb}
use Rattle.io.specs.Digits.{last_digits, hex_digit_ascii, IsDigitCount}
use Rattle.listing.specs.Number.{number}
use Rattle.listing.specs.Text.{decimal}

-- one digit, and more
decimal_one : (k n : ℕ) → n < 10 → decimal (suc k) n ≡ (48 + n) ∷ []
decimal_one k n h = rw (lt-ltb n 10 h)

decimal_more : (k n : ℕ) → 10 ≤ n → decimal (suc k) n ≡ decimal k (n / 10) ++ ((48 + n % 10) ∷ [])
decimal_more k n h = rw (le-ltb n 10 h)

-- a number with room for it, less its last digit
less : (k n : ℕ) → n < 10 ^ suc k → n / 10 < 10 ^ k
less k n h = omega (arith, pow-suc 10 k)

-- room for more digits changes nothing
pub decimal_same : (k m n : ℕ) → n < 10 ^ suc k → n < 10 ^ suc m → decimal (suc k) n ≡ decimal (suc m) n
decimal_same zero m n h l = decimal_one 0 n h ∙ sym (decimal_one m n h)
decimal_same (suc k) zero n h l = decimal_one (suc k) n l ∙ sym (decimal_one 0 n l)
decimal_same (suc k) (suc m) n h l = go (dec_lt n 10) (decimal_same k m (n / 10) (less (suc k) n h) (less (suc m) n l))
  where
    go : Dec (n < 10) → decimal (suc k) (n / 10) ≡ decimal (suc m) (n / 10) → decimal (suc (suc k)) n ≡ decimal (suc (suc m)) n
    go (yes d) e = decimal_one (suc k) n d ∙ sym (decimal_one (suc m) n d)
    go (no d) e =
        let t : 10 ≤ n = omega arith in
        decimal_more (suc k) n t ∙ ap (λ (l : List ℕ). l ++ ((48 + n % 10) ∷ [])) e ∙ sym (decimal_more (suc m) n t)

-- the glyph of a decimal digit
glyph_digit : (d : ℕ) → d < 10 → hex_digit_ascii d ≡ 48 + d
glyph_digit d h = rw (lt-ltb d 10 h)

-- of a number with two digits or more: its least, and the digits of what is left without the last
least : (r n : ℕ) → IsDigitCount 10 1 n (suc (suc r)) → 10 ^ r * 10 ≤ n
least r n f =
    let e : suc (suc r) - 1 ≡ suc r = omega arith in
    let m : 10 ^ (suc (suc r) - 1) ≤ n = f.2 (omega arith) in
    rw (e, pow-suc) at m

fewer : (r n : ℕ) → IsDigitCount 10 1 n (suc (suc r)) → IsDigitCount 10 1 (n / 10) (suc r)
fewer r n f =
    let e : suc r - 1 ≡ r = omega arith in
    let m = least r n f in
    (omega arith, less (suc r) n f.1, λ h. rw e (omega arith))

-- the fewest digits that hold a number are its decimal digits
pub decimal_digits : (k r n : ℕ) → n < 10 ^ suc k → IsDigitCount 10 1 n r → decimal (suc k) n ≡ last_digits 10 r n
decimal_digits k zero n h f = absurd (omega (arith, f.0))
decimal_digits k (suc zero) n h f =
    let d : n < 10 = f.1 in
    let e : n % 10 ≡ n = omega arith in
    decimal_one k n d ∙ sym (ap (λ (x : ℕ). hex_digit_ascii x ∷ []) e ∙ ap (λ (x : ℕ). x ∷ []) (glyph_digit n d))
decimal_digits zero (suc (suc r)) n h f = absurd (omega (arith, least r n f, one-le-pow r 10 (omega arith)))
decimal_digits (suc k) (suc (suc r)) n h f =
    decimal_more (suc k) n (omega (arith, least r n f, one-le-pow r 10 (omega arith)))
    ∙ ap (λ (l : List ℕ). l ++ ((48 + n % 10) ∷ [])) (decimal_digits k (suc r) (n / 10) (less (suc k) n h) (fewer r n f))
    ∙ ap (λ (x : ℕ). last_digits 10 (suc r) (n / 10) ++ (x ∷ [])) (sym (glyph_digit (n % 10) (omega arith)))

-- ---- a 64-bit number, where its digits are counted, and where it has few
pub number_digits : (r n : ℕ) → n < 2 ^ 64 → IsDigitCount 10 1 n r → number n ≡ last_digits 10 r n
unfolding number
number_digits r n h f = decimal_digits 19 r n (omega arith) f

pub number_few : (k n : ℕ) → n < 2 ^ 64 → n < 10 ^ suc k → number n ≡ decimal (suc k) n
unfolding number
number_few k n l h = decimal_same 19 k n (omega arith) h
