-- Laws of arrays that reading fills: the array before it is filled, a part written at once, and what is left as it was.
-- Assumes nothing.
use mathlib.Core.Path.{◌≡◌, ap, ◌∙◌}
use mathlib.Core.List.{List, ◌++◌}
use Prim.Native.Nat.{ℕ, ◌+◌, ◌-◌, ◌*◌, ◌/◌, ◌%◌, ◌≤◌, ◌<◌}
use native.Mathlib.Decide.{dec_lt}
use native.Mathlib.Omega.{arith}
use lib.ListN.{length, get_or, take, drop, replicate, length-replicate, length-append, length-take, length-drop, get_or-replicate, get_or-append, get_or-eq_default}
use lib.Seq.{length-take-le, get_or-append-add, get_or-take, get_or-drop}
use Rattle.base.specs.Lists.{table}
use Rattle.base.proofs.Lists.{Filled, table_is}
use Rattle.lane_file.specs.Read.{code_place}

-- ---- the array before it is filled
unfoldable pub blank : ℕ → List ℕ
blank n = replicate n 0

pub length_blank : (n : ℕ) → length (blank n) ≡ n
unfolding blank
length_blank n = length-replicate n 0

pub blank_at : (n k : ℕ) → k < n → get_or (blank n) k 0 ≡ 0
unfolding blank
blank_at n k h = get_or-replicate n k 0 0 h

-- ---- a part of a list, and a list behind n elements
pub length_part : {A : Type 0} (i e : ℕ) (a : List A) → e ≤ length a → length (take (e - i) (drop i a)) ≡ e - i
length_part i e a h = simp (length-take, length-drop) (omega arith)

pub past : {A : Type 0} (n : ℕ) (p q : List A) (k : ℕ) (d : A) → length p ≡ n → n ≤ k → get_or (p ++ q) k d ≡ get_or q (k - n) d
past n p q k d e h =
    let m : k ≡ length p + (k - n) = omega arith in
    ap (λ (j : ℕ). get_or (p ++ q) j d) m ∙ get_or-append-add p q (k - n) d

module _ {A : Type 0} (f : ℕ → A) (d : A) (old : List A) where
  -- n elements at once
  pub filled_part : (i n : ℕ) (a ys : List A) → i + n ≤ length a → length ys ≡ n → ((m : ℕ) → m < n → get_or ys m d ≡ f (i + m)) → Filled f d old i a → Filled f d old (i + n) (take i a ++ (ys ++ drop n (drop i a)))
  filled_part i n a ys h e g s =
      record {
        long = simp (length-append, length-drop, front) (omega (arith, s.long));
        done = λ k l. go k l (dec_lt k i);
        kept =
            λ k l.
            past i (take i a) (ys ++ drop n (drop i a)) k d front (omega arith)
            ∙ past n ys (drop n (drop i a)) (k - i) d e (omega arith)
            ∙ get_or-drop n (drop i a) (k - i - n) d
            ∙ get_or-drop i a (n + (k - i - n)) d
            ∙ ap (λ (j : ℕ). get_or a j d) (omega arith)
            ∙ s.kept k (omega arith);
      }
    where
      front : length (take i a) ≡ i
      front = length-take-le i a (omega arith)

      go : (k : ℕ) → k < i + n → Dec (k < i) → get_or (take i a ++ (ys ++ drop n (drop i a))) k d ≡ f k
      go k l (yes m) = get_or-append (take i a) (ys ++ drop n (drop i a)) d k (omega (arith, front)) ∙ get_or-take i a k d m ∙ s.done k m
      go k l (no m) =
          past i (take i a) (ys ++ drop n (drop i a)) k d front (omega arith)
          ∙ get_or-append ys (drop n (drop i a)) d (k - i) (omega arith)
          ∙ g (k - i) (omega arith)
          ∙ ap f (omega arith)

  -- the others were the function's values before
  pub filled_rest : (i n : ℕ) (a : List A) → length old ≡ n → ((k : ℕ) → i ≤ k → k < n → get_or old k d ≡ f k) → Filled f d old i a → a ≡ table n f
  filled_rest i n a e g s = table_is f n d a (s.long ∙ e) (λ k h. go k h (dec_lt k i))
    where
      go : (k : ℕ) → k < n → Dec (k < i) → get_or a k d ≡ f k
      go k h (yes m) = s.done k m
      go k h (no m) = s.kept k (omega arith) ∙ g k (omega arith) h

-- ---- the code of a file: byte m of code block k, and what stands past the last block
pub code_at : (s : List ℕ) (k m : ℕ) → 1 ≤ k → m < 508 → get_or (take 508 (drop (512 * k) s)) m 0 ≡ get_or s (code_place (508 * (k - 1) + m)) 0
code_at s k m h l = get_or-take 508 (drop (512 * k) s) m 0 l ∙ get_or-drop (512 * k) s m 0 ∙ ap (λ (j : ℕ). get_or s j 0) (omega arith)

pub code_past : (s : List ℕ) (j : ℕ) → length s % 512 ≡ 0 → 508 * (length s / 512 - 1) ≤ j → get_or s (code_place j) 0 ≡ 0
code_past s j h l = get_or-eq_default s 0 (omega arith)
