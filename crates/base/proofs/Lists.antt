-- Laws of lists by rule: length and element of the values of a function and of lists joined; an array filled from its front;
-- a buffer written from its front.
-- Assumes nothing.
use mathlib.Core.Path.{◌≡◌, refl, sym, ap, ◌∙◌}
use mathlib.Core.List.{List, ◌++◌, append_assoc, append-nil}
use Prim.Native.Nat.{ℕ, zero, suc, ◌+◌, ◌≤◌, ◌<◌}
use native.Mathlib.Decide.{ℕ_discrete}
use native.Mathlib.Nat.{le_of_suc-le-suc, not-suc-le-zero, add-zero, zero-add}
use native.Mathlib.Omega.{arith}
use lib.ListN.{length, get_or, set, replicate, length-set}
use lib.Seq.{ext_get_or, get_or-set_same, get_or-set_other}
use Rattle.base.specs.Lists.{values, table, joined}

-- ---- the values of a function
pub length_values : {A : Type 0} (f : ℕ → A) (n i : ℕ) → length (values f i n) ≡ n
unfolding values
length_values f zero i = refl
length_values f (suc n) i = ap suc (length_values f n (suc i))

pub value_at_lem : {A : Type 0} (f : ℕ → A) (n i : ℕ) (k : ℕ) (d : A) → k < n → get_or (values f i n) k d ≡ f (i + k)
unfolding values
value_at_lem f zero i k d h = absurd (not-suc-le-zero h)
value_at_lem f (suc n) i zero d h = ap f (sym (add-zero i))
value_at_lem f (suc n) i (suc k) d h = value_at_lem f n (suc i) k d (le_of_suc-le-suc h) ∙ ap f (omega arith)

pub table_at : {A : Type 0} (f : ℕ → A) (n k : ℕ) (d : A) → k < n → get_or (table n f) k d ≡ f k
table_at f n k d h = value_at_lem f n 0 k d h ∙ ap f (zero-add k)

-- functions with one table agree at each of its places
pub table_same : (n : ℕ) (f g : ℕ → ℕ) → table n f ≡ table n g → (k : ℕ) → k < n → f k ≡ g k
table_same n f g e k h = sym (table_at f n k 0 h) ∙ ap (λ (l : List ℕ). get_or l k 0) e ∙ table_at g n k 0 h

-- a list with a function's values is its table
pub table_is : {A : Type 0} (f : ℕ → A) (n : ℕ) (d : A) (l : List A) → length l ≡ n → ((k : ℕ) → k < n → get_or l k d ≡ f k) → l ≡ table n f
table_is f n d l e g =
    ext_get_or d l (table n f) (e ∙ sym (length_values f n 0))
    (λ k h. let m : k < n = omega arith in g k m ∙ sym (table_at f n k d m))

-- ---- lists joined
pub joined_more : {A : Type 0} (f : ℕ → List A) (n i : ℕ) → joined f i (suc n) ≡ joined f i n ++ f (i + n)
unfolding joined
joined_more f zero i = append-nil (f i) ∙ ap f (sym (add-zero i))
joined_more f (suc n) i =
    ap (λ (l : List _). f i ++ l) (joined_more f n (suc i) ∙ ap (λ (k : ℕ). joined f (suc i) n ++ f k) (omega arith))
    ∙ sym (append_assoc (f i) (joined f (suc i) n) (f (i + suc n)))

-- ---- an array filled from its front: the first i elements are the function's values, the others as they were
pub record Filled {A : Type 0} (f : ℕ → A) (d : A) (old : List A) (i : ℕ) (a : List A) : Type 0 where
  pub long : length a ≡ length old
  pub done : (k : ℕ) → k < i → get_or a k d ≡ f k
  pub kept : (k : ℕ) → i ≤ k → get_or a k d ≡ get_or old k d

module _ {A : Type 0} (f : ℕ → A) (d : A) (old : List A) where
  pub filled_none : Filled f d old 0 old
  filled_none = record { long = refl; done = λ k h. absurd (not-suc-le-zero h); kept = λ k h. refl }

  pub filled_more : (i : ℕ) (a : List A) (v : A) → i < length a → v ≡ f i → Filled f d old i a → Filled f d old (i + 1) (set a i v)
  filled_more i a v h e s =
      record {
        long = length-set a i v ∙ s.long;
        done = λ k l. go k l (ℕ_discrete k i);
        kept = λ k l. get_or-set_other a i k v d (λ q. omega arith) ∙ s.kept k (omega arith);
      }
    where
      go : (k : ℕ) → k < i + 1 → Dec (k ≡ i) → get_or (set a i v) k d ≡ f k
      go k l (yes q) = rw q (get_or-set_same a i v d h ∙ e)
      go k l (no q) = get_or-set_other a i k v d q ∙ s.done k (omega arith)

  pub filled_all : (n : ℕ) (a : List A) → length old ≡ n → Filled f d old n a → a ≡ table n f
  filled_all n a e s = table_is f n d a (s.long ∙ e) s.done

-- what stands in a list of one value, or past its end
pub same_at : {A : Type 0} (n k : ℕ) (a : A) → get_or (replicate n a) k a ≡ a
same_at zero k a = refl
same_at (suc n) zero a = refl
same_at (suc n) (suc k) a = same_at n k a
