-- Lists by rule: the values of a function, lists joined, and numbers of two bytes.
-- Assumes nothing.
use Rattle.std.specs.Prelude.{List, [], ◌∷◌, ◌++◌, ℕ, zero, suc, ◌+◌, ◌*◌, ◌/◌, ◌%◌, get_or}

-- f i, f (i + 1), .., n of them
unfoldable pub values : {A : Type 0} → (ℕ → A) → ℕ → ℕ → List A
values f i zero = []
values f i (suc n) = f i ∷ values f (suc i) n

-- f 0, f 1, .., n of them
abbrev pub table : {A : Type 0} → ℕ → (ℕ → A) → List A
table n f = values f 0 n

-- the lists f i, f (i + 1), .., n of them, one after the other
unfoldable pub joined : {A : Type 0} → (ℕ → List A) → ℕ → ℕ → List A
joined f i zero = []
joined f i (suc n) = f i ++ joined f (suc i) n

-- "bytes of a number stand highest first": a number as two bytes, and the number that stands at a place of a list of bytes
abbrev pub two_bytes : ℕ → List ℕ
two_bytes n = n / 256 ∷ n % 256 ∷ []

abbrev pub word_at : List ℕ → ℕ → ℕ
word_at s k = 256 * get_or s k 0 + get_or s (k + 1) 0
