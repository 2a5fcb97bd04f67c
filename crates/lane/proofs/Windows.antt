-- The register file as sixteen windows of eight: what is put into one is read there, and the others stay as they were.
-- Assumes nothing.
use Prim.Native.Nat.{ℕ, suc, ◌+◌, ◌*◌, ◌/◌, ◌<◌, ◌≤◌}
use native.Mathlib.Omega.{arith}
use native.Mathlib.Numerals.{towards_suc}
use mathlib.Core.Path.{◌≡◌, refl, ap, ◌∙◌}
use mathlib.Core.List.{List, ◌∷◌, ◌++◌, append_assoc}
use lib.IntN.{ℤ, pos}
use lib.ListN.{length, set, take, drop, length-append, length-drop, length-set, take-append-drop}
use lib.Seq.{drop-cons, drop-drop, take_all, sets, sets-eq, get_or-set_other, length-take-le, drop_at, take_at, take-set-le, take-set-lt, drop-set-lt, drop-set-add}
use Rattle.process.specs.Window.{at, eight, put_eight}

next_of : (n : ℕ) (xs : List ℤ) (b : ℕ) → b < length xs → take (suc n) (drop b xs) ≡ at xs b ∷ take n (drop (suc b) xs)
next_of n xs b h = rw (drop-cons xs b (pos 0) h)

-- a window is a part of the file
pub eight_is : (xs : List ℤ) (b : ℕ) → b + 8 ≤ length xs → eight xs b ≡ take 8 (drop b xs)
unfolding eight
eight_is xs b h =
    simp towards_suc
    (rw (
      next_of 7 xs b (omega arith),
      next_of 6 xs (suc b) (omega arith),
      next_of 5 xs (suc (suc b)) (omega arith),
      next_of 4 xs (suc (suc (suc b))) (omega arith),
      next_of 3 xs (suc (suc (suc (suc b)))) (omega arith),
      next_of 2 xs (suc (suc (suc (suc (suc b))))) (omega arith),
      next_of 1 xs (suc (suc (suc (suc (suc (suc b)))))) (omega arith),
      next_of 0 xs (suc (suc (suc (suc (suc (suc (suc b))))))) (omega arith),
    ))

all_eight : (r : List ℤ) → length r ≡ 8 → eight r 0 ≡ r
all_eight r e = eight_is r 0 (omega arith) ∙ take_all 8 r (omega arith)

eight_long : (xs : List ℤ) (b : ℕ) → length (eight xs b) ≡ 8
unfolding eight
eight_long xs b = refl

sets_eight : (xs : List ℤ) (b : ℕ) (r : List ℤ) → put_eight xs b r ≡ sets xs b (eight r 0)
unfolding eight
sets_eight xs b r = simp towards_suc

-- what a store into a window makes of the file
pub put_is : (xs : List ℤ) (b : ℕ) (r : List ℤ) → length r ≡ 8 → b + 8 ≤ length xs → put_eight xs b r ≡ take b xs ++ r ++ drop (b + 8) xs
put_is xs b r e h =
    sets_eight xs b r
    ∙ ap (λ (v : List ℤ). sets xs b v) (all_eight r e)
    ∙ sets-eq r xs b (omega arith)
    ∙ ap (λ (n : ℕ). take b xs ++ r ++ drop (b + n) xs) e

-- the file keeps its length
pub length_put : (xs : List ℤ) (b : ℕ) (r : List ℤ) → length (put_eight xs b r) ≡ length xs
length_put xs b r = simp length-set

-- a register of another process is as it was
pub put_other : (xs : List ℤ) (p : ℕ) (r : List ℤ) (j : ℕ) → (j / 8 ≡ p → ⊥) → at (put_eight xs (8 * p) r) j ≡ at xs j
put_other xs p r j h =
    let n0 : j ≡ 8 * p → ⊥ = λ e. h (omega arith) in
    let n1 : j ≡ 8 * p + 1 → ⊥ = λ e. h (omega arith) in
    let n2 : j ≡ 8 * p + 2 → ⊥ = λ e. h (omega arith) in
    let n3 : j ≡ 8 * p + 3 → ⊥ = λ e. h (omega arith) in
    let n4 : j ≡ 8 * p + 4 → ⊥ = λ e. h (omega arith) in
    let n5 : j ≡ 8 * p + 5 → ⊥ = λ e. h (omega arith) in
    let n6 : j ≡ 8 * p + 6 → ⊥ = λ e. h (omega arith) in
    let n7 : j ≡ 8 * p + 7 → ⊥ = λ e. h (omega arith) in
    simp get_or-set_other

-- the registers of another process are as they were
pub eight_put_other : (xs : List ℤ) (p p' : ℕ) (r : List ℤ) → (p ≡ p' → ⊥) → eight (put_eight xs (8 * p) r) (8 * p') ≡ eight xs (8 * p')
unfolding eight
eight_put_other xs p p' r h =
    cc (
      put_other xs p r (8 * p') (λ e. h (omega arith)),
      put_other xs p r (8 * p' + 1) (λ e. h (omega arith)),
      put_other xs p r (8 * p' + 2) (λ e. h (omega arith)),
      put_other xs p r (8 * p' + 3) (λ e. h (omega arith)),
      put_other xs p r (8 * p' + 4) (λ e. h (omega arith)),
      put_other xs p r (8 * p' + 5) (λ e. h (omega arith)),
      put_other xs p r (8 * p' + 6) (λ e. h (omega arith)),
      put_other xs p r (8 * p' + 7) (λ e. h (omega arith)),
    )

-- what was put is read
pub eight_put : (xs : List ℤ) (b : ℕ) (r : List ℤ) → length r ≡ 8 → b + 8 ≤ length xs → eight (put_eight xs b r) b ≡ r
eight_put xs b r e h =
    let l : length (take b xs) ≡ b = length-take-le b xs (omega arith) in
    rw (put_is xs b r e h)
    (eight_is (take b xs ++ r ++ drop (b + 8) xs) b (simp (length-append, length-drop) (omega arith))
    ∙ rw (append_assoc, drop_at (take b xs) (r ++ drop (b + 8) xs) b l, take_at r (drop (b + 8) xs) 8 e))

parts : (xs : List ℤ) (b : ℕ) → take b xs ++ take 8 (drop b xs) ++ drop (b + 8) xs ≡ xs
parts xs b = rw (← drop-drop 8 b xs, append_assoc, take-append-drop 8 (drop b xs), take-append-drop b xs)

-- a window's own registers put back change nothing
pub put_eight_lem : (xs : List ℤ) (b : ℕ) → b + 8 ≤ length xs → put_eight xs b (eight xs b) ≡ xs
put_eight_lem xs b h = put_is xs b (eight xs b) (eight_long xs b) h ∙ rw (eight_is xs b h) (parts xs b)

put_changed : (xs : List ℤ) (b a : ℕ) (v : ℤ) (r : List ℤ) → r ≡ take 8 (drop b xs) → length r ≡ 8 → a < 8 → b + 8 ≤ length xs → put_eight xs b (set r a v) ≡ set xs (b + a) v
put_changed xs b a v r e n l h =
    put_is xs b (set r a v) (length-set r a v ∙ n) h
    ∙ rw (
      e,
      ← take-set-lt 8 (drop b xs) a v l,
      ← drop-set-add b xs a v,
      ← take-set-le b xs (b + a) v (omega arith),
      ← drop-set-lt (b + 8) xs (b + a) v (omega arith),
    )
    (parts (set xs (b + a) v) b)

-- a window put back with one register changed
pub put_one_lem : (xs : List ℤ) (b a : ℕ) (v : ℤ) → a < 8 → b + 8 ≤ length xs → put_eight xs b (set (eight xs b) a v) ≡ set xs (b + a) v
put_one_lem xs b a v l h = put_changed xs b a v (eight xs b) (eight_is xs b h) (eight_long xs b) l h
