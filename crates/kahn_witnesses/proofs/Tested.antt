-- Computed tests of files, and the rules that they show: a list is the file of a network, two lists are alike.
-- Assumes nothing.
use mathlib.Core.Path.{◌≡◌, refl, ap}
use mathlib.Core.Logic.{inl, inr}
use mathlib.Core.Bool.{Bool, true, false, ◌&&◌, ◌||◌, false≢true}
use mathlib.Core.List.{List, [], ◌∷◌}
use Prim.Native.Nat.{ℕ, zero, suc, ◌+◌, ◌-◌, ◌/◌, ◌%◌, ◌≤◌, ◌<◌}
use native.Mathlib.Decide.{ℕ_discrete}
use native.Mathlib.Omega.{arith}
use borrow.Author.Tests.{ltb-true, leb-true, eqb-true}
use lib.Dec.{eqb, ltb, leb}
use lib.ListN.{length, get_or}
use Rattle.network.specs.declared.Network.{Network}
use Rattle.network.specs.Rules.{passes}
use Rattle.base.proofs.Conjunction.{both_true}
use Rattle.lane_file.specs.File.{file_of}
use Rattle.lane_file.proofs.InBytes.{all_bytes, bytes_by}
use Rattle.lane_file.proofs.RoundTrip.{Shaped, read_written}
use Rattle.kahn.specs.Boards.{MayDiffer, Alike}
use Rattle.kahn.specs.Theorem.{ReadAs}

-- ---- alike: a byte of a capacity, or of block 0's check
abbrev of_capacity : ℕ → Bool
of_capacity k = (leb 72 k && ltb k 200) && leb 2 (k % 4)

abbrev may_differ : ℕ → Bool
may_differ k = of_capacity k || (eqb k 510 || eqb k 511)

of_capacity_lem : (k : ℕ) → 72 ≤ k → k < 200 → 2 ≤ k % 4 → MayDiffer k
of_capacity_lem k l h q = at (ℕ_discrete (k % 4) 2)
  where
    at : Dec (k % 4 ≡ 2) → MayDiffer k
    at (yes e) = inl ((k - 72) / 4, omega arith, inl (omega arith))
    at (no e) = inl ((k - 72) / 4, omega arith, inr (omega arith))

may_differ_lem : (k : ℕ) → may_differ k ≡ true → MayDiffer k
may_differ_lem k e = at (of_capacity k) (eqb k 510) refl refl e
  where
    at : (s t : Bool) → of_capacity k ≡ s → eqb k 510 ≡ t → (s || (t || eqb k 511)) ≡ true → MayDiffer k
    at true t p q e =
        let b = both_true (leb 72 k && ltb k 200) (leb 2 (k % 4)) p in
        let a = both_true (leb 72 k) (ltb k 200) b.0 in
        of_capacity_lem k (leb-true 72 k a.0) (ltb-true k 200 a.1) (leb-true 2 (k % 4) b.1)
    at false true p q e = inr (inl (eqb-true k 510 q))
    at false false p q e = inr (inr (eqb-true k 511 e))

-- the bytes from place i on
abbrev alike_from : ℕ → List ℕ → List ℕ → Bool
alike_from i [] [] = true
alike_from i [] (y ∷ ys) = false
alike_from i (x ∷ xs) [] = false
alike_from i (x ∷ xs) (y ∷ ys) = (may_differ i || eqb x y) && alike_from (suc i) xs ys

-- lists that pass it from place i on
record AlikeFrom (i : ℕ) (f g : List ℕ) : Type 0 where
  long : length f ≡ length g
  same : (k j : ℕ) → k < length f → j ≡ i + k → (MayDiffer j → ⊥) → get_or f k 0 ≡ get_or g k 0

same_byte : (i x y : ℕ) (s : Bool) → may_differ i ≡ s → (s || eqb x y) ≡ true → (MayDiffer i → ⊥) → x ≡ y
same_byte i x y true p e n = absurd (n (may_differ_lem i p))
same_byte i x y false p e n = eqb-true x y e

alike_from_lem : (i : ℕ) (f g : List ℕ) → alike_from i f g ≡ true → AlikeFrom i f g
alike_from_lem i [] [] e = record { long = refl; same = λ k j h q n. refl }
alike_from_lem i [] (y ∷ ys) e = absurd (false≢true e)
alike_from_lem i (x ∷ xs) [] e = absurd (false≢true e)
alike_from_lem i (x ∷ xs) (y ∷ ys) e =
    let b = both_true (may_differ i || eqb x y) (alike_from (suc i) xs ys) e in
    next b.0 (alike_from_lem (suc i) xs ys b.1)
  where
    next : (may_differ i || eqb x y) ≡ true → AlikeFrom (suc i) xs ys → AlikeFrom i (x ∷ xs) (y ∷ ys)
    next t r = record { long = ap suc r.long; same = at }
      where
        at : (k j : ℕ) → k < length (x ∷ xs) → j ≡ i + k → (MayDiffer j → ⊥) → get_or (x ∷ xs) k 0 ≡ get_or (y ∷ ys) k 0
        at zero j h q n = let p : j ≡ i = omega arith in same_byte i x y (may_differ i) refl t (rw p at n)
        at (suc k) j h q n = r.same k j (omega arith) (omega arith) n

abbrev pub are_alike : List ℕ → List ℕ → Bool
are_alike f g = alike_from 0 f g

pub alike_by : (f g : List ℕ) → are_alike f g ≡ true → Alike f g
alike_by f g e =
    let r = alike_from_lem 0 f g e in
    record { long = r.long; same = λ k h n. r.same k k h (omega arith) n }

-- the file of a network that passes, read
pub read_by : (n : Network) → Shaped n → passes n ≡ true → all_bytes (file_of n) ≡ true → ReadAs (file_of n) n
read_by n shaped pass e = (bytes_by (file_of n) e, read_written n shaped pass)
