-- Laws of a buffer written front to back: one store after another is one store of both lists.
-- Assumes nothing.
use mathlib.Core.Path.{◌≡◌, refl}
use mathlib.Core.List.{List, [], ◌∷◌, ◌++◌, append_assoc}
use Prim.Native.Nat.{ℕ, suc, ◌+◌, ◌*◌, ◌≤◌, ◌<◌}
use native.Mathlib.Numerals.{add-one}
use native.Mathlib.Omega.{arith}
use lib.ListN.{length, take, drop, set}
use lib.Seq.{sets-eq, take_at, drop_at, length-take-le}
use Rattle.std.proofs.lemmas.List.{drop-drop}
use Rattle.base.specs.Lists.{joined}
use Rattle.base.proofs.Lists.{joined_more}
use Rattle.lane_writer.specs.Put.{put}
use Rattle.lane_file.proofs.Joined.{length_joined}

pub put_none : (l : List ℕ) (at : ℕ) → l ≡ put l at []
unfolding put
put_none l at = refl

-- two writes in a row are one
pub put_put : (v w l : List ℕ) (at next : ℕ) → next ≡ at + length v → put (put l at v) next w ≡ put l at (v ++ w)
unfolding put
put_put [] w l at next e = let q : next ≡ at = omega arith in rw q
put_put (a ∷ v) w l at next e = put_put v w (set l at a) (suc at) next (omega arith)

-- what was written stands there
pub put_part : (v l : List ℕ) (at n : ℕ) → length v ≡ n → at + n ≤ length l → take n (drop at (put l at v)) ≡ v
unfolding put
put_part v l at n e h =
    let le : at + length v ≤ length l = omega arith in
    rw (sets-eq v l at le, append_assoc, drop_at (take at l) (v ++ drop (at + length v) l) at (length-take-le at l (omega arith)))
    (take_at v (drop (at + length v) l) n e)

-- from the front
pub put_front : (v l : List ℕ) (n : ℕ) → length v ≡ n → n ≤ length l → put l 0 v ≡ v ++ drop n l
unfolding put
put_front v l n e h =
    let q : 0 + length v ≡ n = omega arith in
    rw (sets-eq v l 0 (omega arith), q)

-- a part of a buffer that is written at once
pub put_slice : (v l : List ℕ) (at n : ℕ) → length v ≡ n → at + n ≤ length l → take at l ++ (v ++ drop n (drop at l)) ≡ put l at v
unfolding put
put_slice v l at n e h =
    let le : at + length v ≤ length l = omega arith in
    rw (sets-eq v l at le, append_assoc, e, drop-drop)

-- ---- one more of the lists that are written in turn and have one length
pub joined_next : (f : ℕ → List ℕ) (width first : ℕ) (old l : List ℕ) (at next n : ℕ)
    → ((p : ℕ) → first ≤ p → p < first + n → length (f p) ≡ width)
    → l ≡ put old at (joined f first n)
    → next ≡ at + width * n
    → put l next (f (first + n)) ≡ put old at (joined f first (n + 1))
joined_next f width first old l at next n h e q =
    let m : next ≡ at + length (joined f first n) = omega (arith, length_joined f width n first h) in
    rw (e, put_put (joined f first n) (f (first + n)) old at next m, add-one, joined_more f n first)
