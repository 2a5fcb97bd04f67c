-- Stripping, computed: who is left, process by process, in the end and on the way.
-- Assumes nothing.
use mathlib.Core.Path.{◌≡◌, refl}
use mathlib.Core.Bool.{true, false, false≢true}
use mathlib.Core.List.{[], ◌∷◌}
use Prim.Native.Nat.{ℕ}
use native.Mathlib.Omega.{arith}
use Rattle.base.specs.Lists.{values, table}
use Rattle.rings.specs.Rings.{OnRing}
use Rattle.rings.specs.Left.{tally, left_after, left_of}
use Rattle.rings.specs.Arrays.{points_in}
use Rattle.rings.proofs.Pointings.{Stays, points_stay}
use Rattle.rings.proofs.Stripping.{left_exactly}

-- a tail of three into a ring: 0 points to 1, 1 to 2, 2 to 3, and 3 and 4 to each other
abbrev pub tail : ℕ → ℕ
tail = points_in (1 ∷ 2 ∷ 3 ∷ 4 ∷ 3 ∷ []) 5

tail_stays : Stays tail 5
tail_stays = points_stay (1 ∷ 2 ∷ 3 ∷ 4 ∷ 3 ∷ []) 5 (omega arith)

-- each round takes one of the tail away, from its end
pub tail_once : table 5 (left_after tail 5 1) ≡ false ∷ true ∷ true ∷ true ∷ true ∷ []
unfolding points_in values tally left_after
tail_once = refl

pub tail_twice : table 5 (left_after tail 5 2) ≡ false ∷ false ∷ true ∷ true ∷ true ∷ []
unfolding points_in values tally left_after
tail_twice = refl

pub tail_left : table 5 (left_of tail 5) ≡ false ∷ false ∷ false ∷ true ∷ true ∷ []
unfolding points_in values tally left_after
tail_left = refl

-- and by the theorem 3 is on a ring, and 2 on none
pub three_on_ring : OnRing tail 5 3
unfolding points_in tally left_after
three_on_ring = (left_exactly tail 5 tail_stays 3).0 refl

pub two_on_none : OnRing tail 5 2 → ⊥
unfolding points_in tally left_after
two_on_none o = false≢true ((left_exactly tail 5 tail_stays 2).1 o)

-- two rings, 0 by itself and 1 with 2, and a tail of two into the second
pub two_rings_left : table 5 (left_of (points_in (0 ∷ 2 ∷ 1 ∷ 1 ∷ 3 ∷ []) 5) 5) ≡ true ∷ true ∷ true ∷ false ∷ false ∷ []
unfolding points_in values tally left_after
two_rings_left = refl

-- nobody points to anybody
pub nobody_left : table 4 (left_of (points_in (255 ∷ 255 ∷ 255 ∷ 255 ∷ []) 4) 4) ≡ false ∷ false ∷ false ∷ false ∷ []
unfolding points_in values tally left_after
nobody_left = refl
