-- Tests in turn of which the last one asks more: the first place that fails is the first that fails by what all are asked, and where there is none the
-- last place, if that fails by what it alone is asked.
-- Assumes nothing.
use mathlib.Core.Path.{◌≡◌, refl}
use mathlib.Core.Bool.{Bool, true, false, not, ◌&&◌, ◌||◌}
use Prim.Native.Nat.{ℕ, zero, suc, ◌+◌, ◌-◌, ◌≤◌}
use native.Mathlib.Omega.{arith}
use borrow.Author.Tests.{eq-eqb, ne_eqb}
use lib.Dec.{eqb}
use Rattle.std.specs.declared.result.Result.TheVariants.{Ok}
use Rattle.base.specs.Tests.{Verdict, and_then, need, in_turn, first_bad}

-- the last place, and one before it
at_last : (a b : Bool) (s : ℕ) → and_then (need (a && b) s) (Ok tt) ≡ and_then (and_then (need a s) (Ok tt)) (need b s)
at_last true true s = refl
at_last true false s = refl
at_last false b s = refl

before_last : (a : Bool) (s : ℕ) (v w t : Verdict) → v ≡ and_then w t → and_then (need (a && true) s) v ≡ and_then (and_then (need a s) w) t
before_last true s v w t h = h
before_last false s v w t h = refl

module _ (f l : ℕ → Bool) where
  -- all places before e are asked f, and the last of them l too
  abbrev right : ℕ → ℕ → Bool
  right e i = f i && (not (eqb (i + 1) e) || l i)

  to_end : (e k s : ℕ) → s + suc k ≡ e → first_bad (right e) s (suc k) ≡ and_then (first_bad f s (suc k)) (need (l (e - 1)) (e - 1))
  unfolding in_turn
  to_end e zero s h = let q : e - 1 ≡ s = omega arith in rw (q, eq-eqb (s + 1) e (omega arith)) (at_last (f s) (l s) s)
  to_end e (suc k) s h = rw (ne_eqb (s + 1) e (λ p. omega arith)) (before_last (f s) s _ _ _ (to_end e k (suc s) (omega arith)))

  pub last_after : (s n : ℕ) → 1 ≤ n → first_bad (right (s + n)) s n ≡ and_then (first_bad f s n) (need (l (s + n - 1)) (s + n - 1))
  last_after s zero h = absurd (omega arith)
  last_after s (suc k) h = to_end (s + suc k) k s refl
