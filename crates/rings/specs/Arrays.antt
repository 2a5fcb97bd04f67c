-- The search on arrays: what it is given, as functions, and what it gives, in the terms of `Rings`.
-- Assumes nothing.
use Rattle.std.specs.Prelude.{cond, List, ℕ, ltb, get_or, take}
use Rattle.network.specs.Rules.{outside}
use Rattle.std.specs.declared.result.Result.{Result}
use Rattle.std.specs.declared.result.Result.TheVariants.{Ok, Err}
use Rattle.base.specs.declared.Refusal.{Refusal}
use Rattle.rings.specs.declared.answers.Ring.{Ring}
use Rattle.rings.specs.declared.answers.Unrelieved.{Unrelieved}
use Rattle.rings.specs.declared.answers.Unrelieved.TheVariants.{NoRing, Ceiling}
use Rattle.rings.specs.Rings.{Found, no_ring, ceiling, found}

-- the pointings of P processes; none leads on from what is no process
unfoldable pub points_in : List ℕ → ℕ → ℕ → ℕ
points_in points P p = cond (ltb p P) (get_or points p 0) outside

abbrev pub number_in : List ℕ → ℕ → ℕ
number_in numbers p = get_or numbers p 0

-- the answer of the search
abbrev pub found_of : Result Ring Unrelieved → Found
found_of (Ok r) = found (take r.length r.members) r.channel
found_of (Err NoRing) = no_ring
found_of (Err Ceiling) = ceiling

-- its refusals are 13 and 14
abbrev pub refusal_of : Unrelieved → Refusal
refusal_of NoRing = Refusal.NoRing
refusal_of Ceiling = Refusal.Ceiling
