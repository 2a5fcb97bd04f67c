-- `rings::search` meets its contract: where no process has a full wait there is no ring to relieve.
-- Assumes nothing.
use mathlib.Core.Path.{sym, ap, ◌∙◌}
use mathlib.Core.List.{List}
use Prim.Native.Nat.{ℕ}
use native.Mathlib.Omega.{arith}
use lib.ListN.{get_or}
use Rattle.base.proofs.Lists.{same_at}
use Rattle.rings.proofs.Pointings.{points_stay}
use Rattle.rings.proofs.Rule.{search_idle}
use Rattle.rings.proofs.search.Goals as goal

pub returns-then-none_full : goal.returns-then-none_full
returns-then-none_full c =
    sym (search_idle _ _ _ _ (points_stay _ _ (omega (arith, c.requires)))
    (λ q h. ap (λ (l : List ℕ). get_or l q 0) (c.none_full.ensures.0 c.if-none_full.true) ∙ same_at 16 q 0))
