-- Inputs fed: every feed and closing keeps the network, the number of cells, the lengths of the arrays and soundness.
-- Assumes nothing.
use mathlib.Core.Bool.{Bool, true, false, cond}
use mathlib.Core.List.{List, [], ◌∷◌}
use Prim.Native.Nat.{ℕ, zero, suc}
use lib.Dec.{eqb}
use lib.ListN.{get_or}
use lib.IntN.{ℤ}
use Rattle.network.specs.Rules.{sender_of, outside}
use Rattle.lane.specs.State.{World}
use Rattle.lane.specs.Calls.{feed_of}
use Rattle.lane.proofs.CallLaws.{Preserves, unchanged, kept_then, feed_kept, close_kept}
use Rattle.bench_rules.specs.Feeding.{is_accepted, fed, feeding, Inputs, put, feeds_at, feeds_from, feeds}

-- one channel
fed_kept : (c : ℕ) (v : ℤ) (vs : List ℤ) (w : World) (taken : Bool) → Preserves (feed_of c v w).world (feeding c vs (feed_of c v w).world).world
    → Preserves w (cond taken (feeding c vs (feed_of c v w).world) (fed (v ∷ vs) w)).world
fed_kept c v vs w true k = kept_then (feed_kept w c v) k
fed_kept c v vs w false k = unchanged w

pub feeding_kept : (c : ℕ) (vs : List ℤ) (w : World) → Preserves w (feeding c vs w).world
feeding_kept c [] w = close_kept w c
feeding_kept c (v ∷ vs) w = fed_kept c v vs w (is_accepted (feed_of c v w).answer) (feeding_kept c vs (feed_of c v w).world)

-- all channels
put_kept : (outer : Bool) (c : ℕ) (i : Inputs) → Preserves i.world (cond outer (put c (feeding c (get_or i.left c []) i.world) i.left) i).world
put_kept true c i = feeding_kept c (get_or i.left c []) i.world
put_kept false c i = unchanged i.world

pub feeds_at_kept : (c : ℕ) (i : Inputs) → Preserves i.world (feeds_at c i).world
unfolding feeds_at
feeds_at_kept c i = put_kept (eqb (sender_of i.world.lane.network c) outside) c i

feeds_from_kept : (k c : ℕ) (i : Inputs) → Preserves i.world (feeds_from c k i).world
feeds_from_kept zero c i = unchanged i.world
feeds_from_kept (suc k) c i = kept_then (feeds_at_kept c i) (feeds_from_kept k (suc c) (feeds_at c i))

pub feeds_kept : (i : Inputs) → Preserves i.world (feeds i).world
unfolding feeds
feeds_kept i = feeds_from_kept i.world.lane.network.channels 0 i
