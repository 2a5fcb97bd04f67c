-- The loop over the outputs, channels rising: one that is inside, one that has nothing to give, one that is drained.
-- Assumes nothing.
use mathlib.Core.Path.{◌≡◌, refl, sym, ap, subst, ◌∙◌}
use mathlib.Core.Bool.{Bool, true, false, not, ◌&&◌, ◌||◌}
use Prim.Native.Nat.{ℕ, zero, suc, ◌+◌, ◌-◌, ◌≤◌, ◌<◌}
use native.Mathlib.Omega.{arith}
use borrow.Author.Tests.{eq-eqb, ne_eqb}
use lib.Dec.{ltb}
use lib.ListN.{get_or}
use Rattle.network.specs.Rules.{receiver_of, outside}
use Rattle.outer_ends.specs.Outer.{Onward}
use Rattle.lane.specs.State.{channel_of}
use Rattle.listing.specs.declared.Listing.{Listing}
use Rattle.bench_rules.specs.Printed.{Printed, silent, then_do}
use Rattle.bench_rules.specs.Emptying.{Outputs, takes_at, empties_at, empties_from, empties}
use Rattle.bench_rules.specs.Holding.{Room, Done}
use Rattle.bench_rules.proofs.Underway.{Underway, begun, room_for, more, turned, done}
use Rattle.bench_rules.proofs.EmptyingLaws.{empties_next, empties_all, gives_at, idle, active}

-- ---- those between channel c and the next to the outside are inside, and give nothing
inside_gives : (c : ℕ) (o : Outputs) → (receiver_of o.world.lane.network c ≡ outside → ⊥) → empties_at c o ≡ silent o
inside_gives c o n = idle c o (rw (ne_eqb _ _ n))

pub jump_on : {c e : ℕ} (o : Outputs) → Onward o.world.lane.network.receiver o.world.lane.network.channels c e
    → empties_from c (o.world.lane.network.channels - c) o ≡ empties_from e (o.world.lane.network.channels - e) o
jump_on {c} {e} o k = go (e - c) c (omega arith) (omega (arith, k.from))
  where
    go : (j d : ℕ) → c ≤ d → d + j ≡ e → empties_from d (o.world.lane.network.channels - d) o ≡ empties_from e (o.world.lane.network.channels - e) o
    go zero d h q = let same : d ≡ e = omega arith in rw same
    go (suc j) d h q =
        empties_next d o.world.lane.network.channels o (omega (arith, k.within))
        ∙ ap (λ (r : Printed Outputs). then_do r (empties_from (d + 1) (o.world.lane.network.channels - (d + 1)))) (inside_gives d o (k.inside d h (omega arith)))
        ∙ go j (d + 1) (omega arith) (omega arith)

-- ---- the loop has come to channel c of n, which goes outside, or to the end; the channels that are left follow what is written
pub record Emptying (o₀ : Outputs) (l₀ : Listing) (n c : ℕ) (o : Outputs) (l : Listing) : Type 0 where
  pub underway : Underway (empties o₀) l₀ (empties_from c (n - c)) o l
  pub network : o.world.lane.network ≡ o₀.world.lane.network
  pub channels : n ≡ o₀.world.lane.network.channels
  pub outer : c < n → receiver_of o.world.lane.network c ≡ outside

-- to the next
jumped : {o₀ : Outputs} {l₀ : Listing} {n c e : ℕ} {o : Outputs} {l : Listing}
    → Underway (empties o₀) l₀ (empties_from c (n - c)) o l → o.world.lane.network ≡ o₀.world.lane.network → n ≡ o₀.world.lane.network.channels
    → Onward o₀.world.lane.network.receiver o₀.world.lane.network.channels c e → Emptying o₀ l₀ n e o l
jumped {o₀} {l₀} {n} {c} {e} {o} u same all k =
    let m : Onward o.world.lane.network.receiver o.world.lane.network.channels c e = rw same k in
    let count : o.world.lane.network.channels ≡ n = rw (same, all) in
    record {
      underway = turned u (empties_from e (n - e)) (subst (λ (j : ℕ). empties_from c (j - c) o ≡ empties_from e (j - e) o) count (jump_on o m));
      network = same;
      channels = all;
      outer = λ h. m.outer (omega (arith, count));
    }

pub emptying_begins : (o : Outputs) {l : Listing} {e : ℕ} → Room (empties o) l
    → Onward o.world.lane.network.receiver o.world.lane.network.channels 0 e → Emptying o l o.world.lane.network.channels e o l
emptying_begins o {l} room k = jumped (turned (begun empties o l room) (empties_from 0 (o.world.lane.network.channels - 0)) (empties_all o)) refl refl k

module _ {o₀ : Outputs} {l₀ : Listing} {n c : ℕ} {o : Outputs} {l : Listing} (s : Emptying o₀ l₀ n c o l) (h : c < n) where
  abbrev after : Outputs → Printed Outputs
  after = empties_from (c + 1) (n - (c + 1))

  abbrev drained : Printed Outputs
  drained = takes_at c (suc (channel_of o.world.lane c).held) o

  -- it gives something or not
  gives_is : {t : Bool} → t ≡ (not (get_or o.given c false) && (ltb 0 (channel_of o.world.lane c).held || (channel_of o.world.lane c).closed)) → gives_at c o ≡ t
  gives_is e = rw (eq-eqb _ _ (s.outer h)) (sym e)

  next_is : {r : Printed Outputs} → empties_at c o ≡ r → empties_from c (n - c) o ≡ then_do r after
  next_is {r} e = empties_next c n o h ∙ ap (λ (d : Printed Outputs). then_do d after) e

  -- nothing
  pub passed_over : {e : ℕ} → false ≡ (not (get_or o.given c false) && (ltb 0 (channel_of o.world.lane c).held || (channel_of o.world.lane c).closed))
      → Onward o₀.world.lane.network.receiver o₀.world.lane.network.channels (c + 1) e → Emptying o₀ l₀ n e o l
  passed_over none k = jumped (turned s.underway after (next_is (idle c o (gives_is none)))) s.network s.channels k

  -- something: its lines have room, and are written
  module _ (some : true ≡ (not (get_or o.given c false) && (ltb 0 (channel_of o.world.lane c).held || (channel_of o.world.lane c).closed))) where
    next_drained : empties_from c (n - c) o ≡ then_do drained after
    next_drained = next_is (active c o (gives_is some))

    pub room_for_channel : Room drained l
    room_for_channel = room_for s.underway drained after next_drained

    pub channel_drained : {o' : Outputs} {l' : Listing} {e : ℕ} → Done drained l o' l' → o'.world.lane.network ≡ o.world.lane.network
        → Onward o₀.world.lane.network.receiver o₀.world.lane.network.channels (c + 1) e → Emptying o₀ l₀ n e o' l'
    channel_drained d same k = jumped (more s.underway drained after next_drained d.after d.wrote) (same ∙ s.network) s.channels k

pub emptying_ends : {o₀ : Outputs} {l₀ : Listing} {n c : ℕ} {o : Outputs} {l : Listing} → Emptying o₀ l₀ n c o l → n ≤ c → Done (empties o₀) l₀ o l
emptying_ends {n = n} {c = c} {o = o} s h = let z : n - c ≡ 0 = omega arith in done s.underway (ap (λ (k : ℕ). empties_from c k o) z)
