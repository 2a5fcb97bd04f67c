-- Outputs emptied: takes one after the other, channels one after the other; what an output that has nothing to give prints; what stays.
-- Assumes nothing.
use mathlib.Core.Path.{◌≡◌, refl, sym, ap, ◌∙◌}
use mathlib.Core.Bool.{Bool, true, false, cond, not, ◌&&◌, ◌||◌, true≢false}
use mathlib.Core.List.{List}
use Prim.Native.Nat.{ℕ, zero, suc, ◌+◌, ◌-◌, ◌<◌}
use native.Mathlib.Nat.{sub-zero}
use native.Mathlib.Omega.{arith}
use borrow.Author.Tests.{ltb-false}
use lib.Dec.{eqb, ltb}
use lib.ListN.{set, get_or}
use Rattle.base.proofs.Conjunction.{neither}
use Rattle.network.specs.Rules.{receiver_of, outside}
use Rattle.lane.specs.State.{channel_of}
use Rattle.lane.specs.Calls.{Called}
use Rattle.lane.proofs.CallCases.{take_cases}
use Rattle.lane.proofs.CallLaws.{Preserves, unchanged, kept_then, take_kept}
use Rattle.bench_rules.specs.Printed.{Printed, printed, silent, then_do}
use Rattle.bench_rules.specs.Emptying.{Outputs, outputs, line_for, is_end, take_at, takes_at, empties_at, empties_from, empties}

-- ---- the next take, the next channel
pub takes_next : (c k : ℕ) (o : Outputs) → 0 < k → takes_at c k o ≡ then_do (take_at c o) (takes_at c (k - 1))
takes_next c zero o h = absurd (omega arith)
takes_next c (suc k) o h = let e : k ≡ suc k - 1 = omega arith in ap (λ (j : ℕ). then_do (take_at c o) (takes_at c j)) e

pub empties_next : (c n : ℕ) (o : Outputs) → c < n → empties_from c (n - c) o ≡ then_do (empties_at c o) (empties_from (c + 1) (n - (c + 1)))
empties_next c n o h =
    let d : n - c ≡ suc (n - (c + 1)) = omega arith in
    let e : suc c ≡ c + 1 = omega arith in
    ap (λ (k : ℕ). empties_from c k o) d ∙ ap (λ (j : ℕ). then_do (empties_at c o) (empties_from j (n - (c + 1)))) e

pub empties_all : (o : Outputs) → empties o ≡ empties_from 0 (o.world.lane.network.channels - 0) o
unfolding empties
empties_all o = ap (λ (k : ℕ). empties_from 0 k o) (sym (sub-zero o.world.lane.network.channels))

-- ---- what a call answers and leaves, as lines and outputs
abbrev pub given_by : ℕ → List Bool → Called → Printed Outputs
given_by c given r = printed (line_for c r.answer) (outputs r.world (cond (is_end r.answer) (set given c true) given))

-- a take at a channel that is empty and open: nothing
pub nothing_taken : (c : ℕ) (o : Outputs) → (channel_of o.world.lane c).held ≡ 0 → (channel_of o.world.lane c).closed ≡ false → take_at c o ≡ silent o
nothing_taken c o none unclosed =
    take_cases (λ (r : Called). given_by c o.given r ≡ silent o) o.world (λ k. refl) c
    (λ t e shut. absurd (true≢false (sym shut ∙ unclosed)))
    (λ t some. absurd (some none))

-- ---- channel c by cases
-- it goes outside, its end was not given, and it holds a message or is closed
abbrev pub gives_at : ℕ → Outputs → Bool
gives_at c o =
    eqb (receiver_of o.world.lane.network c) outside && not (get_or o.given c false)
    && (ltb 0 (channel_of o.world.lane c).held || (channel_of o.world.lane c).closed)

module _ (c : ℕ) (o : Outputs) where
  abbrev all : Printed Outputs
  all = takes_at c (suc (channel_of o.world.lane c).held) o

  abbrev some : Bool
  some = ltb 0 (channel_of o.world.lane c).held || (channel_of o.world.lane c).closed

  -- nothing held and open: one take, which gives nothing
  none_taken : some ≡ false → all ≡ silent o
  none_taken e =
      let s = neither (ltb 0 (channel_of o.world.lane c).held) _ e in
      let h : (channel_of o.world.lane c).held ≡ 0 = omega (arith, ltb-false 0 (channel_of o.world.lane c).held s.0) in
      ap (λ (k : ℕ). takes_at c (suc k) o) h ∙ ap (λ (r : Printed Outputs). then_do r silent) (nothing_taken c o h s.1)

  idle_by : (outer over : Bool) → (outer && not over && some) ≡ false → cond outer (cond over (silent o) all) (silent o) ≡ silent o
  idle_by false over e = refl
  idle_by true true e = refl
  idle_by true false e = none_taken e

  active_by : (outer over : Bool) → (outer && not over && some) ≡ true → cond outer (cond over (silent o) all) (silent o) ≡ all
  active_by false over e = absurd (true≢false (sym e))
  active_by true true e = absurd (true≢false (sym e))
  active_by true false e = refl

  -- one that has nothing to give is passed over
  pub idle : gives_at c o ≡ false → empties_at c o ≡ silent o
  unfolding empties_at
  idle = idle_by (eqb (receiver_of o.world.lane.network c) outside) (get_or o.given c false)

  -- one that has is emptied
  pub active : gives_at c o ≡ true → empties_at c o ≡ takes_at c (suc (channel_of o.world.lane c).held) o
  unfolding empties_at
  active = active_by (eqb (receiver_of o.world.lane.network c) outside) (get_or o.given c false)

-- ---- what emptying keeps: soundness, the network, the number of cells
pub takes_kept : (c k : ℕ) (o : Outputs) → Preserves o.world (takes_at c k o).after.world
takes_kept c zero o = unchanged o.world
takes_kept c (suc k) o = kept_then (take_kept o.world c) (takes_kept c k (take_at c o).after)

pub empties_at_kept : (c : ℕ) (o : Outputs) → Preserves o.world (empties_at c o).after.world
unfolding empties_at
empties_at_kept c o =
    by (eqb (receiver_of o.world.lane.network c) outside) (get_or o.given c false) (takes_at c (suc (channel_of o.world.lane c).held) o)
    (takes_kept c (suc (channel_of o.world.lane c).held) o)
  where
    by : (outer over : Bool) (all : Printed Outputs) → Preserves o.world all.after.world
        → Preserves o.world (cond outer (cond over (silent o) all) (silent o)).after.world
    by false over _ k = unchanged o.world
    by true true _ k = unchanged o.world
    by true false _ k = k

pub empties_from_kept : (c k : ℕ) (o : Outputs) → Preserves o.world (empties_from c k o).after.world
empties_from_kept c zero o = unchanged o.world
empties_from_kept c (suc k) o = kept_then (empties_at_kept c o) (empties_from_kept (suc c) k (empties_at c o).after)

pub empties_kept : (o : Outputs) → Preserves o.world (empties o).after.world
unfolding empties
empties_kept o = empties_from_kept 0 o.world.lane.network.channels o
