-- Picks one after the other, in the terms of a run: the world and the moves are those of the loop over picks.
-- Assumes nothing.
use mathlib.Core.Path.{◌≡◌, refl, ap, ◌∙◌}
use mathlib.Core.Bool.{Bool, true, false, cond}
use mathlib.Core.List.{List, [], ◌∷◌}
use Prim.Native.Nat.{ℕ, ◌+◌, ◌≤◌}
use native.Mathlib.Omega.{arith}
use lib.ListN.{length}
use Rattle.lane.specs.State.{World}
use Rattle.lane.specs.Pick.{step_for, pick_in, has_moved, Progress, pick_next, pick_all, unpicked}
use Rattle.schedule.specs.Running.{Running, running, picks}

abbrev pub through : List ℕ → Running → Running
through [] r = r
through (p ∷ ps) r = through ps (picks p r)

-- counted from a on
counted_on : (b : Bool) (a m : ℕ) → cond b (a + m + 1) (a + m) ≡ a + cond b (m + 1) m
counted_on true a m = omega arith
counted_on false a m = refl

pub through_from :
    (ps : List ℕ) (a grown : ℕ) (g : Progress) → through ps (running g.world (a + g.moved) grown) ≡ running (pick_all ps g).world (a + (pick_all ps g).moved) grown
unfolding picks pick_next
through_from [] a grown g = refl
through_from (p ∷ ps) a grown g =
    ap (λ (m : ℕ). through ps (running (pick_in p g.world) m grown)) (counted_on (has_moved (step_for p g.world).outcome) a g.moved)
    ∙ through_from ps a grown (pick_next p g)

pub through_is :
    (ps : List ℕ) (w : World) (a grown : ℕ) → through ps (running w a grown) ≡ running (pick_all ps (unpicked w)).world (a + (pick_all ps (unpicked w)).moved) grown
through_is ps w a grown =
    let e : a ≡ a + 0 = omega arith in
    ap (λ (m : ℕ). through ps (running w m grown)) e ∙ through_from ps a grown (unpicked w)

-- one enlargement more, or none
pub grown_on : (b : Bool) (g : ℕ) → cond b (g + 1) g ≡ g + cond b 1 0
grown_on true g = refl
grown_on false g = omega arith

-- at most as many moves as picks
few_on : (b : Bool) (m : ℕ) → cond b (m + 1) m ≤ m + 1
few_on true m = omega arith
few_on false m = omega arith

pub few_moves : (ps : List ℕ) (g : Progress) → (pick_all ps g).moved ≤ g.moved + length ps
unfolding pick_next
few_moves [] g = omega arith
few_moves (p ∷ ps) g = omega (arith, few_moves ps (pick_next p g), few_on (has_moved (step_for p g.world).outcome) g.moved)
