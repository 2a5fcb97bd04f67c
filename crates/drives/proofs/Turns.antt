-- One round, pick by pick.
-- Assumes nothing.
use mathlib.Core.Path.{◌≡◌, refl}
use mathlib.Core.Bool.{Bool, true, false, cond}
use mir.Val.{bool_byte}
use Prim.Native.Nat.{ℕ, suc, ◌+◌, ◌-◌, ◌≤◌, ◌<◌}
use native.Mathlib.Numerals.{add-one}
use native.Mathlib.Omega.{arith}
use Rattle.lane.specs.State.{World}
use Rattle.lane.specs.Pick.{step_for, pick_in, has_moved}
use Rattle.schedule.specs.Running.{Running, running, picks}
use Rattle.drives.specs.Drive.{turns}

-- the process p is picked, and the others after it
turns_more : (p n : ℕ) (r : Running) → p < n → turns p (n - p) r ≡ turns (p + 1) (n - (p + 1)) (picks p r)
turns_more p n r h = let e : n - p ≡ suc (n - (p + 1)) = omega arith in rw (e, add-one)

-- a pick that left w' and moved, or did not
pub picks_is : (p m g : ℕ) (w w' : World) (b : Bool) → w' ≡ pick_in p w → b ≡ has_moved (step_for p w).outcome → picks p (running w m g) ≡ running w' (m + bool_byte b) g
unfolding picks
picks_is p m g w w' b e f = rw (e, f) (by (has_moved (step_for p w).outcome))
  where
    by : (t : Bool) → running (pick_in p w) (cond t (m + 1) m) g ≡ running (pick_in p w) (m + bool_byte t) g
    by true = refl
    by false = let z : m ≡ m + 0 = omega arith in rw (← z)

pub picked : (p n m g : ℕ) (w w' : World) (b : Bool) → p < n → w' ≡ pick_in p w → b ≡ has_moved (step_for p w).outcome
    → turns (p + 1) (n - (p + 1)) (running w' (m + bool_byte b) g) ≡ turns p (n - p) (running w m g)
picked p n m g w w' b h e f = rw (turns_more p n (running w m g) h, picks_is p m g w w' b e f)

pub one_more : (b : Bool) → bool_byte b ≤ 1
one_more true = omega arith
one_more false = omega arith

-- no process is left
pub all_picked : (p n : ℕ) (r : Running) → n ≤ p → turns p (n - p) r ≡ r
all_picked p n r h = let z : n - p ≡ 0 = omega arith in rw z

-- a truth value as a number
pub bool_is : (b : Bool) → bool_byte b ≡ cond b 1 0
bool_is true = refl
bool_is false = refl
