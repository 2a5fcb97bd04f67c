-- The process of a sound lane that is picked or looked at, and the instruction at which it stands.
-- Assumes nothing.
use mathlib.Core.Path.{◌≡◌}
use mathlib.Core.Bool.{true}
use Prim.Native.Nat.{ℕ, ◌+◌, ◌<◌}
use native.Mathlib.Omega.{arith}
use borrow.Author.Tests.{lt-ltb}
use Rattle.network.specs.declared.Network.{Network}
use Rattle.network.specs.Code.{instruction_at}
use Rattle.network.specs.Rules.{start_of, count_of}
use Rattle.network.proofs.Passed.{passed}
use Rattle.network.proofs.Slot.{ends_within}
use Rattle.lane.specs.declared.Lane.{Lane}
use Rattle.lane.specs.State.{standing_of, stands_at}
use Rattle.lane.specs.Pick.{instruction_for}
use Rattle.lane.specs.Sound.{sound_of}
use Rattle.lane.proofs.SoundLaws.{Sound, sound_says}

-- process p is there, and the instruction at which it stands lies in the code
pub record Next (n : Network) (l : Lane) (p : ℕ) : Type 0 where
  pub there : p < l.network.processes
  pub low : p < 16
  pub position : (standing_of l p).position < count_of n p
  pub place : start_of n p + (standing_of l p).position < 1016

pub next_of : (l : Lane) (p : ℕ) → Sound l → p < l.network.processes → Next l.network l p
next_of l p s h =
    let e = passed l.network s.passed in
    let m = s.positions p h in
    let w = ends_within l.network e.slots_good p h in
    record { there = h; low = omega (arith, e.processes_high); position = m; place = omega (arith, e.total_high) }

pub place_of : (l : Lane) (p : ℕ) → sound_of l ≡ true → p < l.network.processes → start_of l.network p + (standing_of l p).position < 1016
place_of l p s h = (next_of l p (sound_says l s) h).place

-- the instruction that is fetched is the one at which process p stands
pub stands : (l : Lane) (p : ℕ) → sound_of l ≡ true → p < l.network.processes
    → instruction_at l.network.code (start_of l.network p + (standing_of l p).position) ≡ instruction_for p l
unfolding stands_at
stands l p s h = rw (lt-ltb (standing_of l p).position (count_of l.network p) (next_of l p (sound_says l s) h).position)
