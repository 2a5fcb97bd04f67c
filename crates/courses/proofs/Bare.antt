-- A drive on a sound lane without the tests of each relief: for computation. (The tests are shown once, by the law that soundness is kept.)
-- Assumes nothing.
use mathlib.Core.Path.{◌≡◌, refl, ap, ◌∙◌, subst}
use mathlib.Core.Bool.{cond}
use Prim.Native.Nat.{ℕ, zero, suc, ◌+◌, ◌/◌}
use lib.Dec.{eqb}
use lib.ListN.{length, replicate}
use borrow.Author.Tests.{eq-eqb}
use Rattle.network.specs.declared.Network.{Network}
use Rattle.lane.specs.State.{World, world}
use Rattle.relief.specs.Relief.{Relief, found_in, settled, relieve_of}
use Rattle.schedule.specs.Running.{Running, begun, has_grown, relieves}
use Rattle.schedule.proofs.Ready.{Ready, ready_relief}
use Rattle.drives.specs.Drive.{round, spent, Next, ends, goes, by_relief, Drive, driven, done, next_after, left_after, rounds, drive_of}
use Rattle.courses.specs.Courses.{turn_steps}
use Rattle.courses.proofs.Inside.{ready_steps, bare}
use Rattle.courses.proofs.Rounds.{makes_round}
use Rattle.courses.proofs.Courses.{onward, rounds_more}

abbrev pub bare_relief : World → Relief
bare_relief w = settled (found_in w.lane) w.lane (replicate 16 0)

-- the rule after a round, by what its relief gives
abbrev left_by : Relief → Running → Running
left_by x r =
    record { world = world x.lane r.world.cells; moved = r.moved; grown = cond (has_grown x.answer) (r.grown + 1) r.grown }

abbrev next_by : Relief → Running → Next
next_by x r = cond (eqb r.moved 0) (by_relief x.answer) goes

unfoldable pub bare_rounds : ℕ → ℕ → Running → Drive
bare_rounds zero n r = driven spent n r
bare_rounds (suc k) n r = onward (bare_rounds k (n + 1)) (n + 1) (left_by (bare_relief (round r).world) (round r)) (next_by (bare_relief (round r).world) (round r))

module _ (n : Network) where
  round_ready : (r : Running) → Ready n r.world → Ready n (round r).world
  round_ready r s = rw (makes_round n r s).world (ready_steps n (turn_steps 0 n.processes) r.world s)

  by_relief_lem : (k m : ℕ) (x : Running) (y : Relief) → relieve_of x.world.lane (replicate 16 0) ≡ y
      → onward (rounds k m) m (left_after x) (next_after x) ≡ onward (rounds k m) m (left_by y x) (next_by y x)
  unfolding relieves
  by_relief_lem k m x y e = ap (λ (z : Relief). onward (rounds k m) m (left_by z x) (next_by z x)) e

  onward_same : (f g : Running → Drive) (m : ℕ) (r : Running) (x : Next) → f r ≡ g r → onward f m r x ≡ onward g m r x
  onward_same f g m r (ends e) h = refl
  onward_same f g m r goes h = h

  left_ready : (x : Running) → Ready n x.world → Ready n (left_by (bare_relief x.world) x).world
  left_ready x s =
      subst (λ (y : Relief). Ready n (world y.lane x.world.cells)) (bare x.world.lane s.sound) (ready_relief n x.world (replicate 16 0) s)

  bare_is : (k m : ℕ) (r : Running) → Ready n r.world → rounds k m r ≡ bare_rounds k m r
  unfolding bare_rounds relieves
  bare_is zero m r s = refl
  bare_is (suc k) m r s =
      let t = round_ready r s in
      rounds_more k m r
      ∙ by_relief_lem k (m + 1) (round r) (bare_relief (round r).world) (bare (round r).world.lane t.sound)
      ∙ onward_same (rounds k (m + 1)) (bare_rounds k (m + 1)) (m + 1) _ (next_by (bare_relief (round r).world) (round r))
      (bare_is k (m + 1) (left_by (bare_relief (round r).world) (round r)) (left_ready (round r) t))

  pub drive_bare : (budget : ℕ) (w : World) → Ready n w → drive_of budget w ≡ done n.processes (bare_rounds (budget / n.processes) 0 (begun w))
  unfolding drive_of
  drive_bare budget w s =
      rw (eq-eqb (length w.cells) 8192 s.long, s.sound)
      (ap (λ (m : Network). done m.processes (rounds (budget / m.processes) 0 (begun w))) s.same
      ∙ ap (done n.processes) (bare_is (budget / n.processes) 0 (begun w) s))
