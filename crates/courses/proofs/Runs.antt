-- A run is the list of its bytes' steps.
-- Assumes nothing.
use mathlib.Core.Path.{◌≡◌, refl, sym, ap}
use mathlib.Core.Bool.{Bool, true, false}
use mathlib.Core.List.{List, [], ◌∷◌}
use Prim.Native.Nat.{ℕ, suc, ◌<◌}
use native.Mathlib.Omega.{arith}
use lib.Dec.{eqb}
use lib.ListN.{length, get_or}
use borrow.Author.Tests.{eqb-false, eq-eqb, not-false}
use Rattle.network.specs.declared.Network.{Network}
use Rattle.lane.specs.State.{World}
use Rattle.schedule.specs.Running.{Running, begun}
use Rattle.schedule.proofs.Ready.{Ready}
use Rattle.runs.specs.Run.{byte_run, bytes_run, ran, result, some_unnamed, run_of}
use Rattle.runs.proofs.Tests.{process_named}
use Rattle.kahn.specs.Steps.{moved_in, grown_in}
use Rattle.courses.specs.Courses.{byte_step, byte_steps, RunIs}
use Rattle.courses.proofs.Inside.{ready_steps, Makes, makes_none, makes_both, makes_relief, makes_pick}

module _ (n : Network) where
  makes_byte : (b : ℕ) (r : Running) → Ready n r.world → ((b ≡ 255 → ⊥) → b < n.processes) → Makes (byte_step b ∷ []) r (byte_run b r)
  unfolding byte_run
  makes_byte b r s h = at (eqb b 255) refl
    where
      at : (t : Bool) → eqb b 255 ≡ t → Makes (byte_step b ∷ []) r (byte_run b r)
      at true e = rw e (makes_relief r)
      at false e = rw e (makes_pick n b r s (h (eqb-false b 255 e)))

  pub makes_bytes : (bytes : List ℕ) (r : Running) → Ready n r.world → ((k : ℕ) → k < length bytes → (get_or bytes k 0 ≡ 255 → ⊥) → get_or bytes k 0 < n.processes)
      → Makes (byte_steps bytes) r (bytes_run bytes r)
  makes_bytes [] r s h = makes_none r
  makes_bytes (b ∷ bs) r s h =
      let m = makes_byte b r s (h 0 (omega arith)) in
      let t : Ready n (byte_run b r).world = rw m.world (ready_steps n (byte_step b ∷ []) r.world s) in
      makes_both (byte_step b ∷ []) (byte_steps bs) r (byte_run b r) (bytes_run bs (byte_run b r)) m (makes_bytes bs (byte_run b r) t (λ k l. h (suc k) (omega arith)))

-- a lane that is sound, with its cells, and bytes that name its processes
pub run_ready : (n : Network) (bytes : List ℕ) (w : World) → Ready n w → some_unnamed bytes w ≡ false → RunIs bytes w
unfolding run_of
run_ready n bytes w s e =
    let m = makes_bytes n bytes (begun w) s (λ k l z. rw (ap (λ (x : Network). x.processes) (sym s.same)) (process_named bytes w.lane.network.processes (not-false _ e) k l z)) in
    let a : (bytes_run bytes (begun w)).moved ≡ moved_in (byte_steps bytes) w = omega (arith, m.moved) in
    let b : (bytes_run bytes (begun w)).grown ≡ grown_in (byte_steps bytes) w = omega (arith, m.grown) in
    rw (eq-eqb (length w.cells) 8192 s.long, s.sound, e) (λ i. result (ran (a i) (b i)) (m.world i))
