-- A lane and cells on which picks can be made, and that picks and reliefs leave them so; a relief there enlarges, or is refused with 13 or 14.
-- Assumes nothing.
use mathlib.Core.Path.{◌≡◌, refl, ◌∙◌}
use mathlib.Core.Bool.{true, false}
use mathlib.Core.List.{List, [], ◌∷◌}
use Prim.Native.Nat.{ℕ, suc, ◌<◌}
use native.Mathlib.Omega.{arith}
use borrow.Author.Tests.{eqb-true, not-false}
use lib.ListN.{length, get_or, replicate}
use Rattle.network.specs.declared.Network.{Network}
use Rattle.network.proofs.Passed.{passed}
use Rattle.lane.specs.State.{World, world}
use Rattle.lane.specs.Sound.{sound_of}
use Rattle.lane.specs.Pick.{pick_in, Progress, pick_next, pick_all}
use Rattle.lane.specs.Calls.{cells_wrong, unsound}
use Rattle.lane.proofs.Shape.{Shaped}
use Rattle.lane.proofs.PickLaws.{pick_sound, pick_network, pick_cells, pick_shaped}
use Rattle.lane.proofs.CallLaws.{Preserves}
use Rattle.lane.proofs.SoundLaws.{sound_says}
use Rattle.relief.specs.Relief.{relieve_of, NoOther}
use Rattle.relief.proofs.Enlarged.{relief_kept}
use Rattle.relief.proofs.Relieving.{relief_answers}
use Rattle.schedule.specs.Running.{Running, picks, relief_in, relieves}

-- a sound lane of the network n, with its cells
pub record Ready (n : Network) (w : World) : Type 0 where
  pub same : w.lane.network ≡ n
  pub long : length w.cells ≡ 8192
  pub shaped : Shaped w.lane
  pub sound : sound_of w.lane ≡ true

module _ (n : Network) where
  pub ready_pick : (p : ℕ) (w : World) → p < n.processes → Ready n w → Ready n (pick_in p w)
  ready_pick p w h s =
      record {
        same = pick_network p w ∙ s.same;
        long = pick_cells p w ∙ s.long;
        shaped = pick_shaped p w s.shaped;
        sound = pick_sound p w s.shaped (rw s.same h) s.sound;
      }

  pub ready_all : (ps : List ℕ) (g : Progress) → ((k : ℕ) → k < length ps → get_or ps k 0 < n.processes) → Ready n g.world → Ready n (pick_all ps g).world
  unfolding pick_next
  ready_all [] g h s = s
  ready_all (p ∷ ps) g h s = ready_all ps (pick_next p g) (λ k l. h (suc k) (omega arith)) (ready_pick p g.world (h 0 (omega arith)) s)

  -- what keeps a lane and its cells as the calls do
  pub ready_kept : (w w' : World) → Preserves w w' → Ready n w → Ready n w'
  ready_kept w w' k s =
      record { same = k.network ∙ s.same; long = k.cells ∙ s.long; shaped = k.shaped s.shaped; sound = k.sound s.sound }

  pub ready_relief : (w : World) (buffer : List ℕ) → Ready n w → Ready n (world (relieve_of w.lane buffer).lane w.cells)
  ready_relief w buffer = ready_kept w _ (relief_kept w buffer)

  -- a relief on the way
  pub ready_answers : (w : World) → Ready n w → NoOther (relief_in w)
  ready_answers w s = relief_answers w.lane (replicate 16 0) s.sound (passed w.lane.network (sound_says w.lane s.sound).passed).processes_high

  -- the lane stays sound
  pub ready_picks : (p : ℕ) (r : Running) → p < n.processes → Ready n r.world → Ready n (picks p r).world
  unfolding picks
  ready_picks p r h s = ready_pick p r.world h s

  pub ready_relieves : (r : Running) → Ready n r.world → Ready n (relieves r).world
  unfolding relieves
  ready_relieves r s = ready_relief r.world (replicate 16 0) s

-- from the tests on
pub ready : (w : World) → Shaped w.lane → cells_wrong w ≡ false → unsound w ≡ false → Ready w.lane.network w
ready w shaped e f = record { same = refl; long = eqb-true _ _ (not-false _ e); shaped = shaped; sound = not-false _ f }
