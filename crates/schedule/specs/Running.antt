-- Picks and reliefs one after the other, as a run and the driver make them: the lane and cells, how many picks moved, how many reliefs enlarged.
-- Assumes nothing.
use Rattle.std.specs.Prelude.{Bool, true, false, cond, ℕ, ◌+◌, replicate}
use Rattle.lane.specs.State.{World, world}
use Rattle.lane.specs.Pick.{step_for, pick_in, has_moved}
use Rattle.relief.specs.Relief.{Told, enlarged, refused, relieve_of}

pub record Running : Type 0 where
  pub world : World
  pub moved : ℕ
  pub grown : ℕ

abbrev pub running : World → ℕ → ℕ → Running
running w moved grown = record { world = w; moved = moved; grown = grown }

-- nothing made yet
abbrev pub begun : World → Running
begun w = running w 0 0

-- one pick of a process
unfoldable pub picks : ℕ → Running → Running
picks p r =
    record {
      world = pick_in p r.world;
      moved = cond (has_moved (step_for p r.world).outcome) (r.moved + 1) r.moved;
      grown = r.grown;
    }

-- one relief, with room for any ring
abbrev pub relief_in : World → Told
relief_in w = (relieve_of w.lane (replicate 16 0)).answer

abbrev pub has_grown : Told → Bool
has_grown (enlarged n c) = true
has_grown (refused n) = false

-- "refusals 13 and 14 are passed over inside it". A run and a drive meet no other (`run_no_other` of runs/proofs/Reliefs.antt,
-- `drive_no_other` of drives/proofs/Reliefs.antt).
unfoldable pub relieves : Running → Running
relieves r =
    record {
      world = world (relieve_of r.world.lane (replicate 16 0)).lane r.world.cells;
      moved = r.moved;
      grown = cond (has_grown (relief_in r.world)) (r.grown + 1) r.grown;
    }
