-- The fresh lane of one process that sends to itself for ever, on a channel of capacity 1: the witness of runs/proofs/Witness.antt and of
-- drives/proofs/Witness.antt.
-- Assumes nothing.
use mathlib.Core.Path.{◌≡◌, refl, ap}
use mathlib.Core.Bool.{true, false, not}
use mathlib.Core.List.{List, [], ◌∷◌, ◌++◌}
use Prim.Native.Nat.{ℕ}
use native.Mathlib.Omega.{arith}
use lib.Dec.{eqb}
use lib.ListN.{replicate, length-replicate}
use lib.IntN.{ℤ, pos}
use Rattle.base.specs.Tests.{in_turn}
use Rattle.base.specs.Lists.{values}
use Rattle.network.specs.declared.Network.{Network}
use Rattle.network.specs.Code.{fields_right, stands_right}
use Rattle.network.specs.Rules.{slots, ends_right, records, instruction_right, code_of, instructions, unused_slots, unused_records, passes}
use Rattle.network.proofs.Unused.{passes_by}
use Rattle.lane.specs.State.{World, world, Shaped, fresh_of}
use Rattle.lane.specs.Calls.{cells_wrong, unsound}
use Rattle.lane.proofs.SoundLaws.{fresh_sound}

-- 0 (12,0,0,0)   1 (8,0,0,0)
abbrev sends : List ℕ
sends = 12 ∷ 0 ∷ 0 ∷ 0 ∷ 8 ∷ 0 ∷ 0 ∷ 0 ∷ []

abbrev own : Network
own =
    record {
      processes = 1;
      channels = 1;
      first = replicate 16 0;
      count = 2 ∷ replicate 15 0;
      sender = replicate 32 0;
      receiver = replicate 32 0;
      capacity = 1 ∷ replicate 31 0;
      code = sends ++ replicate 4056 0;
    }

own_passes : passes own ≡ true
unfolding slots records ends_right unused_slots unused_records instructions code_of instruction_right stands_right fields_right in_turn
own_passes = passes_by own sends 4056 refl (omega arith) refl

abbrev pub fresh : World
fresh = world (fresh_of own) (replicate 8192 (pos 0))

pub fresh_shaped : Shaped fresh.lane
unfolding fresh_of values
fresh_shaped = record { registers = refl; processes = refl; channels = refl }

pub fresh_cells : cells_wrong fresh ≡ false
fresh_cells = ap (λ n. not (eqb n 8192)) (length-replicate {A = ℤ} 8192 (pos 0))

pub fresh_safe : unsound fresh ≡ false
fresh_safe = rw (fresh_sound own own_passes)
