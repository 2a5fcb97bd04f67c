-- The hypotheses of `run_no_other` are met: by the fresh lane of one process that sends to itself for ever, on a channel of capacity 1
-- (schedule/proofs/Fixture.antt). A run of two picks and a relief is not refused there.
-- Assumes nothing.
use mathlib.Core.Path.{◌≡◌, refl}
use mathlib.Core.Bool.{false}
use mathlib.Core.List.{List, [], ◌∷◌}
use Prim.Native.Nat.{ℕ}
use Rattle.base.specs.Tests.{in_turn}
use Rattle.lane.specs.State.{fresh_of}
use Rattle.schedule.specs.Running.{begun}
use Rattle.schedule.proofs.Fixture.{fresh, fresh_shaped, fresh_cells, fresh_safe}
use Rattle.runs.specs.Run.{some_unnamed}
use Rattle.runs.specs.Reliefs.{InBytes}
use Rattle.runs.proofs.Reliefs.{run_no_other}

-- two picks, and the relief of what they left
abbrev bytes : List ℕ
bytes = 0 ∷ 0 ∷ 255 ∷ []

bytes_named : some_unnamed bytes fresh ≡ false
unfolding fresh_of in_turn
bytes_named = refl

pub run_met : InBytes bytes (begun fresh)
run_met = run_no_other bytes fresh fresh_shaped fresh_cells fresh_safe bytes_named
