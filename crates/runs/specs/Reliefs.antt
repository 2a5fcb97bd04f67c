-- Document 01, "The lane in operation": every relief that a run makes, and that each enlarges or is refused with 13 or 14. A run passes those two over;
-- what `relieves` says of other numbers is never asked.
-- Assumes nothing.
use Rattle.std.specs.Prelude.{◌≡◌, false, List, [], ◌∷◌, ℕ}
use Rattle.lane.specs.State.{World, Shaped}
use Rattle.lane.specs.Calls.{cells_wrong, unsound}
use Rattle.relief.specs.Relief.{NoOther}
use Rattle.schedule.specs.Running.{Running, begun, relief_in}
use Rattle.runs.specs.Run.{byte_run, some_unnamed}

-- bytes, as `bytes_run` takes them: at each 255 the relief of the lane that the bytes before it left
abbrev pub InBytes : List ℕ → Running → Type 0
InBytes [] r = Unit {0}
InBytes (b ∷ bs) r = (b ≡ 255 → NoOther (relief_in r.world)) × InBytes bs (byte_run b r)

-- a run that is not refused (`run_no_other` of proofs/Reliefs.antt)
abbrev pub InRun : List ℕ → World → Type 0
InRun bytes w = Shaped w.lane → cells_wrong w ≡ false → unsound w ≡ false → some_unnamed bytes w ≡ false → InBytes bytes (begun w)
