-- Document 01, "Bench listing": the lines of a bench on a lane, its input and its pick bytes.
-- Assumes nothing.
use Rattle.std.specs.Prelude.{Bool, false, cond, List, [], ◌∷◌, ◌++◌, ℕ, zero, suc, eqb, replicate, ℤ, pos}
use Rattle.network.specs.declared.Network.{Network}
use Rattle.process.specs.declared.Condition.{Condition}
use Rattle.process.specs.declared.Condition.TheVariants.{Live, Stopped, Faulted}
use Rattle.lane.specs.declared.Lane.{Lane}
use Rattle.lane.specs.State.{World, world, channel_of, standing_of, fresh_of}
use Rattle.lane.specs.Pick.{pick_in}
use Rattle.waits.specs.Waits.{Wait, free, for_message, for_room, wait_of}
use Rattle.relief.specs.Relief as relief
use Rattle.schedule.specs.Running.{begun, relief_in, relieves}
use Rattle.listing.specs.declared.Status.{Status}
use Rattle.listing.specs.declared.Status.TheVariants.{Stop, Fault, Empty, Full, Run}
use Rattle.listing.specs.Text.{Line, grow, proc}
use Rattle.bench_rules.specs.Printed.{Printed, printed, silent, then_do}
use Rattle.bench_rules.specs.Input.{left_at}
use Rattle.bench_rules.specs.Feeding.{Inputs, inputs, feeds}
use Rattle.bench_rules.specs.Emptying.{outputs, empties}

-- "`grow channel capacity` (the new one)", on the lane after the relief; refusals 13 and 14 print nothing
abbrev pub grow_lines : relief.Told → Lane → List Line
grow_lines (relief.enlarged n c) l = grow c (channel_of l c).capacity ∷ []
grow_lines (relief.refused k) l = []

-- a relief, as a run makes it
unfoldable pub relieves_in : World → Printed World
relieves_in w = printed (grow_lines (relief_in w) (relieves (begun w)).world.lane) (relieves (begun w)).world

-- a pick byte alone: a pick of a process, or 255
abbrev pub picks_in : ℕ → World → Printed World
picks_in p w = cond (eqb p 255) (relieves_in w) (silent (pick_in p w))

-- what a bench holds: the lane with its cells; for each channel what is left of its input, and whether its end was given
pub record Bench : Type 0 where
  pub world : World
  pub left : List (List ℤ)
  pub given : List Bool

abbrev pub bench : World → List (List ℤ) → List Bool → Bench
bench w left given = record { world = w; left = left; given = given }

-- a pick byte on fed inputs, and then the outputs
abbrev pub picks_on : ℕ → List Bool → Inputs → Printed Bench
picks_on p given i =
    then_do (then_do (picks_in p i.world) (λ w. empties (outputs w given))) (λ o. silent (bench o.world i.left o.given))

-- a pick byte with what comes before and after it
unfoldable pub plays_one : ℕ → Bench → Printed Bench
plays_one p b = picks_on p b.given (feeds (inputs b.left b.world))

abbrev pub plays : List ℕ → Bench → Printed Bench
plays [] b = silent b
plays (p ∷ ps) b = then_do (plays_one p b) (plays ps)

-- "condition stop, fault, or, for a live process, empty or full if a pick would wait so, else run"
abbrev pub wait_status : Wait → Status
wait_status free = Run
wait_status (for_message c) = Empty
wait_status (for_room c) = Full

abbrev pub status_in : Condition → Wait → Status
status_in Live w = wait_status w
status_in Stopped w = Stop
status_in Faulted w = Fault

abbrev pub status_of : Lane → ℕ → Status
status_of l p = status_in (standing_of l p).condition (wait_of l p)

-- "at last per process `proc number condition moves`": processes p, p + 1, .., k of them
abbrev pub proc_lines : Lane → ℕ → ℕ → List Line
proc_lines l p zero = []
proc_lines l p (suc k) = proc p (status_of l p) (standing_of l p).moves ∷ proc_lines l (suc p) k

-- the start: a fresh lane, cells of zero, all input left and no end given
unfoldable pub start : Network → List ℕ → Bench
start n input = bench (world (fresh_of n) (replicate 8192 (pos 0))) (left_at input (replicate 32 0)) (replicate 32 false)

abbrev pub closing : Printed Bench → List Line
closing d = d.lines ++ proc_lines d.after.world.lane 0 d.after.world.lane.network.processes

unfoldable pub lines_of : Network → List ℕ → List ℕ → List Line
lines_of n input picks = closing (plays picks (start n input))
