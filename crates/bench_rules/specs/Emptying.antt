-- Document 01, "Bench listing": "After each it empties all outputs, channels rising. Lines: `out channel value`, `end channel` (first time)".
-- Assumes nothing.
use Rattle.std.specs.Prelude.{Bool, true, false, cond, List, [], ◌∷◌, ℕ, zero, suc, eqb, get_or, set}
use Rattle.network.specs.Rules.{receiver_of, outside}
use Rattle.lane.specs.State.{World, channel_of}
use Rattle.lane.specs.Calls.{Told, moved, waiting_empty, waiting_full, ended, accepted, value, the_end, refused, take_of}
use Rattle.listing.specs.Text.{Line, out, end}
use Rattle.bench_rules.specs.Printed.{Printed, printed, silent, then_do}

-- what a take at channel c gave: a line for a value, one for the end, none for a refusal
abbrev pub line_for : ℕ → Told → List Line
line_for c moved = []
line_for c (waiting_empty d) = []
line_for c (waiting_full d) = []
line_for c ended = []
line_for c accepted = []
line_for c (value v) = out c v ∷ []
line_for c the_end = end c ∷ []
line_for c (refused k) = []

abbrev pub is_end : Told → Bool
is_end moved = false
is_end (waiting_empty d) = false
is_end (waiting_full d) = false
is_end ended = false
is_end accepted = false
is_end (value v) = false
is_end the_end = true
is_end (refused k) = false

-- the lane with its cells, and for each channel whether its end was given
pub record Outputs : Type 0 where
  pub world : World
  pub given : List Bool

abbrev pub outputs : World → List Bool → Outputs
outputs w given = record { world = w; given = given }

-- one take
abbrev pub take_at : ℕ → Outputs → Printed Outputs
take_at c o =
    printed (line_for c (take_of c o.world).answer)
    (outputs (take_of c o.world).world (cond (is_end (take_of c o.world).answer) (set o.given c true) o.given))

-- so many takes
abbrev pub takes_at : ℕ → ℕ → Outputs → Printed Outputs
takes_at c zero o = silent o
takes_at c (suc k) o = then_do (take_at c o) (takes_at c k)

-- channel c, if that goes outside and its end was not given: all that it holds, and one take more, which gives the end or is refused
unfoldable pub empties_at : ℕ → Outputs → Printed Outputs
empties_at c o =
    cond (eqb (receiver_of o.world.lane.network c) outside)
    (cond (get_or o.given c false) (silent o) (takes_at c (suc (channel_of o.world.lane c).held) o))
    (silent o)

-- channels c, c + 1, .., k of them
abbrev pub empties_from : ℕ → ℕ → Outputs → Printed Outputs
empties_from c zero o = silent o
empties_from c (suc k) o = then_do (empties_at c o) (empties_from (suc c) k)

unfoldable pub empties : Outputs → Printed Outputs
empties o = empties_from 0 o.world.lane.network.channels o
