-- Lists of calls with bursts among them (document 02, request 1). An act is a step, as demand 3 has it, or a burst of values for one channel. What a list
-- of acts leaves, feeds, gives and sends is said of the acts themselves, each on what the last one left.
-- Assumes nothing.
use Rattle.std.specs.Prelude.{◌≡◌, cond, List, [], ◌∷◌, ◌++◌, ℕ, ◌+◌, eqb, ℤ, take}
use Rattle.lane.specs.State.{World}
use Rattle.bursts.specs.Bursts.{burst_of}
use Rattle.kahn.specs.Calls.{feed}
use Rattle.kahn.specs.Steps.{Step, call, after_step, fed_at, taken_at, sent_at, moved_at, grown_at}
use Rattle.kahn.specs.Steps as steps

pub data Act : Type 0 where
  step : Step → Act
  burst : ℕ → List ℤ → Act

-- ---- one act: what it leaves, and what it fed, gave and sent on channel c
abbrev pub after_act : Act → World → World
after_act (step s) w = after_step s w
after_act (burst d vs) w = (burst_of d vs w).world

-- a burst feeds the first of its values, "how many went in"
abbrev pub fed_by : Act → World → ℕ → List ℤ
fed_by (step s) w c = fed_at s w c
fed_by (burst d vs) w c = cond (eqb d c) (take (burst_of d vs w).fed vs) []

abbrev pub taken_by : Act → World → ℕ → List ℤ
taken_by (step s) w c = taken_at s w c
taken_by (burst d vs) w c = []

-- "Sent on a channel": the value of each accepted feed, those of a burst too
abbrev pub sent_by : Act → World → ℕ → List ℤ
sent_by (step s) w c = sent_at s w c
sent_by (burst d vs) w c = fed_by (burst d vs) w c

-- picks that moved, and reliefs that enlarged: none in a burst
abbrev pub moved_by : Act → World → ℕ
moved_by (step s) w = moved_at s w
moved_by (burst d vs) w = 0

abbrev pub grown_by : Act → World → ℕ
grown_by (step s) w = grown_at s w
grown_by (burst d vs) w = 0

-- ---- a list of acts
abbrev pub after : List Act → World → World
after [] w = w
after (a ∷ acts) w = after acts (after_act a w)

abbrev pub fed : List Act → World → ℕ → List ℤ
fed [] w c = []
fed (a ∷ acts) w c = fed_by a w c ++ fed acts (after_act a w) c

abbrev pub taken : List Act → World → ℕ → List ℤ
taken [] w c = []
taken (a ∷ acts) w c = taken_by a w c ++ taken acts (after_act a w) c

abbrev pub sent : List Act → World → ℕ → List ℤ
sent [] w c = []
sent (a ∷ acts) w c = sent_by a w c ++ sent acts (after_act a w) c

abbrev pub moved_in : List Act → World → ℕ
moved_in [] w = 0
moved_in (a ∷ acts) w = moved_by a w + moved_in acts (after_act a w)

abbrev pub grown_in : List Act → World → ℕ
grown_in [] w = 0
grown_in (a ∷ acts) w = grown_by a w + grown_in acts (after_act a w)

-- ---- each burst written out, a feed for each of its values, whatever becomes of it
abbrev pub feeds : ℕ → List ℤ → List Step
feeds c [] = []
feeds c (v ∷ vs) = call (feed c v) ∷ feeds c vs

abbrev pub steps_of : Act → List Step
steps_of (step s) = s ∷ []
steps_of (burst c vs) = feeds c vs

abbrev pub written_out : List Act → List Step
written_out [] = []
written_out (a ∷ acts) = steps_of a ++ written_out acts

-- the list with its bursts and the one in which they are written out: the same states, and the same on every channel
pub record Same (acts : List Act) (w : World) : Type 0 where
  pub left : steps.after (written_out acts) w ≡ after acts w
  pub feeds : (c : ℕ) → steps.fed (written_out acts) w c ≡ fed acts w c
  pub takes : (c : ℕ) → steps.taken (written_out acts) w c ≡ taken acts w c
  pub sends : (c : ℕ) → steps.sent (written_out acts) w c ≡ sent acts w c
  pub moves : steps.moved_in (written_out acts) w ≡ moved_in acts w
  pub grows : steps.grown_in (written_out acts) w ≡ grown_in acts w
