-- Document 01, "Lists of calls": a call with any arguments and buffers, and what it did, refused or not. (Lists of them: Steps.)
-- Assumes nothing.
use Rattle.std.specs.Prelude.{Bool, true, false, cond, not, ◌&&◌, List, [], ◌∷◌, ℕ, eqb, ℤ}
use Rattle.process.specs.Want.{register_of}
use Rattle.lane.specs.State.{World, world, process_of, channel_of}
use Rattle.lane.specs.Pick.{instruction_for}
use Rattle.lane.specs.Calls.{Called, moved, waiting_empty, waiting_full, ended, accepted, value, the_end, refused, pick_of, feed_of, close_of, take_of}
use Rattle.lane.specs.Calls as lane
use Rattle.relief.specs.Relief as relief
use Rattle.relief.specs.Relief.{relieve_of}

-- "Each call (pick, feed, close, take, relief), with any arguments and buffers"
pub data Call : Type 0 where
  pick : ℕ → Call
  feed : ℕ → ℤ → Call
  close : ℕ → Call
  take : ℕ → Call
  relieve : List ℕ → Call

pub data Reply : Type 0 where
  -- of a pick, feed, close or take
  told : lane.Told → Reply
  -- of a relief, with what its buffer then holds
  relieved : relief.Told → List ℕ → Reply

pub record Made : Type 0 where
  pub reply : Reply
  pub world : World

abbrev pub made : Called → Made
made c = record { reply = told c.answer; world = c.world }

-- a call on a lane and its cells, through the definitions that the contracts of the calls cite
unfoldable pub apply : Call → World → Made
apply (pick p) w = made (pick_of p w)
apply (feed c v) w = made (feed_of c v w)
apply (close c) w = made (close_of c w)
apply (take c) w = made (take_of c w)
apply (relieve buffer) w =
    record {
      reply = relieved (relieve_of w.lane buffer).answer (relieve_of w.lane buffer).ring;
      world = world (relieve_of w.lane buffer).lane w.cells;
    }

-- ---- what one call did
abbrev pub was_moved : Reply → Bool
was_moved (told moved) = true
was_moved (told (waiting_empty c)) = false
was_moved (told (waiting_full c)) = false
was_moved (told ended) = false
was_moved (told accepted) = false
was_moved (told (value v)) = false
was_moved (told the_end) = false
was_moved (told (refused n)) = false
was_moved (relieved a ring) = false

abbrev pub was_accepted : Reply → Bool
was_accepted (told moved) = false
was_accepted (told (waiting_empty c)) = false
was_accepted (told (waiting_full c)) = false
was_accepted (told ended) = false
was_accepted (told accepted) = true
was_accepted (told (value v)) = false
was_accepted (told the_end) = false
was_accepted (told (refused n)) = false
was_accepted (relieved a ring) = false

abbrev pub given : Reply → List ℤ
given (told moved) = []
given (told (waiting_empty c)) = []
given (told (waiting_full c)) = []
given (told ended) = []
given (told accepted) = []
given (told (value v)) = v ∷ []
given (told the_end) = []
given (told (refused n)) = []
given (relieved a ring) = []

abbrev pub one : {A : Type 0} → Bool → A → List A
one true a = a ∷ []
one false a = []

-- the value that a call fed on channel c: "the value of each accepted feed"
abbrev pub fed_by : Call → World → ℕ → List ℤ
fed_by (pick p) w c = []
fed_by (feed d v) w c = one (eqb d c && was_accepted (apply (feed d v) w).reply) v
fed_by (close d) w c = []
fed_by (take d) w c = []
fed_by (relieve buffer) w c = []

-- the value that a take gave from channel c
abbrev pub taken_by : Call → World → ℕ → List ℤ
taken_by (pick p) w c = []
taken_by (feed d v) w c = []
taken_by (close d) w c = []
taken_by (take d) w c = cond (eqb d c) (given (apply (take d) w).reply) []
taken_by (relieve buffer) w c = []

-- process p of a lane stands "at a 12 on this open channel"
abbrev pub stands_at_send : World → ℕ → ℕ → Bool
stands_at_send w p c =
    eqb (instruction_for p w.lane).op 12 && eqb (instruction_for p w.lane).b c && not (channel_of w.lane c).closed

-- what a call sent on channel c: "at each pick that moved while its process stood, by these rules, at a 12 on this open channel, its register a"
abbrev pub sent_by : Call → World → ℕ → List ℤ
sent_by (pick p) w c =
    one (was_moved (apply (pick p) w).reply && stands_at_send w p c) (register_of (process_of w.lane p) (instruction_for p w.lane).a)
sent_by (feed d v) w c = fed_by (feed d v) w c
sent_by (close d) w c = []
sent_by (take d) w c = []
sent_by (relieve buffer) w c = []

-- the call is an accepted closing of channel c
abbrev pub closes_by : Call → World → ℕ → Bool
closes_by (pick p) w c = false
closes_by (feed d v) w c = false
closes_by (close d) w c = eqb d c && was_accepted (apply (close d) w).reply
closes_by (take d) w c = false
closes_by (relieve buffer) w c = false

abbrev pub count_one : Bool → ℕ
count_one true = 1
count_one false = 0
