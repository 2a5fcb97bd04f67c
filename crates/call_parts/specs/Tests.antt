-- The tests of a call in order: "Call tests run 15, 16, 8, 9, then the others (11 before 10)".
-- Assumes nothing.
use Rattle.std.specs.Prelude.{◌≡◌, Bool, true, List, cond, not, ℕ, ◌<◌, eqb, ltb, get_or}
use Rattle.std.specs.declared.result.Result.{Result}
use Rattle.std.specs.declared.result.Result.TheVariants.{Ok, Err}
use Rattle.base.specs.declared.Refusal.{Refusal}
use Rattle.base.specs.declared.Refusal.TheVariants.{Absent, Buffer, Inside, Unsound}
use Rattle.base.specs.Refusals.{number_of}
use Rattle.network.specs.Rules.{outside}
use Rattle.lane.specs.declared.Lane.{Lane}
use Rattle.lane.specs.State.{World}
use Rattle.lane.specs.Sound.{sound_of}
use Rattle.lane.specs.Calls.{Called, called, refuse, refused, sender_inside, is_closed}

-- 8 and 9 at a channel, those that a sound lane leaves: channel c of so many is there, and the end of it in this list, its sender or its receiver, is
-- outside
abbrev pub outer : ℕ → ℕ → List ℕ → Result Unit Refusal
outer c channels ends = cond (not (ltb c channels)) (Err Absent) (cond (not (eqb (get_or ends c 0) outside)) (Err Inside) (Ok tt))

-- ---- the first tests of every call, of which the laws are in proofs/TestLaws.antt
-- what the tests leave of a call
abbrev pub decided : Result Unit Refusal → World → Called → Called
decided (Ok u) w next = next
decided (Err r) w next = called (refused (number_of r)) w

-- a test that refuses where it is bad, and then the next
abbrev pub refuse_with : Bool → Refusal → Result Unit Refusal → Result Unit Refusal
refuse_with bad r next = cond bad (Err r) next

-- 15, 16, 8: so many cells; a lane; the number of a process or channel, of so many
unfoldable pub opened : ℕ → Lane → ℕ → ℕ → Result Unit Refusal
opened cells l number count =
    refuse_with (not (eqb cells 8192)) Buffer (refuse_with (not (sound_of l)) Unsound (refuse_with (not (ltb number count)) Absent (Ok tt)))

-- what the first three have shown where they pass
pub record Opened (cells : ℕ) (l : Lane) (number count : ℕ) : Type 0 where
  pub long : cells ≡ 8192
  pub sound : sound_of l ≡ true
  pub there : number < count

-- 9 and 11 at channel c, and then what follows
abbrev pub offered_to : ℕ → World → Called → Called
offered_to c w next = refuse (sender_inside c w) 9 w (refuse (is_closed c w) 11 w next)
