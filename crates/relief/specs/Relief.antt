-- Document 01, "Relief" and "Refusal table", 13 to 16: what relief answers, and what it leaves of the lane and the lent buffer.
-- Assumes nothing.
use Rattle.std.specs.Prelude.{◌≡◌, ◌⊎◌, cond, not, List, ◌++◌, ℕ, ◌<◌, ltb, length, drop}
use Rattle.base.specs.Refusals.{number_of}
use Rattle.process.specs.Channels.{enlarge_one}
use Rattle.lane.specs.declared.Lane.{Lane}
use Rattle.lane.specs.State.{channel_of, put_channel, count}
use Rattle.lane.specs.Sound.{sound_of}
use Rattle.std.specs.declared.result.Result.{Result}
use Rattle.std.specs.declared.result.Result.TheVariants.{Ok, Err}
use Rattle.base.specs.declared.Refusal.{Refusal}
use Rattle.relief.specs.declared.Enlargement.{Enlargement}
use Rattle.waits.specs.Waits.{pointing, full_wait, waits_at}
use Rattle.rings.specs.Rings.{Found, no_ring, ceiling, found, search}

-- what relief answers: "The answer names ring and channel"; the ring's processes stand in the buffer, so its length says which they are
pub data Told : Type 0 where
  enlarged : ℕ → ℕ → Told
  refused : ℕ → Told

-- the answer of the code, in these terms
abbrev pub told : Result Enlargement Refusal → Told
told (Ok e) = enlarged e.length e.channel
told (Err r) = refused (number_of r)

-- enlarged, 13 or 14, and no other answer: so it is on a sound lane with room for all its processes (`relief_answers` of proofs/Relieving.antt)
abbrev pub NoOther : Told → Type 0
NoOther (enlarged n c) = Unit {0}
NoOther (refused k) = (k ≡ 13) ⊎ (k ≡ 14)

-- what relief leaves: the answer, the lane and the buffer
pub record Relief : Type 0 where
  pub answer : Told
  pub lane : Lane
  pub ring : List ℕ

abbrev pub relief : Told → Lane → List ℕ → Relief
relief a l ring = record { answer = a; lane = l; ring = ring }

-- the ring and the channel of a lane
abbrev pub found_in : Lane → Found
found_in l = search (pointing l) (full_wait l) (waits_at l) l.network.processes

-- a channel that can be enlarged
pub record Enlargeable (l : Lane) (c : ℕ) : Type 0 where
  pub there : c < l.network.channels
  pub below : (channel_of l c).capacity < 256

-- channel c "grows by one"
abbrev pub larger : ℕ → Lane → Lane
larger c l = put_channel c (enlarge_one (channel_of l c)) l

-- a relief that enlarged is an accepted call
abbrev pub grown : ℕ → Lane → Lane
grown c l = count (larger c l)

-- 13, 14, then 15: "where its length hangs on other input that may be refused, 15 is tested last"
abbrev pub settled : Found → Lane → List ℕ → Relief
settled no_ring l buffer = relief (refused 13) l buffer
settled ceiling l buffer = relief (refused 14) l buffer
settled (found ring c) l buffer =
    cond (ltb (length buffer) (length ring)) (relief (refused 15) l buffer)
    (relief (enlarged (length ring) c) (grown c l) (ring ++ drop (length ring) buffer))

unfoldable pub relieve_of : Lane → List ℕ → Relief
relieve_of l buffer = cond (not (sound_of l)) (relief (refused 16) l buffer) (settled (found_in l) l buffer)
