-- What a look at a process answers, by the rule; the waits of all processes side by side; who could be on a ring with a full wait. `relieve` says nothing
-- of these.
-- Assumes nothing.
use Rattle.std.specs.Prelude.{◌≡◌, Bool, false, not, ◌&&◌, ◌||◌, List, ℕ, zero, suc, ◌<◌, eqb, get_or}
use Rattle.network.specs.Rules.{sender_of, receiver_of, outside}
use Rattle.lane.specs.declared.Lane.{Lane}
use Rattle.lane.specs.State as lane
use Rattle.waits.specs.declared.Wait.{Wait}
use Rattle.waits.specs.declared.Wait.TheVariants.{Free, Empty, Full}
use Rattle.waits.specs.Waits as waits

-- what a process waits for, in the terms of the rule
abbrev pub wait_as : Wait → waits.Wait
wait_as Free = waits.free
wait_as (Empty points c) = waits.for_message c
wait_as (Full points c capacity) = waits.for_room c

-- its numbers: the process that is pointed to, the capacity of the channel of a full wait, the channel
abbrev pub points_of : Wait → ℕ
points_of Free = outside
points_of (Empty points c) = points
points_of (Full points c capacity) = points

abbrev pub full_of : Wait → ℕ
full_of Free = 0
full_of (Empty points c) = 0
full_of (Full points c capacity) = capacity

abbrev pub channel_of : Wait → ℕ
channel_of Free = 0
channel_of (Empty points c) = c
channel_of (Full points c capacity) = c

-- a wait of the rule, with the process at the channel's other end and the capacity of the channel of a full wait
abbrev pub wait_for : Lane → waits.Wait → Wait
wait_for l waits.free = Free
wait_for l (waits.for_message c) = Empty (sender_of l.network c) c
wait_for l (waits.for_room c) = Full (receiver_of l.network c) c (lane.channel_of l c).capacity

-- what process p of a lane waits for, by the rule
abbrev pub wait_by : Lane → ℕ → Wait
wait_by l p = wait_for l (waits.wait_of l p)

-- ---- three arrays hold the waits of l's processes: where each points, the capacity of its full wait, its channel
pub record AreWaits (l : Lane) (points full channel : List ℕ) : Type 0 where
  pub pointings : (p : ℕ) → p < l.network.processes → get_or points p 0 ≡ waits.pointing l p
  pub fulls : (p : ℕ) → p < l.network.processes → get_or full p 0 ≡ waits.full_wait l p
  pub channels : (p : ℕ) → p < l.network.processes → get_or channel p 0 ≡ waits.waits_at l p

-- ---- who could be on a ring with a full wait: where nobody is, relief is refused with 13 (`unwanted_relief` of relief/proofs/Unwanted.antt)
-- process p waits for room on a channel to a process
abbrev pub wants_room : Lane → ℕ → Bool
wants_room l p = not (eqb (waits.full_wait l p) 0) && not (eqb (waits.pointing l p) outside)

-- one of the n processes from p on does
unfoldable pub some_wants_room : Lane → ℕ → ℕ → Bool
some_wants_room l p zero = false
some_wants_room l p (suc n) = wants_room l p || some_wants_room l (suc p) n
