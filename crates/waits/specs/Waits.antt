-- Document 01, "Relief": who waits for whom. The wait-for graph of a lane.
-- Assumes nothing.
use Rattle.std.specs.Prelude.{cond, [], ℕ, ltb}
use Rattle.network.specs.declared.Network.{Network}
use Rattle.network.specs.Rules.{sender_of, receiver_of, outside}
use Rattle.process.specs.declared.Outcome.{Outcome}
use Rattle.process.specs.declared.Outcome.TheVariants.{Moved, Sent, Halted, WaitEmpty, WaitFull, Ended}
use Rattle.lane.specs.declared.Lane.{Lane}
use Rattle.lane.specs.State.{world, channel_of}
use Rattle.lane.specs.Pick.{channel_in, instruction_for, step_for}

-- what a process would wait for if picked: nothing, a message on a channel, or room on a channel ("a full wait")
pub data Wait : Type 0 where
  free : Wait
  for_message : ℕ → Wait
  for_room : ℕ → Wait

abbrev pub wait_in : Outcome → ℕ → Wait
wait_in Moved c = free
wait_in (Sent v) c = free
wait_in Halted c = free
wait_in WaitEmpty c = for_message c
wait_in WaitFull c = for_room c
wait_in Ended c = free

-- "A live process that would wait if picked": by the rule of a pick. Whether it waits does not hang on any message, so no cells are needed.
unfoldable pub wait_of : Lane → ℕ → Wait
wait_of l p = wait_in (step_for p (world l [])).outcome (channel_in (instruction_for p l))

-- "points to the process at the channel's other end, if that is inside": an empty wait to the sender, a full one to the receiver
abbrev pub other_end : Network → Wait → ℕ
other_end n free = outside
other_end n (for_message c) = sender_of n c
other_end n (for_room c) = receiver_of n c

-- the process that p points to; `outside`, which is no process, where it points to none or is none itself
unfoldable pub pointing : Lane → ℕ → ℕ
pointing l p = cond (ltb p l.network.processes) (other_end l.network (wait_of l p)) outside

-- the capacity of the channel on which p has a full wait, 0 where it has none
abbrev pub room_in : Lane → Wait → ℕ
room_in l free = 0
room_in l (for_message c) = 0
room_in l (for_room c) = (channel_of l c).capacity

unfoldable pub full_wait : Lane → ℕ → ℕ
full_wait l p = room_in l (wait_of l p)

-- the channel on which p waits
abbrev pub channel_waited : Wait → ℕ
channel_waited free = 0
channel_waited (for_message c) = c
channel_waited (for_room c) = c

unfoldable pub waits_at : Lane → ℕ → ℕ
waits_at l p = channel_waited (wait_of l p)
