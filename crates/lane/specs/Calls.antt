-- Document 01, "Refusal table", 8 to 12, 15 and 16: the calls on a lane and its cells, refused ones included.
-- Assumes nothing.
use Rattle.std.specs.Prelude.{Bool, cond, not, ℕ, eqb, ltb, length, set, ℤ}
use Rattle.base.specs.Refusals.{number_of}
use Rattle.network.specs.Rules.{sender_of, receiver_of, outside}
use Rattle.process.specs.declared.Outcome.{Outcome}
use Rattle.process.specs.declared.Outcome.TheVariants.{Moved, Sent, Halted, WaitEmpty, WaitFull, Ended}
use Rattle.process.specs.Channels.{put_one, get_one, close_one, slot}
use Rattle.process.specs.Execute.{full}
use Rattle.std.specs.declared.option.Option.{Option}
use Rattle.std.specs.declared.option.Option.TheVariants.{None, Some}
use Rattle.std.specs.declared.result.Result.{Result}
use Rattle.std.specs.declared.result.Result.TheVariants.{Ok, Err}
use Rattle.base.specs.declared.Refusal.{Refusal}
use Rattle.lane.specs.declared.PickAnswer.{PickAnswer}
use Rattle.lane.specs.declared.PickAnswer.TheVariants as pick-answer
use Rattle.lane.specs.State.{World, world, cell_at, ended_at, channel_of, put_channel, count}
use Rattle.lane.specs.Sound.{sound_of}
use Rattle.lane.specs.Pick.{channel_in, instruction_for, step_for, pick_in}

-- what a call answers, in document 01's words
pub data Told : Type 0 where
  moved : Told
  waiting_empty : ℕ → Told
  waiting_full : ℕ → Told
  ended : Told
  accepted : Told
  value : ℤ → Told
  the_end : Told
  refused : ℕ → Told

-- what a call leaves: the answer, and the lane and cells
pub record Called : Type 0 where
  pub answer : Told
  pub world : World

abbrev pub called : Told → World → Called
called a w = record { answer = a; world = w }

-- the answers of the code, in these terms
abbrev pub pick_says : PickAnswer → Told
pick_says pick-answer.Moved = moved
pick_says (pick-answer.WaitingEmpty c) = waiting_empty c
pick_says (pick-answer.WaitingFull c) = waiting_full c
pick_says pick-answer.Ended = ended

abbrev pub pick_told : Result PickAnswer Refusal → Told
pick_told (Ok a) = pick_says a
pick_told (Err r) = refused (number_of r)

abbrev pub feed_told : Result Unit Refusal → Told
feed_told (Ok u) = accepted
feed_told (Err r) = refused (number_of r)

-- a message, or none: the end
abbrev pub take_told : Result (Option ℤ) Refusal → Told
take_told (Ok (Some v)) = value v
take_told (Ok None) = the_end
take_told (Err r) = refused (number_of r)

-- a refusal with its number where the test says so, and then "lane, cells and buffers are unchanged"; else what follows
abbrev pub refuse : Bool → ℕ → World → Called → Called
refuse bad number w next = cond bad (called (refused number) w) next

-- 15: "cells not 8,192"
abbrev pub cells_wrong : World → Bool
cells_wrong w = not (eqb (length w.cells) 8192)

-- 16: "lane unsound"
abbrev pub unsound : World → Bool
unsound w = not (sound_of w.lane)

-- 8: "no such process or channel"
abbrev pub no_process : ℕ → World → Bool
no_process p w = not (ltb p w.lane.network.processes)

abbrev pub no_channel_there : ℕ → World → Bool
no_channel_there c w = not (ltb c w.lane.network.channels)

-- 9: "feed or close: sender inside; take: receiver inside"
abbrev pub sender_inside : ℕ → World → Bool
sender_inside c w = not (eqb (sender_of w.lane.network c) outside)

abbrev pub receiver_inside : ℕ → World → Bool
receiver_inside c w = not (eqb (receiver_of w.lane.network c) outside)

-- 11: "feed or close on a closed one"
abbrev pub is_closed : ℕ → World → Bool
is_closed c w = (channel_of w.lane c).closed

-- the receiver of channel c has ended
abbrev pub receiver_ended : ℕ → World → Bool
receiver_ended c w = ended_at w.lane (receiver_of w.lane.network c)

-- ---- pick: 15, 16, 8
-- "moved, waiting-empty, waiting-full (both with the channel) or ended"
abbrev pub answer_to : Outcome → ℕ → Told
answer_to Moved c = moved
answer_to (Sent v) c = moved
answer_to Halted c = moved
answer_to WaitEmpty c = waiting_empty c
answer_to WaitFull c = waiting_full c
answer_to Ended c = ended

abbrev pub picked : ℕ → World → Called
picked p w = called (answer_to (step_for p w).outcome (channel_in (instruction_for p w.lane))) (pick_in p w)

unfoldable pub pick_of : ℕ → World → Called
pick_of p w = refuse (cells_wrong w) 15 w (refuse (unsound w) 16 w (refuse (no_process p w) 8 w (picked p w)))

-- ---- feed: 15, 16, 8, 9, 11, 10
-- "A message to a channel whose receiver has ended is sent, counts as sent, and is not stored"
abbrev pub stored : ℕ → ℤ → World → World
stored c v w =
    cond (receiver_ended c w) w
    (world (put_channel c (put_one (channel_of w.lane c)) w.lane) (set w.cells (slot c (channel_of w.lane c) (channel_of w.lane c).held) v))

abbrev pub counting : World → World
counting w = world (count w.lane) w.cells

abbrev pub fed : ℕ → ℤ → World → Called
fed c v w = refuse (full (receiver_ended c w) (channel_of w.lane c)) 10 w (called accepted (counting (stored c v w)))

unfoldable pub feed_of : ℕ → ℤ → World → Called
feed_of c v w =
    refuse (cells_wrong w) 15 w
    (refuse (unsound w) 16 w
    (refuse (no_channel_there c w) 8 w
    (refuse (sender_inside c w) 9 w
    (refuse (is_closed c w) 11 w (fed c v w)))))

-- ---- close: 16, 8, 9, 11
abbrev pub closed : ℕ → World → Called
closed c w = called accepted (counting (world (put_channel c (close_one (channel_of w.lane c)) w.lane) w.cells))

unfoldable pub close_of : ℕ → World → Called
close_of c w =
    refuse (unsound w) 16 w
    (refuse (no_channel_there c w) 8 w
    (refuse (sender_inside c w) 9 w
    (refuse (is_closed c w) 11 w (closed c w))))

-- ---- take: 15, 16, 8, 9, 12
-- "Take from an empty closed channel answers the end."
abbrev pub taken : ℕ → World → Called
taken c w =
    cond (eqb (channel_of w.lane c).held 0)
    (refuse (not (is_closed c w)) 12 w (called the_end (counting w)))
    (called (value (cell_at w (slot c (channel_of w.lane c) 0)))
    (counting (world (put_channel c (get_one (channel_of w.lane c)) w.lane) w.cells)))

unfoldable pub take_of : ℕ → World → Called
take_of c w =
    refuse (cells_wrong w) 15 w
    (refuse (unsound w) 16 w (refuse (no_channel_there c w) 8 w (refuse (receiver_inside c w) 9 w (taken c w))))
