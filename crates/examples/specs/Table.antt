-- Document 01, "Proved examples": a to m as rows of one table. A row is a question with the answer that document 01 gives it; `gives` is what the
-- rules answer, by the definitions that the contracts cite. One theorem, `all_hold` of proofs/AllHold.antt: in every row the two are the same.
-- Assumes nothing.
use Rattle.std.specs.Prelude.{◌≡◌, false, List, [], ◌∷◌, ℕ, set, ℤ, pos}
use Rattle.network.specs.declared.Instruction.{Instruction}
use Rattle.network.specs.Rules.{outside}
use Rattle.process.specs.declared.Channel.{Channel}
use Rattle.process.specs.declared.Condition.{Condition}
use Rattle.process.specs.declared.Condition.TheVariants.{Live, Faulted}
use Rattle.process.specs.declared.Outcome.TheVariants.{Moved}
use Rattle.process.specs.Process.{Stepped}
use Rattle.process.specs.Channels.{no_channel}
use Rattle.process.specs.Execute.{outcome, step_of}
use Rattle.lane.specs.State.{world}
use Rattle.lane.specs.Calls.{Told, moved, waiting_empty, waiting_full, Called, called, pick_of}
use Rattle.relief.specs.Relief as relief
use Rattle.relief.specs.Relief.{Relief, relieve_of}
use Rattle.block_check.specs.Crc.{crc}
use Rattle.examples.specs.Written.{minus, op, Wire, wire, plan, process, ◌of◌, closed, emptied, Board, board, lane_of}

-- ---- rows
pub data Question : Type 0 where
  -- what an instruction does in a live process, with these first registers, at position 0
  step : Instruction → List ℤ → Question
  -- what a pick of a process answers and leaves, on a lane with its cells
  pick : ℕ → Board → Question
  -- what a relief answers and leaves, with a lent buffer, on a lane
  relieve : List ℕ → Board → Question
  -- the check of bytes
  check : List ℕ → Question

pub data Answer : Type 0 where
  -- the process, the channel, what happened
  stepped : Stepped → Answer
  -- the answer; the lane and the cells
  picked : Called → Answer
  -- the answer; the lane and the buffer
  relieved : Relief → Answer
  checked : ℕ → Answer

-- the rules
abbrev pub gives : List ℤ → Question → Answer
gives cells (step i registers) = stepped (step_of i (process registers 0 Live 0) no_channel (pos 0) false)
gives cells (pick p b) = picked (pick_of p (world (lane_of b) cells))
gives cells (relieve buffer b) = relieved (relieve_of (lane_of b) buffer)
gives cells (check bytes) = checked (crc bytes)

-- answers in short: the process moved on with these registers; a pick's; a relief's
abbrev pub becomes : List ℤ → Answer
becomes registers = stepped (outcome (process registers 1 Live 1) no_channel Moved)

abbrev pub leaves : Told → Board → List ℤ → Answer
leaves a b cells = picked (called a (world (lane_of b) cells))

abbrev pub relieves : relief.Told → Board → List ℕ → Answer
relieves a b buffer = relieved (relief.relief a (lane_of b) buffer)

pub data Row : Type 0 where
  ◌⇒◌ : Question → Answer → Row

infix 80 ◌⇒◌
abbrev pub question : Row → Question
question (q ⇒ a) = q

abbrev pub answer : Row → Answer
answer (q ⇒ a) = a

abbrev pub Holds : List ℤ → Row → Type 0
Holds cells r = gives cells (question r) ≡ answer r

-- ---- the programs and lanes of the rows
-- register 0 goes to channel c, again and again
abbrev sending : ℕ → List Instruction
sending c = op 12 0 c 0 ∷ op 8 0 0 0 ∷ []

-- messages come from channel c into register 0; at the end, stop
abbrev receiving : ℕ → List Instruction
receiving c = op 11 0 c 2 ∷ op 8 0 0 0 ∷ op 0 0 0 0 ∷ []

-- e: by op 6 or 7, register 1 by register 2, which are 5 and 0; channels 0 and 1 go out, 2 comes in
abbrev divider : ℕ → Condition → ℕ → List Channel → Board
divider o condition moves hs =
    board (plan ((op o 0 1 2 ∷ op 0 0 0 0 ∷ []) ∷ []) (wire 0 outside 1 ∷ wire 0 outside 1 ∷ wire outside 0 1 ∷ []))
    (process (pos 9 ∷ pos 5 ∷ pos 0 ∷ []) 0 condition moves ∷ []) hs 0

-- f, g: one process with 7 in register 0, and a channel in
abbrev receiver : ℕ → ℕ → Channel → Board
receiver position moves h = board (plan (receiving 0 ∷ []) (wire outside 0 1 ∷ [])) (process (pos 7 ∷ []) position Live moves ∷ []) (h ∷ []) 0

-- h: one process with 7 in register 0, and a channel of 2 out
abbrev sender : ℕ → ℕ → Channel → Board
sender position moves h = board (plan (sending 0 ∷ []) (wire 0 outside 2 ∷ [])) (process (pos 7 ∷ []) position Live moves ∷ []) (h ∷ []) 0

-- i: one process with a channel to itself; here and below the last number is the count of accepted calls
abbrev own : Channel → ℕ → Board
own h accepted = board (plan (sending 0 ∷ []) (wire 0 0 1 ∷ [])) (process [] 0 Live 0 ∷ []) (h ∷ []) accepted

-- j, k, l: two processes at their first instructions
abbrev two : List Instruction → List Instruction → List Wire → List Channel → ℕ → Board
two p q wires hs accepted = board (plan (p ∷ q ∷ []) wires) (process [] 0 Live 0 ∷ process [] 0 Live 0 ∷ []) hs accepted

abbrev both_empty : List Channel → ℕ → Board
both_empty = two (receiving 1) (receiving 0) (wire 0 1 1 ∷ wire 1 0 1 ∷ [])

abbrev full_and_empty : List Channel → ℕ → Board
full_and_empty = two (sending 0) (receiving 1) (wire 0 1 2 ∷ wire 0 1 1 ∷ [])

abbrev both_full : List Channel → ℕ → Board
both_full = two (sending 1) (sending 0) (wire 1 0 3 ∷ wire 0 1 3 ∷ [])

-- ---- the table, for 8,192 cells of any content. A 9 stands where something is to be written: in register 0, and in the buffers lent to reliefs.
abbrev pub table : List ℤ → List Row
table cells =
    -- a) "set 255,255 gives −1."
    step (op 1 0 255 255) (pos 9 ∷ []) ⇒ becomes (minus 1 ∷ [])
    -- b) "2147483647 + 1 is −2147483648."
    ∷ step (op 3 0 1 2) (pos 9 ∷ pos 2147483647 ∷ pos 1 ∷ []) ⇒ becomes (minus 2147483648 ∷ pos 2147483647 ∷ pos 1 ∷ [])
    -- c) "65536 × 65536 is 0."
    ∷ step (op 5 0 1 2) (pos 9 ∷ pos 65536 ∷ pos 65536 ∷ []) ⇒ becomes (pos 0 ∷ pos 65536 ∷ pos 65536 ∷ [])
    -- d) "−7 by 2", of which request 3 of document 02 says: "Instruction 6 gives −4 .., and instruction 7 the matching remainder 1"
    ∷ step (op 6 0 1 2) (pos 9 ∷ minus 7 ∷ pos 2 ∷ []) ⇒ becomes (minus 4 ∷ minus 7 ∷ pos 2 ∷ [])
    ∷ step (op 7 0 1 2) (pos 9 ∷ minus 7 ∷ pos 2 ∷ []) ⇒ becomes (pos 1 ∷ minus 7 ∷ pos 2 ∷ [])
    -- e) "by 0: faulted, outputs closed."
    ∷ pick 0 (divider 6 Live 0 (0 of 1 ∷ 1 of 1 ∷ 1 of 1 ∷ []))
    ⇒ leaves moved (divider 6 Faulted 1 (closed (0 of 1) ∷ closed (1 of 1) ∷ emptied (1 of 1) ∷ [])) cells
    ∷ pick 0 (divider 7 Live 0 (0 of 1 ∷ 1 of 1 ∷ 1 of 1 ∷ []))
    ⇒ leaves moved (divider 7 Faulted 1 (closed (0 of 1) ∷ closed (1 of 1) ∷ emptied (1 of 1) ∷ [])) cells
    -- f) "empty and open waits."
    ∷ pick 0 (receiver 0 0 (0 of 1)) ⇒ leaves (waiting_empty 0) (receiver 0 0 (0 of 1)) cells
    -- g) "empty and closed jumps, register kept."
    ∷ pick 0 (receiver 0 0 (closed (0 of 1))) ⇒ leaves moved (receiver 2 1 (closed (0 of 1))) cells
    -- h) "held 1 of 2: send moves; 2 of 2: waits."
    ∷ pick 0 (sender 0 0 (1 of 2)) ⇒ leaves moved (sender 1 1 (2 of 2)) (set cells 1 (pos 7))
    ∷ pick 0 (sender 0 0 (2 of 2)) ⇒ leaves (waiting_full 0) (sender 0 0 (2 of 2)) cells
    -- i) "full self-channel of 1 grows to 2, ring of one."
    ∷ relieve (9 ∷ 9 ∷ []) (own (1 of 1) 0) ⇒ relieves (relief.enlarged 1 0) (own (1 of 2) 1) (0 ∷ 9 ∷ [])
    -- j) "two waiting on each other's empty channels: 13."
    ∷ relieve (9 ∷ 9 ∷ []) (both_empty (0 of 1 ∷ 0 of 1 ∷ []) 0) ⇒ relieves (relief.refused 13) (both_empty (0 of 1 ∷ 0 of 1 ∷ []) 0) (9 ∷ 9 ∷ [])
    -- k) "process 0 full on channel 0 (to 1) of 2, process 1 empty on a channel from 0: channel 0 becomes 3."
    ∷ relieve (9 ∷ 9 ∷ []) (full_and_empty (2 of 2 ∷ 0 of 1 ∷ []) 0) ⇒ relieves (relief.enlarged 2 0) (full_and_empty (2 of 3 ∷ 0 of 1 ∷ []) 1) (0 ∷ 1 ∷ [])
    -- l) "ring with two full channels of 3: the lower grows."
    ∷ relieve (9 ∷ 9 ∷ []) (both_full (3 of 3 ∷ 3 of 3 ∷ []) 0) ⇒ relieves (relief.enlarged 2 0) (both_full (3 of 4 ∷ 3 of 3 ∷ []) 1) (0 ∷ 1 ∷ [])
    -- m) "the nine digits 123456789 check to 29B1 hex."
    ∷ check (49 ∷ 50 ∷ 51 ∷ 52 ∷ 53 ∷ 54 ∷ 55 ∷ 56 ∷ 57 ∷ []) ⇒ checked 0x29B1
    -- beside the examples, the limits of 4 to 7: −2147483648 − 1 is 2147483647; −65537 × 65537 is −131073; 7 by −2: −4, remainder −1; −7 by −2: 3,
    -- remainder −1; 6 by −3: −2, remainder 0; and, from "Instructions", "−2147483648 by −1 gives −2147483648, remainder 0."
    ∷ step (op 4 0 1 2) (pos 9 ∷ minus 2147483648 ∷ pos 1 ∷ []) ⇒ becomes (pos 2147483647 ∷ minus 2147483648 ∷ pos 1 ∷ [])
    ∷ step (op 5 0 1 2) (pos 9 ∷ minus 65537 ∷ pos 65537 ∷ []) ⇒ becomes (minus 131073 ∷ minus 65537 ∷ pos 65537 ∷ [])
    ∷ step (op 6 0 1 2) (pos 9 ∷ pos 7 ∷ minus 2 ∷ []) ⇒ becomes (minus 4 ∷ pos 7 ∷ minus 2 ∷ [])
    ∷ step (op 7 0 1 2) (pos 9 ∷ pos 7 ∷ minus 2 ∷ []) ⇒ becomes (minus 1 ∷ pos 7 ∷ minus 2 ∷ [])
    ∷ step (op 6 0 1 2) (pos 9 ∷ minus 7 ∷ minus 2 ∷ []) ⇒ becomes (pos 3 ∷ minus 7 ∷ minus 2 ∷ [])
    ∷ step (op 7 0 1 2) (pos 9 ∷ minus 7 ∷ minus 2 ∷ []) ⇒ becomes (minus 1 ∷ minus 7 ∷ minus 2 ∷ [])
    ∷ step (op 6 0 1 2) (pos 9 ∷ pos 6 ∷ minus 3 ∷ []) ⇒ becomes (minus 2 ∷ pos 6 ∷ minus 3 ∷ [])
    ∷ step (op 7 0 1 2) (pos 9 ∷ pos 6 ∷ minus 3 ∷ []) ⇒ becomes (pos 0 ∷ pos 6 ∷ minus 3 ∷ [])
    ∷ step (op 6 0 1 2) (pos 9 ∷ minus 2147483648 ∷ minus 1 ∷ []) ⇒ becomes (minus 2147483648 ∷ minus 2147483648 ∷ minus 1 ∷ [])
    ∷ step (op 7 0 1 2) (pos 9 ∷ minus 2147483648 ∷ minus 1 ∷ []) ⇒ becomes (pos 0 ∷ minus 2147483648 ∷ minus 1 ∷ [])
    ∷ []
