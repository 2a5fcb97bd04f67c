-- An instruction on small values: the process, the record of its channel b, the oldest message there, and whether that channel's receiver has
-- ended (`gone`). Document 01, "Instructions", 11 to 13, and "The lane in operation".
-- Assumes nothing.
use Rattle.std.specs.Prelude.{Bool, false, cond, eqb, ℤ}
use Rattle.network.specs.declared.Instruction.{Instruction}
use Rattle.process.specs.Process.{Process, Stepped}
use Rattle.process.specs.declared.Channel.{Channel}
use Rattle.process.specs.declared.Outcome.{Outcome}
use Rattle.process.specs.declared.Outcome.TheVariants.{Moved, Sent, Halted, WaitEmpty, WaitFull, Ended}
use Rattle.process.specs.Channels.{put_one, get_one, close_one}
use Rattle.process.specs.Intent.{Intent, idle, inner, receive, send, close, halt}
use Rattle.process.specs.Want.{want}

abbrev pub outcome : Process → Channel → Outcome → Stepped
outcome q h o = record { process = q; channel = h; outcome = o }

-- a channel has no room: "such a channel", whose receiver has ended, "is never full"
abbrev pub full : Bool → Channel → Bool
full gone h = cond gone false (eqb h.held h.capacity)

-- a message into a channel: one whose receiver has ended does not store it
abbrev pub accept : Bool → ℤ → Process → Channel → Stepped
accept gone v q h = cond gone (outcome q h Moved) (outcome q (put_one h) (Sent v))

unfoldable pub execute : Intent Process ℤ → Process → Channel → ℤ → Bool → Stepped
execute idle q h m gone = outcome q h Ended
execute (inner x) q h m gone = outcome x h Moved
-- "the oldest message; empty and open: wait; empty and closed: a is kept, go to c"
execute (receive b next over) q h m gone =
    cond (eqb h.held 0) (cond h.closed (outcome over h Moved) (outcome q h WaitEmpty)) (outcome (next m) (get_one h) Moved)
-- "Either on a channel already closed faults, full or not."
execute (send b v next fault) q h m gone =
    cond h.closed (outcome fault h Halted) (cond (full gone h) (outcome q h WaitFull) (accept gone v next h))
execute (close b next fault) q h m gone = cond h.closed (outcome fault h Halted) (outcome next (close_one h) Moved)
execute (halt x) q h m gone = outcome x h Halted

unfoldable pub step_of : Instruction → Process → Channel → ℤ → Bool → Stepped
step_of i q h m gone = execute (want i q) q h m gone
