-- A channel that a round of feeding may pass over, since nothing can be fed or closed there now. Only the code's shortcut speaks of it; the rule,
-- Feeding, does not, and proofs/Filling shows that there it leaves such a channel as it is.
-- Assumes nothing.
use Rattle.std.specs.Prelude.{Bool, ◌&&◌, ◌||◌, List, ℕ, eqb, ltb}
use Rattle.process.specs.declared.Channel.{Channel}
use Rattle.process.specs.Execute.{full}
use Rattle.bench_rules.specs.Input.{records, channel_at}

-- channel c, whose receiver has ended or not, is closed, or it is full and the record to look at next holds a value for it
unfoldable pub idle_at : Channel → Bool → List ℕ → ℕ → ℕ → Bool
idle_at h gone input c next = h.closed || (full gone h && (ltb next (records input) && eqb (channel_at input next) c))
