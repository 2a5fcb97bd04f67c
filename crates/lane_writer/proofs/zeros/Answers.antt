-- `lane_writer::zeros` meets its contract: a part of the buffer, written at once.
-- Assumes nothing.
use mathlib.Core.Path.{◌≡◌, ap, ◌∙◌}
use Prim.Native.Nat.{ℕ, ◌+◌, ◌-◌}
use native.Mathlib.Omega.{arith}
use lib.ListN.{replicate, length-replicate}
use Rattle.lane_file.proofs.Joined.{length_part}
use Rattle.lane_writer.proofs.Stores.{put_slice}
use Rattle.lane_writer.proofs.zeros.Goals as goal

pub returns : goal.returns
returns c =
    let a = c.args in
    let e : a.at + a.n - a.at ≡ a.n = omega arith in
    let f : c.fill.new.self ≡ replicate a.n 0 = c.fill.ensures.after (λ y h. h) ∙ ap (λ (k : ℕ). replicate k 0) (rw e (length_part a.buffer.now a.at a.n (omega arith))) in
    rw (e, f) (put_slice (replicate a.n 0) a.buffer.now a.at a.n (length-replicate a.n 0) (omega arith))
