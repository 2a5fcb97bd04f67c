-- `lane_writer::code` meets its contract: a part of the buffer, written at once.
-- Assumes nothing.
use mathlib.Core.Path.{◌≡◌}
use Prim.Native.Nat.{◌+◌, ◌-◌}
use native.Mathlib.Omega.{arith}
use lib.ListN.{take, drop}
use Rattle.lane_file.proofs.Joined.{length_part}
use Rattle.lane_writer.proofs.Stores.{put_slice}
use Rattle.lane_writer.proofs.code.Goals as goal

pub returns : goal.returns
returns c =
    let a = c.args in
    let e₁ : a.at + 508 - a.at ≡ 508 = omega arith in
    let e₂ : a.from + 508 - a.from ≡ 508 = omega arith in
    rw (e₁, c.copy_from_slice.ensures.after, e₂)
    (put_slice (take 508 (drop a.from a.code.now)) a.buffer.now a.at 508 (length_part a.code.now a.from 508 (omega arith)) (omega arith))
