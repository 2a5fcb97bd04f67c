-- `lane_writer::code_block` meets its contract: code, number and check, one after the other, are the block.
-- Assumes nothing.
use mathlib.Core.Path.{◌≡◌, ◌∙◌}
use mathlib.Core.List.{◌++◌}
use Prim.Native.Nat.{◌+◌, ◌-◌, ◌*◌}
use native.Mathlib.Omega.{arith}
use lib.ListN.{length, take, drop, length-append}
use Rattle.base.specs.Lists.{two_bytes}
use Rattle.lane_writer.proofs.Stores.{put_put}
use Rattle.lane_writer.proofs.Blocks.{length_code, put_checked}
use Rattle.lane_writer.proofs.code_block.Goals as goal

pub returns : goal.returns
returns c =
    let a = c.args in
    let v = take 508 (drop (508 * (a.k - 1)) a.bytes.now) in
    let e : length v ≡ 508 = length_code a.bytes.now a.k (omega arith) (omega arith) (omega arith) in
    put_checked (v ++ two_bytes a.k) a.buffer.now c.two.new.buffer c.seal.new.buffer (512 * a.k)
    (simp length-append (omega arith)) (omega arith)
    (c.two.ensures ∙ rw c.code.ensures (put_put v (two_bytes a.k) a.buffer.now (512 * a.k) (512 * a.k + 508) (omega arith)))
    c.seal.ensures
