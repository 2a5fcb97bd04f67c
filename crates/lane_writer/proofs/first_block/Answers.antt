-- `lane_writer::first_block` meets its contract: header, slots, records, zeros and check, one after the other, are the block.
-- Assumes nothing.
use mathlib.Core.Path.{refl, ◌∙◌}
use native.Mathlib.Omega.{arith}
use lib.ListN.{replicate}
use Rattle.base.specs.Lists.{joined}
use Rattle.lane_file.specs.File.{header_of, slot_of, record_of, first_block}
use Rattle.lane_writer.proofs.Blocks.{length_fours, length_first, put_checked, put_four}
use Rattle.lane_writer.proofs.first_block.Goals as goal

pub returns : goal.returns
unfolding first_block
returns c =
    let a = c.args in
    let pre = c.requires in
    let n = a.net.now in
    put_checked (first_block n) a.buffer.now c.zeros.new.buffer c.seal.new.buffer 0 (length_first n) (omega (arith, pre.0))
    (put_four (header_of n) (joined (slot_of n) 0 16) (joined (record_of n) 0 32) (replicate 310 0) a.buffer.now
    c.header.new.buffer c.slots.new.buffer c.records.new.buffer c.zeros.new.buffer
    refl (length_fours (slot_of n) (λ p. refl) 16) (length_fours (record_of n) (λ c. refl) 32)
    (c.header.ensures ∙ rw pre.3) c.slots.ensures c.records.ensures c.zeros.ensures)
    c.seal.ensures
