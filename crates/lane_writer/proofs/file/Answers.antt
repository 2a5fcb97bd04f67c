use mathlib.Core.Path.{◌≡◌, refl}
use Prim.Native.Nat.{◌-◌}
use native.Mathlib.Omega.{arith}
use borrow.Author.Rules.{rules}
use lib.ListN.{length}
use Rattle.base.specs.Lists.{joined}
use Rattle.network.specs.Rules.{total, blocks_for}
use Rattle.lane_writer.proofs.Stores.{put_none}
use Rattle.lane_writer.proofs.Blocks.{block_more, whole}
use Rattle.lane_writer.proofs.file.Goals as goal

pub loop-k-init : goal.loop-k-init
unfolding joined
loop-k-init c = (refl, put_none c.first_block.new.buffer 512)

pub code_block-requires : goal.code_block-requires
code_block-requires c =
    let long : length c.args.net.now.code ≡ 4064 = search rules in
    (omega arith, omega arith, omega arith, long)

pub loop-k-preserved : goal.loop-k-preserved
loop-k-preserved c =
    let long : length c.args.net.now.code ≡ 4064 = search rules in
    let l = c.loop-k in
    let n = c.args.net.now in (
      omega arith,
      block_more n c.first_block.new.buffer l.buffer c.code_block.new.buffer l.k long (omega arith) (omega arith)
          l.invariant.1 c.code_block.ensures,
    )

pub returns : goal.returns
returns c =
    let long : length c.args.net.now.code ≡ 4064 = search rules in
    let l = c.loop-k in
    let q : l.k - 1 ≡ blocks_for (total c.args.net.now) = omega arith in
    whole c.args.net.now c.args.buffer.now c.first_block.new.buffer l.buffer long (omega arith) (omega arith)
    c.first_block.ensures (rw q at l.invariant.1)
