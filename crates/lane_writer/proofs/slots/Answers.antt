use mathlib.Core.Path.{refl, ◌∙◌}
use Prim.Native.Nat.{◌+◌, ◌*◌}
use native.Mathlib.Nat.{zero-add}
use native.Mathlib.Omega.{arith}
use Rattle.base.specs.Lists.{joined, two_bytes}
use Rattle.network.specs.Rules.{start_of, count_of}
use Rattle.lane_file.specs.File.{slot_of}
use Rattle.lane_writer.proofs.Stores.{put_none, put_put, joined_next}
use Rattle.lane_writer.proofs.slots.Goals as goal

pub loop-p-init : goal.loop-p-init
unfolding joined
loop-p-init c = (refl, put_none c.args.buffer.now 8)

pub loop-p-preserved : goal.loop-p-preserved
loop-p-preserved c =
    let l = c.loop-p in
    let n = c.args.net.now in (
      omega arith,
      c.two-in-loop-p.ensures
          ∙ rw c.two.ensures
          (put_put (two_bytes (start_of n l.p)) (two_bytes (count_of n l.p)) l.buffer (8 + 4 * l.p) (10 + 4 * l.p) (omega arith)
          ∙ rw (zero-add l.p) at (joined_next (slot_of n) 4 0 c.args.buffer.now l.buffer 8 (8 + 4 * l.p) l.p (λ k g h. refl) l.invariant.1 refl)),
    )
