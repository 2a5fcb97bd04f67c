use mathlib.Core.Path.{refl, ◌∙◌}
use mathlib.Core.List.{[], ◌∷◌}
use Prim.Native.Nat.{◌+◌, ◌*◌}
use native.Mathlib.Nat.{zero-add}
use native.Mathlib.Omega.{arith}
use Rattle.base.specs.Lists.{joined, two_bytes}
use Rattle.network.specs.Rules.{sender_of, receiver_of, capacity_of}
use Rattle.lane_file.specs.File.{record_of}
use Rattle.lane_writer.proofs.Stores.{put_none, put_put, joined_next}
use Rattle.lane_writer.proofs.records.Goals as goal

pub loop-c-init : goal.loop-c-init
unfolding joined
loop-c-init c = (refl, put_none c.args.buffer.now 72)

pub loop-c-preserved : goal.loop-c-preserved
loop-c-preserved c =
    let l = c.loop-c in
    let n = c.args.net.now in
    let ends = sender_of n l.c ∷ receiver_of n l.c ∷ [] in (
      omega arith,
      c.two.ensures
          ∙ rw c.pair.ensures
          (put_put ends (two_bytes (capacity_of n l.c)) l.buffer (72 + 4 * l.c) (74 + 4 * l.c) (omega arith)
          ∙ rw (zero-add l.c) at (joined_next (record_of n) 4 0 c.args.buffer.now l.buffer 72 (72 + 4 * l.c) l.c (λ k g h. refl) l.invariant.1 refl)),
    )
