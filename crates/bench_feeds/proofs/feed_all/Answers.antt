-- `bench_feeds::feed_all` meets its contract.
-- Assumes nothing.
use mathlib.Core.Path.{refl, sym, ap, ◌∙◌}
use Prim.Native.Nat.{◌<◌}
use native.Mathlib.Omega.{arith}
use lib.ListN.{set, length-set}
use Rattle.network.specs.declared.Network.{Network}
use Rattle.lane.specs.State.{world}
use Rattle.bench_rules.specs.Input.{left_at}
use Rattle.bench_rules.specs.Feeding.{inputs}
use Rattle.bench_feeds.proofs.Rising.{around_begins, around_on, feeds_idle, feeds_filled}
use Rattle.bench_feeds.proofs.feed_all.Goals.{then-not-idle, else-not-idle}
use Rattle.bench_feeds.proofs.feed_all.Goals as goal

pub loop-c-init : goal.loop-c-init
loop-c-init c =
    record {
      around = around_begins (inputs (left_at c.args.input.now c.args.next.now) (world c.args.sound.now.lane c.args.cells.now)) c.requires.first;
      network = refl;
      long = omega arith;
      cells = omega arith;
    }

pub loop-c-preserved : goal.loop-c-preserved
loop-c-preserved c =
    let l = c.loop-c in
    let i = l.invariant in
    let h = c.loop-c-test.true in
    let below : l.c < 32 = omega (arith, h, i.around.channels, l.sound.few_channels) in
    let w = world l.sound.lane l.cells in
    elim c.if-not-idle.branch [
      | then-not-idle v ↦
          let n = v.fill_in.ensures.1 ∙ i.network in
          rw (v.sound-is, v.cells-is, v.next-is) (record {
            around =
                around_on (inputs (left_at c.args.input.now (set l.next l.c v.fill_in.result)) (world v.fill_in.new.sound.lane v.fill_in.new.cells)) i.around h
                (ap (λ (m : Network). m.channels) n)
                (feeds_filled c.args.input.now l.next w below (i.around.outer h) v.fill_in.result i.long v.fill_in.ensures.0)
                (λ s. rw (c.from-c.ensures, n) (c.requires.next l.c h));
            network = n;
            long = length-set l.next l.c v.fill_in.result ∙ i.long;
            cells = v.fill_in.array_long;
          })
      | else-not-idle v ↦
          rw (v.sound-is, v.cells-is, v.next-is) (record {
            around =
                around_on (inputs (left_at c.args.input.now l.next) w) i.around h
                i.around.channels
                (feeds_idle c.args.input.now l.next w below (i.around.outer h) (sym (c.idle.ensures l.cells) ∙ v.if-not-idle.false))
                (λ s. rw (c.from-c.ensures, i.network) (c.requires.next l.c h));
            network = i.network;
            long = i.long;
            cells = i.cells;
          })
    ]
