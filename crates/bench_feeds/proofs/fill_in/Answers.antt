-- `bench_feeds::fill_in` meets its contract.
-- Assumes nothing.
use mathlib.Core.Path.{sym, ◌∙◌}
use native.Mathlib.Omega.{arith}
use mir.Facts.{to_z-of_z}
use mir.Syntax.{w32}
use Rattle.bench_feeds.proofs.Filling.{inlet_at, passed_over, taken_in, turned_down, spent}
use Rattle.bench_feeds.proofs.fill_in.Goals.{else-channel_at-c-via-then-channel_at-c+else-is_err, else-channel_at-c-via-else-channel_at-c}
use Rattle.bench_feeds.proofs.fill_in.Goals as goal

pub returns-then-is_err : goal.returns-then-is_err
returns-then-is_err c =
    let l = c.loop-i in
    let inlet = inlet_at c.args.sound.now.lane l.sound.sound l.invariant.network l.invariant.long c.requires in (
      l.invariant.rest
          ∙ turned_down c.args.input.now c.args.c l.i _ c.feed_at.result (sym c.is_err.ensures.value ∙ c.if-is_err.true) inlet (omega arith)
          (sym c.channel_at.ensures ∙ c.if-channel_at-c.true)
          (rw (to_z-of_z {w = w32} (record { sfits = c.value_at.type_inv }), c.value_at.ensures) at c.feed_at.ensures.0),
      c.feed_at.ensures.1 ∙ l.invariant.network,
    )

pub loop-i-preserved : goal.loop-i-preserved
loop-i-preserved c =
    let l = c.loop-i in
    let inlet = inlet_at c.args.sound.now.lane l.sound.sound l.invariant.network l.invariant.long c.requires in
    elim c.else-channel_at-c.branch [
      | else-channel_at-c-via-then-channel_at-c+else-is_err w ↦
          rw (w.sound-is, w.cells-is) (record {
            rest =
                l.invariant.rest
                ∙ taken_in c.args.input.now c.args.c l.i _ w.feed_at.result (sym w.is_err.ensures.value ∙ w.if-is_err.false) inlet (omega arith)
                (sym c.channel_at.ensures ∙ w.if-channel_at-c.true)
                (rw (to_z-of_z {w = w32} (record { sfits = w.value_at.type_inv }), w.value_at.ensures) at w.feed_at.ensures.0);
            network = w.feed_at.ensures.1 ∙ l.invariant.network;
            long = w.feed_at.array_long;
          })
      | else-channel_at-c-via-else-channel_at-c w ↦
          rw (w.sound-is, w.cells-is) (record {
            rest = l.invariant.rest ∙ passed_over c.args.input.now c.args.c l.i _ (omega arith) (λ e. w.if-channel_at-c.false (c.channel_at.ensures ∙ e));
            network = l.invariant.network;
            long = l.invariant.long;
          })
    ]

pub returns : goal.returns
returns c =
    let l = c.loop-i in
    let inlet = inlet_at c.args.sound.now.lane l.sound.sound l.invariant.network l.invariant.long c.requires in (
      l.invariant.rest ∙ spent c.args.input.now c.args.c l.i _ _ inlet (omega arith) (omega arith) (c.close_at.ensures.0 l.cells),
      c.close_at.ensures.1 ∙ l.invariant.network,
    )
