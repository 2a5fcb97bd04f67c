use Rattle.std.proofs.Common.{sym, ◌∙◌, ap, arith}
use Rattle.base.proofs.Lists.{filled_none, filled_more}
use Rattle.waits.specs.Waits.{pointing, full_wait, waits_at}
use Rattle.waits.specs.Parts.{points_of, full_of, channel_of}
use Rattle.waits.proofs.Looks.{points_at, full_at, channel_at, filled_past, unfilled, no_full, free_points, free_channel}
use Rattle.waits.proofs.waits_in.Goals as goal

pub loop-p-init : goal.loop-p-init
loop-p-init c = record { pointings = filled_none _ _ _; fulls = filled_none _ _ _; channels = filled_none _ _ _ }

pub loop-p-preserved-in-Free : goal.loop-p-preserved-in-Free
loop-p-preserved-in-Free c =
    let lane = c.args.sound.now.lane in
    let l = c.loop-p in
    let free = sym c.wait_at-wait.ensures ∙ c.in-Free.is in
    record {
      pointings = filled_past (pointing lane) _ l.p _ (free_points lane l.p free (omega arith) (omega (arith, c.loop-p-test.true))) l.invariant.pointings;
      fulls = filled_past (full_wait lane) _ l.p _ (no_full lane l.p (omega arith) (ap full_of free)) l.invariant.fulls;
      channels = filled_past (waits_at lane) _ l.p _ (free_channel lane l.p free (omega arith)) l.invariant.channels;
    }

pub loop-p-preserved-in_default-wait : goal.loop-p-preserved-in_default-wait
loop-p-preserved-in_default-wait c =
    let lane = c.args.sound.now.lane in
    let l = c.loop-p in
    let e = c.wait_at-wait.ensures in
    record {
      pointings = filled_more (pointing lane) 0 _ l.p _ _ (omega (arith, l.invariant.pointings.long)) (c.points.ensures ∙ ap points_of e ∙ points_at lane l.p (omega (arith, c.loop-p-test.true))) l.invariant.pointings;
      fulls = filled_past (full_wait lane) _ l.p _ (no_full lane l.p (omega arith) (sym (ap full_of e) ∙ unfilled _ c.in_default-wait.not-Full)) l.invariant.fulls;
      channels = filled_more (waits_at lane) 0 _ l.p _ _ (omega (arith, l.invariant.channels.long)) (c.channel.ensures ∙ ap channel_of e ∙ channel_at lane l.p) l.invariant.channels;
    }

pub loop-p-preserved : goal.loop-p-preserved
loop-p-preserved c =
    let lane = c.args.sound.now.lane in
    let l = c.loop-p in
    let e = c.wait_at-wait.ensures in
    record {
      pointings = filled_more (pointing lane) 0 _ l.p _ _ (omega (arith, l.invariant.pointings.long)) (c.points.ensures ∙ ap points_of e ∙ points_at lane l.p (omega (arith, c.loop-p-test.true))) l.invariant.pointings;
      fulls = filled_more (full_wait lane) 0 _ l.p _ _ (omega (arith, l.invariant.fulls.long)) (ap full_of (sym c.in-Full.is ∙ e) ∙ full_at lane l.p) l.invariant.fulls;
      channels = filled_more (waits_at lane) 0 _ l.p _ _ (omega (arith, l.invariant.channels.long)) (c.channel.ensures ∙ ap channel_of e ∙ channel_at lane l.p) l.invariant.channels;
    }
