use mathlib.Core.Path.{◌≡◌, sym, ◌∙◌}
use Prim.Native.Nat.{◌<◌}
use native.Mathlib.Omega.{arith}
use borrow.Author.Rules.{rules}
use Rattle.rings.specs.Arrays.{points_in}
use Rattle.rings.proofs.Pointings.{Stays, points_at, points_stay}
use Rattle.rings.proofs.Strips.{strip_start, strip_past, strip_end, going_start, goes_some, goes_later, goes_pointed, goes_on, goes_less}
use Rattle.rings.proofs.strip.strip.Goals as goal
use Rattle.rings.proofs.strip.strip.Goals.{then-pointing-start-eq0+then-start-at, then-start-at-via-then-start-at, then-start-at-via-else-start-at+then-pointing-at-ne0, else-pointing-start-eq0}

pub loop-start-init : goal.loop-start-init
loop-start-init c =
    let stays : Stays (points_in c.args.points.now c.args.count) c.args.count = points_stay _ _ (omega (arith, c.requires.0)) in
    strip_start _ _ c.requires.0 stays _ c.requires.1

pub loop-at-init : goal.loop-at-init
loop-at-init c =
    let stays : Stays (points_in c.args.points.now c.args.count) c.args.count = points_stay _ _ (omega (arith, c.requires.0)) in
    (c.loop-start-test.true, going_start _ _ c.requires.0 stays _ _ c.loop-start-test.true c.loop-start.invariant c.if-pointing-start-eq0.true)

pub overflow_sub-pointing : goal.overflow_sub-pointing
overflow_sub-pointing c =
    let stays : Stays (points_in c.args.points.now c.args.count) c.args.count = points_stay _ _ (omega (arith, c.requires.0)) in
    let small : c.from-at.result < 256 = search rules in
    let leads : points_in c.args.points.now c.args.count c.loop-at.at ≡ c.from-at.result = points_at _ _ _ c.loop-at.invariant.0 ∙ sym c.from-at.ensures in
    omega (arith, goes_some _ _ c.requires.0 stays _ _ _ _ c.loop-start-test.true small leads c.loop-at.invariant.1)

pub loop-at-smaller : goal.loop-at-smaller
loop-at-smaller c =
    let stays : Stays (points_in c.args.points.now c.args.count) c.args.count = points_stay _ _ (omega (arith, c.requires.0)) in
    let small : c.from-at.result < 256 = search rules in
    let leads : points_in c.args.points.now c.args.count c.loop-at.at ≡ c.from-at.result = points_at _ _ _ c.loop-at.invariant.0 ∙ sym c.from-at.ensures in
    omega (
      arith,
      goes_less _ _ c.requires.0 stays _ _ _ _ c.loop-start-test.true small leads c.loop-at.invariant.1 c.if-start-at.false c.if-pointing-at-ne0.false,
    )

pub loop-at-preserved : goal.loop-at-preserved
loop-at-preserved c =
    let stays : Stays (points_in c.args.points.now c.args.count) c.args.count = points_stay _ _ (omega (arith, c.requires.0)) in
    let small : c.from-at.result < 256 = search rules in
    let leads : points_in c.args.points.now c.args.count c.loop-at.at ≡ c.from-at.result = points_at _ _ _ c.loop-at.invariant.0 ∙ sym c.from-at.ensures in
    let low = c.if-start-at.false in
    let more = c.loop-start-test.true in (
      omega (arith, low, more),
      goes_on _ _ c.requires.0 stays _ _ _ _ more small leads c.loop-at.invariant.1 low c.if-pointing-at-ne0.false,
    )

pub loop-start-preserved : goal.loop-start-preserved
loop-start-preserved c =
    let stays : Stays (points_in c.args.points.now c.args.count) c.args.count = points_stay _ _ (omega (arith, c.requires.0)) in
    let more = c.loop-start-test.true in
    elim c.if-pointing-start-eq0.branch [
      | then-pointing-start-eq0+then-start-at w ↦
          let small : w.from-at.result < 256 = search rules in
          let leads : points_in c.args.points.now c.args.count w.loop-at.at ≡ w.from-at.result = points_at _ _ _ w.loop-at.invariant.0 ∙ sym w.from-at.ensures in
          elim w.then-start-at.branch [
            | then-start-at-via-then-start-at v ↦
                rw w.pointing-is (goes_later _ _ c.requires.0 stays _ _ _ _ more small leads w.loop-at.invariant.1 v.if-start-at.true)
            | then-start-at-via-else-start-at+then-pointing-at-ne0 v ↦
                rw w.pointing-is (goes_pointed _ _ c.requires.0 stays _ _ _ _ more small leads w.loop-at.invariant.1 v.if-pointing-at-ne0.true)
          ]
      | else-pointing-start-eq0 w ↦ rw w.pointing-is (strip_past _ _ c.requires.0 stays _ _ more c.loop-start.invariant w.if-pointing-start-eq0.false)
    ]

pub returns : goal.returns
returns c =
    let stays : Stays (points_in c.args.points.now c.args.count) c.args.count = points_stay _ _ (omega (arith, c.requires.0)) in
    strip_end _ _ c.requires.0 stays _ _ c.loop-start.invariant c.loop-start-test.false
