-- `rings::first_ring` meets its contract.
-- Assumes nothing.
use mathlib.Core.Path.{◌≡◌, refl, sym, ap, ◌∙◌}
use mathlib.Core.Bool.{Bool, true, false, ◌||◌}
use mathlib.Core.List.{List}
use Prim.Native.Nat.{ℕ, ◌≤◌, ◌<◌}
use native.Mathlib.Omega.{arith}
use lib.ListN.{get_or}
use Rattle.base.specs.Lists.{table}
use Rattle.base.proofs.Lists.{table_at}
use Rattle.rings.specs.Rings.{OnRing, ring_length, lesser}
use Rattle.rings.specs.Left.{left_of}
use Rattle.rings.specs.Arrays.{points_in, number_in}
use Rattle.rings.proofs.Pointings.{points_at, points_stay}
use Rattle.rings.proofs.Circles.{on_ring}
use Rattle.rings.proofs.Stripping.{left_exactly, stripped_length}
use Rattle.rings.proofs.Walk.{trail_start, trail_inside, trail_step, trail_ring, trail_grows, trail_room, ring_below, passed_none, passed_more, passed_off, search_found, search_none}
use Rattle.rings.proofs.first_ring.Goals as goal

-- who is left is on a ring, and nobody else
module _ (points : List ℕ) (left : List Bool) (P start : ℕ) (small : P ≤ 16) (e : left ≡ table 16 (left_of (points_in points P) P)) (more : start < P) where
  is_left : get_or left start false ≡ left_of (points_in points P) P start
  is_left =
      ap (λ (l : List Bool). get_or l start false) e ∙ table_at (left_of (points_in points P) P) 16 start false (omega (arith, small, more))

  on : get_or left start false ≡ true → OnRing (points_in points P) P start
  on t = (left_exactly _ _ (points_stay points P (omega (arith, small))) start).0 (sym is_left ∙ t)

  off : get_or left start false ≡ false → ring_length (points_in points P) P start ≡ 0
  off t = stripped_length _ _ (points_stay points P (omega (arith, small))) start more (sym is_left ∙ t)

pub loop-start-init : goal.loop-start-init
loop-start-init c = passed_none _ _ _

pub loop-start-preserved-then-not-left-start : goal.loop-start-preserved-then-not-left-start
loop-start-preserved-then-not-left-start c =
    passed_off _ _ _ _ _ c.loop-start.invariant c.loop-start-test.true (off _ _ _ _ c.requires.0 c.requires.1 c.loop-start-test.true c.if-not-left-start.true)

pub loop-at-init : goal.loop-at-init
loop-at-init c =
    let stays = points_stay c.args.points.now c.args.count (omega (arith, c.requires.0)) in
    let around = on _ _ _ _ c.requires.0 c.requires.1 c.loop-start-test.true c.if-not-left-start.false in
    trail_start (points_in c.args.points.now c.args.count) (number_in c.args.full.now) (number_in c.args.channel.now) c.args.count c.requires.0 _ _ around.0 (on_ring _ _ stays _ around) refl

-- where the pointing leads
pub bounds-full-at : goal.bounds-full-at
bounds-full-at c =
    let stays = points_stay c.args.points.now c.args.count (omega (arith, c.requires.0)) in
    let leads : points_in c.args.points.now c.args.count c.loop-at.at ≡ c.from-at.result = points_at _ _ _ c.loop-at.invariant.inside ∙ sym c.from-at.ensures in
    omega (arith, c.requires.0, trail_inside _ _ _ _ c.requires.0 _ _ _ _ _ _ c.loop-at.invariant _ leads stays)

pub bounds-channel-at : goal.bounds-channel-at
bounds-channel-at c =
    let stays = points_stay c.args.points.now c.args.count (omega (arith, c.requires.0)) in
    let leads : points_in c.args.points.now c.args.count c.loop-at.at ≡ c.from-at.result = points_at _ _ _ c.loop-at.invariant.inside ∙ sym c.from-at.ensures in
    omega (arith, c.requires.0, trail_inside _ _ _ _ c.requires.0 _ _ _ _ _ _ c.loop-at.invariant _ leads stays)

pub loop-at-preserved-then-lesser : goal.loop-at-preserved-then-lesser
loop-at-preserved-then-lesser c =
    let stays = points_stay c.args.points.now c.args.count (omega (arith, c.requires.0)) in
    let leads : points_in c.args.points.now c.args.count c.loop-at.at ≡ c.from-at.result = points_at _ _ _ c.loop-at.invariant.inside ∙ sym c.from-at.ensures in
    let sooner : lesser (number_in c.args.full.now c.from-at.result) (number_in c.args.channel.now c.from-at.result) c.loop-at.least c.loop-at.grown ≡ true = sym c.lesser.ensures ∙ c.if-lesser.true in
    trail_step _ _ _ _ c.requires.0 _ _ _ _ _ _ c.loop-at.invariant _ leads _ _ (rw sooner) (rw sooner) stays c.if-at-start.false

pub loop-at-preserved : goal.loop-at-preserved
loop-at-preserved c =
    let stays = points_stay c.args.points.now c.args.count (omega (arith, c.requires.0)) in
    let leads : points_in c.args.points.now c.args.count c.loop-at.at ≡ c.from-at.result = points_at _ _ _ c.loop-at.invariant.inside ∙ sym c.from-at.ensures in
    let sooner : lesser (number_in c.args.full.now c.from-at.result) (number_in c.args.channel.now c.from-at.result) c.loop-at.least c.loop-at.grown ≡ false = sym c.lesser.ensures ∙ c.if-lesser.false in
    trail_step _ _ _ _ c.requires.0 _ _ _ _ _ _ c.loop-at.invariant _ leads _ _ (rw sooner) (rw sooner) stays c.if-at-start.false

pub loop-start-preserved : goal.loop-start-preserved
loop-start-preserved c =
    let s = c.loop-start.invariant in
    let more = c.loop-start-test.true in
    let leads : points_in c.args.points.now c.args.count c.loop-at.at ≡ c.from-at.result = points_at _ _ _ c.loop-at.invariant.inside ∙ sym c.from-at.ensures in
    let capacity = sym (trail_room _ _ _ _ c.requires.0 _ _ _ _ _ _ c.loop-at.invariant _ leads c.if-at-start.true) in
    let around = on_ring _ _ (points_stay c.args.points.now c.args.count (omega (arith, c.requires.0))) _ (on _ _ _ _ c.requires.0 c.requires.1 more c.if-not-left-start.false) in
    let below = λ (limit : ℕ). ring_below _ (number_in c.args.full.now) (number_in c.args.channel.now) _ _ limit _ around capacity in
    passed_more _ _ _ _ _ s more _ (below 256 ∙ sym c.below.ensures ∙ c.if-below.false)
    (ap (λ (t : Bool). c.loop-start.ceiling || t) (c.below-in-loop-start.ensures ∙ sym (below 257)))

pub returns-then-below : goal.returns-then-below
returns-then-below c =
    let more = c.loop-start-test.true in
    let leads : points_in c.args.points.now c.args.count c.loop-at.at ≡ c.from-at.result = points_at _ _ _ c.loop-at.invariant.inside ∙ sym c.from-at.ensures in
    let around = on_ring _ _ (points_stay c.args.points.now c.args.count (omega (arith, c.requires.0))) _ (on _ _ _ _ c.requires.0 c.requires.1 more c.if-not-left-start.false) in
    let capacity = sym (trail_room _ _ _ _ c.requires.0 _ _ _ _ _ _ c.loop-at.invariant _ leads c.if-at-start.true) in
    let ring = sym (trail_ring _ _ (number_in c.args.channel.now) _ c.requires.0 _ _ _ _ _ _ c.loop-at.invariant _ leads c.if-at-start.true) in
    let grows = c.from-channel.ensures ∙ sym (trail_grows _ _ _ _ c.requires.0 _ _ _ _ _ _ c.loop-at.invariant _ leads c.if-at-start.true) in
    let below = ring_below _ (number_in c.args.full.now) (number_in c.args.channel.now) _ _ 256 _ around capacity in
    rw (ring, grows)
    (sym (search_found _ _ _ _ _ c.loop-start.invariant more (number_in c.args.channel.now) (below ∙ sym c.below.ensures ∙ c.if-below.true)))

pub returns-then-ceiling : goal.returns-then-ceiling
returns-then-ceiling c =
    rw c.if-ceiling.true at (search_none _ _ _ (number_in c.args.channel.now) _ _ c.loop-start.invariant c.loop-start-test.false)

pub returns-else-ceiling : goal.returns-else-ceiling
returns-else-ceiling c =
    rw c.if-ceiling.false at (search_none _ _ _ (number_in c.args.channel.now) _ _ c.loop-start.invariant c.loop-start-test.false)
