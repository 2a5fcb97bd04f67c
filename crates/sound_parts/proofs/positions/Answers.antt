use Rattle.std.proofs.Common.{◌≡◌, refl, ap, ◌∙◌, ℕ, ◌<◌, arith, ltb, leb, eqb}
use native.Mathlib.Decide.{dec_lt}
use borrow.Author.Tests.{lt-ltb, le-ltb, le-leb, lt-leb}
use mir.Val.{bool_byte}
use Rattle.base.specs.Tests.{in_turn, first_bad, is_good}
use Rattle.flags.proofs.Clean.{one_on}
use Rattle.network.specs.Rules.{count_of}
use Rattle.lane.specs.State.{standing_of}
use Rattle.lane.specs.Sound.{position_sound}
use Rattle.sound_parts.proofs.positions.Goals as goal

-- what a position that is not below its count leaves
not_below : (position count : ℕ) → Dec (position < count) → eqb (bool_byte (leb count position)) 0 ≡ ltb position count
not_below position count (yes h) = rw (lt-ltb position count h, lt-leb count position h)
not_below position count (no h) = rw (le-ltb position count (omega arith), le-leb count position (omega arith))

pub loop-p-init : goal.loop-p-init
unfolding in_turn
loop-p-init c = refl

pub loop-p-preserved : goal.loop-p-preserved
loop-p-preserved c =
    let l = c.loop-p in
    let lane = c.args.lane.now in
    one_on (position_sound lane) 0 l.p l.p l.wrong c.from-wrong.result (omega arith) l.invariant
    (ap (λ (n : ℕ). eqb n 0) c.from-wrong.ensures ∙ not_below _ _ (dec_lt (standing_of lane l.p).position (count_of lane.network l.p)))

pub returns : goal.returns
returns c =
    let l = c.loop-p in
    let lane = c.args.lane.now in
    let e : l.p ≡ lane.network.processes = omega arith in
    l.invariant ∙ ap (λ (n : ℕ). is_good (first_bad (position_sound lane) 0 n)) e
