use Rattle.std.proofs.Common.{◌≡◌, refl, ap, ◌∙◌, Bool, List, ℕ, ◌<◌, arith, rules, get_or}
use Rattle.base.specs.Lists.{table}
use Rattle.base.specs.Tests.{in_turn, first_bad, is_good}
use Rattle.base.proofs.Lists.{table_at}
use Rattle.network.specs.Rules.{sender_of, receiver_of}
use Rattle.flags.proofs.Clean.{one_on}
use Rattle.sound_parts.proofs.ends.Invariants.{asked, mark_of}
use Rattle.sound_parts.proofs.ends.Goals as goal

-- the mark of an end
mark_at : (ended : ℕ → Bool) (marks : List ℕ) (e : ℕ) → marks ≡ table 256 (mark_of ended) → e < 256 → get_or marks e 0 ≡ mark_of ended e
mark_at ended marks e m h = rw (m, table_at (mark_of ended) 256 e 0 h)

pub loop-c-init : goal.loop-c-init
unfolding in_turn
loop-c-init c = λ ended m. refl

pub loop-c-preserved : goal.loop-c-preserved
loop-c-preserved c =
    let l = c.loop-c in
    let a = c.args in
    let n = a.lane.now.network in
    let from = sender_of n l.c in
    let to = receiver_of n l.c in
    λ ended m.
    one_on (asked ended a.lane.now) 0 l.c l.c l.wrong c.left-wrong.result (omega arith) (l.invariant ended m)
    (c.left-wrong.ensures (ended from) (ended to)
    (mark_at ended a.marks.now from m (search rules))
    (mark_at ended a.marks.now to m (search rules)))

pub returns : goal.returns
returns c ended m =
    let l = c.loop-c in
    let a = c.args in
    let e : l.c ≡ a.lane.now.network.channels = omega arith in
    l.invariant ended m ∙ ap (λ (n : ℕ). is_good (first_bad (asked ended a.lane.now) 0 n)) e
