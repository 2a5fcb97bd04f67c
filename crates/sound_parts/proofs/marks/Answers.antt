use Rattle.std.proofs.Common.{◌≡◌, sym, ap, ◌∙◌, ℕ, ◌≤◌, ◌<◌, List, arith, length, get_or, replicate, cond}
use native.Mathlib.Decide.{dec_lt}
use lib.ListN.{get_or-replicate, get_or-eq_default, length-replicate}
use Rattle.base.proofs.Lists.{Filled, filled_none, filled_more, table_is}
use Rattle.lane.specs.declared.Lane.{Lane}
use Rattle.lane.specs.State.{no_standing, is_ended}
use Rattle.sound_parts.proofs.marks.Invariants.{mark_of}
use Rattle.sound_parts.proofs.marks.Goals as goal

-- the marks after the last process: those of processes, and none from there on
mark_at : (lane : Lane) (marks : List ℕ) (p k : ℕ) → length lane.processes ≤ p → Filled (mark_of lane) 0 (replicate 256 0) p marks → k < 256
    → Dec (k < p) → get_or marks k 0 ≡ mark_of lane k
mark_at lane marks p k l f h (yes m) = f.done k m
mark_at lane marks p k l f h (no m) =
    f.kept k (omega arith) ∙ get_or-replicate {A = ℕ} 256 k 0 0 h
    ∙ sym (ap (λ s. cond (is_ended s.condition) 65535 0) (get_or-eq_default lane.processes no_standing {n = k} (omega arith)))

pub loop-p-init : goal.loop-p-init
loop-p-init c = filled_none _ 0 _

pub loop-p-preserved : goal.loop-p-preserved
loop-p-preserved c =
    let l = c.loop-p in
    filled_more (mark_of c.args.lane.now) 0 (replicate 256 0) l.p l.marks c.mark.result (omega (arith, l.invariant.long, length-replicate {A = ℕ} 256 0)) c.mark.ensures l.invariant

pub returns : goal.returns
returns c =
    let l = c.loop-p in
    table_is (mark_of c.args.lane.now) 256 0 _ (omega (arith, l.invariant.long, length-replicate {A = ℕ} 256 0))
    (λ k h. mark_at c.args.lane.now _ l.p k (omega arith) l.invariant h (dec_lt k l.p))
