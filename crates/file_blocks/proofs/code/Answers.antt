use mathlib.Core.Path.{◌≡◌, sym, ap, ◌∙◌}
use Prim.Native.Nat.{◌+◌, ◌*◌, ◌≤◌, ◌-◌}
use native.Mathlib.Omega.{arith}
use lib.ListN.{length, length-take, length-drop}
use Rattle.base.proofs.Lists.{filled_none}
use Rattle.file_blocks.proofs.Filling.{blank, length_blank, blank_at, filled_part, filled_rest, code_at, code_past}
use Rattle.file_blocks.proofs.code.Goals as goal

pub loop-k-init : goal.loop-k-init
unfolding blank
loop-k-init c = filled_none _ 0 (blank 4064)

pub loop-k-preserved : goal.loop-k-preserved
loop-k-preserved c =
    let l = c.loop-k in
    let s = c.args.s.now in
    let r = c.copy_from_slice in
    let k = l.k in
    let e₁ : 508 * (k + 1 - 1) ≡ 508 * (k - 1) + 508 = omega arith in
    let e₂ : 508 * (k - 1) + 508 - 508 * (k - 1) ≡ 508 = omega arith in
    let e₃ : 512 * k + 508 - 512 * k ≡ 508 = omega arith in
    let h : 1 ≤ k = omega arith in
    rw (e₁, e₂)
    (filled_part _ 0 (blank 4064) (508 * (k - 1)) 508 l.code r.new.self
    (omega (arith, l.invariant.long, length_blank 4064))
    (omega (arith, simp (length-take, length-drop) at (ap length r.ensures.after)))
    (λ m b. rw (r.ensures.after, e₃) (code_at s k m h b))
    l.invariant)

pub returns : goal.returns
returns c =
    let l = c.loop-k in
    let s = c.args.s.now in
    filled_rest _ 0 (blank 4064) (508 * (l.k - 1)) 4064 l.code (length_blank 4064)
    (λ j h b. blank_at 4064 j b ∙ sym (code_past s j c.requires.0 (omega arith)))
    l.invariant
