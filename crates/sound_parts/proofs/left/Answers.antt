-- `sound_parts::left` meets its contract: a mark leaves a number as it is, or nothing of it.
-- Assumes nothing.
use mathlib.Core.Path.{◌≡◌, refl, ap, ap₂, ◌∙◌}
use mathlib.Core.Bool.{Bool, true, false, cond, not, ◌&&◌, ◌||◌}
use Prim.Native.Nat.{ℕ, ◌<◌}
use native.Mathlib.Nat.{mod-eq_of_lt}
use borrow.Author.Rules.{rules}
use lib.Bits.{bit_and, bit_or, and_comm, and_mask}
use lib.Dec.{eqb}
use mir.Val.{bool_byte}
use Rattle.flags.proofs.Clean.{or_zero}
use Rattle.sound_parts.proofs.left.Goals as goal

sender_zero : (ended closed : Bool) → eqb (bit_and (cond ended 65535 0) (cond closed 0 1)) 0 ≡ (not ended || closed)
sender_zero true true = refl
sender_zero true false = refl
sender_zero false true = refl
sender_zero false false = refl

receiver_zero : (ended : Bool) (held : ℕ) → held < 65536 → eqb (bit_and (cond ended 65535 0) held) 0 ≡ (not ended || eqb held 0)
receiver_zero true held h = ap (λ (n : ℕ). eqb n 0) (and_comm 65535 held ∙ and_mask held 16 ∙ mod-eq_of_lt h)
receiver_zero false held h = refl

left_zero : (from flag to held : ℕ) (s t closed : Bool) → from ≡ cond s 65535 0 → flag ≡ cond closed 0 1 → to ≡ cond t 65535 0 → held < 65536
    → eqb (bit_or (bit_and from flag) (bit_and to held)) 0 ≡ ((not s || closed) && (not t || eqb held 0))
left_zero from flag to held s t closed p o q h =
    or_zero (bit_and from flag) (bit_and to held) ∙ rw (p, o, q) (ap₂ ◌&&◌ (sender_zero s closed) (receiver_zero t held h))

pub returns : goal.returns
returns c s t p q =
    let a = c.args in
    left_zero a.from c.from.result a.to a.channel.now.held s t a.channel.now.closed p (c.from.ensures ∙ flag a.channel.now.closed) q (search rules)
  where
    flag : (closed : Bool) → bool_byte (not closed) ≡ cond closed 0 1
    flag true = refl
    flag false = refl
