use Rattle.std.proofs.Common.{◌≡◌, refl, sym, ◌∙◌, Bool, true, false, ◌&&◌, ℕ, ◌+◌, ◌-◌, arith, rules, bit_or}
use mathlib.Core.Path.{ap₂}
use borrow.Author.Tests.{eq-eqb, ne_eqb}
use Rattle.base.specs.Tests.{in_turn, first_bad, is_good}
use Rattle.lane.specs.declared.Lane.{Lane}
use Rattle.lane.specs.State.{channel_of}
use Rattle.lane.specs.Sound.{channel_sound}
use Rattle.flags.specs.Clean.{clean}
use Rattle.flags.proofs.Clean.{clean_or, Tells}
use Rattle.sound_parts.proofs.Within.{room_clean, oldest_clean, above_clean}
use Rattle.sound_parts.proofs.Pairs.{two_kinds}
use Rattle.sound_parts.proofs.limits.Invariants.{roomy, early, filled, two, more}
use Rattle.sound_parts.proofs.limits.Goals as goal

-- the first two tests together
abbrev placed : Lane → ℕ → Bool
placed lane c = roomy lane c && early lane c

pub loop-c-init : goal.loop-c-init
unfolding in_turn
loop-c-init c = (refl, refl, refl)

pub loop-c-preserved : goal.loop-c-preserved
loop-c-preserved c =
    let l = c.loop-c in
    let lane = c.args.lane.now in
    let h = channel_of lane l.c in (
      more 0xFF00 (roomy lane) l.c l.rooms (h.capacity + 0xFFFF) l.invariant.0 (room_clean h.capacity (search rules)),
      more 0xFF00 (early lane) l.c l.oldests h.oldest l.invariant.1 (oldest_clean h.oldest (search rules)),
      more 0x10000 (filled lane) l.c l.fillings (bit_or (h.held + 0xFFFF - h.peak) (h.peak + 0xFFFF - h.capacity)) l.invariant.2
          (clean_or 0x10000 (h.held + 0xFFFF - h.peak) (h.peak + 0xFFFF - h.capacity)
          ∙ ap₂ ◌&&◌ (above_clean h.held h.peak (search rules) (search rules)) (above_clean h.peak h.capacity (search rules) (search rules))),
    )

-- past the last channel, the answer of all, where b is that of the first two numbers
told : (lane : Lane) (used i rooms oldests fillings : ℕ) → i ≡ used → Tells 0xFF00 (roomy lane) 0 i rooms →
    Tells 0xFF00 (early lane) 0 i oldests → Tells 0x10000 (filled lane) 0 i fillings →
    (b : Bool) → clean 0xFF00 (bit_or rooms oldests) ≡ b →
    (b && clean 0x10000 fillings) ≡ is_good (first_bad (λ k. channel_sound false false (channel_of lane k)) 0 used)
told lane used i rooms oldests fillings e r o f b p =
    let both =
    clean_or 0xFF00 rooms oldests ∙ ap₂ ◌&&◌ r o ∙ sym (two_kinds (placed lane) (roomy lane) (early lane) 0 i (λ k h m. refl)) in
    ap₂ ◌&&◌ (sym p ∙ both) f ∙ rw e (sym (two_kinds _ (placed lane) (filled lane) 0 used (λ k h m. two (channel_of lane k))))

pub returns-then-rooms-oldests-eq0 : goal.returns-then-rooms-oldests-eq0
returns-then-rooms-oldests-eq0 c =
    let l = c.loop-c in
    told c.args.lane.now _ _ _ _ _ (omega arith) l.invariant.0 l.invariant.1 l.invariant.2 true (eq-eqb _ 0 c.if-rooms-oldests-eq0.true)

pub returns-else-rooms-oldests-eq0 : goal.returns-else-rooms-oldests-eq0
returns-else-rooms-oldests-eq0 c =
    let l = c.loop-c in
    ne_eqb _ 0 c.if-rooms-oldests-eq0.false ∙ told c.args.lane.now _ _ _ _ _ (omega arith) l.invariant.0 l.invariant.1 l.invariant.2 false (ne_eqb _ 0 c.if-rooms-oldests-eq0.false)
