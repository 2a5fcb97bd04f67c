-- The loops over takes and over outputs: what a take prints and leaves, and how far a loop has come.
-- Assumes nothing.
use mathlib.Core.Path.{◌≡◌, refl, sym, ap, ◌∙◌, subst}
use mathlib.Core.Bool.{Bool, true, false, cond, not}
use mathlib.Core.List.{List, [], ◌∷◌, append-nil}
use Prim.Native.Nat.{ℕ, suc, ◌<◌}
use native.Mathlib.Decide.{dec_lt}
use native.Mathlib.Omega.{arith}
use borrow.Author.Tests.{eqb-true, eqb-false}
use lib.Dec.{eqb}
use lib.IntN.{ℤ}
use lib.ListN.{length, get_or, get_or-eq_default, set}
use lib.Seq.{get_or-set_same}
use Rattle.process.specs.declared.Channel.{Channel}
use Rattle.process.specs.Channels.{no_channel, get_one, slot}
use Rattle.lane.specs.State.{World, world, cell_at, channel_of, put_channel}
use Rattle.lane.specs.Calls.{Told, value, the_end, refused, Called, called, refuse, is_closed, counting, taken}
use Rattle.lane.proofs.CallCases.{Takeable}
use Rattle.lane.proofs.CallLaws.{Preserves, take_kept}
use Rattle.lent_calls.proofs.There.{take_there}
use Rattle.listing.specs.Text.{Line, line_text, text, out, end}
use Rattle.listing.specs.declared.Listing.{Listing}
use Rattle.listing.specs.Listing.{HasRoom, Wrote}
use Rattle.listing.proofs.Laws.{wrote_none}
use Rattle.bench_rules.specs.Printed.{Printed, printed, silent, then_do}
use Rattle.bench_rules.specs.Emptying.{Outputs, outputs, line_for, take_at, takes_at}
use Rattle.bench_rules.specs.Holding.{Room, Done}
use Rattle.bench_rules.proofs.Underway.{Underway, begun, room_for, more, done}
use Rattle.bench_rules.proofs.EmptyingLaws.{given_by}

-- ---- a take at channel c, which is there and goes outside, by what it answered
abbrev held : ℕ → World → ℕ
held c w = (channel_of w.lane c).held

module _ (c : ℕ) (w w' : World) where
  abbrev message : Called
  message = called (value (cell_at w (slot c (channel_of w.lane c) 0))) (counting (world (put_channel c (get_one (channel_of w.lane c)) w.lane) w.cells))

  -- a message: there was one, and it is held no more
  value_taken : (v : ℤ) → called (value v) w' ≡ taken c w → (held c w ≡ 0 → ⊥) × (w' ≡ counting (world (put_channel c (get_one (channel_of w.lane c)) w.lane) w.cells))
  value_taken v = go (eqb (held c w) 0) (is_closed c w) refl
    where
      go : (none shut : Bool) → eqb (held c w) 0 ≡ none → called (value v) w' ≡ cond none (cond (not shut) (called (refused 12) w) (called the_end (counting w))) message
          → (held c w ≡ 0 → ⊥) × (w' ≡ counting (world (put_channel c (get_one (channel_of w.lane c)) w.lane) w.cells))
      go true true e f = let g : value v ≡ the_end = ap (λ (r : Called). r.answer) f in cc
      go true false e f = let g : value v ≡ refused 12 = ap (λ (r : Called). r.answer) f in cc
      go false shut e f = (eqb-false (held c w) 0 e, ap (λ (r : Called). r.world) f)

  -- anything else: there was none
  none_taken : (a : Told) → ((v : ℤ) → a ≡ value v → ⊥) → called a w' ≡ taken c w → held c w ≡ 0
  none_taken a other = go (eqb (held c w) 0) refl
    where
      go : (none : Bool) → eqb (held c w) 0 ≡ none → called a w' ≡ cond none (refuse (not (is_closed c w)) 12 w (called the_end (counting w))) message → held c w ≡ 0
      go true e f = eqb-true (held c w) 0 e
      go false e f = absurd (other (cell_at w (slot c (channel_of w.lane c) 0)) (ap (λ (r : Called). r.answer) f))

-- a channel that holds a message has a record
held_low : (c : ℕ) (hs : List Channel) → ((get_or hs c no_channel).held ≡ 0 → ⊥) → c < length hs
held_low c hs some = go (dec_lt c (length hs))
  where
    go : Dec (c < length hs) → c < length hs
    go (yes h) = h
    go (no h) = absurd (some (ap (λ (x : Channel). x.held) (get_or-eq_default hs no_channel {n = c} (omega arith))))

-- ---- one line
text_one : (l : Line) → text (l ∷ []) ≡ line_text l
text_one l = append-nil (line_text l)

-- ---- the loop over takes: those that are left, one more than the channel holds, follow what is written
pub record Draining (c : ℕ) (o₀ : Outputs) (l₀ : Listing) (o : Outputs) (l : Listing) : Type 0 where
  pub underway : Underway (takes_at c (suc (held c o₀.world)) o₀) l₀ (takes_at c (suc (held c o.world))) o l
  pub takeable : Takeable c o.world

pub draining_begins : {c : ℕ} {o : Outputs} {l : Listing} → Takeable c o.world → Room (takes_at c (suc (held c o.world)) o) l → Draining c o l o l
draining_begins {c} {o} {l} t room = record { underway = begun (takes_at c (suc (held c o.world))) o l room; takeable = t }

module _ {c : ℕ} {o₀ o : Outputs} {l₀ l : Listing} (d : Draining c o₀ l₀ o l) where
  take_is : (a : Told) (w' : World) → called a w' ≡ taken c o.world → take_at c o ≡ given_by c o.given (called a w')
  take_is a w' e =
      let t = d.takeable in
      ap (given_by c o.given) (take_there c o.world t.sound t.there t.long t.outer ∙ sym e)

  -- a message
  module _ (v : ℤ) (w' : World) (e : called (value v) w' ≡ taken c o.world) where
    fewer : suc (held c w') ≡ held c o.world
    fewer =
        let q = value_taken c o.world w' v e in
        let low = held_low c o.world.lane.channels q.0 in
        let h = ap (λ (w : World). held c w) q.1 ∙ ap (λ (x : Channel). x.held) (get_or-set_same o.world.lane.channels c (get_one (channel_of o.world.lane c)) no_channel low) in
        omega (arith, h, q.0)

    pub less_held : held c w' < held c o.world
    less_held = omega (arith, fewer)

    next_message : takes_at c (suc (held c o.world)) o ≡ then_do (printed (out c v ∷ []) (outputs w' o.given)) (takes_at c (suc (held c w')))
    next_message =
        ap (λ (k : ℕ). takes_at c (suc k) o) (sym fewer)
        ∙ ap (λ (r : Printed Outputs). then_do r (takes_at c (suc (held c w')))) (take_is (value v) w' e)

    pub room_for_message : HasRoom (line_text (out c v)) l
    room_for_message = rw (text_one (out c v)) at (room_for d.underway (printed (out c v ∷ []) (outputs w' o.given)) (takes_at c (suc (held c w'))) next_message)

    pub message_drained : {l' : Listing} → Wrote (line_text (out c v)) l l' → Draining c o₀ l₀ (outputs w' o.given) l'
    message_drained wrote =
        let t = d.takeable in
        let k = subst (λ (r : Called). Preserves o.world r.world) (take_there c o.world t.sound t.there t.long t.outer ∙ sym e) (take_kept o.world c) in
        record {
          underway =
              more d.underway (printed (out c v ∷ []) (outputs w' o.given)) (takes_at c (suc (held c w'))) next_message refl
              (rw (text_one (out c v)) wrote);
          takeable = record { long = k.cells ∙ t.long; sound = k.sound t.sound; there = rw k.network t.there; outer = rw k.network t.outer };
        }

  -- anything else: the last take
  module _ (a : Told) (w' : World) (other : (v : ℤ) → a ≡ value v → ⊥) (e : called a w' ≡ taken c o.world) where
    abbrev given : Printed Outputs
    given = given_by c o.given (called a w')

    last_take : takes_at c (suc (held c o.world)) o ≡ then_do given silent
    last_take =
        ap (λ (k : ℕ). takes_at c (suc k) o) (none_taken c o.world w' a other e)
        ∙ ap (λ (r : Printed Outputs). then_do r (takes_at c 0)) (take_is a w' e)

    room_for_last : HasRoom (text (line_for c a)) l
    room_for_last = room_for d.underway given silent last_take

    last_drained : {o' : Outputs} {l' : Listing} → o' ≡ given.after → Wrote (text (line_for c a)) l l' → Done (takes_at c (suc (held c o₀.world)) o₀) l₀ o' l'
    last_drained r w = done (more d.underway given silent last_take r w) refl

  -- the end
  module _ (w' : World) (e : called the_end w' ≡ taken c o.world) where
    pub room_for_end : HasRoom (line_text (end c)) l
    room_for_end = rw (text_one (end c)) at (room_for_last the_end w' (λ v f. cc) e)

    pub end_drained : {l' : Listing} → Wrote (line_text (end c)) l l' → Done (takes_at c (suc (held c o₀.world)) o₀) l₀ (outputs w' (set o.given c true)) l'
    end_drained w = last_drained the_end w' (λ v f. cc) e refl (rw (text_one (end c)) w)

  -- a refusal
  pub refused_drained : (k : ℕ) (w' : World) → called (refused k) w' ≡ taken c o.world → Done (takes_at c (suc (held c o₀.world)) o₀) l₀ (outputs w' o.given) l
  refused_drained k w' e = last_drained (refused k) w' (λ v f. cc) e refl (wrote_none l)
