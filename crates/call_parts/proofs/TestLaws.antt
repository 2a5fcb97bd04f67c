-- The tests of a call: what is left of the call after them, and what they have shown where all pass. The calls of crate `lane_calls` are `pick_of`,
-- `feed_of`, `close_of` and `take_of`, whose first tests these are.
-- Assumes nothing.
use mathlib.Core.Path.{◌≡◌, refl, sym, subst}
use mathlib.Core.Bool.{Bool, true, false, not}
use mathlib.Core.List.{List}
use Prim.Native.Nat.{ℕ, ◌<◌}
use borrow.Author.Tests.{ltb-true, eqb-true, not-false, eq-eqb, lt-ltb}
use native.Mathlib.Omega.{arith}
use lib.Dec.{T, eqb, ltb}
use lib.IntN.{ℤ}
use lib.ListN.{length, get_or}
use Rattle.std.specs.declared.result.Result.{Result}
use Rattle.std.specs.declared.result.Result.TheVariants.{Ok, Err}
use Rattle.base.specs.declared.Refusal.{Refusal}
use Rattle.base.specs.declared.Refusal.TheVariants.{Absent, Buffer, Inside, Unsound}
use Rattle.base.specs.Refusals.{number_of}
use Rattle.network.specs.Rules.{outside}
use Rattle.network.proofs.Passed.{passed}
use Rattle.lane.specs.declared.Lane.{Lane}
use Rattle.lane.specs.State.{World}
use Rattle.lane.specs.Sound.{sound_of}
use Rattle.lane.specs.Calls.{Called, refuse, picked, pick_of, receiver_inside, fed, feed_of, closed, close_of, taken, take_of}
use Rattle.lane.proofs.SoundLaws.{sound_says}
use Rattle.call_parts.specs.Tests.{outer, decided, refuse_with, opened, Opened, offered_to}

-- ---- one test
decide_with : (bad : Bool) (r : Refusal) (t : Result Unit Refusal) (w : World) (next : Called)
    → decided (refuse_with bad r t) w next ≡ refuse bad (number_of r) w (decided t w next)
decide_with true r t w next = refl
decide_with false r t w next = refl

abbrev is_passed : Result Unit Refusal → Bool
is_passed (Ok u) = true
is_passed (Err r) = false

pass_with : (bad : Bool) (r : Refusal) (t : Result Unit Refusal) → refuse_with bad r t ≡ Ok tt → (bad ≡ false) × (t ≡ Ok tt)
pass_with true r t e = absurd (subst (λ (t : Result Unit Refusal). T (is_passed t)) (sym e) tt)
pass_with false r t e = (refl, e)

-- ---- 15, 16, 8
-- where they pass, this is so
pub opened_says : (cells : ℕ) (l : Lane) (number count : ℕ) → opened cells l number count ≡ Ok tt → Opened cells l number count
unfolding opened
opened_says cells l number count e =
    let a = pass_with (not (eqb cells 8192)) Buffer _ e in
    let b = pass_with (not (sound_of l)) Unsound _ a.1 in
    let d = pass_with (not (ltb number count)) Absent _ b.1 in
    record { long = eqb-true _ _ (not-false _ a.0); sound = not-false _ b.0; there = ltb-true _ _ (not-false _ d.0) }

-- what they leave of a call: its refusal with the first that is bad, or what follows
pub decide_opened : (cells : ℕ) (l : Lane) (number count : ℕ) (w : World) (next : Called)
    → decided (opened cells l number count) w next ≡ refuse (not (eqb cells 8192)) 15 w (refuse (not (sound_of l)) 16 w (refuse (not (ltb number count)) 8 w next))
unfolding opened
decide_opened cells l number count w next =
    rw (decide_with (not (eqb cells 8192)) Buffer _ w next, decide_with (not (sound_of l)) Unsound _ w next, decide_with (not (ltb number count)) Absent _ w next)

-- where this is so, they pass
pub says_opened : {cells : ℕ} {l : Lane} {number count : ℕ} → Opened cells l number count → opened cells l number count ≡ Ok tt
unfolding opened
says_opened {cells} {l} {number} {count} o = rw (eq-eqb cells 8192 o.long, o.sound, lt-ltb number count o.there)

-- ---- 8 and 9, as `call_parts::outer` answers them
module _ (c channels : ℕ) (ends : List ℕ) where
  -- what they leave of a call
  pub decide_outer : (w : World) (next : Called)
      → decided (outer c channels ends) w next ≡ refuse (not (ltb c channels)) 8 w (refuse (not (eqb (get_or ends c 0) outside)) 9 w next)
  decide_outer w next =
      rw (decide_with (not (ltb c channels)) Absent (refuse_with (not (eqb (get_or ends c 0) outside)) Inside (Ok tt)) w next, decide_with (not (eqb (get_or ends c 0) outside)) Inside (Ok tt) w next)

  -- where the channel is there and its end outside, they pass
  pub says_outer : c < channels → get_or ends c 0 ≡ outside → outer c channels ends ≡ Ok tt
  says_outer h e = rw (lt-ltb c channels h, eq-eqb _ _ e)

-- the first three and 9 are 15 of the cells, 16 of the lane, and `outer`
pub opened_outer : (cells : ℕ) (l : Lane) (c : ℕ) (ends : List ℕ) (w : World) (next : Called)
    → decided (opened cells l c l.network.channels) w (refuse (not (eqb (get_or ends c 0) outside)) 9 w next)
    ≡ refuse (not (eqb cells 8192)) 15 w (refuse (not (sound_of l)) 16 w (decided (outer c l.network.channels ends) w next))
opened_outer cells l c ends w next = rw (decide_opened, decide_outer)

-- ---- the calls after their first tests: each is `opened` of what it is called with, and then the rest
pub pick_opened : (p : ℕ) (w : World) → pick_of p w ≡ decided (opened (length w.cells) w.lane p w.lane.network.processes) w (picked p w)
unfolding pick_of
pick_opened p w = rw decide_opened

module _ (c : ℕ) (w : World) where
  pub feed_opened : (v : ℤ) → feed_of c v w ≡ decided (opened (length w.cells) w.lane c w.lane.network.channels) w (offered_to c w (fed c v w))
  unfolding feed_of
  feed_opened v = rw decide_opened

  -- no cells are lent to a closing: as if they were 8,192
  pub close_opened : close_of c w ≡ decided (opened 8192 w.lane c w.lane.network.channels) w (offered_to c w (closed c w))
  unfolding close_of
  close_opened = rw decide_opened

  pub take_opened : take_of c w ≡ decided (opened (length w.cells) w.lane c w.lane.network.channels) w (refuse (receiver_inside c w) 9 w (taken c w))
  unfolding take_of
  take_opened = rw decide_opened

-- ---- what a sound lane has at a process and at a channel that is there
pub process_below : {cells : ℕ} {l : Lane} {p : ℕ} → Opened cells l p l.network.processes → p < 16
process_below {cells} {l} {p} o = omega (arith, o.there, (passed l.network (sound_says l o.sound).passed).processes_high)

pub below : {cells : ℕ} {l : Lane} {c : ℕ} → Opened cells l c l.network.channels → c < 32
below {cells} {l} {c} o = omega (arith, o.there, (passed l.network (sound_says l o.sound).passed).channels_high)
