-- What each instruction did and left, by the cases of its code, is the pick.
-- Assumes nothing.
use mathlib.Core.Path.{◌≡◌, refl, sym, ap, ◌∙◌}
use mathlib.Core.Bool.{Bool, true, false, cond, ◌&&◌}
use mathlib.Core.List.{List}
use Prim.Native.Nat.{ℕ, ◌+◌, ◌*◌, ◌≤◌, ◌<◌}
use native.Mathlib.Decide.{ℕ_discrete}
use borrow.Author.Tests.{eq-eqb, ne_eqb}
use lib.IntN.{ℤ, pos}
use lib.ListN.{length, get_or, set}
use lib.Seq.{set-get_or, get_or-set_same, get_or-set_other}
use Rattle.network.specs.declared.Instruction.{Instruction}
use Rattle.network.specs.Code.{register}
use Rattle.network.specs.Rules.{receiver_of}
use Rattle.arithmetic.specs.Wrap.{sum_of, difference_of, product_of}
use Rattle.arithmetic.specs.Quotient.{Quotient, value, faults, quotient_of, remainder_of}
use Rattle.process.specs.declared.Channel.{Channel}
use Rattle.process.specs.Channels.{no_channel, put_one, get_one, close_one, slot}
use Rattle.process.specs.Intent.{inner}
use Rattle.process.specs.Want.{register_of, assigned, signed16, is_null, is_negative, divided, branched, want_live}
use Rattle.process.specs.Execute.{execute}
use Rattle.process.proofs.Fields.{register_in, own_low, second, third, beyond}
use Rattle.lane.specs.declared.Lane.{Lane}
use Rattle.lane.specs.State.{World, world, process_of, ended_at, channel_of}
use Rattle.lane.specs.Pick.{channel_in}
use Rattle.register_steps.specs.declared.Did.{Did}
use Rattle.register_steps.specs.declared.Did.TheVariants.{On, To, WaitEmpty, WaitFull, Stop, Fault}
use Rattle.register_steps.specs.Divides.{did_by, file_by}
use Rattle.lent_steps.specs.Steps.{with_state, in_lane, SameEnds, At, Turned, TurnedAnywhere, Means, Ready}
use Rattle.lent_steps.proofs.Turns.{did_assign, did_on, did_send, did_jump, did_wait_empty, did_wait_full, did_stop, did_fault}

-- ---- the fields of an instruction
module _ {i : Instruction} {l : Lane} (k : Ready i l) where
  pub a_low : i.a < 8
  a_low = own_low k.count k.receives k.sends i k.right

  pub two : (t : Bool) → register i.a && register i.b && t ≡ true → (i.a < 8) × (i.b < 8)
  two t e = (a_low, second (register i.a) i.b t e)

  pub three : register i.a && register i.b && register i.c ≡ true → (i.a < 8) × (i.b < 8) × (i.c < 8)
  three e = (a_low, second (register i.a) i.b (register i.c) e, third (register i.a && register i.b) i.c e)

-- ---- 0 to 10
module _ {l : Lane} {p : ℕ} {i : Instruction} (at : At l p i) (cells : List ℤ) where
  pub stops : i.op ≡ 0 → Turned Stop p (world l cells) (world l cells)
  unfolding want_live execute
  stops o = did_stop at cells (rw o)

  pub beyond_faults : 14 ≤ i.op → Turned Fault p (world l cells) (world l cells)
  unfolding execute
  beyond_faults o = did_fault at cells (rw (beyond i (process_of l p) o))

  pub jumps : i.op ≡ 8 → Turned (To i.c) p (world l cells) (world l cells)
  unfolding want_live execute
  jumps o = did_jump at cells i.c (rw o)

  -- register a becomes v
  assigns : (v : ℤ) {r : Did} {file : List ℤ} → want_live i (process_of l p) ≡ inner (assigned i.a v (process_of l p)) → i.a < 8 → r ≡ On → file ≡ set l.registers (8 * p + i.a) v
      → Turned r p (world l cells) (world (with_state file l.channels l) cells)
  unfolding execute
  assigns v w a d f = rw d (did_assign at cells v (channel_of l (channel_in i)) (rw w) a f (sym (set-get_or l.channels (channel_in i) no_channel)))

  pub sets : {r : Did} {file : List ℤ} → i.op ≡ 1 → i.a < 8 → r ≡ On → file ≡ set l.registers (8 * p + i.a) (signed16 i.b i.c)
      → Turned r p (world l cells) (world (with_state file l.channels l) cells)
  unfolding want_live
  sets o a = assigns (signed16 i.b i.c) (rw o) a

  pub copies : {r : Did} {file : List ℤ} → i.op ≡ 2 → i.a < 8 → i.b < 8 → r ≡ On → file ≡ set l.registers (8 * p + i.a) (get_or l.registers (8 * p + i.b) (pos 0))
      → Turned r p (world l cells) (world (with_state file l.channels l) cells)
  unfolding want_live
  copies o a b = assigns (get_or l.registers (8 * p + i.b) (pos 0)) (rw (o, register_in l.registers (8 * p) i.b b)) a

  -- an operation on registers b and c
  pub adds : {r : Did} {file : List ℤ} → i.op ≡ 3 → i.a < 8 → i.b < 8 → i.c < 8 → r ≡ On
      → file ≡ set l.registers (8 * p + i.a) (sum_of (get_or l.registers (8 * p + i.b) (pos 0)) (get_or l.registers (8 * p + i.c) (pos 0)))
      → Turned r p (world l cells) (world (with_state file l.channels l) cells)
  unfolding want_live
  adds o a b c = assigns (sum_of (get_or l.registers (8 * p + i.b) (pos 0)) (get_or l.registers (8 * p + i.c) (pos 0))) (rw (o, register_in l.registers (8 * p) i.b b, register_in l.registers (8 * p) i.c c)) a

  pub subtracts : {r : Did} {file : List ℤ} → i.op ≡ 4 → i.a < 8 → i.b < 8 → i.c < 8 → r ≡ On
      → file ≡ set l.registers (8 * p + i.a) (difference_of (get_or l.registers (8 * p + i.b) (pos 0)) (get_or l.registers (8 * p + i.c) (pos 0)))
      → Turned r p (world l cells) (world (with_state file l.channels l) cells)
  unfolding want_live
  subtracts o a b c = assigns (difference_of (get_or l.registers (8 * p + i.b) (pos 0)) (get_or l.registers (8 * p + i.c) (pos 0))) (rw (o, register_in l.registers (8 * p) i.b b, register_in l.registers (8 * p) i.c c)) a

  pub multiplies : {r : Did} {file : List ℤ} → i.op ≡ 5 → i.a < 8 → i.b < 8 → i.c < 8 → r ≡ On
      → file ≡ set l.registers (8 * p + i.a) (product_of (get_or l.registers (8 * p + i.b) (pos 0)) (get_or l.registers (8 * p + i.c) (pos 0)))
      → Turned r p (world l cells) (world (with_state file l.channels l) cells)
  unfolding want_live
  multiplies o a b c = assigns (product_of (get_or l.registers (8 * p + i.b) (pos 0)) (get_or l.registers (8 * p + i.c) (pos 0))) (rw (o, register_in l.registers (8 * p) i.b b, register_in l.registers (8 * p) i.c c)) a

  -- a quotient or a remainder
  by_divided : (d : Quotient) {r : Did} {file : List ℤ} → want_live i (process_of l p) ≡ divided i.a d (process_of l p) → i.a < 8 → r ≡ did_by d → file ≡ file_by d (8 * p + i.a) l.registers
      → Turned r p (world l cells) (world (with_state file l.channels l) cells)
  unfolding execute
  by_divided (value v) w a d f = assigns v w a d f
  by_divided faults w a d f = rw (d, f) (did_fault at cells (rw w))

  pub divides : {r : Did} {file : List ℤ} → i.op ≡ 6 → i.a < 8 → i.b < 8 → i.c < 8
      → r ≡ did_by (quotient_of (get_or l.registers (8 * p + i.b) (pos 0)) (get_or l.registers (8 * p + i.c) (pos 0)))
      → file ≡ file_by (quotient_of (get_or l.registers (8 * p + i.b) (pos 0)) (get_or l.registers (8 * p + i.c) (pos 0))) (8 * p + i.a) l.registers
      → Turned r p (world l cells) (world (with_state file l.channels l) cells)
  unfolding want_live
  divides o a b c = by_divided (quotient_of (get_or l.registers (8 * p + i.b) (pos 0)) (get_or l.registers (8 * p + i.c) (pos 0))) (rw (o, register_in l.registers (8 * p) i.b b, register_in l.registers (8 * p) i.c c)) a

  pub remains : {r : Did} {file : List ℤ} → i.op ≡ 7 → i.a < 8 → i.b < 8 → i.c < 8
      → r ≡ did_by (remainder_of (get_or l.registers (8 * p + i.b) (pos 0)) (get_or l.registers (8 * p + i.c) (pos 0)))
      → file ≡ file_by (remainder_of (get_or l.registers (8 * p + i.b) (pos 0)) (get_or l.registers (8 * p + i.c) (pos 0))) (8 * p + i.a) l.registers
      → Turned r p (world l cells) (world (with_state file l.channels l) cells)
  unfolding want_live
  remains o a b c = by_divided (remainder_of (get_or l.registers (8 * p + i.b) (pos 0)) (get_or l.registers (8 * p + i.c) (pos 0))) (rw (o, register_in l.registers (8 * p) i.b b, register_in l.registers (8 * p) i.c c)) a

  -- a branch
  by_branch : (t : Bool) {r : Did} → want_live i (process_of l p) ≡ branched t i.c (process_of l p) → r ≡ cond t (To i.c) On → Turned r p (world l cells) (world l cells)
  unfolding execute
  by_branch true w d = rw d (did_jump at cells i.c (rw w))
  by_branch false w d = rw d (did_on at cells (channel_of l (channel_in i)) (rw w) (sym (set-get_or l.channels (channel_in i) no_channel)))

  pub jumps_zero : {r : Did} → i.op ≡ 9 → i.a < 8 → r ≡ cond (is_null (get_or l.registers (8 * p + i.a) (pos 0))) (To i.c) On → Turned r p (world l cells) (world l cells)
  unfolding want_live
  jumps_zero o a = by_branch (is_null (get_or l.registers (8 * p + i.a) (pos 0))) (rw (o, register_in l.registers (8 * p) i.a a))

  pub jumps_negative : {r : Did} → i.op ≡ 10 → i.a < 8 → r ≡ cond (is_negative (get_or l.registers (8 * p + i.a) (pos 0))) (To i.c) On → Turned r p (world l cells) (world l cells)
  unfolding want_live
  jumps_negative o a = by_branch (is_negative (get_or l.registers (8 * p + i.a) (pos 0))) (rw (o, register_in l.registers (8 * p) i.a a))

-- ---- 11 to 13: the channel c, whose record is h
module _ {l : Lane} {p : ℕ} {i : Instruction} (at : At l p i) (cells : List ℤ) {c : ℕ} (b : c ≡ channel_in i) {h : Channel} (e : h ≡ get_or l.channels c no_channel) where
  here : h ≡ channel_of l (channel_in i)
  here = rw b at e

  pub receive_end : i.op ≡ 11 → h.held ≡ 0 → h.closed ≡ true → Turned (To i.c) p (world l cells) (world l cells)
  unfolding want_live execute
  receive_end o z s = did_jump at cells i.c (rw (o, ← here, eq-eqb h.held 0 z, s))

  pub receive_empty : i.op ≡ 11 → h.held ≡ 0 → h.closed ≡ false → Turned WaitEmpty p (world l cells) (world l cells)
  unfolding want_live execute
  receive_empty o z s = did_wait_empty at cells (rw (o, ← here, eq-eqb h.held 0 z, s))

  pub receive_got :
      {file : List ℤ} {hs : List Channel} {k : Channel} → i.op ≡ 11 → (h.held ≡ 0 → ⊥) → i.a < 8
      → file ≡ set l.registers (8 * p + i.a) (get_or cells (slot c h 0) (pos 0))
      → k ≡ get_one h
      → hs ≡ set l.channels c k
      → Turned On p (world l cells) (world (with_state file hs l) cells)
  unfolding want_live execute
  receive_got o n a f m g = did_assign at cells (get_or cells (slot c h 0) (pos 0)) (get_one h) (rw (o, ← here, ne_eqb h.held 0 n, b)) a f (g ∙ rw (b, m))

  pub send_closed : i.op ≡ 12 → h.closed ≡ true → Turned Fault p (world l cells) (world l cells)
  unfolding want_live execute
  send_closed o s = did_fault at cells (rw (o, ← here, s))

  pub send_gone : i.op ≡ 12 → h.closed ≡ false → true ≡ ended_at l (receiver_of l.network (channel_in i)) → Turned On p (world l cells) (world l cells)
  unfolding want_live execute
  send_gone o s g = did_on at cells h (rw (o, ← here, s, ← g)) (rw here (sym (set-get_or l.channels (channel_in i) no_channel)))

  pub send_full : i.op ≡ 12 → h.closed ≡ false → false ≡ ended_at l (receiver_of l.network (channel_in i)) → h.held ≡ h.capacity → Turned WaitFull p (world l cells) (world l cells)
  unfolding want_live execute
  send_full o s g f = did_wait_full at cells (rw (o, ← here, s, ← g, eq-eqb h.held h.capacity f))

  pub send_put :
      {hs : List Channel} {cells' : List ℤ} {k : Channel} → i.op ≡ 12 → h.closed ≡ false → false ≡ ended_at l (receiver_of l.network (channel_in i)) → (h.held ≡ h.capacity → ⊥) → i.a < 8
      → k ≡ put_one h
      → hs ≡ set l.channels c k
      → cells' ≡ set cells (slot c h h.held) (get_or l.registers (8 * p + i.a) (pos 0))
      → Turned On p (world l cells) (world (with_state l.registers hs l) cells')
  unfolding want_live execute
  send_put o s g f a n k m =
      did_send at cells (register_of (process_of l p) i.a) (put_one h) (rw (o, ← here, s, ← g, ne_eqb h.held h.capacity f)) (k ∙ rw (b, n))
      (rw (← here, register_in l.registers (8 * p) i.a a, ← b) m)

  pub close_closed : i.op ≡ 13 → h.closed ≡ true → Turned Fault p (world l cells) (world l cells)
  unfolding want_live execute
  close_closed o s = did_fault at cells (rw (o, ← here, s))

  pub close_open : {hs : List Channel} {k : Channel} → i.op ≡ 13 → h.closed ≡ false → k ≡ close_one h → hs ≡ set l.channels c k → Turned On p (world l cells) (world (with_state l.registers hs l) cells)
  unfolding want_live execute
  close_open o s n g = did_on at cells (close_one h) (rw (o, ← here, s)) (g ∙ rw (b, n))

-- ---- whoever the process is
module _ {l : Lane} {p : ℕ} {i : Instruction} {r : Did} {cells : List ℤ} where
  -- registers alone
  pub on_registers : {file : List ℤ} → TurnedAnywhere i r p (world l cells) (world (with_state file l.channels l) cells) → Means i r p (world l cells) (world (with_state file l.channels l) cells)
  on_registers t = record { turned = t; network = refl; stays = refl; accepted = refl; capacities = λ c. refl }

  -- a channel, whose capacity stays, and perhaps a cell
  pub on_channel :
      (c : ℕ) (k : Channel) {file : List ℤ} {hs : List Channel} {cells' : List ℤ} → c < length l.channels → hs ≡ set l.channels c k → k.capacity ≡ (channel_of l c).capacity
      → TurnedAnywhere i r p (world l cells) (world (with_state file hs l) cells') → Means i r p (world l cells) (world (with_state file hs l) cells')
  on_channel c k low e same t =
      record { turned = t; network = refl; stays = refl; accepted = refl; capacities = λ d. rw e (go d (ℕ_discrete d c)) }
    where
      go : (d : ℕ) → Dec (d ≡ c) → (get_or (set l.channels c k) d no_channel).capacity ≡ (channel_of l d).capacity
      go d (yes q) = rw q (ap (λ (h : Channel). h.capacity) (get_or-set_same l.channels c k no_channel low) ∙ same)
      go d (no q) = ap (λ (h : Channel). h.capacity) (get_or-set_other l.channels c d k no_channel q)

-- the receiver of channel c has ended in each of these lanes, or in none
pub same_receiver : {l m : Lane} → SameEnds m l → (c : ℕ) → {gone : Bool} → gone ≡ ended_at l (receiver_of l.network c) → gone ≡ ended_at m (receiver_of m.network c)
same_receiver {l} {m} k c e = rw k.receivers (e ∙ sym (k.ended (receiver_of l.network c)))

-- the lent lane is one of them
pub turned_here : {i : Instruction} {r : Did} {p : ℕ} {w w' : World} → Means i r p w w' → At w.lane p i → Turned r p w w'
turned_here {i} {r} {p} {w} {w'} k at =
    let e : in_lane w.lane w' ≡ w' = rw (← k.network, ← k.stays, ← k.accepted) refl in
    let t = k.turned w.lane (record { receivers = refl; ended = λ q. refl }) at in
    rw e at t
