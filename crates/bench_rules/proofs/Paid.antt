-- What a listing costs. A message that is held for the outside has 19 bytes put by for its line, an end not yet given 7; with that each line is paid
-- for when it is printed, and a pick byte brings in 19 at most.
-- Assumes nothing.
use mathlib.Core.Path.{◌≡◌, refl, ◌∙◌}
use mathlib.Core.Bool.{Bool, true, false, cond}
use mathlib.Core.List.{List, [], ◌∷◌, ◌++◌}
use Prim.Native.Nat.{ℕ, zero, suc, ◌+◌, ◌*◌, ◌≤◌, ◌<◌}
use native.Mathlib.Omega.{arith}
use lib.Dec.{eqb}
use lib.IntN.{ℤ}
use lib.ListN.{length, get_or, set, replicate, length-append, length-set}
use Rattle.network.specs.Rules.{receiver_of, outside}
use Rattle.network.proofs.Passed.{passed}
use Rattle.process.specs.declared.Channel.{Channel}
use Rattle.process.specs.Channels.{no_channel, get_one}
use Rattle.lane.specs.State.{world, channel_of, put_channel}
use Rattle.lane.specs.Calls.{Called, counting}
use Rattle.lane.proofs.SoundLaws.{sound_says}
use Rattle.lane.proofs.Keeps.{after_set}
use Rattle.lane.proofs.CallCases.{Takeable, take_cases}
use Rattle.listing.specs.Text.{Line, out, end, line_text, text}
use Rattle.listing.proofs.Laws.{text_append}
use Rattle.listing.proofs.Lengths.{out_short, end_short}
use Rattle.bench_rules.specs.Printed.{Printed, printed, silent, then_do}
use Rattle.bench_rules.specs.Emptying.{line_for, is_end, Outputs, outputs, take_at, takes_at, empties_at, empties_from, empties}
use Rattle.bench_rules.proofs.Held.{held_out, taken_held}

-- ---- the ends that were not given yet
pub ungiven : List Bool → ℕ
ungiven [] = 0
ungiven (t ∷ ts) = cond t 0 1 + ungiven ts

-- none given
pub given_none : (k : ℕ) → ungiven (replicate k false) ≡ k
unfolding ungiven
given_none zero = refl
given_none (suc k) = omega (arith, given_none k)

-- one given
given_set : (given : List Bool) (c : ℕ) → c < length given → get_or given c false ≡ false → ungiven (set given c true) + 1 ≡ ungiven given
unfolding ungiven
given_set [] c h e = absurd (omega arith)
given_set (t ∷ ts) zero h e = rw e (omega arith)
given_set (t ∷ ts) (suc c) h e = let s = given_set ts c (omega arith) e in omega arith

-- ---- the account
-- what is put by
abbrev pub worth : Outputs → ℕ
worth o = 19 * held_out o.world.lane + 7 * ungiven o.given

-- from o to o' these lines were printed, and so many pick bytes played
pub record Paid (bytes : ℕ) (lines : List Line) (o o' : Outputs) : Type 0 where
  pub network : o'.world.lane.network ≡ o.world.lane.network
  pub places : length o'.given ≡ length o.given
  pub paid : length (text lines) + worth o' ≤ worth o + 19 * bytes

pub paid_none : (o : Outputs) → Paid 0 [] o o
paid_none o = record { network = refl; places = refl; paid = omega arith }

pub paid_then : {a b : ℕ} {ls ms : List Line} {o o' o'' : Outputs} → Paid a ls o o' → Paid b ms o' o'' → Paid (a + b) (ls ++ ms) o o''
paid_then {ls = ls} {ms = ms} x y =
    record {
      network = y.network ∙ x.network;
      places = y.places ∙ x.places;
      paid = rw (text_append ls ms, length-append (text ls) (text ms)) (omega (arith, x.paid, y.paid));
    }

-- one line
pub line_long : (l : Line) (k : ℕ) → length (line_text l) ≤ k → length (text (l ∷ [])) ≤ k
line_long l k h = omega (arith, length-append (line_text l) [])

-- ---- a take by cases: nothing, the end of an empty channel, or a message
take_by :
    (P : Printed Outputs → Type 0) (c : ℕ) (o : Outputs)
    → P (silent o)
    → (Takeable c o.world → (channel_of o.world.lane c).held ≡ 0 → P (printed (end c ∷ []) (outputs (counting o.world) (set o.given c true))))
    → (Takeable c o.world → ((channel_of o.world.lane c).held ≡ 0 → ⊥) → (v : ℤ)
    → P
    (printed (out c v ∷ [])
    (outputs (counting (world (put_channel c (get_one (channel_of o.world.lane c)) o.world.lane) o.world.cells)) o.given)))
    → P (take_at c o)
take_by P c o none over done =
    take_cases
    (λ (r : Called). P (printed (line_for c r.answer) (outputs r.world (cond (is_end r.answer) (set o.given c true) o.given))))
    o.world (λ k. none) c (λ t e f. over t e) (λ t n. done t n _)

-- ---- takes from one channel whose end was not given: at most one more than it holds
module _ (c : ℕ) (o : Outputs) (t : Takeable c o.world) where
  -- the end
  end_paid : length o.given ≡ 32 → get_or o.given c false ≡ false → Paid 0 (end c ∷ []) o (outputs (counting o.world) (set o.given c true))
  end_paid long e =
      let high = (passed _ (sound_says o.world.lane t.sound).passed).channels_high in
      let g = given_set o.given c (omega (arith, t.there)) e in
      record { network = refl; places = length-set o.given c true; paid = omega (arith, line_long (end c) 7 (end_short c)) }

  -- a message
  out_paid : ((channel_of o.world.lane c).held ≡ 0 → ⊥) → (v : ℤ)
      → Paid 0 (out c v ∷ []) o (outputs (counting (world (put_channel c (get_one (channel_of o.world.lane c)) o.world.lane) o.world.cells)) o.given)
  out_paid n v = record { network = refl; places = refl; paid = omega (arith, line_long (out c v) 19 (out_short c v), taken_held c o.world.lane t.outer n) }

takes_none : (c k : ℕ) (o : Outputs) → k ≡ 0 → takes_at c k o ≡ silent o
takes_none c k o e = rw e

takes_paid : (c k : ℕ) (o : Outputs) → k ≤ suc (channel_of o.world.lane c).held → length o.given ≡ 32 → get_or o.given c false ≡ false → Paid 0 (takes_at c k o).lines o (takes_at c k o).after
takes_paid c zero o h long e = paid_none o
takes_paid c (suc k) o h long e =
    take_by (λ (d : Printed Outputs). Paid 0 (then_do d (takes_at c k)).lines o (then_do d (takes_at c k)).after) c o
    (takes_paid c k o (omega arith) long e)
    (λ t z. rw (takes_none c k (outputs (counting o.world) (set o.given c true)) (omega arith)) (end_paid c o t long e))
    (λ t n v. paid_then (out_paid c o t n v)
    (takes_paid c k _
    (after_set (λ (g : Channel). k ≤ suc g.held) o.world.lane.channels c c (get_one (channel_of o.world.lane c)) no_channel (λ q. omega arith) (omega arith))
    long e))

-- ---- one channel, and all
empties_at_paid : (c : ℕ) (o : Outputs) → length o.given ≡ 32 → Paid 0 (empties_at c o).lines o (empties_at c o).after
unfolding empties_at
empties_at_paid c o long = at (eqb (receiver_of o.world.lane.network c) outside) (get_or o.given c false) refl
  where
    takes : Printed Outputs
    takes = takes_at c (suc (channel_of o.world.lane c).held) o

    at : (t g : Bool) → get_or o.given c false ≡ g → Paid 0 (cond t (cond g (silent o) takes) (silent o)).lines o (cond t (cond g (silent o) takes) (silent o)).after
    at true true e = paid_none o
    at true false e = takes_paid c (suc (channel_of o.world.lane c).held) o (omega arith) long e
    at false g e = paid_none o

empties_from_paid : (c k : ℕ) (o : Outputs) → length o.given ≡ 32 → Paid 0 (empties_from c k o).lines o (empties_from c k o).after
empties_from_paid c zero o long = paid_none o
empties_from_paid c (suc k) o long =
    let p = empties_at_paid c o long in
    paid_then p (empties_from_paid (suc c) k (empties_at c o).after (p.places ∙ long))

pub empties_paid : (o : Outputs) → length o.given ≡ 32 → Paid 0 (empties o).lines o (empties o).after
unfolding empties
empties_paid o long = empties_from_paid 0 o.world.lane.network.channels o long
