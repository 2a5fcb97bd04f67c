-- A bench listing fits: with at most 3,000 pick bytes it has at most 3,000 × 19 + 32 × 7 + 16 × 35 = 57,784 bytes, whatever the input and the picks.
-- Assumes nothing.
use mathlib.Core.Path.{◌≡◌, refl, ◌∙◌}
use mathlib.Core.Bool.{Bool, true, false, cond}
use mathlib.Core.List.{List, [], ◌∷◌}
use Prim.Native.Nat.{ℕ, zero, suc, ◌+◌, ◌*◌, ◌≤◌}
use native.Mathlib.Omega.{arith}
use lib.Dec.{eqb}
use lib.IntN.{ℤ}
use lib.ListN.{length, get_or, replicate, length-append}
use Rattle.network.specs.declared.Network.{Network}
use Rattle.network.specs.Rules.{sender_of, outside, passes}
use Rattle.network.proofs.Passed.{passed}
use Rattle.lane.specs.declared.Lane.{Lane}
use Rattle.lane.specs.State.{World, world, channel_of, standing_of, fresh_of}
use Rattle.lane.specs.Pick.{pick_in}
use Rattle.lane.specs.Calls.{feed_of}
use Rattle.lane.proofs.PickLaws.{pick_network}
use Rattle.lane.proofs.CallLaws.{feed_kept, close_kept}
use Rattle.relief.specs.Relief.{Relief, grown}
use Rattle.relief.proofs.Enlarged.{relief_cases}
use Rattle.schedule.specs.Running.{relieves}
use Rattle.listing.specs.Text.{Line, grow, proc, line_text, text}
use Rattle.listing.proofs.Laws.{text_append}
use Rattle.listing.proofs.Lengths.{grow_short, proc_short}
use Rattle.bench_rules.specs.Printed.{Printed, silent}
use Rattle.bench_rules.specs.Feeding.{is_accepted, fed, feeding, Inputs, inputs, put, feeds_at, feeds_from, feeds}
use Rattle.bench_rules.specs.Emptying.{Outputs, outputs}
use Rattle.bench_rules.specs.Playing.{grow_lines, relieves_in, picks_in, Bench, plays_one, plays, status_of, proc_lines, start, lines_of}
use Rattle.bench_rules.proofs.Held.{held_out, fresh_held, pick_held, feed_held, close_held, grown_held}
use Rattle.bench_rules.proofs.Paid.{given_none, worth, Paid, paid_none, paid_then, line_long, empties_paid}

-- ---- feeding: the channels to the outside hold no more than before
record NoMore (w w' : World) : Type 0 where
  network : w'.lane.network ≡ w.lane.network
  held : held_out w'.lane ≤ held_out w.lane

no_more : (w : World) → NoMore w w
no_more w = record { network = refl; held = omega arith }

no_more_then : {w w' w'' : World} → NoMore w w' → NoMore w' w'' → NoMore w w''
no_more_then x y = record { network = y.network ∙ x.network; held = omega (arith, x.held, y.held) }

feeding_held : (c : ℕ) (vs : List ℤ) (w : World) → NoMore w (feeding c vs w).world
feeding_held c [] w = record { network = (close_kept w c).network; held = close_held c w }
feeding_held c (v ∷ vs) w =
    at (is_accepted (feed_of c v w).answer)
    (no_more_then (record { network = (feed_kept w c v).network; held = feed_held c v w }) (feeding_held c vs (feed_of c v w).world))
  where
    at : (t : Bool) → NoMore w (feeding c vs (feed_of c v w).world).world → NoMore w (cond t (feeding c vs (feed_of c v w).world) (fed (v ∷ vs) w)).world
    at true s = s
    at false s = no_more w

feeds_at_held : (c : ℕ) (i : Inputs) → NoMore i.world (feeds_at c i).world
unfolding feeds_at
feeds_at_held c i = at (eqb (sender_of i.world.lane.network c) outside)
  where
    at : (t : Bool) → NoMore i.world (cond t (put c (feeding c (get_or i.left c []) i.world) i.left) i).world
    at true = feeding_held c (get_or i.left c []) i.world
    at false = no_more i.world

feeds_from_held : (c k : ℕ) (i : Inputs) → NoMore i.world (feeds_from c k i).world
feeds_from_held c zero i = no_more i.world
feeds_from_held c (suc k) i = no_more_then (feeds_at_held c i) (feeds_from_held (suc c) k (feeds_at c i))

feeds_held : (i : Inputs) → NoMore i.world (feeds i).world
unfolding feeds
feeds_held i = feeds_from_held 0 i.world.lane.network.channels i

-- ---- a pick byte: a relief prints one line at most, a pick none
relieves_paid : (w : World) (given : List Bool) → Paid 1 (relieves_in w).lines (outputs w given) (outputs (relieves_in w).after given)
unfolding relieves_in relieves
relieves_paid w given =
    relief_cases
    (λ (r : Relief). Paid 1 (grow_lines r.answer r.lane) (outputs w given) (outputs (world r.lane w.cells) given))
    w.lane
    (replicate 16 0)
    (λ k. record { network = refl; places = refl; paid = omega arith })
    (λ ring c buffer s e.
    record {
      network = refl;
      places = refl;
      paid = omega (arith, line_long (grow c (channel_of (grown c w.lane) c).capacity) 12 (grow_short c _), grown_held c w.lane);
    })

picks_paid : (p : ℕ) (w : World) (given : List Bool) → Paid 1 (picks_in p w).lines (outputs w given) (outputs (picks_in p w).after given)
picks_paid p w given = at (eqb p 255)
  where
    at : (t : Bool) → Paid 1 (cond t (relieves_in w) (silent (pick_in p w))).lines (outputs w given) (outputs (cond t (relieves_in w) (silent (pick_in p w))).after given)
    at true = relieves_paid w given
    at false = record { network = pick_network p w; places = refl; paid = omega (arith, pick_held p w) }

-- ---- a pick byte with what comes before and after it, and all of them
abbrev holding : Bench → Outputs
holding b = outputs b.world b.given

feeds_paid : (i : Inputs) (given : List Bool) → Paid 0 [] (outputs i.world given) (outputs (feeds i).world given)
feeds_paid i given = let s = feeds_held i in record { network = s.network; places = refl; paid = omega (arith, s.held) }

plays_one_paid : (p : ℕ) (b : Bench) → length b.given ≡ 32 → Paid 1 (plays_one p b).lines (holding b) (holding (plays_one p b).after)
unfolding plays_one
plays_one_paid p b long =
    let i : Inputs = feeds (inputs b.left b.world) in
    let picked = picks_paid p i.world b.given in
    let emptied = empties_paid (outputs (picks_in p i.world).after b.given) long in
    paid_then (feeds_paid (inputs b.left b.world) b.given) (paid_then (paid_then picked emptied) (paid_none _))

plays_paid : (ps : List ℕ) (b : Bench) → length b.given ≡ 32 → Paid (length ps) (plays ps b).lines (holding b) (holding (plays ps b).after)
plays_paid [] b long = paid_none (holding b)
plays_paid (p ∷ ps) b long =
    let s = plays_one_paid p b long in
    let e : 1 + length ps ≡ suc (length ps) = omega arith in
    rw e at (paid_then s (plays_paid ps (plays_one p b).after (s.places ∙ long)))

-- ---- the lines at the end
proc_lines_short : (l : Lane) (p k : ℕ) → length (text (proc_lines l p k)) ≤ 35 * k
proc_lines_short l p zero = omega arith
proc_lines_short l p (suc k) =
    let line : Line = proc p (status_of l p) (standing_of l p).moves in
    omega (arith, length-append (line_text line) (text (proc_lines l (suc p) k)), proc_short p (status_of l p) (standing_of l p).moves, proc_lines_short l (suc p) k)

-- ---- the start: nothing held, no end given
start_worth : (n : Network) (input : List ℕ) → worth (holding (start n input)) ≡ 224
unfolding start
start_worth n input = omega (arith, fresh_held n, given_none 32)

start_given : (n : Network) (input : List ℕ) → length (start n input).given ≡ 32
unfolding start
start_given n input = refl

start_network : (n : Network) (input : List ℕ) → (start n input).world.lane.network ≡ n
unfolding start fresh_of
start_network n input = refl

-- ---- the listing
-- the lines of the pick bytes
pub plays_fit : (n : Network) (input picks : List ℕ) → length picks ≤ 3000 → length (text (plays picks (start n input)).lines) ≤ 57224
plays_fit n input picks h = omega (arith, (plays_paid picks (start n input) (start_given n input)).paid, start_worth n input)

-- with the lines at the end
pub listing_fits : (n : Network) (input picks : List ℕ) → passes n ≡ true → length picks ≤ 3000 → length (text (lines_of n input picks)) ≤ 57784
unfolding lines_of
listing_fits n input picks e h =
    let b : Bench = start n input in
    let d : Printed Bench = plays picks b in
    let l : Lane = d.after.world.lane in
    let same : l.network ≡ n = (plays_paid picks b (start_given n input)).network ∙ start_network n input in
    let few : l.network.processes ≤ 16 = rw same (passed n e).processes_high in
    let last = proc_lines_short l 0 l.network.processes in
    rw (text_append d.lines (proc_lines l 0 l.network.processes), length-append (text d.lines) (text (proc_lines l 0 l.network.processes)))
    (omega (arith, plays_fit n input picks h, last, few))
