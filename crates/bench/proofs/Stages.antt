-- The lines of a bench in stages: all pick bytes, one after the other, and then the processes.
-- Assumes nothing.
use mathlib.Core.Path.{◌≡◌, refl, sym, ap, ◌∙◌}
use mathlib.Core.Bool.{Bool, true, false, cond}
use mathlib.Core.List.{List, append-nil}
use Prim.Native.Nat.{ℕ, ◌+◌, ◌≤◌, ◌<◌}
use native.Mathlib.Numerals.{add-one}
use native.Mathlib.Omega.{arith}
use lib.Dec.{eqb}
use lib.ListN.{length, get_or, drop, replicate, drop_of_length-le}
use lib.Seq.{drop-cons}
use Rattle.network.specs.declared.Network.{Network}
use Rattle.network.specs.Rules.{passes}
use Rattle.lane.specs.State.{World}
use Rattle.lane.specs.Pick.{pick_in}
use Rattle.lane.proofs.PickLaws.{pick_network}
use Rattle.relief.proofs.Enlarged.{relief_kept}
use Rattle.schedule.specs.Running.{relieves}
use Rattle.listing.specs.declared.Listing.{Listing}
use Rattle.listing.specs.Text.{Line, text}
use Rattle.listing.specs.Listing.{HasRoom, Wrote}
use Rattle.listing.specs.Written.{written}
use Rattle.bench_rules.specs.Printed.{Printed, printed, silent, then_do}
use Rattle.bench_rules.specs.Feeding.{inputs, feeds}
use Rattle.bench_rules.specs.Emptying.{outputs}
use Rattle.bench_rules.specs.Playing.{relieves_in, picks_in, Bench, plays_one, plays, proc_lines, start, lines_of}
use Rattle.bench_rules.specs.Holding.{Room, Done}
use Rattle.bench_rules.proofs.Fed.{feeds_kept}
use Rattle.bench_rules.proofs.EmptyingLaws.{empties_kept}
use Rattle.bench_rules.proofs.Fits.{listing_fits}
use Rattle.bench_rules.proofs.Underway.{Underway, begun, room_for, more, done, finished}
use Rattle.bench.specs.Bench.{input_wrong}
use Rattle.bench.proofs.Kept.{few_picks}

-- ---- a pick byte keeps the network
relieves_network : (w : World) → (relieves_in w).after.lane.network ≡ w.lane.network
unfolding relieves_in relieves
relieves_network w = (relief_kept w (replicate 16 0)).network

picks_network : (p : ℕ) (w : World) → (picks_in p w).after.lane.network ≡ w.lane.network
picks_network p w = at (eqb p 255)
  where
    at : (t : Bool) → (cond t (relieves_in w) (silent (pick_in p w))).after.lane.network ≡ w.lane.network
    at true = relieves_network w
    at false = pick_network p w

plays_one_network : (p : ℕ) (b : Bench) → (plays_one p b).after.world.lane.network ≡ b.world.lane.network
unfolding plays_one
plays_one_network p b =
    let i = feeds (inputs b.left b.world) in
    (empties_kept (outputs (picks_in p i.world).after b.given)).network ∙ picks_network p i.world ∙ (feeds_kept (inputs b.left b.world)).network

-- ---- all pick bytes: of those from b₀ on the first i are played
plays_next : (ps : List ℕ) (i : ℕ) (b : Bench) → i < length ps → plays (drop i ps) b ≡ then_do (plays_one (get_or ps i 0) b) (plays (drop (i + 1) ps))
plays_next ps i b h = rw (add-one i, drop-cons ps i 0 h)

pub record Played (picks : List ℕ) (b₀ : Bench) (l₀ : Listing) (i : ℕ) (b : Bench) (l : Listing) : Type 0 where
  pub underway : Underway (plays picks b₀) l₀ (plays (drop i picks)) b l
  pub network : b.world.lane.network ≡ b₀.world.lane.network

pub none_played : (picks : List ℕ) (b : Bench) {l : Listing} → Room (plays picks b) l → Played picks b l 0 b l
none_played picks b {l} room = record { underway = begun (plays picks) b l room; network = refl }

module _ {picks : List ℕ} {b₀ b : Bench} {l₀ l : Listing} {i : ℕ} (s : Played picks b₀ l₀ i b l) where
  module _ (h : i < length picks) where
    pub room_for_byte : Room (plays_one (get_or picks i 0) b) l
    room_for_byte = room_for s.underway (plays_one (get_or picks i 0) b) (plays (drop (i + 1) picks)) (plays_next picks i b h)

    pub one_played : {b' : Bench} {l' : Listing} → Done (plays_one (get_or picks i 0) b) l b' l' → Played picks b₀ l₀ (i + 1) b' l'
    one_played d =
        record {
          underway = more s.underway (plays_one (get_or picks i 0) b) (plays (drop (i + 1) picks)) (plays_next picks i b h) d.after d.wrote;
          network = ap (λ (x : Bench). x.world.lane.network) d.after ∙ plays_one_network (get_or picks i 0) b ∙ s.network;
        }

  pub all_played : length picks ≤ i → Done (plays picks b₀) l₀ b l
  all_played h = done s.underway (ap (λ (ps : List ℕ). plays ps b) (drop_of_length-le picks h))

-- ---- the whole listing: the lines of the pick bytes, then those of the processes
then_silent : {A : Type 0} (d : Printed A) → d ≡ then_do d silent
then_silent {A} d = ap (λ (ls : List Line). printed {A = A} ls d.after) (sym (append-nil d.lines))

abbrev last : Bench → Printed Bench
last b = printed (proc_lines b.world.lane 0 b.world.lane.network.processes) b

abbrev whole : List ℕ → Bench → Printed Bench
whole picks b = then_do (plays picks b) last

module _ (n : Network) (input picks : List ℕ) (pass : passes n ≡ true) (right : input_wrong n input picks ≡ false)
    {l₀ : Listing} (first : l₀.at ≡ 0) (long : 65536 ≤ length l₀.buffer.now) {b₀ : Bench} (fresh : b₀ ≡ start n input) where
  begins : Underway (whole picks b₀) l₀ (whole picks) b₀ l₀
  unfolding lines_of
  begins =
      let few : length (text (lines_of n input picks)) ≤ 57784 = listing_fits n input picks pass (few_picks n input picks right) in
      begun (whole picks) b₀ l₀ (rw fresh (record { fits = omega (arith, few, first, long) }))

  pub room_for_plays : Room (plays picks b₀) l₀
  room_for_plays = room_for begins (plays picks b₀) last refl

  module _ {b : Bench} {l : Listing} (d : Done (plays picks b₀) l₀ b l) where
    after_plays : Underway (whole picks b₀) l₀ last b l
    after_plays = more begins (plays picks b₀) last refl d.after d.wrote

    pub room_for_processes : HasRoom (text (proc_lines b.world.lane 0 b.world.lane.network.processes)) l
    room_for_processes = room_for after_plays (last b) silent (then_silent (last b))

    pub listed : {l' : Listing} → Wrote (text (proc_lines b.world.lane 0 b.world.lane.network.processes)) l l'
        → (l'.at ≡ length (text (lines_of n input picks))) × (l'.buffer.now ≡ written 0 (text (lines_of n input picks)) l₀.buffer.now) × (l'.buffer.ghost_name ≡ l₀.buffer.ghost_name)
    unfolding lines_of
    listed {l'} w =
        let u = more after_plays (last b) silent (then_silent (last b)) refl w in
        let f : Wrote (text (lines_of n input picks)) l₀ l' = rw fresh at ((finished u b refl).1) in
        (omega (arith, f.at, first), f.text ∙ ap (λ (k : ℕ). written k (text (lines_of n input picks)) l₀.buffer.now) first, f.same_buffer)
