-- A lane on its way, through steps of every kind: it stands for a history that is on the way, and its capacities have grown by as many as reliefs
-- enlarged, none of them beyond what the plain order sends on the channel from inside.
-- Assumes nothing.
use mathlib.Core.Path.{◌≡◌, refl, ◌∙◌, subst}
use mathlib.Core.Bool.{Bool, true, false, cond}
use mathlib.Core.List.{List, [], ◌∷◌, ◌++◌}
use Prim.Native.Nat.{ℕ, ◌+◌, ◌≤◌, ◌<◌}
use native.Mathlib.Decide.{ℕ_discrete}
use native.Mathlib.Omega.{arith}
use lib.Dec.{ltb}
use lib.IntN.{ℤ}
use lib.ListN.{length, drop}
use Rattle.network.specs.Rules.{capacity_of}
use Rattle.network.proofs.Passed.{passed}
use Rattle.process.specs.Process.{Process}
use Rattle.lane.specs.State.{World, world, channel_of}
use Rattle.rings.specs.Rings.{Found, no_ring, ceiling, found}
use Rattle.relief.specs.Relief.{Relief, relief, enlarged, refused, found_in, larger, grown, settled, relieve_of}
use Rattle.kahn.specs.Calls.{pick, feed, close, take, relieve, relieved, apply, count_one}
use Rattle.kahn.specs.Steps.{Step, call, inner_relief, enlarged_by, is_found, relieved_lane, enlarges, after_step, taken_at, moved_at, grown_at, was_enlarged, after, moved_in, grown_in}
use Rattle.kahn.specs.Boards.{board, Fair}
use Rattle.kahn.proofs.Unbounded.{State, empty, happens, Legal}
use Rattle.kahn.proofs.Determined.{fed_start}
use Rattle.kahn.proofs.Events.{Stands, happens_append}
use Rattle.kahn.proofs.History.{events_at, history, stands_step, counts_step}
use Rattle.kahn.proofs.Lawful.{fair_legal}
use Rattle.kahn.proofs.Theorem.{stands_fresh}
use Rattle.picks_needed.specs.Totals.{total_of}
use Rattle.picks_needed.specs.Theorem.{sent_inside}
use Rattle.picks_needed.proofs.Adding.{total_same, total_below, total_both, total_more, total_none}
use Rattle.picks_needed.proofs.Capacities.{call_capacity, larger_same, larger_other, fresh_capacity}
use Rattle.picks_needed.proofs.Task.{Task, net, Going, going_within, Went, goes}
use Rattle.picks_needed.proofs.Short.{Short, found_short}

module _ (t : Task) where
  open t use {n, pass, input, s, N, G, fin, ends}

  -- ---- the capacities, with so many enlargements made
  pub record Capacities (w : World) (made : ℕ) : Type 0 where
    pub low : (c : ℕ) → c < n.channels → capacity_of n c ≤ (channel_of w.lane c).capacity
    pub high : (c : ℕ) → c < n.channels → (channel_of w.lane c).capacity ≤ capacity_of n c + sent_inside n s c
    pub sum : total_of (λ c. (channel_of w.lane c).capacity) n.channels ≡ total_of (capacity_of n) n.channels + made

  -- no more enlargements than messages sent from inside
  capacities_within : (w : World) (made : ℕ) → Capacities w made → made ≤ G
  capacities_within w made k =
      omega (
        arith,
        k.sum,
        total_below (λ c. (channel_of w.lane c).capacity) (λ c. capacity_of n c + sent_inside n s c) n.channels k.high,
        total_both (capacity_of n) (sent_inside n s) n.channels,
        fin.messages,
      )

  same : (w w' : World) (made made' : ℕ) → ((c : ℕ) → (channel_of w'.lane c).capacity ≡ (channel_of w.lane c).capacity) → made' ≡ made
      → Capacities w made → Capacities w' made'
  same w w' made made' e z k =
      record {
        low = λ c l. omega (arith, e c, k.low c l);
        high = λ c l. omega (arith, e c, k.high c l);
        sum = total_same (λ c. (channel_of w'.lane c).capacity) (λ c. (channel_of w.lane c).capacity) n.channels (λ c l. e c) ∙ omega (arith, k.sum);
      }

  -- a channel grows
  enlarge : (w : World) (made : ℕ) → length w.lane.channels ≡ 32 → (c : ℕ) → Short t w c → Capacities w made → Capacities (world (larger c w.lane) w.cells) (made + 1)
  enlarge w made many c b k =
      record {
        low = λ d l. lower d l (ℕ_discrete d c);
        high = λ d l. higher d l (ℕ_discrete d c);
        sum = total_more (λ d. (channel_of w.lane d).capacity) (λ d. (channel_of (larger c w.lane) d).capacity) n.channels c b.there here (larger_other c w.lane)
            ∙ omega (arith, k.sum);
      }
    where
      here : (channel_of (larger c w.lane) c).capacity ≡ (channel_of w.lane c).capacity + 1
      here = larger_same c w.lane (omega (arith, many, b.there, (passed n pass).channels_high))

      lower : (d : ℕ) → d < n.channels → Dec (d ≡ c) → capacity_of n d ≤ (channel_of (larger c w.lane) d).capacity
      lower d l (yes e) = rw e (omega (arith, here, k.low c b.there))
      lower d l (no m) = omega (arith, larger_other c w.lane d m, k.low d l)

      higher : (d : ℕ) → d < n.channels → Dec (d ≡ c) → (channel_of (larger c w.lane) d).capacity ≤ capacity_of n d + sent_inside n s d
      higher d l (yes e) = rw e (omega (arith, here, b.more))
      higher d l (no m) = omega (arith, larger_other c w.lane d m, k.high d l)

  -- ---- a lane on its way, so much of the input left, so many moves and enlargements made
  pub record Along (w : World) (H : State Process ℤ) (left : ℕ → List ℤ) (moved made : ℕ) : Type 0 where
    pub out : ℕ → List ℤ
    pub stands : Stands n pass w H out
    pub going : Going t left H moved
    pub capacities : Capacities w made

  module _ (w : World) (H : State Process ℤ) (left : ℕ → List ℤ) (moved made : ℕ) (a : Along w H left moved made) where
    pub moves_within : moved ≤ N
    moves_within = going_within t left H moved a.going

    pub made_within : made ≤ G
    made_within = capacities_within w made a.capacities

    -- ---- what a step makes of the capacities
    stays : (made' : ℕ) → made' ≡ made → Capacities w made'
    stays made' e = same w w made made' (λ c. refl) e a.capacities

    grows : (ring : List ℕ) (c : ℕ) → found_in w.lane ≡ found ring c → Capacities (world (larger c w.lane) w.cells) (made + 1)
    grows ring c e = enlarge w made a.stands.related.many_channels c (found_short t w H a.out a.stands a.going.way ring c e) a.capacities

    abbrev Leaves : Relief → Type 0
    Leaves r = Capacities (world r.lane w.cells) (made + count_one (was_enlarged (relieved r.answer r.ring)))

    called_relief : (buffer : List ℕ) → Leaves (relieve_of w.lane buffer)
    unfolding relieve_of
    called_relief buffer = rw a.stands.sound (by (found_in w.lane) refl)
      where
        room : (b : Bool) (ring : List ℕ) (c : ℕ) → found_in w.lane ≡ found ring c
            → Leaves (cond b (relief (refused 15) w.lane buffer) (relief (enlarged (length ring) c) (grown c w.lane) (ring ++ drop (length ring) buffer)))
        room true ring c e = stays _ (omega arith)
        room false ring c e = same (world (larger c w.lane) w.cells) _ (made + 1) _ (λ d. refl) refl (grows ring c e)

        by : (o : Found) → found_in w.lane ≡ o → Leaves (settled o w.lane buffer)
        by no_ring e = stays _ (omega arith)
        by ceiling e = stays _ (omega arith)
        by (found ring c) e = room (ltb (length buffer) (length ring)) ring c e

    inner_relief_lem : Capacities (world (relieved_lane w.lane) w.cells) (made + count_one (enlarges w.lane))
    unfolding relieved_lane enlarges
    inner_relief_lem = rw a.stands.sound (by (found_in w.lane) refl)
      where
        by : (o : Found) → found_in w.lane ≡ o → Capacities (world (enlarged_by o w.lane) w.cells) (made + count_one (is_found o))
        by no_ring e = stays _ (omega arith)
        by ceiling e = stays _ (omega arith)
        by (found ring c) e = same (world (larger c w.lane) w.cells) _ (made + 1) _ (λ d. refl) refl (grows ring c e)

    next : (k : Step) → Capacities (after_step k w) (made + grown_at k w)
    unfolding apply
    next (call (pick p)) = same w _ made _ (call_capacity (pick p) refl w) (omega arith) a.capacities
    next (call (feed c v)) = same w _ made _ (call_capacity (feed c v) refl w) (omega arith) a.capacities
    next (call (close c)) = same w _ made _ (call_capacity (close c) refl w) (omega arith) a.capacities
    next (call (take c)) = same w _ made _ (call_capacity (take c) refl w) (omega arith) a.capacities
    next (call (relieve buffer)) = called_relief buffer
    next inner_relief = inner_relief_lem

  -- ---- a list of steps
  record Reached (ss : List Step) (w : World) (H : State Process ℤ) (moved made : ℕ) : Type 0 where
    left : ℕ → List ℤ
    along : Along (after ss w) (happens (net t) (history ss w) H) left (moved + moved_in ss w) (made + grown_in ss w)

  module _ (k : Step) (ss : List Step) (w : World) (H : State Process ℤ) (moved made : ℕ) where
    -- the history that a step leads to
    abbrev K : State Process ℤ
    K = happens (net t) (events_at k w) H

    abbrev w' : World
    w' = after_step k w

    first : (left : ℕ → List ℤ) (a : Along w H left moved made) (g : Went t (events_at k w) (history ss w') H moved) → Along w' K g.left (moved + moved_at k w) (made + grown_at k w)
    first left a g =
        record {
          out = λ c. a.out c ++ taken_at k w c;
          stands = stands_step n pass w H a.out a.stands k;
          going = subst (λ (m : ℕ). Going t g.left K (moved + m)) (counts_step n pass w H a.out a.stands k) g.going;
          capacities = next w H left moved made a k;
        }

    -- and what the others lead to from there
    then : Reached ss w' K (moved + moved_at k w) (made + grown_at k w) → Reached (k ∷ ss) w H moved made
    then r =
        let m : moved + moved_at k w + moved_in ss w' ≡ moved + (moved_at k w + moved_in ss w') = omega arith in
        let g : made + grown_at k w + grown_in ss w' ≡ made + (grown_at k w + grown_in ss w') = omega arith in
        record {
          left = r.left;
          along = rw (happens_append n pass (events_at k w) (history ss w') H) (rw (m, g) at r.along);
        }

  none : (w : World) (H : State Process ℤ) (left : ℕ → List ℤ) (moved made : ℕ) → Along w H left moved made → Reached [] w H moved made
  none w H left moved made a =
      let m : moved ≡ moved + 0 = omega arith in
      let g : made ≡ made + 0 = omega arith in
      record { left = left; along = subst (λ (k : ℕ). Along w H left k (made + 0)) m (subst (Along w H left moved) g a) }

  reach : (ss : List Step) (w : World) (H : State Process ℤ) (left : ℕ → List ℤ) (moved made : ℕ) → Legal (net t) left (history ss w) → Along w H left moved made
      → Reached ss w H moved made
  reach [] w H left moved made l a = none w H left moved made a
  reach (k ∷ ss) w H left moved made l a =
      let g = goes t (events_at k w) (history ss (after_step k w)) left H moved l a.going in
      then k ss w H moved made (reach ss (after_step k w) _ g.left (moved + moved_at k w) (made + grown_at k w) g.legal (first k ss w H moved made left a g))

  -- ---- from a fresh lane on
  module _ (cells : List ℤ) (many : length cells ≡ 8192) where
    start : Along (board n cells) (empty (net t)) input 0 0
    unfolding empty
    start =
        let e : (c : ℕ) → c < n.channels → (channel_of (board n cells).lane c).capacity ≡ capacity_of n c = λ c l. fresh_capacity n pass c (omega (arith, (passed n pass).channels_high)) in
        record {
          out = λ c. [];
          stands = stands_fresh n pass cells many;
          going = record { fed = fed_start (net t) input; way = ends; count = total_none n.processes };
          capacities = record {
            low = λ c l. omega (arith, e c l);
            high = λ c l. omega (arith, e c l);
            sum = total_same (λ c. (channel_of (board n cells).lane c).capacity) (capacity_of n) n.channels e ∙ omega arith;
          };
        }

    pub reached : (ss : List Step) → Fair n input ss (board n cells)
        → (left : ℕ → List ℤ) × Along (after ss (board n cells)) (happens (net t) (history ss (board n cells)) (empty (net t))) left (moved_in ss (board n cells)) (grown_in ss (board n cells))
    reached ss fair =
        let w : World = board n cells in
        let r = reach ss w (empty (net t)) input 0 0 (fair_legal n pass input ss w (empty (net t)) (λ c. []) (stands_fresh n pass cells many) fair) start in
        let m : 0 + moved_in ss w ≡ moved_in ss w = omega arith in
        let g : 0 + grown_in ss w ≡ grown_in ss w = omega arith in
        (r.left, rw (m, g) at r.along)
