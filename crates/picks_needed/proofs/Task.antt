-- A lane's task: a network and its input, with the state in which the plain order has ended every process. Whatever happens in the network with
-- unlimited channels, it stays on the way there, and each turn that moves adds one to the sum of all moves.
-- Assumes nothing.
use mathlib.Core.Path.{◌≡◌, refl, ap, ◌∙◌, subst}
use mathlib.Core.Bool.{Bool, true}
use mathlib.Core.Option.{none}
use mathlib.Core.List.{List, [], ◌∷◌, ◌++◌}
use Prim.Native.Nat.{ℕ, ◌+◌, ◌≤◌, ◌<◌}
use native.Mathlib.Decide.{dec_lt}
use native.Mathlib.Omega.{arith}
use lib.Dec.{eqb}
use lib.IntN.{ℤ}
use Rattle.network.specs.declared.Network.{Network}
use Rattle.network.specs.Rules.{passes}
use Rattle.process.specs.Process.{Process}
use Rattle.kahn.specs.Plain.{Plain}
use Rattle.kahn.proofs.Unbounded.{State, Net, Event, turn, arrive, finish, update, change, does, act, step, empty, fill, happen, happens, tally, moved_at, moves_of, Legal}
use Rattle.kahn.proofs.Determined.{Fed, fill_outside, fed_feed, fed_finish, turn_fed}
use Rattle.kahn.proofs.Conds.{cond_same}
use Rattle.kahn.proofs.Instance.{net_of, wants_rests}
use Rattle.kahn.proofs.PlainOrder.{state_of}
use Rattle.picks_needed.specs.Totals.{total_of}
use Rattle.picks_needed.specs.Theorem.{Finishes}
use Rattle.picks_needed.proofs.Adding.{total_same, one_of_total}
use Rattle.picks_needed.proofs.Onward.{Leads, Way, way_turn, total_most, total_turn}
use Rattle.picks_needed.proofs.Counted.{move_counted}

pub record Task : Type 0 where
  pub n : Network
  pub pass : passes n ≡ true
  pub input : ℕ → List ℤ
  pub s : Plain
  pub N : ℕ
  pub G : ℕ
  pub fin : Finishes n s N G
  -- no process's moves stand at their largest
  pub small : N < 18446744073709551615
  -- the plain order leads there
  pub ends : Leads (net_of n pass) (state_of s) (fill (net_of n pass) input (empty (net_of n pass)))

module _ (t : Task) where
  open t use {n, pass, input, s, N, fin, small}

  abbrev pub net : Net
  net = net_of n pass

  -- nothing moves where every process has ended
  pub at_rest : (p : ℕ) → does net p (state_of s) ≡ none
  unfolding does act
  at_rest p = go (dec_lt p n.processes)
    where
      go : Dec (p < n.processes) → does net p (state_of s) ≡ none
      go (yes h) = rw (wants_rests n p (s.processes p) (fin.all p h))
      go (no h) = rw (net.beyond p (s.processes p) (omega arith))

  abbrev pub OnTheWay : State Process ℤ → Type 0
  OnTheWay H = Way net (state_of s) at_rest input H

  abbrev pub moves : State Process ℤ → ℕ
  moves H = total_of (λ p. (H.processes p).moves) n.processes

  low_moves : (p : ℕ) → p < n.processes → (s.processes p).moves < 18446744073709551615
  low_moves p h = omega (arith, one_of_total (λ q. (s.processes q).moves) n.processes p h, fin.moves)

  -- ---- on the way, with so many moves made and so much of the input left
  pub record Going (left : ℕ → List ℤ) (H : State Process ℤ) (moved : ℕ) : Type 0 where
    pub fed : Fed net input left H
    pub way : OnTheWay H
    pub count : moves H ≡ moved

  pub going_within : (left : ℕ → List ℤ) (H : State Process ℤ) (moved : ℕ) → Going left H moved → moved ≤ N
  going_within left H moved g =
      omega (arith, total_most net (state_of s) at_rest input (λ q. q.moves) 18446744073709551615 (move_counted n pass) low_moves H g.way, g.count, fin.moves)

  going_turn : (p : ℕ) (left : ℕ → List ℤ) (H : State Process ℤ) (moved : ℕ) → Going left H moved → Going left (step net p H) (moved + tally net (does net p H))
  going_turn p left H moved g =
      record {
        fed = turn_fed net input p H (does net p H) refl g.fed;
        way = way_turn net (state_of s) at_rest input p H (does net p H) refl g.fed g.way;
        count =
            let k = total_turn net (state_of s) at_rest input (λ q. q.moves) 18446744073709551615 (move_counted n pass) low_moves p H (does net p H) refl g.fed g.way in
            omega (arith, k, g.count);
      }

  -- the outside moves no process
  outside_moves : (f : ℕ → List ℤ → List ℤ) (shut : ℕ → Bool → Bool) (H : State Process ℤ)
      → moves (change net 255 (record { become = λ x. x; put = f; take = λ _ k. k; shut = shut }) H) ≡ moves H
  unfolding change
  outside_moves f shut H = total_same _ (λ p. (H.processes p).moves) n.processes (λ p h. ap (λ (q : Process). q.moves) (cond_same (eqb p 255) (H.processes p)))

  -- ---- events, before others that are legal after them
  pub record Went (es fs : List (Event ℤ)) (H : State Process ℤ) (moved : ℕ) : Type 0 where
    pub left : ℕ → List ℤ
    pub legal : Legal net left fs
    pub going : Going left (happens net es H) (moved + moves_of net es H)

  pub goes : (es fs : List (Event ℤ)) (left : ℕ → List ℤ) (H : State Process ℤ) (moved : ℕ) → Legal net left (es ++ fs) → Going left H moved → Went es fs H moved
  unfolding happen moved_at
  goes [] fs left H moved l g = record { left = left; legal = l; going = record { fed = g.fed; way = g.way; count = omega (arith, g.count) } }
  goes (turn p ∷ es) fs left H moved l g =
      let k = goes es fs left (step net p H) (moved + tally net (does net p H)) l (going_turn p left H moved g) in
      record {
        left = k.left;
        legal = k.legal;
        going = subst (Going k.left (happens net es (step net p H))) (omega arith) k.going;
      }
  goes (arrive c v ∷ es) fs left H moved l g =
      let k = goes es fs (update left c l.0) (happen net (arrive c v) H) moved l.3
      (record { fed = fed_feed net input H c v l.0 l.2 g.fed; way = rw (fill_outside net input _ _ H) g.way; count = outside_moves _ _ H ∙ g.count }) in
      record {
        left = k.left;
        legal = k.legal;
        going = subst (Going k.left (happens net es (happen net (arrive c v) H))) (omega arith) k.going;
      }
  goes (finish c ∷ es) fs left H moved l g =
      let k = goes es fs left (happen net (finish c) H) moved l.2
      (record { fed = fed_finish net input H c l.1 g.fed; way = rw (fill_outside net input _ _ H) g.way; count = outside_moves _ _ H ∙ g.count }) in
      record {
        left = k.left;
        legal = k.legal;
        going = subst (Going k.left (happens net es (happen net (finish c) H))) (omega arith) k.going;
      }
