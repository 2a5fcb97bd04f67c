-- The events of the network with unlimited channels that a call stands for. A lane and its cells stay related to what they lead to; they make a move
-- where a pick moved.
-- Assumes nothing.
use mathlib.Core.Path.{◌≡◌, refl, sym, ap, ◌∙◌, subst, subst⁻¹}
use mathlib.Core.Bool.{true, false, cond}
use mathlib.Core.List.{List, [], ◌∷◌, ◌++◌, append-nil}
use mathlib.Core.Option.{some}
use Prim.Native.Nat.{ℕ, ◌+◌, ◌<◌}
use native.Mathlib.Omega.{arith}
use borrow.Author.Tests.{lt-ltb}
use lib.Dec.{eqb}
use lib.IntN.{ℤ}
use Rattle.network.specs.declared.Network.{Network}
use Rattle.network.specs.Rules.{passes}
use Rattle.network.proofs.Passed.{passed}
use Rattle.process.specs.Process.{Process}
use Rattle.process.specs.declared.Outcome.{Outcome}
use Rattle.process.specs.declared.Outcome.TheVariants.{Moved, Sent, Halted, WaitEmpty, WaitFull, Ended}
use Rattle.lane.specs.State.{World, world}
use Rattle.lane.specs.Sound.{sound_of}
use Rattle.lane.specs.Pick.{step_for, pick_in}
use Rattle.lane.specs.Calls.{Called, called, answer_to}
use Rattle.lane.specs.Calls as lane
use Rattle.lane.proofs.Shape.{Shaped}
use Rattle.lane.proofs.CallCases.{pick_cases, feed_cases, close_cases, take_cases}
use Rattle.lane.proofs.CallLaws.{Preserves}
use Rattle.lane.proofs.CallLaws as laws
use Rattle.relief.specs.Relief.{Relief}
use Rattle.kahn.specs.Calls.{Call, pick, feed, close, take, relieve, Reply, relieved, Made, made, apply, was_moved, was_accepted, given, one, taken_by, count_one}
use Rattle.kahn.proofs.Unbounded.{State, Act, Event, turn, arrive, finish, change, does, happen, happens, tally, moved_at, moves_of}
use Rattle.kahn.proofs.Diamond.{step_moves}
use Rattle.kahn.proofs.Conds.{cond_same}
use Rattle.kahn.proofs.Bounded.{Board, pick_on}
use Rattle.kahn.proofs.Relation.{Related}
use Rattle.kahn.proofs.Keeps.{Kept, pick_kept, feed_kept, close_kept, take_kept, enlarge_kept}
use Rattle.kahn.proofs.Instance.{net_of, Store, machine_of}
use Rattle.relief.proofs.Enlarged.{relief_cases, relief_kept}
use Rattle.kahn.proofs.View.{board_of, world_of, answer_of, pick_is, stored_is, full_is}

-- ---- the event that an answered call stands for
abbrev pub events_of : Call → Reply → List (Event ℤ)
events_of (pick p) r = one (was_moved r) (turn p)
events_of (feed c v) r = one (was_accepted r) (arrive c v)
events_of (close c) r = one (was_accepted r) (finish c)
events_of (take c) r = []
events_of (relieve buffer) r = []

-- what an answered call gave from channel c
abbrev pub given_of : Call → Reply → ℕ → List ℤ
given_of (pick p) r c = []
given_of (feed d v) r c = []
given_of (close d) r c = []
given_of (take d) r c = cond (eqb d c) (given r) []
given_of (relieve buffer) r c = []

given_is : (k : Call) (w : World) (c : ℕ) → given_of k (apply k w).reply c ≡ taken_by k w c
given_is (pick p) w c = refl
given_is (feed d v) w c = refl
given_is (close d) w c = refl
given_is (take d) w c = refl
given_is (relieve buffer) w c = refl

-- ---- what every call keeps
pub apply_kept : (k : Call) (w : World) → Shaped w.lane → Preserves w (apply k w).world
unfolding apply
apply_kept (pick p) w s = laws.pick_kept w p s
apply_kept (feed c v) w s = laws.feed_kept w c v
apply_kept (close c) w s = laws.close_kept w c
apply_kept (take c) w s = laws.take_kept w c
apply_kept (relieve buffer) w s = relief_kept w buffer

module _ (n : Network) (pass : passes n ≡ true) where
  -- a lane of network n, sound, with its cells, stands for a history; out: what takes gave
  pub record Stands (w : World) (H : State Process ℤ) (out : ℕ → List ℤ) : Type 0 where
    pub network : w.lane.network ≡ n
    pub sound : sound_of w.lane ≡ true
    pub related : Related (machine_of n pass) (board_of w) H out

  -- what a call leaves, answered
  record Next (k : Call) (H : State Process ℤ) (out : ℕ → List ℤ) (m : Made) : Type 0 where
    related : Related (machine_of n pass) (board_of m.world) (happens (net_of n pass) (events_of k m.reply) H) (λ c. out c ++ given_of k m.reply c)
    counts : moves_of (net_of n pass) (events_of k m.reply) H ≡ count_one (was_moved m.reply)

  pub same_out : (b : Board Store ℤ) (H : State Process ℤ) (out : ℕ → List ℤ) (gave : ℕ → List ℤ) → ((c : ℕ) → gave c ≡ [])
      → Related (machine_of n pass) b H out → Related (machine_of n pass) b H (λ c. out c ++ gave c)
  same_out b H out gave e R = subst (Related (machine_of n pass) b H) (λ i c. (sym (append-nil (out c)) ∙ ap (λ (l : List ℤ). out c ++ l) (sym (e c))) i) R

  module _ (accepted : ℕ) (b : Board Store ℤ) (H : State Process ℤ) (out : ℕ → List ℤ) (R : Related (machine_of n pass) b H out) where
    -- a call that stands for no event and gave nothing
    nothing : (k : Call) (m : Made) (b' : Board Store ℤ) → events_of k m.reply ≡ [] → was_moved m.reply ≡ false → ((c : ℕ) → given_of k m.reply c ≡ [])
        → board_of m.world ≡ b' → Related (machine_of n pass) b' H out → Next k H out m
    nothing k m b' e f g h R' =
        record { related = rw (e, h) (same_out b' H out (given_of k m.reply) g R'); counts = rw (e, f) }

    -- a call of the outside that stands for one event
    happened : (k : Call) (m : Made) (e : Event ℤ) (b' : Board Store ℤ) → events_of k m.reply ≡ e ∷ [] → was_moved m.reply ≡ false
        → ((c : ℕ) → given_of k m.reply c ≡ []) → board_of m.world ≡ b' → moved_at (net_of n pass) e H ≡ 0
        → Related (machine_of n pass) b' (happen (net_of n pass) e H) out → Next k H out m
    happened k m e b' x f g h z R' =
        record { related = rw (x, h) (same_out b' (happen (net_of n pass) e H) out (given_of k m.reply) g R'); counts = rw (x, f) (omega arith) }

    channel_below : (c : ℕ) → c < n.channels → c < 32
    channel_below c l = omega (arith, (passed n pass).channels_high)

    -- ---- a pick
    abbrev answers : ℕ → Outcome → ℕ → World → Made
    answers p o c w' = made (called (answer_to o c) w')

    pick_moved : (p : ℕ) (m : Made) (b' : Board Store ℤ) → was_moved m.reply ≡ true → board_of m.world ≡ b'
        → (a : Act Process ℤ) → does (net_of n pass) p H ≡ some a → Related (machine_of n pass) b' (change (net_of n pass) p a H) out → Next (pick p) H out m
    unfolding happen moved_at tally
    pick_moved p m b' e h a d R' =
        record {
          related = rw (e, h) (same_out b' _ out (λ c. []) (λ c. refl) (rw (step_moves (net_of n pass) p H d) R'));
          counts = rw (e, d);
        }

    pick_by : (p c : ℕ) (o : Outcome) (w' : World) (b' : Board Store ℤ) → board_of w' ≡ b'
        → Kept (machine_of n pass) out p b H (does (net_of n pass) p H) (answer_of o) b' → Next (pick p) H out (answers p o c w')
    pick_by p c Moved w' b' h k = pick_moved p (answers p Moved c w') b' refl h k.0 k.1 k.2
    pick_by p c (Sent v) w' b' h k = pick_moved p (answers p (Sent v) c w') b' refl h k.0 k.1 k.2
    pick_by p c Halted w' b' h k = pick_moved p (answers p Halted c w') b' refl h k.0 k.1 k.2
    pick_by p c WaitEmpty w' b' h k = nothing (pick p) (answers p WaitEmpty c w') b refl refl (λ c. refl) (h ∙ k.1) R
    pick_by p c WaitFull w' b' h k = nothing (pick p) (answers p WaitFull c w') b refl refl (λ c. refl) (h ∙ k) R
    pick_by p c Ended w' b' h k = nothing (pick p) (answers p Ended c w') b refl refl (λ c. refl) (h ∙ k.1) R

    -- what a pick of a process that is there comes to in the history
    pub picks : (p : ℕ) → p < n.processes
        → Kept (machine_of n pass) out p b H (does (net_of n pass) p H) (answer_of (step_for p (world_of n accepted b)).outcome) (pick_on (machine_of n pass) p b).board
    picks p l =
        let k = (passed n pass).processes_high in
        rw (pick_is n pass p accepted b R.good l).1 (pick_kept (machine_of n pass) b H out p R (omega arith))

    next_at : (k : Call) → Next k H out (apply k (world_of n accepted b))
    unfolding apply moved_at
    next_at (pick p) =
        pick_cases (λ (r : Called). Next (pick p) H out (made r)) (world_of n accepted b)
        (λ k. nothing (pick p) _ b refl refl (λ c. refl) refl R)
        p
        (λ t. pick_by p _ (step_for p (world_of n accepted b)).outcome (pick_in p (world_of n accepted b)) (pick_on (machine_of n pass) p b).board
        (ap board_of (pick_is n pass p accepted b R.good t.there).0)
        (picks p t.there))
    next_at (feed c v) =
        feed_cases (λ (r : Called). Next (feed c v) H out (made r)) (world_of n accepted b)
        (λ k. nothing (feed c v) _ b refl refl (λ d. refl) refl R)
        c
        v
        (λ t. happened (feed c v) _ (arrive c v) _ refl refl (λ d. refl)
        (ap (λ (x : World). board_of (lane.counting x)) (stored_is n pass c v accepted b t.there))
        refl
        (feed_kept (machine_of n pass) b H out c v R (channel_below c t.there) (rw (lt-ltb c n.channels t.there) t.outer)
        (sym (full_is n pass c accepted b t.there) ∙ t.room)))
    next_at (close c) =
        close_cases (λ (r : Called). Next (close c) H out (made r)) (world_of n accepted b)
        (λ k. nothing (close c) _ b refl refl (λ d. refl) refl R)
        c
        (λ t. happened (close c) _ (finish c) _ refl refl (λ d. refl) refl refl
        (close_kept (machine_of n pass) b H out c R (rw (lt-ltb c n.channels t.there) t.outer)))
    next_at (take c) =
        take_cases (λ (r : Called). Next (take c) H out (made r)) (world_of n accepted b)
        (λ k. nothing (take c) _ b refl refl (λ d. cond_same (eqb c d) []) refl R)
        c
        (λ t e f. nothing (take c) _ b refl refl (λ d. cond_same (eqb c d) []) refl R)
        (λ t z. record {
          related = take_kept (machine_of n pass) b H out c R (rw (lt-ltb c n.channels t.there) t.outer) z;
          counts = refl;
        })
    next_at (relieve buffer) =
        relief_cases
        (λ (r : Relief). Next (relieve buffer) H out (record { reply = relieved r.answer r.ring; world = world r.lane b.cells }))
        (world_of n accepted b).lane
        buffer
        (λ k. nothing (relieve buffer) _ b refl refl (λ d. refl) refl R)
        (λ ring c buffer' s e. nothing (relieve buffer) _ _ refl refl (λ d. refl) refl (enlarge_kept (machine_of n pass) b H out c R e.below))

  -- ---- one call
  pub world_at : (w : World) → w.lane.network ≡ n → w ≡ world_of n w.lane.accepted (board_of w)
  world_at w e = ap (λ (m : Network). world_of m w.lane.accepted (board_of w)) e

  pub shaped_at : (w : World) (H : State Process ℤ) (out : ℕ → List ℤ) → Stands w H out → Shaped w.lane
  shaped_at w H out s =
      record { registers = s.related.good.registers; processes = s.related.good.standings; channels = s.related.many_channels }

  module _ (k : Call) (w : World) (H : State Process ℤ) (out : ℕ → List ℤ) (s : Stands w H out) where
    next : Next k H out (apply k w)
    next = subst⁻¹ (λ (x : World). Next k H out (apply k x)) (world_at w s.network) (next_at w.lane.accepted (board_of w) H out s.related k)

    pub stands_next : Stands (apply k w).world (happens (net_of n pass) (events_of k (apply k w).reply) H) (λ c. out c ++ taken_by k w c)
    stands_next =
        let kept = apply_kept k w (shaped_at w H out s) in
        record {
          network = kept.network ∙ s.network;
          sound = kept.sound s.sound;
          related = subst (Related (machine_of n pass) (board_of (apply k w).world) (happens (net_of n pass) (events_of k (apply k w).reply) H))
              (λ i c. out c ++ given_is k w c i)
              next.related;
        }

    pub counts_next : moves_of (net_of n pass) (events_of k (apply k w).reply) H ≡ count_one (was_moved (apply k w).reply)
    counts_next = next.counts

  -- ---- events one after the other
  pub happens_append : (xs ys : List (Event ℤ)) (H : State Process ℤ) → happens (net_of n pass) (xs ++ ys) H ≡ happens (net_of n pass) ys (happens (net_of n pass) xs H)
  happens_append [] ys H = refl
  happens_append (x ∷ xs) ys H = happens_append xs ys (happen (net_of n pass) x H)

  pub moves_append : (xs ys : List (Event ℤ)) (H : State Process ℤ)
      → moves_of (net_of n pass) (xs ++ ys) H ≡ moves_of (net_of n pass) xs H + moves_of (net_of n pass) ys (happens (net_of n pass) xs H)
  moves_append [] ys H = omega arith
  moves_append (x ∷ xs) ys H = omega (arith, moves_append xs ys (happen (net_of n pass) x H))
