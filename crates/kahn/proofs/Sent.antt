-- What a call sent, by document 01's words, is what its events send.
-- Assumes nothing.
use mathlib.Core.Path.{◌≡◌, refl, sym, ap, ◌∙◌, subst, subst⁻¹}
use mathlib.Core.Bool.{Bool, true, false, cond, not, ◌&&◌, and-false}
use mathlib.Core.Option.{Option, none, some}
use mathlib.Core.List.{List, [], ◌∷◌, ◌++◌, append-nil}
use Prim.Native.Nat.{ℕ, ◌<◌}
use native.Mathlib.Omega.{arith}
use borrow.Author.Tests.{lt-ltb, eqb-true, eqb-false, eq-eqb, ne_eqb}
use lib.Dec.{eqb}
use lib.IntN.{ℤ}
use lib.ListN.{get_elem?}
use Rattle.network.specs.declared.Network.{Network}
use Rattle.network.specs.Rules.{passes}
use Rattle.network.proofs.Passed.{passed}
use Rattle.process.specs.Process.{Process}
use Rattle.process.specs.declared.Outcome.{Outcome}
use Rattle.process.specs.declared.Outcome.TheVariants.{Moved, Sent, Halted, WaitEmpty, WaitFull, Ended}
use Rattle.process.specs.Intent.{Intent, idle, inner, receive, send, close, halt}
use Rattle.process.specs.Want.{register_of}
use Rattle.lane.specs.State.{World, process_of}
use Rattle.lane.specs.Pick.{instruction_for, step_for}
use Rattle.lane.specs.Calls.{Called, answer_to}
use Rattle.lane.proofs.CallCases.{pick_cases, feed_cases, close_cases}
use Rattle.kahn.specs.Calls.{Call, told, apply, was_moved, was_accepted, one, stands_at_send, sent_by}
use Rattle.kahn.specs.Calls as calls
use Rattle.kahn.proofs.Unbounded.{State, Act, Owns, await, act, quit, emit, seal, change, does, happen, happens}
use Rattle.kahn.proofs.Diamond.{Each, none_some, step_moves}
use Rattle.kahn.proofs.Conds.{cond_same}
use Rattle.kahn.proofs.Bounded.{Board, process_at, channel_at, pick_on}
use Rattle.kahn.proofs.Relation.{Related}
use Rattle.kahn.proofs.Keeps.{Kept}
use Rattle.kahn.proofs.Allowed.{sender_in, receiver_in, has_ended, message_of, want_message}
use Rattle.kahn.proofs.Instance.{net_of, Store, machine_of, wants_in}
use Rattle.kahn.proofs.View.{board_of, world_of, answer_of}
use Rattle.kahn.proofs.Events.{events_of, Stands, world_at, picks}

-- a message to d, on a list of channel c
message : (l : List ℤ) (shut owner : Bool) (c d : ℕ) (v : ℤ) → (d ≡ c → owner ≡ true) → (d ≡ c → shut ≡ false)
    → cond owner (cond (eqb c d) (l ++ (v ∷ [])) l) l ≡ l ++ one (eqb d c && not shut) v
message l shut owner c d v o s = at (eqb d c) refl
  where
    at : (t : Bool) → eqb d c ≡ t → cond owner (cond (eqb c d) (l ++ (v ∷ [])) l) l ≡ l ++ one (t && not shut) v
    at true e = let q = eqb-true d c e in rw (o q, eq-eqb c d (sym q), s q)
    at false e = rw (ne_eqb c d (λ q. eqb-false d c e (sym q))) (cond_same owner l ∙ sym (append-nil l))

-- none where the channel is closed
no_message : (l : List ℤ) (shut : Bool) (c d : ℕ) (v : ℤ) → (d ≡ c → shut ≡ true) → l ≡ l ++ one (eqb d c && not shut) v
no_message l shut c d v s = at (eqb d c) refl
  where
    at : (t : Bool) → eqb d c ≡ t → l ≡ l ++ one (t && not shut) v
    at true e = rw (s (eqb-true d c e)) (sym (append-nil l))
    at false e = sym (append-nil l)

module _ (n : Network) (pass : passes n ≡ true) where
  -- ---- one act
  module _ (p : ℕ) (H : State Process ℤ) (c : ℕ) where
    abbrev Sends : Intent Process ℤ → Act Process ℤ → Type 0
    Sends t a = (change (net_of n pass) p a H).sent c ≡ H.sent c ++ message_of t (H.closed c) c

    silent : (owner : Bool) → cond owner (H.sent c) (H.sent c) ≡ H.sent c ++ []
    silent owner = cond_same owner (H.sent c) ∙ sym (append-nil (H.sent c))

    act_sends : (t : Intent Process ℤ) → Owns (sender_in n) (receiver_in n) p t → Each (Sends t) (act t H)
    unfolding act change await
    act_sends idle o = tt
    act_sends (inner x) o = silent (eqb (sender_in n c) p)
    act_sends (receive b next end) o = at (get_elem? (H.sent b) (H.received b)) (H.closed b)
      where
        at : (m : Option ℤ) (t : Bool) → Each (Sends (receive b next end)) (await b next end m t)
        at (some v) t = silent (eqb (sender_in n c) p)
        at none true = silent (eqb (sender_in n c) p)
        at none false = tt
    act_sends (send b v next fault) o = at (H.closed b) refl
      where
        at : (t : Bool) → H.closed b ≡ t → Sends (send b v next fault) (cond t (quit fault) (emit b v (λ _. next)))
        at true e = cond_same (eqb (sender_in n c) p) (H.sent c) ∙ no_message (H.sent c) (H.closed c) c b v (λ q. ap H.closed (sym q) ∙ e)
        at false e =
            message (H.sent c) (H.closed c) (eqb (sender_in n c) p) c b v
            (λ q. eq-eqb (sender_in n c) p (ap (sender_in n) (sym q) ∙ o))
            (λ q. ap H.closed (sym q) ∙ e)
    act_sends (close b next fault) o = at (H.closed b)
      where
        at : (t : Bool) → Sends (close b next fault) (cond t (quit fault) (seal b (λ _. next)))
        at true = silent (eqb (sender_in n c) p)
        at false = silent (eqb (sender_in n c) p)
    act_sends (halt x) o = silent (eqb (sender_in n c) p)

    does_sends : (a : Act Process ℤ) → does (net_of n pass) p H ≡ some a → Sends (wants_in n p (H.processes p)) a
    unfolding does
    does_sends a e = subst (Each (Sends (wants_in n p (H.processes p)))) e (act_sends (wants_in n p (H.processes p)) ((net_of n pass).owns p (H.processes p)))

    -- a process that moved had not ended
    live : (a : Act Process ℤ) → does (net_of n pass) p H ≡ some a → has_ended (H.processes p) ≡ false
    unfolding does act
    live a e = at (has_ended (H.processes p)) refl
      where
        at : (t : Bool) → has_ended (H.processes p) ≡ t → t ≡ false
        at true f = none_some (rw ((machine_of n pass).rests p (H.processes p) f) at e)
        at false f = refl

  module _ (accepted : ℕ) (b : Board Store ℤ) (H : State Process ℤ) (out : ℕ → List ℤ) (R : Related (machine_of n pass) b H out) where
    -- the message of a process, by the lane's channel
    same_message : (p : ℕ) → p < 16 → (t : Intent Process ℤ) → Owns (sender_in n) (receiver_in n) p t → (c : ℕ)
        → message_of t (H.closed c) c ≡ message_of t (channel_at (machine_of n pass) b c).closed c
    same_message p i idle o c = refl
    same_message p i (inner x) o c = refl
    same_message p i (receive d next end) o c = refl
    same_message p i (send d v next fault) o c = at (eqb d c) refl
      where
        at : (t : Bool) → eqb d c ≡ t → one (t && not (H.closed c)) v ≡ one (t && not (channel_at (machine_of n pass) b c).closed) v
        at true e =
            let l = (machine_of n pass).senders d (omega arith) in
            let q = eqb-true d c e in
            rw (R.lines c (omega arith)).shut
        at false e = refl
    same_message p i (close d next fault) o c = refl
    same_message p i (halt x) o c = refl

    -- a pick that moved
    pick_sends : (p : ℕ) → p < n.processes → (a : Act Process ℤ) → does (net_of n pass) p H ≡ some a → (c : ℕ)
        → (change (net_of n pass) p a H).sent c
        ≡ H.sent c ++ one (stands_at_send (world_of n accepted b) p c)
        (register_of (process_of (world_of n accepted b).lane p) (instruction_for p (world_of n accepted b).lane).a)
    pick_sends p l a e c = does_sends p H c a e ∙ ap (λ (m : List ℤ). H.sent c ++ m) says
      where
        q : Process
        q = process_at (machine_of n pass) b p

        shut : Bool
        shut = (channel_at (machine_of n pass) b c).closed

        says : message_of (wants_in n p (H.processes p)) (H.closed c) c
            ≡ one (stands_at_send (world_of n accepted b) p c)
            (register_of (process_of (world_of n accepted b).lane p) (instruction_for p (world_of n accepted b).lane).a)
        says =
            ap (λ (x : Process). message_of (wants_in n p x) (H.closed c) c) (sym (R.same p))
            ∙ same_message p (omega (arith, (passed n pass).processes_high)) (wants_in n p q) ((net_of n pass).owns p q) c
            ∙ rw (lt-ltb p n.processes l) (want_message q shut c (instruction_for p (world_of n accepted b).lane) (ap has_ended (R.same p) ∙ live p H c a e))

    -- ---- one call
    abbrev Adds : Call → calls.Reply → List ℤ → ℕ → Type 0
    Adds k r l c = (happens (net_of n pass) (events_of k r) H).sent c ≡ H.sent c ++ l

    pick_adds : (p c : ℕ) → p < n.processes → (o : Outcome) (d : ℕ) → (b' : Board Store ℤ) → Kept (machine_of n pass) out p b H (does (net_of n pass) p H) (answer_of o) b'
        → Adds (calls.pick p) (told (answer_to o d))
        (one (was_moved (told (answer_to o d)) && stands_at_send (world_of n accepted b) p c)
        (register_of (process_of (world_of n accepted b).lane p) (instruction_for p (world_of n accepted b).lane).a))
        c
    unfolding happen
    pick_adds p c l Moved d b' k = rw (step_moves (net_of n pass) p H k.1) (pick_sends p l k.0 k.1 c)
    pick_adds p c l (Sent v) d b' k = rw (step_moves (net_of n pass) p H k.1) (pick_sends p l k.0 k.1 c)
    pick_adds p c l Halted d b' k = rw (step_moves (net_of n pass) p H k.1) (pick_sends p l k.0 k.1 c)
    pick_adds p c l WaitEmpty d b' k = sym (append-nil (H.sent c))
    pick_adds p c l WaitFull d b' k = sym (append-nil (H.sent c))
    pick_adds p c l Ended d b' k = sym (append-nil (H.sent c))

    sent_at_lem : (k : Call) (c : ℕ) → Adds k (apply k (world_of n accepted b)).reply (sent_by k (world_of n accepted b) c) c
    unfolding apply happen change
    sent_at_lem (calls.pick p) c =
        pick_cases
        (λ (r : Called). Adds (calls.pick p) (told r.answer)
        (one (was_moved (told r.answer) && stands_at_send (world_of n accepted b) p c)
        (register_of (process_of (world_of n accepted b).lane p) (instruction_for p (world_of n accepted b).lane).a))
        c)
        (world_of n accepted b)
        (λ k. sym (append-nil (H.sent c)))
        p
        (λ t. pick_adds p c t.there (step_for p (world_of n accepted b)).outcome _ (pick_on (machine_of n pass) p b).board (picks n pass accepted b H out R p t.there))
    sent_at_lem (calls.feed d v) c =
        feed_cases (λ (r : Called). Adds (calls.feed d v) (told r.answer) (one (eqb d c && was_accepted (told r.answer)) v) c) (world_of n accepted b)
        (λ k. rw (and-false (eqb d c)) (sym (append-nil (H.sent c))))
        d
        v
        (λ t. message (H.sent c) false (eqb (sender_in n c) 255) c d v
        (λ q. eq-eqb (sender_in n c) 255 (rw (← q, lt-ltb d n.channels t.there) t.outer))
        (λ q. refl))
    sent_at_lem (calls.close d) c =
        close_cases (λ (r : Called). Adds (calls.close d) (told r.answer) [] c) (world_of n accepted b)
        (λ k. sym (append-nil (H.sent c)))
        d
        (λ t. cond_same (eqb (sender_in n c) 255) (H.sent c) ∙ sym (append-nil (H.sent c)))
    sent_at_lem (calls.take d) c = sym (append-nil (H.sent c))
    sent_at_lem (calls.relieve buffer) c = sym (append-nil (H.sent c))

  pub sent_next : (k : Call) (w : World) (H : State Process ℤ) (out : ℕ → List ℤ) → Stands n pass w H out → (c : ℕ)
      → (happens (net_of n pass) (events_of k (apply k w).reply) H).sent c ≡ H.sent c ++ sent_by k w c
  sent_next k w H out s c =
      subst⁻¹ (λ (x : World). (happens (net_of n pass) (events_of k (apply k x).reply) H).sent c ≡ H.sent c ++ sent_by k x c) (world_at n pass w s.network)
      (sent_at_lem w.lane.accepted (board_of w) H out s.related k c)
