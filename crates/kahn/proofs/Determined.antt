-- What a network with unlimited channels sends does not hang on the order of its turns, nor on when its input comes; at rest it is where the
-- round-robin order is.
-- Assumes nothing.
use mathlib.Core.Path.{◌≡◌, refl, sym, ap, ◌∙◌, subst}
use mathlib.Core.Logic.{◌≢◌, ◌⊎◌, inl, inr}
use mathlib.Core.Bool.{Bool, true, false, cond, false≢true}
use mathlib.Core.Option.{Option, none, some}
use mathlib.Core.List.{List, [], ◌∷◌, ◌++◌, append-nil, append_assoc, nil≢cons}
use Prim.Native.Nat.{ℕ, zero, suc, ◌+◌, ◌≤◌, ◌<◌}
use native.Mathlib.Decide.{ℕ_discrete, dec_le}
use native.Mathlib.Omega.{arith}
use lib.Dec.{eqb}
use borrow.Author.Tests.{eqb-true, eq-eqb, ne_eqb}
use Rattle.kahn.specs.Boards.{Prefix}
use Rattle.kahn.proofs.Conds.{cond_same, cond_is, cond_twice, cond_true}
use Rattle.kahn.proofs.Unbounded.{State, Act, Net, Event, turn, arrive, finish, In, from, update, act, emit, seal, pour, change, does, step, Moves, run, round, empty, fill, rounds, happen, happens, tally, moved_at, moves_of, Legal}
use Rattle.kahn.proofs.Diamond.{More, more_cond, none_some, Grown, keeps, change_grown, change_more, change_comm, does_grows, step_moves, step_waits, Late, absorb}

in_from : (p q k : ℕ) → q ≤ p → p < q + k → In p (from q k)
in_from p q zero h l = absurd (omega arith)
in_from p q (suc k) h l = go (ℕ_discrete p q) (in_from p (suc q) k)
  where
    go : Dec (p ≡ q) → (suc q ≤ p → p < suc q + k → In p (from (suc q) k)) → In p (from q (suc k))
    go (yes e) later = inl e
    go (no n) later = inr (later (omega arith) (omega arith))

module _ {A : Type 0} where
  prefix_refl : (l : List A) → Prefix l l
  prefix_refl l = record { rest = []; longer = sym (append-nil l) }

  pub prefix_trans : {l l' l'' : List A} → Prefix l l' → Prefix l' l'' → Prefix l l''
  prefix_trans {l} p q = record { rest = p.rest ++ q.rest; longer = q.longer ∙ ap (λ (m : List A). m ++ q.rest) p.longer ∙ append_assoc l p.rest q.rest }

  -- v goes from the head of what is left to the end of what has come
  pub feed_moves : (s : Bool) (l r rest : List A) (v : A) → (s ≡ true → r ≡ v ∷ rest) → cond s (l ++ (v ∷ [])) l ++ cond s rest r ≡ l ++ r
  feed_moves true l r rest v h = append_assoc l (v ∷ []) rest ∙ ap (λ (m : List A). l ++ m) (sym (h refl))
  feed_moves false l r rest v h = refl

  feed_open : (s : Bool) (r rest : List A) (v : A) → (s ≡ true → r ≡ v ∷ rest) → r ≡ [] → cond s rest r ≡ []
  feed_open true r rest v h e = absurd (nil≢cons (sym e ∙ h refl))
  feed_open false r rest v h e = e

  shut_done : (s t : Bool) (r : List A) → (s ≡ true → r ≡ []) → (t ≡ true → r ≡ []) → cond s true t ≡ true → r ≡ []
  shut_done true t r h k e = h refl
  shut_done false t r h k e = k e

module _ (N : Net) where
  open N use {X, W, P, sender, receiver, intent, few, beyond}

  run_append : (σ τ : List ℕ) (H : State X W) → run N (σ ++ τ) H ≡ run N τ (run N σ H)
  run_append [] τ H = refl
  run_append (p ∷ σ) τ H = run_append σ τ (step N p H)

  -- only a process moves
  pub inside : (p : ℕ) (H : State X W) {a : Act X W} → does N p H ≡ some a → p < P
  unfolding does act
  inside p H m = go (dec_le P p)
    where
      go : Dec (P ≤ p) → p < P
      go (yes h) = none_some (rw (beyond p (H.processes p) h) at m)
      go (no h) = omega arith

  insider : (p : ℕ) (H : State X W) {a : Act X W} → does N p H ≡ some a → p ≢ 255
  insider p H m = let h = inside p H m in let k = few in omega arith

  -- a closed channel stays closed
  step_closed : (p : ℕ) (H : State X W) (c : ℕ) (o : Option (Act X W)) → does N p H ≡ o → H.closed c ≡ true → (step N p H).closed c ≡ true
  step_closed p H c none e k = rw (step_waits N p H e) k
  step_closed p H c (some a) e k = rw (step_moves N p H e) ((change_more N p H a (does_grows N p H e) c).stays k)

  happen_closed : (e : Event W) (H : State X W) (c : ℕ) → H.closed c ≡ true → (happen N e H).closed c ≡ true
  unfolding happen change
  happen_closed (turn p) H c k = step_closed p H c (does N p H) refl k
  happen_closed (arrive d v) H c k = cond_same (eqb (sender c) 255) (H.closed c) ∙ k
  happen_closed (finish d) H c k = at (eqb (sender c) 255)
    where
      at : (t : Bool) → cond t (cond (eqb c d) true (H.closed c)) (H.closed c) ≡ true
      at true = cond_true (eqb c d) k
      at false = k

  pub happens_closed : (es : List (Event W)) (H : State X W) (c : ℕ) → H.closed c ≡ true → (happens N es H).closed c ≡ true
  happens_closed [] H c k = k
  happens_closed (e ∷ es) H c k = happens_closed es (happen N e H) c (happen_closed e H c k)

  module _ (input : ℕ → List W) where
    -- what has come in, with what is left, is the input
    pub record Fed (left : ℕ → List W) (H : State X W) : Type 0 where
      pub fits : (c : ℕ) → sender c ≡ 255 → H.sent c ++ left c ≡ input c
      pub done : (c : ℕ) → sender c ≡ 255 → H.closed c ≡ true → left c ≡ []

    -- on a channel that is closed all of it has come
    pub fed_all_lem : {left : ℕ → List W} (H : State X W) → Fed left H → (c : ℕ) → sender c ≡ 255 → H.closed c ≡ true → H.sent c ≡ input c
    fed_all_lem H f c o e = sym (append-nil (H.sent c)) ∙ ap (λ (l : List W). H.sent c ++ l) (sym (f.done c o e)) ∙ f.fits c o

    fill_more : {left : ℕ → List W} (H : State X W) → Fed left H → (c : ℕ) → More (H.sent c) (H.closed c) ((fill N input H).sent c) ((fill N input H).closed c)
    unfolding fill change
    fill_more {left} H f c =
        more_cond (eqb (sender c) 255) λ s.
        let e = eqb-true (sender c) 255 s in
        record { extra = left c; longer = sym (f.fits c e); ended = f.done c e; stays = λ _. refl }

    fill_grown : (p : ℕ) {left : ℕ → List W} (H : State X W) → p ≢ 255 → Fed left H → Grown N p H (fill N input H)
    unfolding fill
    fill_grown p H h f = change_grown N p 255 H (pour input) h (fill_more H f)

    -- what is possible is possible with all the input there, and leads to the same
    pub fill_moves : (p : ℕ) {left : ℕ → List W} (H : State X W) {a : Act X W} → Fed left H → does N p H ≡ some a → does N p (fill N input H) ≡ some a
    fill_moves p H f m = keeps N p (fill_grown p H (insider p H m) f) m

    pub fill_step : (p : ℕ) {left : ℕ → List W} (H : State X W) {a : Act X W} → Fed left H → does N p H ≡ some a → fill N input (step N p H) ≡ step N p (fill N input H)
    unfolding fill
    fill_step p H {a} f m =
        ap (fill N input) (step_moves N p H m)
        ∙ change_comm N 255 p (pour input) a H (λ e. insider p H m (sym e))
        ∙ sym (step_moves N p (fill N input H) (fill_moves p H f m))

    -- what comes in changes nothing when all of it is there
    pub fill_outside : (f : ℕ → List W → List W) (g : ℕ → Bool → Bool) (H : State X W)
        → fill N input (change N 255 (record { become = λ x. x; put = f; take = λ _ n. n; shut = g }) H) ≡ fill N input H
    unfolding fill change
    fill_outside f g H =
        λ i. record {
          processes = λ q. cond_twice (eqb q 255) (cond_same (eqb q 255) (H.processes q) i) (H.processes q) (H.processes q) i;
          sent = λ c. cond_twice (eqb (sender c) 255) (input c) (f c (H.sent c)) (H.sent c) i;
          received = λ c. cond_twice (eqb (receiver c) 255) (cond_same (eqb (receiver c) 255) (H.received c) i) (H.received c) (H.received c) i;
          closed = λ c. cond_twice (eqb (sender c) 255) true (g c (H.closed c)) (H.closed c) i;
        }

    -- what has come in, event by event
    fed_change : (p : ℕ) (a : Act X W) {left : ℕ → List W} (H : State X W) → p ≢ 255 → Fed left H → Fed left (change N p a H)
    unfolding change
    fed_change p a H h f =
        record {
          fits = λ c e. rw (ne_eqb (sender c) p (λ k. h (sym k ∙ e))) (f.fits c e);
          done = λ c e. rw (ne_eqb (sender c) p (λ k. h (sym k ∙ e))) (f.done c e);
        }

    fed_step : (p : ℕ) {left : ℕ → List W} (H : State X W) {a : Act X W} → Fed left H → does N p H ≡ some a → Fed left (step N p H)
    fed_step p {left} H {a} f m = rw (step_moves N p H m) (fed_change p a H (insider p H m) f)

    pub fed_feed : {left : ℕ → List W} (H : State X W) (c : ℕ) (v : W) (rest : List W) → left c ≡ v ∷ rest → Fed left H
        → Fed (update left c rest) (change N 255 (emit c v (λ x. x)) H)
    unfolding change
    fed_feed {left} H c v rest r f =
        record {
          fits = λ d e. rw (eq-eqb (sender d) 255 e) (feed_moves (eqb d c) (H.sent d) (left d) rest v (λ s. ap left (eqb-true d c s) ∙ r) ∙ f.fits d e);
          done = λ d e. rw (eq-eqb (sender d) 255 e) (λ t. feed_open (eqb d c) (left d) rest v (λ s. ap left (eqb-true d c s) ∙ r) (f.done d e t));
        }

    pub fed_finish : {left : ℕ → List W} (H : State X W) (c : ℕ) → left c ≡ [] → Fed left H → Fed left (change N 255 (seal c (λ x. x)) H)
    unfolding change
    fed_finish {left} H c r f =
        record {
          fits = λ d e. rw (eq-eqb (sender d) 255 e) (f.fits d e);
          done = λ d e. rw (eq-eqb (sender d) 255 e) (shut_done (eqb d c) (H.closed d) (left d) (λ s. ap left (eqb-true d c s) ∙ r) (f.done d e));
        }

    -- H is on the way to every state after m rounds
    abbrev pub Reaches : ℕ → State X W → Type 0
    Reaches m H = (n : ℕ) → m ≤ n → (σ : List ℕ) × (run N σ (fill N input H) ≡ rounds N input n)

    reaches_start : Reaches 0 (empty N)
    unfolding round
    reaches_start zero h = ([], refl)
    reaches_start (suc n) h = next (reaches_start n (omega arith))
      where
        next : (σ : List ℕ) × (run N σ (rounds N input 0) ≡ rounds N input n) → (σ : List ℕ) × (run N σ (rounds N input 0) ≡ round N (rounds N input n))
        next r = (r.0 ++ from 0 P, run_append r.0 (from 0 P) (rounds N input 0) ∙ ap (round N) r.1)

    -- p moves at A, and σ leads from A to B: from where p has moved a schedule leads to B's next round
    catch_up : (p : ℕ) (A : State X W) {a : Act X W} → does N p A ≡ some a → (σ : List ℕ) → (τ : List ℕ) × (run N τ (step N p A) ≡ round N (run N σ A))
    unfolding round
    catch_up p A {a} m σ = first (absorb N p A m σ)
      where
        second : (l : Late N p A a σ) → ((τ : List ℕ) × (run N τ (step N p (run N σ A)) ≡ run N (from 0 P) (run N σ A))) ⊎ Late N p (run N σ A) a (from 0 P)
            → (τ : List ℕ) × (run N τ (step N p A) ≡ run N (from 0 P) (run N σ A))
        second l (inl t) = (l.after ++ t.0, run_append l.after t.0 (step N p A) ∙ ap (run N t.0) l.meets ∙ t.1)
        second l (inr k) = absurd (k.absent (in_from p 0 P (omega arith) (omega (arith, inside p A m))))

        first : ((τ : List ℕ) × (run N τ (step N p A) ≡ run N σ A)) ⊎ Late N p A a σ → (τ : List ℕ) × (run N τ (step N p A) ≡ run N (from 0 P) (run N σ A))
        first (inl t) = (t.0 ++ from 0 P, run_append t.0 (from 0 P) (step N p A) ∙ ap (run N (from 0 P)) t.1)
        first (inr l) = second l (absorb N p (run N σ A) l.still (from 0 P))

    reaches_move : (p : ℕ) {left : ℕ → List W} (H : State X W) {a : Act X W} (m : ℕ) → Fed left H → does N p H ≡ some a → Reaches m H → Reaches (m + 1) (step N p H)
    reaches_move p H m f d r zero h = absurd (omega arith)
    reaches_move p H m f d r (suc n) h =
        let s = r n (omega arith) in
        let t = catch_up p (fill N input H) (fill_moves p H f d) s.0 in
        (t.0, ap (run N t.0) (fill_step p H f d) ∙ t.1 ∙ ap (round N) s.1)

    pub turn_fed : (p : ℕ) {left : ℕ → List W} (H : State X W) (o : Option (Act X W)) → does N p H ≡ o → Fed left H → Fed left (step N p H)
    turn_fed p H none e f = rw (step_waits N p H e) f
    turn_fed p H (some a) e f = fed_step p H f e

    turn_reaches : (p : ℕ) {left : ℕ → List W} (H : State X W) (m : ℕ) (o : Option (Act X W)) → does N p H ≡ o → Fed left H → Reaches m H → Reaches (m + tally N o) (step N p H)
    unfolding tally
    turn_reaches p H m none e f r = λ n h. rw (step_waits N p H e) (r n (omega arith))
    turn_reaches p H m (some a) e f r = reaches_move p H m f e r

    -- what holds of every state that the events lead to
    pub record Reached (m : ℕ) (H : State X W) : Type 0 where
      pub left : ℕ → List W
      pub fed : Fed left H
      pub reaches : Reaches m H

    later : (es : List (Event W)) (left : ℕ → List W) (H : State X W) (m : ℕ) → Legal N left es → Fed left H → Reaches m H → Reached (m + moves_of N es H) (happens N es H)
    unfolding happen moved_at
    later [] left H m l f r = record { left = left; fed = f; reaches = λ n h. r n (omega arith) }
    later (turn p ∷ es) left H m l f r =
        subst (λ k. Reached k (happens N es (step N p H))) (omega arith) (later es left (step N p H) (m + tally N (does N p H)) l (turn_fed p H _ refl f) (turn_reaches p H m _ refl f r))
    later (arrive c v ∷ es) left H m l f r =
        subst (λ k. Reached k (happens N es (happen N (arrive c v) H))) (omega arith)
        (later es (update left c l.0) (happen N (arrive c v) H) m l.3 (fed_feed H c v l.0 l.2 f) (λ n h. rw (fill_outside _ _ H) (r n h)))
    later (finish c ∷ es) left H m l f r =
        subst (λ k. Reached k (happens N es (happen N (finish c) H))) (omega arith)
        (later es left (happen N (finish c) H) m l.2 (fed_finish H c l.1 f) (λ n h. rw (fill_outside _ _ H) (r n h)))

    pub fed_start : Fed input (empty N)
    unfolding empty
    fed_start = record { fits = λ c e. refl; done = λ c e t. absurd (false≢true t) }

    -- whatever the events, the network is on the way to each state after at least as many rounds as it has made moves
    pub reached : (es : List (Event W)) → Legal N input es → Reached (moves_of N es (empty N)) (happens N es (empty N))
    reached es l = subst (λ k. Reached k (happens N es (empty N))) (omega arith) (later es input (empty N) 0 l fed_start reaches_start)

    step_prefix : (p : ℕ) (H : State X W) (c : ℕ) (o : Option (Act X W)) → does N p H ≡ o → Prefix (H.sent c) ((step N p H).sent c)
    step_prefix p H c none e = rw (step_waits N p H e) (prefix_refl (H.sent c))
    step_prefix p H c (some a) e = rw (step_moves N p H e) (let m = change_more N p H a (does_grows N p H e) c in record { rest = m.extra; longer = m.longer })

    pub run_prefix : (σ : List ℕ) (H : State X W) (c : ℕ) → Prefix (H.sent c) ((run N σ H).sent c)
    run_prefix [] H c = prefix_refl (H.sent c)
    run_prefix (p ∷ σ) H c = prefix_trans (step_prefix p H c (does N p H) refl) (run_prefix σ (step N p H) c)

    pub determined : (es : List (Event W)) → Legal N input es → (n : ℕ) → moves_of N es (empty N) ≤ n → (c : ℕ) → Prefix ((happens N es (empty N)).sent c) ((rounds N input n).sent c)
    determined es l n h c =
        let H = happens N es (empty N) in
        let r = reached es l in
        let s = r.reaches n h in
        let m = fill_more H r.fed c in
        prefix_trans (record { rest = m.extra; longer = m.longer }) (subst (λ (T : State X W). Prefix ((fill N input H).sent c) (T.sent c)) s.1 (run_prefix s.0 (fill N input H) c))

    -- a network at rest that has had all its input is where the rounds come to rest
    pub fill_full : (H : State X W) → ((c : ℕ) → sender c ≡ 255 → H.sent c ≡ input c) → ((c : ℕ) → sender c ≡ 255 → H.closed c ≡ true) → fill N input H ≡ H
    unfolding fill change
    fill_full H f g =
        λ i. record {
          processes = λ q. cond_same (eqb q 255) (H.processes q) i;
          sent = λ c. cond_is (eqb (sender c) 255) (input c) (H.sent c) (λ s. sym (f c (eqb-true (sender c) 255 s))) i;
          received = λ c. cond_same (eqb (receiver c) 255) (H.received c) i;
          closed = λ c. cond_is (eqb (sender c) 255) true (H.closed c) (λ s. sym (g c (eqb-true (sender c) 255 s))) i;
        }

    none_of : (o : Option (Act X W)) → ((a : Act X W) → o ≡ some a → ⊥) → o ≡ none
    none_of none h = refl
    none_of (some a) h = absurd (h a refl)

    run_rests : (H : State X W) → ((p : ℕ) → ¬ Moves N p H) → (σ : List ℕ) → run N σ H ≡ H
    run_rests H h [] = refl
    run_rests H h (p ∷ σ) = ap (run N σ) (step_waits N p H (none_of (does N p H) (λ a e. h p (a, e)))) ∙ run_rests H h σ

    pub rests : (es : List (Event W)) → Legal N input es
        → ((c : ℕ) → sender c ≡ 255 → (happens N es (empty N)).sent c ≡ input c)
        → ((c : ℕ) → sender c ≡ 255 → (happens N es (empty N)).closed c ≡ true)
        → ((p : ℕ) → p < P → ¬ Moves N p (happens N es (empty N)))
        → (n : ℕ) → moves_of N es (empty N) ≤ n → happens N es (empty N) ≡ rounds N input n
    rests es l f g h n k =
        let H = happens N es (empty N) in
        let s = (reached es l).reaches n k in
        sym (run_rests H (λ p m. h p (inside p H m.1) m) s.0) ∙ ap (run N s.0) (sym (fill_full H f g)) ∙ s.1
