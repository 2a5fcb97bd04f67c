-- The plain order is the round-robin order of Unbounded.
-- Assumes nothing.
use mathlib.Core.Path.{◌≡◌, refl, sym, ap, ◌∙◌}
use mathlib.Core.Logic.{◌≢◌}
use mathlib.Core.Bool.{Bool, true, false, cond, ◌&&◌, ◌||◌}
use mathlib.Core.Option.{none}
use mathlib.Core.List.{List, [], ◌∷◌, ◌++◌}
use Prim.Native.Nat.{ℕ, zero, suc, ◌+◌, ◌≤◌, ◌<◌}
use native.Mathlib.Numerals.{add-one}
use native.Mathlib.Omega.{arith}
use borrow.Author.Tests.{ltb-true, ltb-false, lt-ltb, eqb-true, eq-eqb, ne_eqb}
use lib.Dec.{eqb, ltb}
use lib.IntN.{ℤ, pos}
use lib.ListN.{length, get_or, get_elem?}
use Rattle.base.proofs.Conjunction.{or_false}
use Rattle.network.specs.declared.Network.{Network}
use Rattle.network.specs.Rules.{sender_of, passes}
use Rattle.network.proofs.Passed.{passed}
use Rattle.process.specs.Process.{Process}
use Rattle.process.specs.Intent.{Intent, idle, inner, receive, send, close, halt}
use Rattle.lane.specs.State.{stands_at}
use Rattle.kahn.specs.Plain.{Plain, without_capacities, new_process, plain_start, becomes, receives, sends, closes, ends, intent_of, resolve, plain_step, turns, plain_after}
use Rattle.kahn.proofs.Conds.{cond_same}
use Rattle.kahn.proofs.Unbounded.{State, Owns, goto, took, emit, seal, quit, await, act, change, does, after, step, run, from, round, empty, fill, rounds}
use Rattle.kahn.proofs.Ring.{getElem?-lt, getElem?-ge}
use Rattle.kahn.proofs.Allowed.{sender_in, receiver_in}
use Rattle.kahn.proofs.Instance.{net_of}

-- the plain order's state as one of Unbounded
abbrev pub state_of : Plain → State Process ℤ
state_of s = record { processes = s.processes; sent = s.sent; received = s.received; closed = s.closed }

-- a change of b alone, which its owner p makes, said with the owner and without
owned : {A : Type 0} (f : ℕ → A) (end : ℕ → ℕ) (p b c : ℕ) (v w : A) → end b ≡ p → (c ≡ b → v ≡ w)
    → cond (eqb c b) v (f c) ≡ cond (eqb (end c) p) (cond (eqb c b) w (f c)) (f c)
owned {A} f end p b c v w o s = at (eqb c b) refl
  where
    at : (t : Bool) → eqb c b ≡ t → cond t v (f c) ≡ cond (eqb (end c) p) (cond t w (f c)) (f c)
    at true e = let d = eqb-true c b e in rw (eq-eqb (end c) p (ap end d ∙ o)) (s d)
    at false e = sym (cond_same (eqb (end c) p) (f c))

-- its sender ends
end_closes : (shut there : Bool) (e p : ℕ) → p ≢ 254 → (shut || (there && eqb e p)) ≡ cond (eqb (cond there e 254) p) true shut
end_closes shut true e p h = go shut (eqb e p)
  where
    go : (a b : Bool) → (a || b) ≡ cond b true a
    go true true = refl
    go true false = refl
    go false true = refl
    go false false = refl
end_closes shut false e p h = or_false shut ∙ sym (rw (ne_eqb 254 p (λ k. h (sym k))))

-- channel c comes from outside
pub outside_is : (there : Bool) (e : ℕ) → (there && eqb e 255) ≡ eqb (cond there e 254) 255
outside_is true e = refl
outside_is false e = refl

choice_is : (t : Bool) → t ≡ cond t true false
choice_is true = refl
choice_is false = refl

module _ (n : Network) (pass : passes n ≡ true) where
  -- ---- one instruction
  module _ (p : ℕ) (s : Plain) where
    becomes_is : (q : Process) → state_of (becomes p q s) ≡ change (net_of n pass) p (goto (λ _. q)) (state_of s)
    unfolding change
    becomes_is q =
        λ i. record {
          processes = λ r. cond (eqb r p) q (s.processes r);
          sent = λ c. sym (cond_same (eqb (sender_in n c) p) (s.sent c)) i;
          received = λ c. sym (cond_same (eqb (receiver_in n c) p) (s.received c)) i;
          closed = λ c. sym (cond_same (eqb (sender_in n c) p) (s.closed c)) i;
        }

    receives_is : (b : ℕ) (q : Process) → receiver_in n b ≡ p → state_of (becomes p q (receives b s)) ≡ change (net_of n pass) p (took b (λ _. q)) (state_of s)
    unfolding change
    receives_is b q o =
        λ i. record {
          processes = λ r. cond (eqb r p) q (s.processes r);
          sent = λ c. sym (cond_same (eqb (sender_in n c) p) (s.sent c)) i;
          received = λ c. owned s.received (receiver_in n) p b c (s.received b + 1) (suc (s.received c)) o (λ e. rw (e, add-one)) i;
          closed = λ c. sym (cond_same (eqb (sender_in n c) p) (s.closed c)) i;
        }

    sends_is : (b : ℕ) (v : ℤ) (q : Process) → sender_in n b ≡ p → state_of (becomes p q (sends b v s)) ≡ change (net_of n pass) p (emit b v (λ _. q)) (state_of s)
    unfolding change
    sends_is b v q o =
        λ i. record {
          processes = λ r. cond (eqb r p) q (s.processes r);
          sent = λ c. owned s.sent (sender_in n) p b c (s.sent b ++ (v ∷ [])) (s.sent c ++ (v ∷ [])) o (λ e. rw e) i;
          received = λ c. sym (cond_same (eqb (receiver_in n c) p) (s.received c)) i;
          closed = λ c. sym (cond_same (eqb (sender_in n c) p) (s.closed c)) i;
        }

    closes_is : (b : ℕ) (q : Process) → sender_in n b ≡ p → state_of (becomes p q (closes b s)) ≡ change (net_of n pass) p (seal b (λ _. q)) (state_of s)
    unfolding change
    closes_is b q o =
        λ i. record {
          processes = λ r. cond (eqb r p) q (s.processes r);
          sent = λ c. sym (cond_same (eqb (sender_in n c) p) (s.sent c)) i;
          received = λ c. sym (cond_same (eqb (receiver_in n c) p) (s.received c)) i;
          closed = λ c. owned s.closed (sender_in n) p b c true true o (λ e. refl) i;
        }

    ends_is : (q : Process) → p ≢ 254 → state_of (ends (without_capacities n) p q s) ≡ change (net_of n pass) p (quit q) (state_of s)
    unfolding change
    ends_is q h =
        λ i. record {
          processes = λ r. cond (eqb r p) q (s.processes r);
          sent = λ c. sym (cond_same (eqb (sender_in n c) p) (s.sent c)) i;
          received = λ c. sym (cond_same (eqb (receiver_in n c) p) (s.received c)) i;
          closed = λ c. end_closes (s.closed c) (ltb c n.channels) (sender_of n c) p h i;
        }

    receive_is : (b : ℕ) (next : ℤ → Process) (over : Process) → receiver_in n b ≡ p
        → state_of (resolve (without_capacities n) p (receive b next over) s) ≡ after (net_of n pass) p (act (receive b next over) (state_of s)) (state_of s)
    unfolding resolve after act await
    receive_is b next over o = at (ltb (s.received b) (length (s.sent b))) refl
      where
        ended : (t : Bool) → state_of (cond t (becomes p over s) s) ≡ after (net_of n pass) p (await b next over none t) (state_of s)
        ended true = becomes_is over
        ended false = refl

        at : (t : Bool) → ltb (s.received b) (length (s.sent b)) ≡ t
            → state_of (cond t (becomes p (next (get_or (s.sent b) (s.received b) (pos 0))) (receives b s)) (cond (s.closed b) (becomes p over s) s))
            ≡ after (net_of n pass) p (await b next over (get_elem? (s.sent b) (s.received b)) (s.closed b)) (state_of s)
        at true e =
            rw (getElem?-lt (s.sent b) (s.received b) (pos 0) (ltb-true _ _ e))
            (receives_is b (next (get_or (s.sent b) (s.received b) (pos 0))) o)
        at false e = rw (getElem?-ge (s.sent b) (s.received b) (ltb-false _ _ e)) (ended (s.closed b))

    resolve_is : p ≢ 254 → (t : Intent Process ℤ) → Owns (sender_in n) (receiver_in n) p t
        → state_of (resolve (without_capacities n) p t s) ≡ after (net_of n pass) p (act t (state_of s)) (state_of s)
    unfolding resolve after act
    resolve_is h idle o = refl
    resolve_is h (inner q) o = becomes_is q
    resolve_is h (receive b next over) o = receive_is b next over o
    resolve_is h (send b v next fault) o = at (s.closed b)
      where
        at : (t : Bool) → state_of (cond t (ends (without_capacities n) p fault s) (becomes p next (sends b v s)))
            ≡ change (net_of n pass) p (cond t (quit fault) (emit b v (λ _. next))) (state_of s)
        at true = ends_is fault h
        at false = sends_is b v next o
    resolve_is h (close b next fault) o = at (s.closed b)
      where
        at : (t : Bool) → state_of (cond t (ends (without_capacities n) p fault s) (becomes p next (closes b s)))
            ≡ change (net_of n pass) p (cond t (quit fault) (seal b (λ _. next))) (state_of s)
        at true = ends_is fault h
        at false = closes_is b next o
    resolve_is h (halt q) o = ends_is q h

  pub step_is : (p : ℕ) → p < n.processes → (s : Plain) → state_of (plain_step (without_capacities n) p s) ≡ step (net_of n pass) p (state_of s)
  unfolding plain_step step does stands_at
  step_is p h s =
      let k = (passed n pass).processes_high in
      let l = lt-ltb p n.processes h in
      rw l (resolve_is p s (omega arith) (intent_of n p (s.processes p)) (rw l at ((net_of n pass).owns p (s.processes p))))

  -- ---- rounds
  turns_is : (k p : ℕ) → p + k ≤ n.processes → (s : Plain) → state_of (turns (without_capacities n) p k s) ≡ run (net_of n pass) (from p k) (state_of s)
  turns_is zero p h s = refl
  turns_is (suc k) p h s =
      turns_is k (suc p) (omega arith) (plain_step (without_capacities n) p s) ∙ ap (run (net_of n pass) (from (suc p) k)) (step_is p (omega arith) s)

  module _ (input : ℕ → List ℤ) where
    start_is : state_of (plain_start (without_capacities n) input) ≡ fill (net_of n pass) input (empty (net_of n pass))
    unfolding plain_start fill change empty
    start_is =
        λ i. record {
          processes = λ p. sym (cond_same (eqb p 255) new_process) i;
          sent = λ c. cond (outside_is (ltb c n.channels) (sender_of n c) i) (input c) [];
          received = λ c. sym (cond_same (eqb (receiver_in n c) 255) 0) i;
          closed = λ c. (outside_is (ltb c n.channels) (sender_of n c) ∙ choice_is (eqb (sender_in n c) 255)) i;
        }

    -- the plain order after so many rounds
    pub plain_is : (r : ℕ) → state_of (plain_after (without_capacities n) input r) ≡ rounds (net_of n pass) input r
    unfolding round
    plain_is zero = start_is
    plain_is (suc r) =
        turns_is n.processes 0 (omega arith) (plain_after (without_capacities n) input r) ∙ ap (round (net_of n pass)) (plain_is r)
