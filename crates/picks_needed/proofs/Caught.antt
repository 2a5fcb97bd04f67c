-- A network with unlimited channels on its way to a state F: a process that wants nothing stays as it is, and so do processes each of which waits for a
-- message of one of them.
-- Assumes nothing.
use mathlib.Core.Path.{◌≡◌, refl, sym, ap, ◌∙◌, subst}
use mathlib.Core.Option.{Option, none, some}
use mathlib.Core.List.{List, [], ◌∷◌}
use Prim.Native.Nat.{ℕ}
use borrow.Author.Tests.{ne_eqb}
use Rattle.process.specs.Intent.{idle, receive}
use Rattle.kahn.proofs.Unbounded.{State, Act, Net, Owns, act, change, does, step, run}
use Rattle.kahn.proofs.Diamond.{none_some, step_moves, step_waits}
use Rattle.kahn.proofs.Conds.{cond_false}
use Rattle.picks_needed.proofs.Onward.{Leads}

module _ (N : Net) (F : State N.X N.W) where
  open N use {X, W, sender, receiver, intent, owns}

  -- ---- a process that wants nothing stays as it is
  idle_step : (q r : ℕ) (K : State X W) (o : Option (Act X W)) → does N r K ≡ o → intent q (K.processes q) ≡ idle → (step N r K).processes q ≡ K.processes q
  unfolding does act change
  idle_step q r K none m i = ap (λ (T : State X W). T.processes q) (step_waits N r K m)
  idle_step q r K (some a) m i = ap (λ (T : State X W). T.processes q) (step_moves N r K m) ∙ cond_false _ _ (ne_eqb q r (λ e. none_some (let z : does N q K ≡ none = rw i in sym (ap (λ (x : ℕ). does N x K) (sym e) ∙ z) ∙ m)))

  idle_run : (q : ℕ) (σ : List ℕ) (K : State X W) → intent q (K.processes q) ≡ idle → (run N σ K).processes q ≡ K.processes q
  idle_run q [] K i = refl
  idle_run q (r ∷ σ) K i = let e = idle_step q r K (does N r K) refl i in idle_run q σ (step N r K) (ap (intent q) e ∙ i) ∙ e

  pub idle_stays : (q : ℕ) (H : State X W) → Leads N F H → intent q (H.processes q) ≡ idle → F.processes q ≡ H.processes q
  idle_stays q H l i = subst (λ (T : State X W). T.processes q ≡ H.processes q) l.1 (idle_run q l.0 H i)

  -- ---- a set of processes each of which waits for a message of one of them
  pub record Caught (H : State X W) (S : ℕ → Type 0) (p : ℕ) : Type 0 where
    pub channel : ℕ
    pub next : W → X
    pub over : X
    pub wants : intent p (H.processes p) ≡ receive channel next over
    pub waits : does N p H ≡ none
    pub from : S (sender channel)

  module _ (H : State X W) (S : ℕ → Type 0) (caught : (p : ℕ) → S p → Caught H S p) where
    record Same (K : State X W) : Type 0 where
      process : (p : ℕ) → S p → K.processes p ≡ H.processes p
      sent : (p : ℕ) (s : S p) → K.sent (caught p s).channel ≡ H.sent (caught p s).channel
      received : (p : ℕ) (s : S p) → K.received (caught p s).channel ≡ H.received (caught p s).channel
      closed : (p : ℕ) (s : S p) → K.closed (caught p s).channel ≡ H.closed (caught p s).channel

    received_by : (p : ℕ) (s : S p) → receiver (caught p s).channel ≡ p
    received_by p s = subst (Owns sender receiver p) (caught p s).wants (owns p (H.processes p))

    does_same : (p : ℕ) → S p → (K : State X W) → Same K → does N p K ≡ does N p H
    unfolding does act
    does_same p s K k = rw (k.process p s, (caught p s).wants, k.sent p s, k.received p s, k.closed p s)

    same_step : (r : ℕ) (K : State X W) (o : Option (Act X W)) → does N r K ≡ o → Same K → Same (step N r K)
    unfolding change
    same_step r K none m k = rw (step_waits N r K m) k
    same_step r K (some a) m k =
        let out : S r → ⊥ = λ s. none_some (sym (does_same r s K k ∙ (caught r s).waits) ∙ m) in
        rw (step_moves N r K m)
        (record {
          process = λ p s. cond_false _ _ (ne_eqb p r (λ e. out (subst S e s))) ∙ k.process p s;
          sent = λ p s. cond_false _ _ (ne_eqb (sender (caught p s).channel) r (λ e. out (subst S e (caught p s).from))) ∙ k.sent p s;
          received = λ p s. cond_false _ _ (ne_eqb (receiver (caught p s).channel) r (λ e. out (subst S (sym (received_by p s) ∙ e) s))) ∙ k.received p s;
          closed = λ p s. cond_false _ _ (ne_eqb (sender (caught p s).channel) r (λ e. out (subst S e (caught p s).from))) ∙ k.closed p s;
        })

    same_run : (σ : List ℕ) (K : State X W) → Same K → Same (run N σ K)
    same_run [] K k = k
    same_run (r ∷ σ) K k = same_run σ (step N r K) (same_step r K (does N r K) refl k)

    pub caught_stays : Leads N F H → (p : ℕ) → S p → F.processes p ≡ H.processes p
    caught_stays l p s =
        subst (λ (T : State X W). T.processes p ≡ H.processes p) l.1
        ((same_run l.0 H (record { process = λ q t. refl; sent = λ q t. refl; received = λ q t. refl; closed = λ q t. refl })).process p s)
