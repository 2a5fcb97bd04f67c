-- A network with unlimited channels on its way to a state F at which nothing moves: a move does not leave the way; what is still to be sent; how
-- many moves are left. Input that has not come yet counts as there (`Way`).
-- Assumes nothing.
use mathlib.Core.Path.{◌≡◌, refl, sym, ap, ◌∙◌, subst}
use mathlib.Core.Logic.{◌≢◌, inl, inr}
use mathlib.Core.Bool.{false}
use mathlib.Core.Option.{Option, none, some}
use mathlib.Core.List.{List, [], ◌∷◌, ◌++◌}
use Prim.Native.Nat.{ℕ, ◌+◌, ◌≤◌, ◌<◌, min}
use native.Mathlib.Decide.{ℕ_discrete}
use native.Mathlib.Omega.{arith}
use lib.ListN.{length, length-append}
use borrow.Author.Tests.{eq-eqb, ne_eqb}
use lib.Dec.{eqb}
use Rattle.process.specs.Intent.{send}
use Rattle.kahn.specs.Boards.{Prefix}
use Rattle.kahn.proofs.Unbounded.{State, Act, Net, Owns, emit, act, change, does, step, run, fill, tally}
use Rattle.kahn.proofs.Diamond.{none_some, step_moves, step_waits, Absorbs, absorb}
use Rattle.kahn.proofs.Determined.{run_prefix, inside, Fed, fill_moves, fill_step}
use Rattle.kahn.proofs.Conds.{cond_same, cond_false}
use Rattle.picks_needed.specs.Totals.{total_of}
use Rattle.picks_needed.proofs.Adding.{total_below, total_more}

prefix_length : {A : Type 0} {l l' : List A} → Prefix l l' → length l ≤ length l'
prefix_length {l = l} p = omega (arith, simp length-append at (ap length p.longer))

-- some turns lead from H to F
abbrev pub Leads : (N : Net) → State N.X N.W → State N.X N.W → Type 0
Leads N F H = (σ : List ℕ) × (run N σ H ≡ F)

module _ (N : Net) (F : State N.X N.W) (rest : (p : ℕ) → does N p F ≡ none) where
  open N use {X, W, P, sender, receiver, intent, owns}

  leads_step : (p : ℕ) (H : State X W) {a : Act X W} → does N p H ≡ some a → Leads N F H → Leads N F (step N p H)
  leads_step p H {a} m l = go (absorb N p H m l.0)
    where
      go : Absorbs N p H a l.0 → Leads N F (step N p H)
      go (inl s) = (s.0, s.1 ∙ l.1)
      go (inr k) = none_some (sym (rest p) ∙ subst (λ (T : State X W). does N p T ≡ some a) l.1 k.still)

  leads_sent : (H : State X W) → Leads N F H → (c : ℕ) → length (H.sent c) ≤ length (F.sent c)
  leads_sent H l c = subst (λ (T : State X W). length (H.sent c) ≤ length (T.sent c)) l.1 (prefix_length (run_prefix N (λ _. []) l.0 H c))

  -- ---- a process that stands at a send on an open channel: F has more on it
  emitted : (p b : ℕ) (v : W) (x : X) (H : State X W) → sender b ≡ p → (change N p (emit b v (λ _. x)) H).sent b ≡ H.sent b ++ (v ∷ [])
  unfolding change
  emitted p b v x H o = rw (eq-eqb (sender b) p o, eq-eqb b b refl)

  mine : (p b : ℕ) (v : W) (x f : X) (H : State X W) → intent p (H.processes p) ≡ send b v x f → sender b ≡ p
  mine p b v x f H i = subst (Owns sender receiver p) i (owns p (H.processes p))

  leads_send : (p b : ℕ) (v : W) (x f : X) (H : State X W) → intent p (H.processes p) ≡ send b v x f → H.closed b ≡ false → Leads N F H → length (H.sent b) < length (F.sent b)
  unfolding does act
  leads_send p b v x f H i o l =
      let m : does N p H ≡ some (emit b v (λ _. x)) = rw (i, o) in
      let k = leads_sent (step N p H) (leads_step p H m l) b in
      let e = ap (λ (T : State X W). length (T.sent b)) (step_moves N p H m) ∙ ap length (emitted p b v x H (mine p b v x f H i)) ∙ length-append (H.sent b) (v ∷ []) in
      omega (arith, k, e)

  -- ---- with all the input there
  module _ (input : ℕ → List W) where
    abbrev pub Way : State X W → Type 0
    Way H = Leads N F (fill N input H)

    fill_process : (H : State X W) (p : ℕ) → (fill N input H).processes p ≡ H.processes p
    unfolding fill change
    fill_process H p = cond_same (eqb p 255) (H.processes p)

    fill_sent : (H : State X W) (b : ℕ) → sender b ≢ 255 → (fill N input H).sent b ≡ H.sent b
    unfolding fill change
    fill_sent H b n = cond_false _ _ (ne_eqb (sender b) 255 n)

    fill_closed : (H : State X W) (b : ℕ) → sender b ≢ 255 → (fill N input H).closed b ≡ H.closed b
    unfolding fill change
    fill_closed H b n = cond_false _ _ (ne_eqb (sender b) 255 n)

    pub way_turn : (p : ℕ) {left : ℕ → List W} (H : State X W) (o : Option (Act X W)) → does N p H ≡ o → Fed N input left H → Way H → Way (step N p H)
    way_turn p H none m f l = rw (step_waits N p H m) l
    way_turn p H (some a) m f l = rw (fill_step N input p H f m) (leads_step p (fill N input H) (fill_moves N input p H f m) l)

    pub way_send : (p b : ℕ) (v : W) (x f : X) (H : State X W) → p ≢ 255 → intent p (H.processes p) ≡ send b v x f → H.closed b ≡ false → Way H → length (H.sent b) < length (F.sent b)
    way_send p b v x f H n i o l =
        let m : sender b ≢ 255 = λ e. n (sym (mine p b v x f H i) ∙ e) in
        let k = leads_send p b v x f (fill N input H) (ap (intent p) (fill_process H p) ∙ i) (fill_closed H b m ∙ o) l in
        omega (arith, k, ap length (fill_sent H b m))

    -- ---- sizes of the processes, which a move makes larger by one up to a cap, with all of F below it
    module _ (size : X → ℕ) (cap : ℕ) (grows : (p : ℕ) (H : State X W) (a : Act X W) → does N p H ≡ some a → size (a.become (H.processes p)) ≡ min (size (H.processes p) + 1) cap) where
      moved_size : (p : ℕ) (H : State X W) (a : Act X W) → does N p H ≡ some a → size ((step N p H).processes p) ≡ min (size (H.processes p) + 1) cap
      unfolding change
      moved_size p H a m = ap (λ (T : State X W). size (T.processes p)) (step_moves N p H m) ∙ rw (eq-eqb p p refl) (grows p H a m)

      other_size : (p q : ℕ) (H : State X W) (o : Option (Act X W)) → does N p H ≡ o → q ≢ p → (step N p H).processes q ≡ H.processes q
      unfolding change
      other_size p q H none m n = ap (λ (T : State X W). T.processes q) (step_waits N p H m)
      other_size p q H (some a) m n = ap (λ (T : State X W). T.processes q) (step_moves N p H m) ∙ cond_false _ _ (ne_eqb q p n)

      size_step : (p q : ℕ) (H : State X W) (o : Option (Act X W)) → does N p H ≡ o → size ((step N p H).processes q) < cap → size (H.processes q) ≤ size ((step N p H).processes q)
      size_step p q H o m h = go (ℕ_discrete q p) o m
        where
          go : Dec (q ≡ p) → (o : Option (Act X W)) → does N p H ≡ o → size (H.processes q) ≤ size ((step N p H).processes q)
          go (yes e) none m = omega (arith, ap (λ (T : State X W). size (T.processes q)) (step_waits N p H m))
          go (yes e) (some a) m = rw e (let k = moved_size p H a m in let j : size ((step N p H).processes p) < cap = rw e at h in omega arith)
          go (no n) o m = omega (arith, ap size (other_size p q H o m n))

      size_run : (σ : List ℕ) (H : State X W) (q : ℕ) → size ((run N σ H).processes q) < cap → size (H.processes q) ≤ size ((run N σ H).processes q)
      size_run [] H q h = omega arith
      size_run (p ∷ σ) H q h =
          let k = size_run σ (step N p H) q h in
          omega (arith, k, size_step p q H (does N p H) refl (omega arith))

      abbrev pub total : State X W → ℕ
      total H = total_of (λ p. size (H.processes p)) P

      module _ (low : (p : ℕ) → p < P → size (F.processes p) < cap) where
        size_way : (H : State X W) → Way H → (q : ℕ) → q < P → size (H.processes q) ≤ size (F.processes q)
        size_way H l q h =
            let k = size_run l.0 (fill N input H) q (subst (λ (T : State X W). size (T.processes q) < cap) (sym l.1) (low q h)) in
            let e = ap (λ (T : State X W). size (T.processes q)) l.1 in
            omega (arith, k, e, ap size (fill_process H q))

        -- as many moves at most as F has
        pub total_most : (H : State X W) → Way H → total H ≤ total F
        total_most H l = total_below (λ p. size (H.processes p)) (λ p. size (F.processes p)) P (size_way H l)

        -- a turn that moves adds one
        pub total_turn : (p : ℕ) {left : ℕ → List W} (H : State X W) (o : Option (Act X W)) → does N p H ≡ o → Fed N input left H → Way H
            → total (step N p H) ≡ total H + tally N o
        unfolding tally
        total_turn p H none m f l = ap total (step_waits N p H m) ∙ omega arith
        total_turn p H (some a) m f l =
            let h = inside N p H m in
            let k = moved_size p H a m in
            let j = size_way (step N p H) (way_turn p H (some a) m f l) p h in
            total_more (λ q. size (H.processes q)) (λ q. size ((step N p H).processes q)) P p h (omega (arith, k, j, low p h))
            (λ q n. ap size (other_size p q H (some a) m n))
