-- A move of one process stays possible, and stays the same move, whatever the others do; moves of two processes commute; and a schedule absorbs
-- a move that is possible at its start.
-- Assumes nothing.
use mathlib.Core.Path.{◌≡◌, refl, sym, ap, ◌∙◌, subst}
use mathlib.Core.Logic.{◌≢◌, ◌⊎◌, inl, inr, ⊎_elim}
use mathlib.Core.Bool.{Bool, true, false, cond, true≢false}
use mathlib.Core.Option.{Option, none, some}
use mathlib.Core.List.{List, [], ◌∷◌, ◌++◌, append-nil}
use Prim.Native.Nat.{ℕ, zero, suc}
use native.Mathlib.Decide.{ℕ_discrete}
use lib.Dec.{eqb}
use lib.ListN.{get_elem?}
use borrow.Author.Tests.{eqb-true, ne_eqb}
use Rattle.process.specs.Intent.{Intent, idle, inner, receive, send, close, halt}
use Rattle.kahn.proofs.Conds.{cond_false, cond_comm, cond_true}
use Rattle.kahn.proofs.Unbounded.{State, Act, Net, Owns, In, await, act, quit, change, does, after, step, run}

-- a channel's list and whether it is closed, before and after: it grows, and only while it is open, and it stays closed
pub record More {W : Type 0} (l : List W) (t : Bool) (l' : List W) (t' : Bool) : Type 0 where
  pub extra : List W
  pub longer : l' ≡ l ++ extra
  pub ended : t ≡ true → extra ≡ []
  pub stays : t ≡ true → t' ≡ true

module _ {W : Type 0} where
  pub more_same : (l : List W) (t t' : Bool) → (t ≡ true → t' ≡ true) → More l t l t'
  more_same l t t' s = record { extra = []; longer = sym (append-nil l); ended = λ _. refl; stays = s }

  pub more_cond : (o : Bool) {l : List W} {t : Bool} {l' : List W} {t' : Bool} → (o ≡ true → More l t l' t') → More l t (cond o l' l) (cond o t' t)
  more_cond true m = m refl
  more_cond false {l} {t} m = more_same l t t (λ e. e)

module _ {A : Type 0} where
  -- Q of what an option holds, if it holds anything
  abbrev pub Each : (A → Type 0) → Option A → Type 0
  Each Q none = Unit {0}
  Each Q (some a) = Q a

  pub none_some : {a : A} {B : Type 0} → ◌≡◌ {A = Option A} none (some a) → B
  none_some e = absurd (subst (λ o. Each (λ _. ⊥) o) e tt)

pub apart : (m : ℕ) {p q : ℕ} → p ≢ q → eqb m p ≡ true → eqb m q ≡ true → ⊥
apart m {p} {q} h s t = h (sym (eqb-true m p s) ∙ eqb-true m q t)

module _ {W : Type 0} where
  more_snoc : (s : Bool) (l : List W) (v : W) (t : Bool) → (s ≡ true → t ≡ false) → More l t (cond s (l ++ (v ∷ [])) l) t
  more_snoc true l v t h = record { extra = v ∷ []; longer = refl; ended = λ e. absurd (true≢false (sym e ∙ h refl)); stays = λ e. e }
  more_snoc false l v t h = more_same l t t (λ e. e)

module _ {X W : Type 0} where
  -- what an act does to each channel of its process
  abbrev pub Grows : State X W → Act X W → Type 0
  Grows H a = (c : ℕ) → More (H.sent c) (H.closed c) (a.put c (H.sent c)) (a.shut c (H.closed c))

  await_grows : (H : State X W) (b : ℕ) (k : W → X) (e : X) (o : Option W) (t : Bool) → Each (Grows H) (await b k e o t)
  unfolding await
  await_grows H b k e (some v) t = λ c. more_same _ _ _ (λ e. e)
  await_grows H b k e none true = λ c. more_same _ _ _ (λ e. e)
  await_grows H b k e none false = tt

  quit_grows : (H : State X W) (x : X) → Grows H (quit x)
  quit_grows H x c = more_same _ _ _ (λ _. refl)

  open_grows : (H : State X W) (t : Bool) (a b : Act X W) → Grows H a → (t ≡ false → Grows H b) → Grows H (cond t a b)
  open_grows H true a b g h = g
  open_grows H false a b g h = h refl

  pub act_grows : (i : Intent X W) (H : State X W) → Each (Grows H) (act i H)
  unfolding act
  act_grows idle H = tt
  act_grows (inner x) H = λ c. more_same _ _ _ (λ e. e)
  act_grows (receive b k e) H = await_grows H b k e _ _
  act_grows (send b v x f) H = open_grows H (H.closed b) _ _ (quit_grows H f) (λ o c. more_snoc (eqb c b) _ v _ (λ s. ap H.closed (eqb-true c b s) ∙ o))
  act_grows (close b x f) H = open_grows H (H.closed b) _ _ (quit_grows H f) (λ o c. more_same _ _ _ (cond_true (eqb c b)))
  act_grows (halt x) H = quit_grows H x

  await_keeps : (b : ℕ) (k : W → X) (e : X) (l extra : List W) (n : ℕ) (t t' : Bool) {a : Act X W}
      → (t ≡ true → extra ≡ []) → (t ≡ true → t' ≡ true) → await b k e (get_elem? l n) t ≡ some a → await b k e (get_elem? (l ++ extra) n) t' ≡ some a
  unfolding await
  await_keeps b k e [] extra n true t' x y m = rw (x refl, y refl) m
  await_keeps b k e [] extra n false t' x y m = none_some m
  await_keeps b k e (w ∷ l) extra zero t t' x y m = m
  await_keeps b k e (w ∷ l) extra (suc n) t t' x y m = await_keeps b k e l extra n t t' x y m

module _ (N : Net) where
  open N use {X, W, sender, receiver, intent, owns}

  -- H' is H with what others did: what p reads is there as before, or more of it
  pub record Grown (p : ℕ) (H H' : State X W) : Type 0 where
    pub same : H'.processes p ≡ H.processes p
    pub kept : (c : ℕ) → receiver c ≡ p → H'.received c ≡ H.received c
    pub mine : (c : ℕ) → sender c ≡ p → H'.closed c ≡ H.closed c
    pub more : (c : ℕ) → More (H.sent c) (H.closed c) (H'.sent c) (H'.closed c)

  act_keeps : (p : ℕ) (i : Intent X W) {H H' : State X W} {a : Act X W} → Owns sender receiver p i → Grown p H H' → act i H ≡ some a → act i H' ≡ some a
  unfolding act
  act_keeps p idle w g m = m
  act_keeps p (inner x) w g m = m
  act_keeps p (receive b k e) {H} {H'} w g m = rw (g.kept b w, (g.more b).longer) (await_keeps b k e (H.sent b) (g.more b).extra (H.received b) (H.closed b) (H'.closed b) (g.more b).ended (g.more b).stays m)
  act_keeps p (send b v x f) w g m = rw (g.mine b w) m
  act_keeps p (close b x f) w g m = rw (g.mine b w) m
  act_keeps p (halt x) w g m = m

  -- what p can do it can still do when others have moved
  pub keeps : (p : ℕ) {H H' : State X W} {a : Act X W} → Grown p H H' → does N p H ≡ some a → does N p H' ≡ some a
  unfolding does
  keeps p {H} {H'} g m = rw g.same (act_keeps p (intent p (H.processes p)) (owns p (H.processes p)) g m)

  pub change_more : (q : ℕ) (H : State X W) (a : Act X W) → Grows H a → (c : ℕ) → More (H.sent c) (H.closed c) ((change N q a H).sent c) ((change N q a H).closed c)
  unfolding change
  change_more q H a g c = more_cond (eqb (sender c) q) (λ _. g c)

  pub change_grown : (p q : ℕ) (H : State X W) (a : Act X W) → p ≢ q → ((c : ℕ) → More (H.sent c) (H.closed c) ((change N q a H).sent c) ((change N q a H).closed c)) → Grown p H (change N q a H)
  unfolding change
  change_grown p q H a h g =
      record {
        same = cond_false _ _ (ne_eqb p q h);
        kept = λ c e. cond_false _ _ (ne_eqb (receiver c) q (λ f. h (sym e ∙ f)));
        mine = λ c e. cond_false _ _ (ne_eqb (sender c) q (λ f. h (sym e ∙ f)));
        more = g;
      }

  pub change_comm : (p q : ℕ) (a b : Act X W) (H : State X W) → p ≢ q → change N p a (change N q b H) ≡ change N q b (change N p a H)
  unfolding change
  change_comm p q a b H h =
      λ i. record {
        processes = λ r. cond_comm (eqb r p) (eqb r q) a.become b.become (H.processes r) (apart r h) i;
        sent = λ c. cond_comm (eqb (sender c) p) (eqb (sender c) q) (a.put c) (b.put c) (H.sent c) (apart (sender c) h) i;
        received = λ c. cond_comm (eqb (receiver c) p) (eqb (receiver c) q) (a.take c) (b.take c) (H.received c) (apart (receiver c) h) i;
        closed = λ c. cond_comm (eqb (sender c) p) (eqb (sender c) q) (a.shut c) (b.shut c) (H.closed c) (apart (sender c) h) i;
      }

  pub does_grows : (q : ℕ) (H : State X W) {b : Act X W} → does N q H ≡ some b → Grows H b
  unfolding does
  does_grows q H m = subst (Each (Grows H)) m (act_grows (intent q (H.processes q)) H)

  pub step_moves : (p : ℕ) (H : State X W) {a : Act X W} → does N p H ≡ some a → step N p H ≡ change N p a H
  unfolding step after
  step_moves p H m = rw m

  pub step_waits : (p : ℕ) (H : State X W) → does N p H ≡ none → step N p H ≡ H
  unfolding step after
  step_waits p H m = rw m

  pub step_grown : (p q : ℕ) (H : State X W) {b : Act X W} → p ≢ q → does N q H ≡ some b → Grown p H (step N q H)
  step_grown p q H {b} h m = rw (step_moves q H m) (change_grown p q H b h (change_more q H b (does_grows q H m)))

  -- a move of p stays what it is when q moves, and the two commute
  pub commute : (p q : ℕ) (H : State X W) {a b : Act X W} → p ≢ q → does N p H ≡ some a → does N q H ≡ some b → step N q (step N p H) ≡ step N p (step N q H)
  commute p q H {a} {b} h m n =
      step_moves q (step N p H) (keeps q (step_grown q p H (λ e. h (sym e)) m) n)
      ∙ ap (change N q b) (step_moves p H m)
      ∙ change_comm q p b a H (λ e. h (sym e))
      ∙ ap (change N p a) (sym (step_moves q H n))
      ∙ sym (step_moves p (step N q H) (keeps p (step_grown p q H h n) m))

  -- where p can move, a schedule may let it move first; and where the schedule has no turn of p, p can still move at its end
  pub record Late (p : ℕ) (A : State X W) (a : Act X W) (σ : List ℕ) : Type 0 where
    pub after : List ℕ
    pub meets : run N after (step N p A) ≡ step N p (run N σ A)
    pub still : does N p (run N σ A) ≡ some a
    pub absent : ¬ In p σ

  abbrev pub Absorbs : (p : ℕ) (A : State X W) (a : Act X W) (σ : List ℕ) → Type 0
  Absorbs p A a σ = ((σ' : List ℕ) × (run N σ' (step N p A) ≡ run N σ A)) ⊎ Late p A a σ

  -- q waits: the turn of q goes
  absorb_wait : (p q : ℕ) (A : State X W) {a : Act X W} (σ : List ℕ) → p ≢ q → step N q A ≡ A → Absorbs p A a σ → Absorbs p A a (q ∷ σ)
  absorb_wait p q A σ h e (inl s) = inl (s.0, s.1 ∙ ap (run N σ) (sym e))
  absorb_wait p q A σ h e (inr s) =
      inr (record { after = s.after; meets = rw e s.meets; still = rw e s.still; absent = ⊎_elim h s.absent })

  absorb_move : (p q : ℕ) (A : State X W) {a : Act X W} (σ : List ℕ) → p ≢ q → step N q (step N p A) ≡ step N p (step N q A) → Absorbs p (step N q A) a σ → Absorbs p A a (q ∷ σ)
  absorb_move p q A σ h e (inl s) = inl (q ∷ s.0, ap (run N s.0) e ∙ s.1)
  absorb_move p q A σ h e (inr s) =
      inr (record { after = q ∷ s.after; meets = ap (run N s.after) e ∙ s.meets; still = s.still; absent = ⊎_elim h s.absent })

  absorb_turn : (p q : ℕ) (A : State X W) {a : Act X W} (σ : List ℕ) → does N p A ≡ some a → p ≢ q
      → ((B : State X W) → does N p B ≡ some a → Absorbs p B a σ) → (o : Option (Act X W)) → does N q A ≡ o → Absorbs p A a (q ∷ σ)
  absorb_turn p q A σ m h ih none n = absorb_wait p q A σ h (step_waits q A n) (ih A m)
  absorb_turn p q A σ m h ih (some b) n = absorb_move p q A σ h (commute p q A h m n) (ih (step N q A) (keeps p (step_grown p q A h n) m))

  absorb_dec : (p q : ℕ) (A : State X W) {a : Act X W} (σ : List ℕ) → does N p A ≡ some a → Dec (p ≡ q)
      → ((B : State X W) → does N p B ≡ some a → Absorbs p B a σ) → Absorbs p A a (q ∷ σ)
  absorb_dec p q A σ m (yes e) ih = inl (σ, ap (λ r. run N σ (step N r A)) e)
  absorb_dec p q A σ m (no h) ih = absorb_turn p q A σ m h ih (does N q A) refl

  pub absorb : (p : ℕ) (A : State X W) {a : Act X W} → does N p A ≡ some a → (σ : List ℕ) → Absorbs p A a σ
  absorb p A m [] = inr (record { after = []; meets = refl; still = m; absent = λ i. i })
  absorb p A m (q ∷ σ) = absorb_dec p q A σ m (ℕ_discrete p q) (λ B n. absorb p B n σ)
