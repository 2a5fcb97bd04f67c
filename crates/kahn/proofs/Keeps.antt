-- Each call on a board keeps the relation to its history, and the history moves exactly when the board does.
-- Assumes nothing.
use mathlib.Core.Path.{◌≡◌, refl, sym, ◌∙◌}
use mathlib.Core.Logic.{◌≢◌}
use mathlib.Core.Bool.{Bool, true, false, cond}
use mathlib.Core.Option.{Option, none, some}
use mathlib.Core.List.{List, [], ◌∷◌, ◌++◌, append-nil}
use Prim.Native.Nat.{ℕ, ◌+◌, ◌<◌}
use native.Mathlib.Omega.{arith}
use lib.Dec.{eqb}
use lib.ListN.{get_elem?}
use borrow.Author.Tests.{eqb-true, eqb-false, eq-eqb, ne_eqb}
use Rattle.process.specs.Intent.{Intent, idle, inner, receive, send, close, halt}
use Rattle.kahn.proofs.Unbounded.{State, Act, Owns, goto, took, emit, seal, quit, await, act, change, does, happen, arrive, finish}
use Rattle.process.specs.Channels.{get_one, close_one, enlarge_one, slot}
use Rattle.kahn.proofs.Bounded.{Board, Answer, moved, waiting_empty, waiting_full, over, Turn, Ends, Machine, channel_at, process_at, cell_at, become, put_channel, store, full, quit_on, go, stay, resolve, pick_on}
use Rattle.kahn.proofs.Ring.{getElem?-lt, getElem?-ge}
use Rattle.kahn.proofs.Line.{line_take, line_enlarge}
use Rattle.kahn.proofs.Relation.{Related, LineOf, rel_goto, rel_took, rel_emit, rel_seal, rel_quit, local, became, unmoved}

module _ (M : Machine) where
  open M.net use {X, W, P, sender, receiver, intent, owns}

  -- o: what the process does in the history
  abbrev pub Kept : (ℕ → List W) → ℕ → Board M.Store W → State X W → Option (Act X W) → Answer → Board M.Store W → Type 0
  Kept out p l H o moved l' = (a : Act X W) × (o ≡ some a) × Related M l' (change M.net p a H) out
  Kept out p l H o waiting_empty l' = (o ≡ none) × (l' ≡ l)
  Kept out p l H o over l' = (o ≡ none) × (l' ≡ l)
  Kept out p l H o waiting_full l' = l' ≡ l

  abbrev pub KeptBy : (ℕ → List W) → ℕ → Board M.Store W → State X W → Option (Act X W) → Turn M.Store W → Type 0
  KeptBy out p l H o t = Kept out p l H o t.answer t.board

  store_processes : (b : ℕ) (v : W) (l : Board M.Store W) → (store M b v l).processes ≡ l.processes
  unfolding store
  store_processes b v l = at (M.ended (process_at M l (receiver b))) _ refl
    where
      at : (g : Bool) (l' : Board M.Store W) → l'.processes ≡ l.processes → (cond g l l').processes ≡ l.processes
      at true l' e = refl
      at false l' e = e

  module _ (l : Board M.Store W) (H : State X W) (out : ℕ → List W) (R : Related M l H out) (p : ℕ) (inp : p < 16) (alive : M.ended (H.processes p) ≡ false) where
    received_is : (b : ℕ) → receiver b ≡ p → (L : LineOf M l.channels l.cells H out b) → L.from ≡ H.received b
    received_is b w L = L.mine (omega arith) (rw w alive)

    keep_receive : (b : ℕ) (k : W → X) (e : X) → receiver b ≡ p → ((v : W) → (M.ended (k v) ≡ false) × M.Fit (k v)) → (M.ended e ≡ false) × M.Fit e
        → KeptBy out p l H (act (receive b k e) H) (resolve M p (receive b k e) l)
    unfolding act await resolve
    keep_receive b k e w u v = empty (eqb (channel_at M l b).held 0) refl
      where
        L : LineOf M l.channels l.cells H out b
        L = R.lines b (M.receivers b (omega arith))

        shut : (t : Bool) → (channel_at M l b).closed ≡ t → (channel_at M l b).held ≡ 0
            → KeptBy out p l H (await b k e (get_elem? (H.sent b) (H.received b)) (H.closed b)) (cond t (go M (become M p e l)) (stay M waiting_empty l))
        shut true q z =
            (goto (λ _. e), rw (getElem?-ge (H.sent b) (H.received b) (omega (arith, received_is b w L, L.count)), ← L.shut, q), rel_goto M l H p e R inp v.1 (v.0 ∙ sym alive))
        shut false q z = (rw (getElem?-ge (H.sent b) (H.received b) (omega (arith, received_is b w L, L.count)), ← L.shut, q), refl)

        empty : (t : Bool) → eqb (channel_at M l b).held 0 ≡ t
            → KeptBy out p l H (await b k e (get_elem? (H.sent b) (H.received b)) (H.closed b))
            (cond t (cond (channel_at M l b).closed (go M (become M p e l)) (stay M waiting_empty l))
            (go M (become M p (k (cell_at M l (slot b (channel_at M l b) 0))) (put_channel M b (get_one (channel_at M l b)) l))))
        empty true q = shut (channel_at M l b).closed refl (eqb-true _ _ q)
        empty false q =
            let z = eqb-false (channel_at M l b).held 0 q in
            let v = cell_at M l (slot b (channel_at M l b) 0) in
            let o : L.from + 0 ≡ H.received b = omega (arith, received_is b w L) in (
              took b (λ _. k v),
              rw (getElem?-lt (H.sent b) (H.received b) M.blank_w (omega (arith, L.count)), ← o, ← L.ring 0 (omega arith)),
              rel_took M l H p b (k v) R inp (u v).1 w ((u v).0 ∙ sym alive) z,
            )

    keep_send : (b : ℕ) (v : W) (x f : X) → sender b ≡ p → (M.ended x ≡ false) × M.Fit x → (M.ended f ≡ true) × M.Fit f
        → KeptBy out p l H (act (send b v x f) H) (resolve M p (send b v x f) l)
    unfolding act resolve
    keep_send b v x f w y z = shut (channel_at M l b).closed L.shut
      where
        j : b < 32
        j = M.senders b (omega arith)

        L : LineOf M l.channels l.cells H out b
        L = R.lines b j

        room : (g : Bool) → full M b l ≡ g → KeptBy out p l H (some (emit b v (λ _. x))) (cond g (stay M waiting_full l) (go M (become M p x (store M b v l))))
        room true q = refl
        room false q = (
          emit b v (λ _. x),
          refl,
          rel_emit M l H p b v (λ _. x) (M.place (store M b v l).processes p x) R w j (y.0 ∙ sym alive) y.1
              (rw (store_processes b v l) (M.good_place l.processes p x R.good inp y.1)) (rw (store_processes b v l) (became M l H R p inp x y.1)) q,
        )

        shut : (t : Bool) → t ≡ H.closed b
            → KeptBy out p l H (some (cond (H.closed b) (quit f) (emit b v (λ _. x)))) (cond t (go M (quit_on M p f l)) (cond (full M b l) (stay M waiting_full l) (go M (become M p x (store M b v l)))))
        shut true q = rw (← q) (quit f, refl, rel_quit M l H p f R inp z.1 z.0)
        shut false q = rw (← q) (room (full M b l) refl)

    keep_close : (b : ℕ) (x f : X) → sender b ≡ p → (M.ended x ≡ false) × M.Fit x → (M.ended f ≡ true) × M.Fit f
        → KeptBy out p l H (act (close b x f) H) (resolve M p (close b x f) l)
    unfolding act resolve
    keep_close b x f w y z = shut (channel_at M l b).closed L.shut
      where
        L : LineOf M l.channels l.cells H out b
        L = R.lines b (M.senders b (omega arith))

        shut : (t : Bool) → t ≡ H.closed b
            → KeptBy out p l H (some (cond (H.closed b) (quit f) (seal b (λ _. x)))) (cond t (go M (quit_on M p f l)) (go M (become M p x (put_channel M b (close_one (channel_at M l b)) l))))
        shut true q = rw (← q) (quit f, refl, rel_quit M l H p f R inp z.1 z.0)
        shut false q =
            rw (← q)
            (seal b (λ _. x), refl, rel_seal M l H p b (λ _. x) (M.place l.processes p x) R w (y.0 ∙ sym alive) y.1 (M.good_place l.processes p x R.good inp y.1) (became M l H R p inp x y.1))

    keep : (i : Intent X W) → Owns sender receiver p i → Ends M.ended M.Fit i → KeptBy out p l H (act i H) (resolve M p i l)
    unfolding act resolve
    keep idle w n = (refl, refl)
    keep (inner x) w n = (goto (λ _. x), refl, rel_goto M l H p x R inp n.1 (n.0 ∙ sym alive))
    keep (receive b k e) w n = keep_receive b k e w n.0 n.1
    keep (send b v x f) w n = keep_send b v x f w n.0 n.1
    keep (close b x f) w n = keep_close b x f w n.0 n.1
    keep (halt x) w n = (quit x, refl, rel_quit M l H p x R inp n.1 n.0)

  pub pick_kept : (l : Board M.Store W) (H : State X W) (out : ℕ → List W) (p : ℕ) → Related M l H out → p < 16 → KeptBy out p l H (does M.net p H) (pick_on M p l)
  unfolding does pick_on act resolve
  pick_kept l H out p R i = rw (R.same p) (at (M.ended (H.processes p)) refl)
    where
      at : (t : Bool) → M.ended (H.processes p) ≡ t → KeptBy out p l H (act (intent p (H.processes p)) H) (resolve M p (intent p (H.processes p)) l)
      at true e = rw (M.rests p (H.processes p) e) (refl, refl)
      at false e = keep l H out R p i e (intent p (H.processes p)) (owns p (H.processes p)) (M.ends p (H.processes p) e (R.fit p))

  -- the outside: none of it is a process
  pub feed_kept : (l : Board M.Store W) (H : State X W) (out : ℕ → List W) (c : ℕ) (v : W) → Related M l H out → c < 32 → sender c ≡ 255 → full M c l ≡ false
      → Related M (store M c v l) (happen M.net (arrive c v) H) out
  unfolding happen
  feed_kept l H out c v R j w q =
      rel_emit M l H 255 c v (λ x. x) (store M c v l).processes R w j refl (R.fit 255)
      (rw (store_processes c v l) R.good) (rw (store_processes c v l) (unmoved M l H R 255)) q

  pub close_kept : (l : Board M.Store W) (H : State X W) (out : ℕ → List W) (c : ℕ) → Related M l H out → sender c ≡ 255
      → Related M (put_channel M c (close_one (channel_at M l c)) l) (happen M.net (finish c) H) out
  unfolding happen
  close_kept l H out c R w = rel_seal M l H 255 c (λ x. x) l.processes R w refl (R.fit 255) R.good (unmoved M l H R 255)

  pub take_kept : (l : Board M.Store W) (H : State X W) (out : ℕ → List W) (c : ℕ) → Related M l H out → receiver c ≡ 255 → (channel_at M l c).held ≢ 0
      → Related M (put_channel M c (get_one (channel_at M l c)) l) H (λ d. out d ++ cond (eqb c d) (cell_at M l (slot c (channel_at M l c) 0) ∷ []) [])
  take_kept l H out c R w z =
      local M l H _ c (get_one (channel_at M l c)) R (λ d n. rw (ne_eqb c d (λ e. n (sym e))) (append-nil (out d)))
      (λ j. rw (eq-eqb c c refl) (line_take (R.lines c j) z (omega arith)))

  pub enlarge_kept : (l : Board M.Store W) (H : State X W) (out : ℕ → List W) (c : ℕ) → Related M l H out → (channel_at M l c).capacity < 256
      → Related M (put_channel M c (enlarge_one (channel_at M l c)) l) H out
  enlarge_kept l H out c R m = local M l H out c (enlarge_one (channel_at M l c)) R (λ d n. refl) (λ j. line_enlarge (R.lines c j) m)
