-- A board with bounded channels stands for a state of the network with unlimited ones, its history; what each kind of change makes of the two.
-- Assumes nothing.
use mathlib.Core.Path.{◌≡◌, refl, sym, ap, ◌∙◌}
use mathlib.Core.Logic.{◌≢◌}
use mathlib.Core.Bool.{Bool, true, false, cond}
use mathlib.Core.List.{List, [], ◌∷◌}
use Prim.Native.Nat.{ℕ, zero, suc, ◌+◌, ◌<◌}
use native.Mathlib.Decide.{ℕ_discrete}
use native.Mathlib.Omega.{arith}
use lib.Dec.{eqb}
use lib.ListN.{get_or, set, length, length-set}
use lib.Seq.{get_or-set_same, get_or-set_other}
use borrow.Author.Tests.{eqb-true, eqb-false, eq-eqb, ne_eqb}
use Rattle.kahn.proofs.Conds.{cond_same}
use Rattle.kahn.proofs.Unbounded.{State, Act, goto, took, emit, seal, quit, change}
use Rattle.process.specs.declared.Channel.{Channel}
use Rattle.process.specs.Channels.{no_channel, get_one, put_one, close_one, drop_one, slot}
use Rattle.kahn.proofs.Bounded.{Board, Machine, channel_at, process_at, become, put_channel, put_cell, store, full, drop_from, quit_on}
use Rattle.kahn.proofs.Line.{Line, line_put, line_lost, line_get, line_close, line_drop, line_other}

-- an act that leaves every channel but b as it is
pub record Only {X W : Type 0} (b : ℕ) (a : Act X W) : Type 0 where
  pub puts : (c : ℕ) → c ≢ b → (s : List W) → a.put c s ≡ s
  pub takes : (c : ℕ) → c ≢ b → (n : ℕ) → a.take c n ≡ n
  pub shuts : (c : ℕ) → c ≢ b → (t : Bool) → a.shut c t ≡ t

module _ {X W : Type 0} where
  pub only_goto : (b : ℕ) (f : X → X) → Only {X = X} {W = W} b (goto f)
  only_goto b f = record { puts = λ c n s. refl; takes = λ c n r. refl; shuts = λ c n t. refl }

  pub only_took : (b : ℕ) (f : X → X) → Only {X = X} {W = W} b (took b f)
  only_took b f = record { puts = λ c n s. refl; takes = λ c n r. rw (ne_eqb c b n); shuts = λ c n t. refl }

  pub only_emit : (b : ℕ) (v : W) (f : X → X) → Only b (emit b v f)
  only_emit b v f = record { puts = λ c n s. rw (ne_eqb c b n); takes = λ c n r. refl; shuts = λ c n t. refl }

  pub only_seal : (b : ℕ) (f : X → X) → Only {X = X} {W = W} b (seal b f)
  only_seal b f = record { puts = λ c n s. refl; takes = λ c n r. refl; shuts = λ c n t. rw (ne_eqb c b n) }

module _ (M : Machine) where
  open M.net use {X, W, P, sender, receiver, intent, owns}

  -- channel c of a board with these channels and cells
  abbrev pub LineOf : List Channel → List W → State X W → (ℕ → List W) → ℕ → Type 0
  LineOf channels cells H out c =
      Line M.blank_w (receiver c < 16) c (get_or channels c no_channel) cells (H.sent c) (H.received c) (H.closed c) (M.ended (H.processes (receiver c))) (out c)

  -- out: what the outside has taken from each channel
  pub record Related (l : Board M.Store W) (H : State X W) (out : ℕ → List W) : Type 0 where
    pub good : M.Good l.processes
    pub fit : (p : ℕ) → M.Fit (H.processes p)
    pub many_channels : length l.channels ≡ 32
    pub many_cells : length l.cells ≡ 8192
    pub same : (p : ℕ) → process_at M l p ≡ H.processes p
    pub lines : (c : ℕ) → c < 32 → LineOf l.channels l.cells H out c

  -- an act of p that ends nobody and touches b alone
  calm : (p : ℕ) (a : Act X W) (H : State X W) → M.ended (a.become (H.processes p)) ≡ M.ended (H.processes p) → (q : ℕ) → M.ended ((change M.net p a H).processes q) ≡ M.ended (H.processes q)
  unfolding change
  calm p a H h q = go (eqb q p) refl
    where
      go : (t : Bool) → eqb q p ≡ t → M.ended (cond t (a.become (H.processes q)) (H.processes q)) ≡ M.ended (H.processes q)
      go true e = rw (eqb-true q p e) h
      go false e = refl

  fitted : (p : ℕ) (a : Act X W) (H : State X W) → M.Fit (a.become (H.processes p)) → ((q : ℕ) → M.Fit (H.processes q)) → (q : ℕ) → M.Fit ((change M.net p a H).processes q)
  unfolding change
  fitted p a H v f q = go (eqb q p) refl
    where
      go : (t : Bool) → eqb q p ≡ t → M.Fit (cond t (a.become (H.processes q)) (H.processes q))
      go true e = rw (eqb-true q p e) v
      go false e = f q

  -- the channels and the cells may differ at b alone
  mild : (l l' : Board M.Store W) {out : ℕ → List W} (H : State X W) (p b : ℕ) (a : Act X W)
      → Related l H out → Only b a → M.ended (a.become (H.processes p)) ≡ M.ended (H.processes p)
      → M.Fit (a.become (H.processes p)) → M.Good l'.processes → length l'.channels ≡ 32 → length l'.cells ≡ 8192
      → ((q : ℕ) → process_at M l' q ≡ cond (eqb q p) (a.become (H.processes q)) (H.processes q))
      → ((c : ℕ) → c ≢ b → LineOf l.channels l.cells H out c → LineOf l'.channels l'.cells H out c)
      → (b < 32 → Line M.blank_w (receiver b < 16) b (channel_at M l' b) l'.cells
      (cond (eqb (sender b) p) (a.put b (H.sent b)) (H.sent b))
      (cond (eqb (receiver b) p) (a.take b (H.received b)) (H.received b))
      (cond (eqb (sender b) p) (a.shut b (H.closed b)) (H.closed b))
      (M.ended (H.processes (receiver b))) (out b))
      → Related l' (change M.net p a H) out
  unfolding change
  mild l l' {out} H p b a R o k v x y z s f g =
      record { good = x; fit = fitted p a H v R.fit; many_channels = y; many_cells = z; same = s; lines = λ c i. rw (calm p a H k (receiver c)) (at c i (ℕ_discrete c b)) }
    where
      at : (c : ℕ) → c < 32 → Dec (c ≡ b) → Line M.blank_w (receiver c < 16) c (channel_at M l' c) l'.cells
          (cond (eqb (sender c) p) (a.put c (H.sent c)) (H.sent c))
          (cond (eqb (receiver c) p) (a.take c (H.received c)) (H.received c))
          (cond (eqb (sender c) p) (a.shut c (H.closed c)) (H.closed c))
          (M.ended (H.processes (receiver c))) (out c)
      at c i (yes e) = rw e (g (omega arith))
      at c i (no n) = rw (o.puts c n (H.sent c), o.takes c n (H.received c), o.shuts c n (H.closed c)) (simp cond_same (f c n (R.lines c i)))

  -- the list of processes after p has become x
  pub became : (l : Board M.Store W) (H : State X W) {out : ℕ → List W} → Related l H out → (p : ℕ) → p < 16 → (x : X) → M.Fit x → (q : ℕ) → M.look (M.place l.processes p x) q ≡ cond (eqb q p) x (H.processes q)
  became l H R p i x v q = M.look_place l.processes p x q R.good i v ∙ rw (R.same q)

  pub unmoved : (l : Board M.Store W) (H : State X W) {out : ℕ → List W} → Related l H out → (p q : ℕ) → process_at M l q ≡ cond (eqb q p) (H.processes q) (H.processes q)
  unmoved l H R p q = rw cond_same (R.same q)

  pub rel_goto : (l : Board M.Store W) (H : State X W) {out : ℕ → List W} (p : ℕ) (x : X) → Related l H out → p < 16 → M.Fit x → M.ended x ≡ M.ended (H.processes p) → Related (become M p x l) (change M.net p (goto (λ _. x)) H) out
  rel_goto l H p x R i v k =
      mild l (become M p x l) H p 32 (goto (λ _. x)) R (only_goto 32 (λ _. x)) k v (M.good_place l.processes p x R.good i v) R.many_channels R.many_cells (became l H R p i x v) (λ c n L. L) (λ z. absurd (omega arith))

  -- c is not b: b's new state is none of its business
  other : (l : Board M.Store W) (H : State X W) (out : ℕ → List W) (b : ℕ) (h : Channel) (c : ℕ) → c ≢ b → LineOf l.channels l.cells H out c → LineOf (set l.channels b h) l.cells H out c
  other l H out b h c n L = rw (get_or-set_other l.channels b c h no_channel n) L

  here : (l : Board M.Store W) (H : State X W) {out : ℕ → List W} → Related l H out → (b : ℕ) (h : Channel) → b < 32 → get_or (set l.channels b h) b no_channel ≡ h
  here l H R b h i = get_or-set_same l.channels b h no_channel (omega (arith, R.many_channels))

  pub rel_took : (l : Board M.Store W) (H : State X W) {out : ℕ → List W} (p b : ℕ) (x : X) → Related l H out → p < 16 → M.Fit x → receiver b ≡ p → M.ended x ≡ M.ended (H.processes p) → (channel_at M l b).held ≢ 0
      → Related (become M p x (put_channel M b (get_one (channel_at M l b)) l)) (change M.net p (took b (λ _. x)) H) out
  rel_took l H {out} p b x R i v w k z =
      mild l (become M p x (put_channel M b (get_one (channel_at M l b)) l)) H p b (took b (λ _. x)) R (only_took b (λ _. x)) k v
      (M.good_place l.processes p x R.good i v) (simp length-set R.many_channels) R.many_cells (became l H R p i x v)
      (other l H out b (get_one (channel_at M l b)))
      (λ j. rw (here l H R b (get_one (channel_at M l b)) j, eq-eqb (receiver b) p w, eq-eqb b b refl) (simp cond_same (line_get (R.lines b j) (omega arith) z)))

  pub rel_seal : (l : Board M.Store W) (H : State X W) {out : ℕ → List W} (p b : ℕ) (f : X → X) (ps : M.Store) → Related l H out → sender b ≡ p → M.ended (f (H.processes p)) ≡ M.ended (H.processes p)
      → M.Fit (f (H.processes p)) → M.Good ps → ((q : ℕ) → M.look ps q ≡ cond (eqb q p) (f (H.processes q)) (H.processes q))
      → Related (record { processes = ps; channels = set l.channels b (close_one (channel_at M l b)); cells = l.cells }) (change M.net p (seal b f) H) out
  rel_seal l H {out} p b f ps R w k v n s =
      mild l _ H p b (seal b f) R (only_seal b f) k v
      n (simp length-set R.many_channels) R.many_cells s
      (other l H out b (close_one (channel_at M l b)))
      (λ j. rw (here l H R b (close_one (channel_at M l b)) j, eq-eqb (sender b) p w, eq-eqb b b refl) (simp cond_same (line_close (R.lines b j))))

  -- v is sent on b, by p or from outside
  pub rel_emit : (l : Board M.Store W) (H : State X W) {out : ℕ → List W} (p b : ℕ) (v : W) (f : X → X) (ps : M.Store) → Related l H out → sender b ≡ p → b < 32 → M.ended (f (H.processes p)) ≡ M.ended (H.processes p)
      → M.Fit (f (H.processes p)) → M.Good ps → ((q : ℕ) → M.look ps q ≡ cond (eqb q p) (f (H.processes q)) (H.processes q)) → full M b l ≡ false
      → Related (record { processes = ps; channels = (store M b v l).channels; cells = (store M b v l).cells }) (change M.net p (emit b v f) H) out
  unfolding store full
  rel_emit l H {out} p b v f ps R w j k y n s = go (M.ended (process_at M l (receiver b))) (ap M.ended (sym (R.same (receiver b))))
    where
      L : LineOf l.channels l.cells H out b
      L = R.lines b j

      go : (g : Bool) → M.ended (H.processes (receiver b)) ≡ g → cond g false (eqb (channel_at M l b).held (channel_at M l b).capacity) ≡ false
          → Related (record {
            processes = ps;
            channels = (cond g l (put_cell M (slot b (channel_at M l b) (channel_at M l b).held) v (put_channel M b (put_one (channel_at M l b)) l))).channels;
            cells = (cond g l (put_cell M (slot b (channel_at M l b) (channel_at M l b).held) v (put_channel M b (put_one (channel_at M l b)) l))).cells;
          })
          (change M.net p (emit b v f) H) out
      go true e u =
          mild l _ H p b (emit b v f) R (only_emit b v f) k y n R.many_channels R.many_cells s (λ c m K. K)
          (λ j. rw (eq-eqb (sender b) p w, eq-eqb b b refl) (simp cond_same (line_lost L v e)))
      go false e u =
          let m = eqb-false (channel_at M l b).held (channel_at M l b).capacity u in
          mild l _ H p b (emit b v f) R (only_emit b v f) k y n (simp length-set R.many_channels) (simp length-set R.many_cells) s
          (λ c q K. rw (get_or-set_other l.channels b c (put_one (channel_at M l b)) no_channel q) (line_other K b (channel_at M l b).held (channel_at M l b) v q))
          (λ j. rw (here l H R b (put_one (channel_at M l b)) j, eq-eqb (sender b) p w, eq-eqb b b refl) (simp cond_same (line_put L v j R.many_cells e (omega (arith, L.room)))))

  length-drop : (k p : ℕ) (hs : List Channel) → length (drop_from M k p hs) ≡ length hs
  length-drop k p [] = refl
  length-drop k p (h ∷ hs) = ap suc (length-drop (suc k) p hs)

  drop_at : (k p : ℕ) (hs : List Channel) (j : ℕ) → j < length hs → get_or (drop_from M k p hs) j no_channel ≡ drop_one (eqb (sender (k + j)) p) (eqb (receiver (k + j)) p) (get_or hs j no_channel)
  drop_at k p [] j i = absurd (omega arith)
  drop_at k p (h ∷ hs) zero i = let e : k + 0 ≡ k = omega arith in rw e
  drop_at k p (h ∷ hs) (suc j) i = let e : k + suc j ≡ suc k + j = omega arith in rw e (drop_at (suc k) p hs j (omega arith))

  pub rel_quit : (l : Board M.Store W) (H : State X W) {out : ℕ → List W} (p : ℕ) (x : X) → Related l H out → p < 16 → M.Fit x → M.ended x ≡ true → Related (quit_on M p x l) (change M.net p (quit x) H) out
  unfolding quit_on change
  rel_quit l H {out} p x R i v k =
      record {
        good = M.good_place l.processes p x R.good i v;
        fit = fitted p (quit x) H v R.fit;
        many_channels = length-drop 0 p l.channels ∙ R.many_channels;
        many_cells = R.many_cells;
        same = became l H R p i x v;
        lines = line;
      }
    where
      ends : (q : ℕ) → eqb q p ≡ true → (q < 16) × (M.ended (cond (eqb q p) x (H.processes q)) ≡ true)
      ends q e = (let d = eqb-true q p e in omega arith, rw e k)

      stays : (q : ℕ) (w : Bool) → w ≡ false → M.ended (cond w x (H.processes q)) ≡ M.ended (H.processes q)
      stays q w e = rw e

      line : (c : ℕ) → c < 32 → LineOf (drop_from M 0 p l.channels) l.cells (change M.net p (quit x) H) out c
      line c j =
          let z : 0 + c ≡ c = omega arith in
          rw (drop_at 0 p l.channels c (omega (arith, R.many_channels)), z, cond_same (eqb (sender c) p) (H.sent c), cond_same (eqb (receiver c) p) (H.received c))
          (line_drop (R.lines c j) (eqb (sender c) p) (eqb (receiver c) p) _ (ends (receiver c)) (stays (receiver c) _))

  -- what the outside does to a channel that changes nothing of the history
  pub local : (l : Board M.Store W) (H : State X W) {out : ℕ → List W} (out' : ℕ → List W) (b : ℕ) (h : Channel) → Related l H out → ((c : ℕ) → c ≢ b → out' c ≡ out c)
      → (b < 32 → Line M.blank_w (receiver b < 16) b h l.cells (H.sent b) (H.received b) (H.closed b) (M.ended (H.processes (receiver b))) (out' b)) → Related (put_channel M b h l) H out'
  local l H {out} out' b h R u L =
      record { good = R.good; fit = R.fit; many_channels = simp length-set R.many_channels; many_cells = R.many_cells; same = R.same; lines = λ c j. at c j (ℕ_discrete c b) }
    where
      at : (c : ℕ) → c < 32 → Dec (c ≡ b) → LineOf (set l.channels b h) l.cells H out' c
      at c j (yes e) = let k : b < 32 = omega arith in rw (e, here l H R b h k) (L k)
      at c j (no n) = rw (u c n) (other l H out b h c n (R.lines c j))
