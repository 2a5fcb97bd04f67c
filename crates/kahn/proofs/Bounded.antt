-- A board: the network of Unbounded on bounded channels, whose messages lie in cells, over any way to keep the states of the processes.
-- Definitions alone.
-- Assumes nothing.
use mathlib.Core.Path.{◌≡◌}
use mathlib.Core.Logic.{◌≢◌}
use mathlib.Core.Bool.{Bool, true, false, cond}
use mathlib.Core.List.{List, [], ◌∷◌}
use Prim.Native.Nat.{ℕ, suc, ◌≤◌, ◌<◌}
use lib.Dec.{eqb}
use lib.ListN.{get_or, set}
use Rattle.process.specs.declared.Channel.{Channel}
use Rattle.process.specs.Channels.{no_channel, put_one, get_one, close_one, slot, drop_one}
use Rattle.process.specs.Execute as small
use Rattle.process.specs.Intent.{Intent, idle, inner, receive, send, close, halt}
use Rattle.kahn.proofs.Unbounded.{Net}

-- Q: how the states of the processes are kept
pub record Board (Q W : Type 0) : Type 0 where
  pub processes : Q
  pub channels : List Channel
  pub cells : List W

pub data Answer : Type 0 where
  moved waiting_empty waiting_full over : Answer

pub record Turn (Q W : Type 0) : Type 0 where
  pub board : Board Q W
  pub answer : Answer

-- which states an intent leads to: only a halt and a fault end a process, and each state is of the right form
abbrev pub Ends : {X W : Type 0} → (X → Bool) → (X → Type 0) → Intent X W → Type 0
Ends ended Fit idle = Unit {0}
Ends ended Fit (inner x) = (ended x ≡ false) × Fit x
Ends {W = W} ended Fit (receive b k e) = ((v : W) → (ended (k v) ≡ false) × Fit (k v)) × ((ended e ≡ false) × Fit e)
Ends ended Fit (send b v x f) = ((ended x ≡ false) × Fit x) × ((ended f ≡ true) × Fit f)
Ends ended Fit (close b x f) = ((ended x ≡ false) × Fit x) × ((ended f ≡ true) × Fit f)
Ends ended Fit (halt x) = (ended x ≡ true) × Fit x

pub record Machine : Type 1 where
  pub net : Net
  pub ended : net.X → Bool
  -- how a board keeps the states of its processes
  pub Store : Type 0
  pub Good : Store → Type 0
  pub Fit : net.X → Type 0
  pub look : Store → ℕ → net.X
  pub place : Store → ℕ → net.X → Store
  pub good_place : (s : Store) (p : ℕ) (x : net.X) → Good s → p < 16 → Fit x → Good (place s p x)
  pub look_place : (s : Store) (p : ℕ) (x : net.X) (q : ℕ) → Good s → p < 16 → Fit x → look (place s p x) q ≡ cond (eqb q p) x (look s q)
  pub place_look : (s : Store) (p : ℕ) → Good s → p < 16 → place s p (look s p) ≡ s
  pub blank_w : net.W
  pub few : net.P ≤ 16
  -- 254 is the sender and the receiver of what is no channel
  pub senders : (c : ℕ) → net.sender c ≢ 254 → c < 32
  pub receivers : (c : ℕ) → net.receiver c ≢ 254 → c < 32
  pub ends : (p : ℕ) (x : net.X) → ended x ≡ false → Fit x → Ends ended Fit (net.intent p x)
  pub rests : (p : ℕ) (x : net.X) → ended x ≡ true → net.intent p x ≡ idle

module _ (M : Machine) where
  open M.net use {X, W, sender, receiver, intent}

  abbrev pub channel_at : Board M.Store W → ℕ → Channel
  channel_at l c = get_or l.channels c no_channel

  abbrev pub process_at : Board M.Store W → ℕ → X
  process_at l p = M.look l.processes p

  abbrev pub cell_at : Board M.Store W → ℕ → W
  cell_at l i = get_or l.cells i M.blank_w

  abbrev pub become : ℕ → X → Board M.Store W → Board M.Store W
  become p x l = record { processes = M.place l.processes p x; channels = l.channels; cells = l.cells }

  abbrev pub put_channel : ℕ → Channel → Board M.Store W → Board M.Store W
  put_channel c h l = record { processes = l.processes; channels = set l.channels c h; cells = l.cells }

  abbrev pub put_cell : ℕ → W → Board M.Store W → Board M.Store W
  put_cell i v l = record { processes = l.processes; channels = l.channels; cells = set l.cells i v }

  -- v goes into channel c, if there is one to receive it
  unfoldable pub store : ℕ → W → Board M.Store W → Board M.Store W
  store c v l = cond (M.ended (process_at l (receiver c))) l (put_cell (slot c (channel_at l c) (channel_at l c).held) v (put_channel c (put_one (channel_at l c)) l))

  -- no room for one more
  unfoldable pub full : ℕ → Board M.Store W → Bool
  full c l = small.full (M.ended (process_at l (receiver c))) (channel_at l c)

  abbrev pub drop_from : ℕ → ℕ → List Channel → List Channel
  drop_from k p [] = []
  drop_from k p (h ∷ hs) = drop_one (eqb (sender k) p) (eqb (receiver k) p) h ∷ drop_from (suc k) p hs

  unfoldable pub quit_on : ℕ → X → Board M.Store W → Board M.Store W
  quit_on p x l = record { processes = M.place l.processes p x; channels = drop_from 0 p l.channels; cells = l.cells }

  abbrev pub stay : Answer → Board M.Store W → Turn M.Store W
  stay a l = record { board = l; answer = a }

  abbrev pub go : Board M.Store W → Turn M.Store W
  go l = record { board = l; answer = moved }

  unfoldable pub resolve : ℕ → Intent X W → Board M.Store W → Turn M.Store W
  resolve p idle l = stay over l
  resolve p (inner x) l = go (become p x l)
  resolve p (receive b k e) l =
      cond (eqb (channel_at l b).held 0)
      (cond (channel_at l b).closed (go (become p e l)) (stay waiting_empty l))
      (go (become p (k (cell_at l (slot b (channel_at l b) 0))) (put_channel b (get_one (channel_at l b)) l)))
  resolve p (send b v x f) l = cond (channel_at l b).closed (go (quit_on p f l)) (cond (full b l) (stay waiting_full l) (go (become p x (store b v l))))
  resolve p (close b x f) l = cond (channel_at l b).closed (go (quit_on p f l)) (go (become p x (put_channel b (close_one (channel_at l b)) l)))
  resolve p (halt x) l = go (quit_on p x l)

  unfoldable pub pick_on : ℕ → Board M.Store W → Turn M.Store W
  pick_on p l = resolve p (intent p (process_at l p)) l
