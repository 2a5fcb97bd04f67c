-- A network of processes with unlimited channels, over any states and messages: how it moves, its round-robin order, and what comes in from
-- outside. Definitions alone.
-- Assumes nothing.
use mathlib.Core.Path.{◌≡◌}
use mathlib.Core.Logic.{◌⊎◌}
use mathlib.Core.Bool.{Bool, true, false, cond}
use mathlib.Core.Option.{Option, none, some}
use mathlib.Core.List.{List, [], ◌∷◌, ◌++◌}
use Prim.Native.Nat.{ℕ, zero, suc, ◌+◌, ◌≤◌}
use lib.Dec.{eqb}
use lib.ListN.{get_elem?}
use Rattle.process.specs.Intent.{Intent, idle, inner, receive, send, close, halt}

-- per process its state; per channel the list sent, the number received, closed or open
pub record State (X W : Type 0) : Type 0 where
  pub processes : ℕ → X
  pub sent : ℕ → List W
  pub received : ℕ → ℕ
  pub closed : ℕ → Bool

-- what a process does to each part of the state that is its own
pub record Act (X W : Type 0) : Type 0 where
  pub become : X → X
  pub put : ℕ → List W → List W
  pub take : ℕ → ℕ → ℕ
  pub shut : ℕ → Bool → Bool

-- what a schedule and the outside do, one after the other
pub data Event (W : Type 0) : Type 0 where
  turn : ℕ → Event W
  arrive : ℕ → W → Event W
  finish : ℕ → Event W

-- process p receives only on channels into it, sends and closes only on channels out of it
abbrev pub Owns : {X W : Type 0} (sender receiver : ℕ → ℕ) → ℕ → Intent X W → Type 0
Owns sender receiver p idle = Unit {0}
Owns sender receiver p (inner x) = Unit {0}
Owns sender receiver p (receive b k e) = receiver b ≡ p
Owns sender receiver p (send b v x f) = sender b ≡ p
Owns sender receiver p (close b x f) = sender b ≡ p
Owns sender receiver p (halt x) = Unit {0}

pub record Net : Type 1 where
  pub X : Type 0
  pub W : Type 0
  pub P : ℕ
  pub sender : ℕ → ℕ
  pub receiver : ℕ → ℕ
  pub intent : ℕ → X → Intent X W
  pub start : ℕ → X
  -- 255 is the outside, and 254 is the sender and the receiver of what is no channel: neither is a process
  pub few : P ≤ 254
  pub beyond : (p : ℕ) (x : X) → P ≤ p → intent p x ≡ idle
  pub owns : (p : ℕ) (x : X) → Owns sender receiver p (intent p x)

abbrev pub In : ℕ → List ℕ → Type 0
In p [] = ⊥
In p (q ∷ σ) = (p ≡ q) ⊎ In p σ

abbrev pub update : {A : Type 0} → (ℕ → A) → ℕ → A → ℕ → A
update f c v = λ d. cond (eqb d c) v (f d)

-- p, p + 1, .., k of them
abbrev pub from : ℕ → ℕ → List ℕ
from p zero = []
from p (suc k) = p ∷ from (suc p) k

module _ {X W : Type 0} where
  abbrev pub goto : (X → X) → Act X W
  goto f = record { become = f; put = λ _ l. l; take = λ _ n. n; shut = λ _ t. t }

  abbrev pub took : ℕ → (X → X) → Act X W
  took b f = record { become = f; put = λ _ l. l; take = λ c n. cond (eqb c b) (suc n) n; shut = λ _ t. t }

  abbrev pub emit : ℕ → W → (X → X) → Act X W
  emit b v f = record { become = f; put = λ c l. cond (eqb c b) (l ++ (v ∷ [])) l; take = λ _ n. n; shut = λ _ t. t }

  abbrev pub seal : ℕ → (X → X) → Act X W
  seal b f = record { become = f; put = λ _ l. l; take = λ _ n. n; shut = λ c t. cond (eqb c b) true t }

  -- ends, and closes all its channels
  abbrev pub quit : X → Act X W
  quit x = record { become = λ _. x; put = λ _ l. l; take = λ _ n. n; shut = λ _ _. true }

  abbrev pub pour : (ℕ → List W) → Act X W
  pour input = record { become = λ x. x; put = λ c _. input c; take = λ _ n. n; shut = λ _ _. true }

  unfoldable pub await : ℕ → (W → X) → X → Option W → Bool → Option (Act X W)
  await b k e (some v) t = some (took b (λ _. k v))
  await b k e none true = some (goto (λ _. e))
  await b k e none false = none

  -- none: it waits, or has ended
  unfoldable pub act : Intent X W → State X W → Option (Act X W)
  act idle H = none
  act (inner x) H = some (goto (λ _. x))
  act (receive b k e) H = await b k e (get_elem? (H.sent b) (H.received b)) (H.closed b)
  act (send b v x f) H = some (cond (H.closed b) (quit f) (emit b v (λ _. x)))
  act (close b x f) H = some (cond (H.closed b) (quit f) (seal b (λ _. x)))
  act (halt x) H = some (quit x)

module _ (N : Net) where
  open N use {X, W, P, sender, receiver, intent, start}

  -- p acts: it changes its own state, what its channels hold and whether they are closed, and what it has received
  unfoldable pub change : ℕ → Act X W → State X W → State X W
  change p a H =
      record {
        processes = λ q. cond (eqb q p) (a.become (H.processes q)) (H.processes q);
        sent = λ c. cond (eqb (sender c) p) (a.put c (H.sent c)) (H.sent c);
        received = λ c. cond (eqb (receiver c) p) (a.take c (H.received c)) (H.received c);
        closed = λ c. cond (eqb (sender c) p) (a.shut c (H.closed c)) (H.closed c);
      }

  unfoldable pub does : ℕ → State X W → Option (Act X W)
  does p H = act (intent p (H.processes p)) H

  unfoldable pub after : ℕ → Option (Act X W) → State X W → State X W
  after p none H = H
  after p (some a) H = change p a H

  unfoldable pub step : ℕ → State X W → State X W
  step p H = after p (does p H) H

  abbrev pub Moves : ℕ → State X W → Type 0
  Moves p H = (a : Act X W) × (does p H ≡ some a)

  abbrev pub run : List ℕ → State X W → State X W
  run [] H = H
  run (p ∷ σ) H = run σ (step p H)

  unfoldable pub round : State X W → State X W
  round H = run (from 0 P) H

  unfoldable pub empty : State X W
  empty = record { processes = start; sent = λ _. []; received = λ _. 0; closed = λ _. false }

  unfoldable pub fill : (ℕ → List W) → State X W → State X W
  fill input H = change 255 (pour input) H

  -- the state after n rounds, with all the input there from the start
  abbrev pub rounds : (ℕ → List W) → ℕ → State X W
  rounds input zero = fill input empty
  rounds input (suc n) = round (rounds input n)

  unfoldable pub happen : Event W → State X W → State X W
  happen (turn p) H = step p H
  happen (arrive c v) H = change 255 (emit c v (λ x. x)) H
  happen (finish c) H = change 255 (seal c (λ x. x)) H

  abbrev pub happens : List (Event W) → State X W → State X W
  happens [] H = H
  happens (e ∷ es) H = happens es (happen e H)

  -- how many of the turns moved
  unfoldable pub tally : Option (Act X W) → ℕ
  tally none = 0
  tally (some a) = 1

  unfoldable pub moved_at : Event W → State X W → ℕ
  moved_at (turn p) H = tally (does p H)
  moved_at (arrive c v) H = 0
  moved_at (finish c) H = 0

  abbrev pub moves_of : List (Event W) → State X W → ℕ
  moves_of [] H = 0
  moves_of (e ∷ es) H = moved_at e H + moves_of es (happen e H)

  -- what is still to be fed bounds what is fed, and a channel is finished only when nothing is left for it
  abbrev pub Legal : (ℕ → List W) → List (Event W) → Type 0
  Legal left [] = Unit {0}
  Legal left (turn p ∷ es) = Legal left es
  Legal left (arrive c v ∷ es) = (rest : List W) × (sender c ≡ 255) × (left c ≡ v ∷ rest) × Legal (update left c rest) es
  Legal left (finish c ∷ es) = (sender c ≡ 255) × (left c ≡ []) × Legal left es
