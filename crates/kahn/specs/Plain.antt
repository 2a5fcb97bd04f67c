-- Document 01, "The plain order": the processes in turn, one instruction each, channels unlimited. (A round-robin schedule of the unbounded network.)
-- Assumes nothing.
use Rattle.std.specs.Prelude.{Bool, true, cond, ◌&&◌, ◌||◌, List, [], ◌∷◌, ◌++◌, ℕ, zero, suc, ◌+◌, eqb, ltb, length, get_or, replicate, ℤ, pos}
use Rattle.network.specs.declared.Network.{Network}
use Rattle.network.specs.Rules.{sender_of, outside}
use Rattle.process.specs.Process.{Process}
use Rattle.process.specs.declared.Condition.TheVariants.{Live}
use Rattle.process.specs.Intent.{Intent, idle, inner, receive, send, close, halt}
use Rattle.process.specs.Want.{want}
use Rattle.lane.specs.State.{stands_at}

-- "State: per process as in a lane; per channel the list sent, the number received, closed or open."
pub record Plain : Type 0 where
  pub processes : ℕ → Process
  pub sent : ℕ → List ℤ
  pub received : ℕ → ℕ
  pub closed : ℕ → Bool

-- "It is fed the network without capacities"
abbrev pub without_capacities : Network → Network
without_capacities n =
    record {
      processes = n.processes;
      channels = n.channels;
      first = n.first;
      count = n.count;
      sender = n.sender;
      receiver = n.receiver;
      capacity = replicate 32 0;
      code = n.code;
    }

-- channel c is there and comes from outside
abbrev pub from_outside : Network → ℕ → Bool
from_outside n c = ltb c n.channels && eqb (sender_of n c) outside

-- a process at the start
abbrev pub new_process : Process
new_process = record { registers = replicate 8 (pos 0); position = 0; condition = Live; moves = 0 }

-- "It starts like a lane, but with all input sent on channels from outside, and these closed."
unfoldable pub plain_start : Network → (ℕ → List ℤ) → Plain
plain_start n input =
    record {
      processes = λ p. new_process;
      sent = λ c. cond (from_outside n c) (input c) [];
      received = λ c. 0;
      closed = λ c. from_outside n c;
    }

abbrev pub update : {A : Type 0} → (ℕ → A) → ℕ → A → ℕ → A
update f k v = λ j. cond (eqb j k) v (f j)

-- process p becomes q
abbrev pub becomes : ℕ → Process → Plain → Plain
becomes p q s = record { processes = update s.processes p q; sent = s.sent; received = s.received; closed = s.closed }

-- one more message of channel b is received
abbrev pub receives : ℕ → Plain → Plain
receives b s = record { processes = s.processes; sent = s.sent; received = update s.received b (s.received b + 1); closed = s.closed }

-- "Send puts a at the list's end"
abbrev pub sends : ℕ → ℤ → Plain → Plain
sends b v s = record { processes = s.processes; sent = update s.sent b (s.sent b ++ (v ∷ [])); received = s.received; closed = s.closed }

abbrev pub closes : ℕ → Plain → Plain
closes b s = record { processes = s.processes; sent = s.sent; received = s.received; closed = update s.closed b true }

-- "All else is as above, but an ending process empties nothing": it closes its outgoing channels
abbrev pub ends : Network → ℕ → Process → Plain → Plain
ends n p q s =
    record {
      processes = update s.processes p q;
      sent = s.sent;
      received = s.received;
      closed = λ c. s.closed c || (ltb c n.channels && eqb (sender_of n c) p);
    }

-- what process p wants, by the same meaning of its instruction as in a lane
abbrev pub intent_of : Network → ℕ → Process → Intent Process ℤ
intent_of n p q = want (stands_at n p q.position) q

-- process p does what it wants
unfoldable pub resolve : Network → ℕ → Intent Process ℤ → Plain → Plain
-- "an ended one does nothing"
resolve n p idle s = s
resolve n p (inner q) s = becomes p q s
-- "Receive: with fewer received than sent, a gets the next; else, open: nothing changes; closed: a is kept, go to c."
resolve n p (receive b next over) s =
    cond (ltb (s.received b) (length (s.sent b)))
    (becomes p (next (get_or (s.sent b) (s.received b) (pos 0))) (receives b s))
    (cond (s.closed b) (becomes p over s) s)
-- "Send puts a at the list's end, never waiting; send and close fault on a closed channel."
resolve n p (send b v next fault) s = cond (s.closed b) (ends n p fault s) (becomes p next (sends b v s))
resolve n p (close b next fault) s = cond (s.closed b) (ends n p fault s) (becomes p next (closes b s))
resolve n p (halt q) s = ends n p q s

-- one instruction of process p
unfoldable pub plain_step : Network → ℕ → Plain → Plain
plain_step n p s = resolve n p (intent_of n p (s.processes p)) s

-- processes p, p + 1, .., k of them, in turn
abbrev pub turns : Network → ℕ → ℕ → Plain → Plain
turns n p zero s = s
turns n p (suc k) s = turns n (suc p) k (plain_step n p s)

-- "In a round processes 0 to P−1 do one instruction each, in turn"
abbrev pub round : Network → Plain → Plain
round n s = turns n 0 n.processes s

-- after so many rounds, with this input
abbrev pub plain_after : Network → (ℕ → List ℤ) → ℕ → Plain
plain_after n input zero = plain_start n input
plain_after n input (suc rounds) = round n (plain_after n input rounds)
