-- A lane with its cells is a board of the machine of its network: a pick, a message put into a channel and a full channel are on the one what they
-- are on the other.
-- Assumes nothing.
use mathlib.Core.Path.{◌≡◌, refl, sym, ap}
use mathlib.Core.Logic.{◌≢◌}
use mathlib.Core.Bool.{Bool, true, false, cond, ◌&&◌}
use mathlib.Core.List.{List, [], ◌∷◌}
use Prim.Native.Nat.{ℕ, suc, ◌*◌, ◌%◌, ◌<◌}
use native.Mathlib.Omega.{arith}
use borrow.Author.Tests.{lt-ltb, ne_eqb}
use lib.Dec.{eqb, ltb}
use lib.IntN.{ℤ}
use lib.ListN.{set}
use lib.Seq.{set-get_or}
use Rattle.network.specs.declared.Network.{Network}
use Rattle.network.specs.declared.Instruction.{Instruction}
use Rattle.network.specs.Rules.{sender_of, receiver_of, passes}
use Rattle.network.proofs.Passed.{passed}
use Rattle.process.specs.Process.{Process, Stepped}
use Rattle.process.specs.declared.Channel.{Channel}
use Rattle.process.specs.declared.Outcome.{Outcome}
use Rattle.process.specs.declared.Outcome.TheVariants.{Moved, Sent, Halted, WaitEmpty, WaitFull, Ended}
use Rattle.process.specs.Channels.{no_channel, put_one, get_one, close_one, slot}
use Rattle.process.specs.Execute.{outcome, accept, execute, step_of}
use Rattle.process.specs.Execute as small
use Rattle.process.specs.Intent.{Intent, idle, inner, receive, send, close, halt}
use Rattle.process.specs.Want.{want}
use Rattle.lane.specs.State.{World, world, split, ended_at}
use Rattle.process.specs.Window.{put_eight}
use Rattle.lane.specs.Calls.{receiver_ended, stored}
use Rattle.lane.specs.Pick.{channel_in, settle, put_back, step_at, instruction_for, step_for, pick_in}
use Rattle.lane.specs.Pick as lane
use Rattle.kahn.proofs.Unbounded.{Owns}
use Rattle.kahn.proofs.Bounded.{Board, Answer, moved, waiting_empty, waiting_full, over, Turn, channel_at, process_at, cell_at, become, put_channel, put_cell, store, full, drop_from, quit_on, go, stay, resolve, pick_on}
use Rattle.kahn.proofs.Allowed.{sender_in, receiver_in, has_ended, On, want_on}
use Rattle.kahn.proofs.Instance.{net_of, Store, Sized, place_look, machine_of}

-- ---- a world as a board of its network's machine, and back
abbrev pub board_of : World → Board Store ℤ
board_of w = record { processes = record { registers = w.lane.registers; standings = w.lane.processes }; channels = w.lane.channels; cells = w.cells }

-- the board of a lane of network n with so many accepted calls
abbrev pub world_of : Network → ℕ → Board Store ℤ → World
world_of n accepted b =
    world
    (record {
      network = n;
      registers = b.processes.registers;
      processes = b.processes.standings;
      channels = b.channels;
      accepted = accepted;
    })
    b.cells

pub world_is : (w : World) → w ≡ world_of w.lane.network w.lane.accepted (board_of w)
world_is w = refl

-- ---- a pick
abbrev pub answer_of : Outcome → Answer
answer_of Moved = moved
answer_of (Sent v) = moved
answer_of Halted = moved
answer_of WaitEmpty = waiting_empty
answer_of WaitFull = waiting_full
answer_of Ended = over

-- a step with channel c is one of this intent: a message is stored unless the receiver has ended
abbrev Meets : ℕ → Bool → Bool → Intent Process ℤ → Type 0
Meets c gone ended idle = Unit {0}
Meets c gone ended (inner q) = Unit {0}
Meets c gone ended (receive b next end) = b ≡ c
Meets c gone ended (send b v next fault) = (b ≡ c) × (gone ≡ ended)
Meets c gone ended (close b next fault) = b ≡ c
Meets c gone ended (halt q) = Unit {0}

end_test : (there : Bool) (e p : ℕ) → p ≢ 254 → (there && eqb e p) ≡ eqb (cond there e 254) p
end_test true e p h = refl
end_test false e p h = sym (ne_eqb 254 p (λ k. h (sym k)))

module _ (n : Network) (pass : passes n ≡ true) where
  drops_is : (p : ℕ) → p ≢ 254 → (c : ℕ) (hs : List Channel) → lane.drop_from n p c hs ≡ drop_from (machine_of n pass) c p hs
  drops_is p h c [] = refl
  drops_is p h c (x ∷ hs) =
      rw (end_test (ltb c n.channels) (sender_of n c) p h, end_test (ltb c n.channels) (receiver_of n c) p h, drops_is p h (suc c) hs)

  module _ (p c accepted : ℕ) (b : Board Store ℤ) (gone : Bool) (sized : Sized b.processes) (inside : p < 16) where
    abbrev h : Channel
    h = channel_at (machine_of n pass) b c

    abbrev q : Process
    q = process_at (machine_of n pass) b p

    -- what a step puts back and answers, against a turn of the board
    abbrev Puts : Stepped → Turn Store ℤ → Type 0
    Puts r t = (put_back p c h r (world_of n accepted b) ≡ world_of n accepted t.board) × (answer_of r.outcome ≡ t.answer)

    same_channels : set b.channels c h ≡ b.channels
    same_channels = set-get_or b.channels c no_channel

    same_registers : put_eight b.processes.registers (8 * p) q.registers ≡ b.processes.registers
    same_registers = ap (λ (s : Store). s.registers) (place_look b.processes p sized inside)

    same_standings : set b.processes.standings p (split q) ≡ b.processes.standings
    same_standings = ap (λ (s : Store). s.standings) (place_look b.processes p sized inside)

    -- nothing was done
    puts_none : (o : Outcome) (a : Answer) → answer_of o ≡ a → settle o p (slot c h h.held) (world_of n accepted b) ≡ world_of n accepted b
        → Puts (outcome q h o) (stay (machine_of n pass) a b)
    unfolding put_back
    puts_none o a e k = (rw (same_channels, same_registers, same_standings) k, e)

    -- the process alone
    puts_process : (x : Process) → Puts (outcome x h Moved) (go (machine_of n pass) (become (machine_of n pass) p x b))
    unfolding put_back
    puts_process x = (rw same_channels, refl)

    -- the process ended
    puts_end : (x : Process) → Puts (outcome x h Halted) (go (machine_of n pass) (quit_on (machine_of n pass) p x b))
    unfolding put_back quit_on
    puts_end x = (rw (same_channels, drops_is p (omega arith) 0 b.channels), refl)

    puts_receive : (empty shut : Bool) (next end : Process)
        → Puts (cond empty (cond shut (outcome end h Moved) (outcome q h WaitEmpty)) (outcome next (get_one h) Moved))
        (cond empty (cond shut (go (machine_of n pass) (become (machine_of n pass) p end b)) (stay (machine_of n pass) waiting_empty b))
        (go (machine_of n pass) (become (machine_of n pass) p next (put_channel (machine_of n pass) c (get_one h) b))))
    unfolding put_back
    puts_receive true true next end = puts_process end
    puts_receive true false next end = puts_none WaitEmpty waiting_empty refl refl
    puts_receive false shut next end = (refl, refl)

    puts_send : (shut ended filled : Bool) (v : ℤ) (next fault : Process)
        → Puts (cond shut (outcome fault h Halted) (cond (cond ended false filled) (outcome q h WaitFull) (accept ended v next h)))
        (cond shut (go (machine_of n pass) (quit_on (machine_of n pass) p fault b))
        (cond (cond ended false filled) (stay (machine_of n pass) waiting_full b)
        (go (machine_of n pass) (become (machine_of n pass) p next
        (cond ended b (put_cell (machine_of n pass) (slot c h h.held) v (put_channel (machine_of n pass) c (put_one h) b)))))))
    unfolding put_back
    puts_send true ended filled v next fault = puts_end fault
    puts_send false true filled v next fault = puts_process next
    puts_send false false true v next fault = puts_none WaitFull waiting_full refl refl
    puts_send false false false v next fault = (refl, refl)

    puts_close : (shut : Bool) (next fault : Process)
        → Puts (cond shut (outcome fault h Halted) (outcome next (close_one h) Moved))
        (cond shut (go (machine_of n pass) (quit_on (machine_of n pass) p fault b))
        (go (machine_of n pass) (become (machine_of n pass) p next (put_channel (machine_of n pass) c (close_one h) b))))
    unfolding put_back
    puts_close true next fault = puts_end fault
    puts_close false next fault = (refl, refl)

    -- a step on small values, put back, is what the board makes of the intent
    puts : (t : Intent Process ℤ) → Meets c gone (has_ended (process_at (machine_of n pass) b (receiver_in n c))) t
        → Puts (execute t q h (cell_at (machine_of n pass) b (slot c h 0)) gone) (resolve (machine_of n pass) p t b)
    unfolding execute resolve store full
    puts idle o = puts_none Ended over refl refl
    puts (inner x) o = puts_process x
    puts (receive d next end) o = rw o (puts_receive (eqb h.held 0) h.closed (next (cell_at (machine_of n pass) b (slot c h 0))) end)
    puts (send d v next fault) o =
        rw (o.0, o.1)
        (puts_send h.closed (has_ended (process_at (machine_of n pass) b (receiver_in n c))) (eqb h.held h.capacity) v next fault)
    puts (close d next fault) o = rw o (puts_close h.closed next fault)
    puts (halt x) o = puts_end x

  -- an end that is not 254 is that of a channel which is there
  pub is_there : (t : Bool) (e : ℕ) → cond t e 254 ≢ 254 → t ≡ true
  is_there true e h = refl
  is_there false e h = absurd (h refl)

  -- channel c is there: its receiver is the one of the network
  receiver_is : (c : ℕ) → ltb c n.channels ≡ true → receiver_in n c ≡ receiver_of n c
  receiver_is c e = rw e

  -- the channel of an instruction, modulo 32, is the one of its intent
  meets : (p j accepted : ℕ) (b : Board Store ℤ) → p < 16 → (t : Intent Process ℤ) → On j t → Owns (sender_in n) (receiver_in n) p t
      → Meets (j % 32) (ended_at (world_of n accepted b).lane (receiver_of n (j % 32))) (has_ended (process_at (machine_of n pass) b (receiver_in n (j % 32)))) t
  meets p j accepted b i idle o w = tt
  meets p j accepted b i (inner x) o w = tt
  meets p j accepted b i (receive d next end) o w = let l = (machine_of n pass).receivers d (omega arith) in omega arith
  meets p j accepted b i (send d v next fault) o w =
      let l = (machine_of n pass).senders d (omega arith) in
      let e : d ≡ j % 32 = omega arith in
      let t = is_there (ltb d n.channels) (sender_of n d) (omega arith) in
      (e, rw (← e, receiver_is d t))
  meets p j accepted b i (close d next fault) o w = let l = (machine_of n pass).senders d (omega arith) in omega arith
  meets p j accepted b i (halt x) o w = tt

  -- a pick of a process that is there
  pub pick_is : (p accepted : ℕ) (b : Board Store ℤ) → Sized b.processes → p < n.processes
      → (pick_in p (world_of n accepted b) ≡ world_of n accepted (pick_on (machine_of n pass) p b).board)
      × (answer_of (step_for p (world_of n accepted b)).outcome ≡ (pick_on (machine_of n pass) p b).answer)
  unfolding pick_in step_at step_of pick_on
  pick_is p accepted b sized there =
      let k = (passed n pass).processes_high in
      let i : Instruction = instruction_for p (world_of n accepted b).lane in
      let q : Process = process_at (machine_of n pass) b p in
      let l = lt-ltb p n.processes there in
      let inside : p < 16 = omega arith in
      rw l
      (puts p (channel_in i) accepted b (ended_at (world_of n accepted b).lane (receiver_of n (channel_in i))) sized inside (want i q)
      (meets p i.b accepted b inside (want i q) (want_on i q) (rw l at ((net_of n pass).owns p q))))

  -- ---- the outside
  -- channel c is there: whether its receiver has ended
  gone_is : (c accepted : ℕ) (b : Board Store ℤ) → c < n.channels
      → receiver_ended c (world_of n accepted b) ≡ has_ended (process_at (machine_of n pass) b (receiver_in n c))
  gone_is c accepted b there = rw (lt-ltb c n.channels there)

  pub stored_is : (c : ℕ) (v : ℤ) (accepted : ℕ) (b : Board Store ℤ) → c < n.channels
      → stored c v (world_of n accepted b) ≡ world_of n accepted (store (machine_of n pass) c v b)
  unfolding store
  stored_is c v accepted b there = rw (gone_is c accepted b there) (at (has_ended (process_at (machine_of n pass) b (receiver_in n c))))
    where
      at : (t : Bool) → cond t (world_of n accepted b) (world_of n accepted (put_cell (machine_of n pass) (slot c (channel_at (machine_of n pass) b c) (channel_at (machine_of n pass) b c).held) v
          (put_channel (machine_of n pass) c (put_one (channel_at (machine_of n pass) b c)) b)))
          ≡ world_of n accepted (cond t b (put_cell (machine_of n pass) (slot c (channel_at (machine_of n pass) b c) (channel_at (machine_of n pass) b c).held) v
          (put_channel (machine_of n pass) c (put_one (channel_at (machine_of n pass) b c)) b)))
      at true = refl
      at false = refl

  pub full_is : (c accepted : ℕ) (b : Board Store ℤ) → c < n.channels
      → small.full (receiver_ended c (world_of n accepted b)) (channel_at (machine_of n pass) b c) ≡ full (machine_of n pass) c b
  unfolding full
  full_is c accepted b there = rw (gone_is c accepted b there)
