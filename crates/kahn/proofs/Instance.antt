-- A network that passes the file's rules is a network in the sense of Unbounded, and a lane of it is a machine in the sense of Bounded: the states
-- of its processes lie in the register file and the list of standings.
-- Assumes nothing.
use mathlib.Core.Path.{◌≡◌, refl, sym, ◌∙◌}
use mathlib.Core.Logic.{◌≢◌}
use mathlib.Core.Bool.{Bool, true, false, cond, not, ◌||◌}
use mathlib.Core.List.{List}
use Prim.Native.Nat.{ℕ, ◌+◌, ◌*◌, ◌≤◌, ◌<◌}
use native.Mathlib.Decide.{ℕ_discrete}
use native.Mathlib.Omega.{arith}
use borrow.Author.Tests.{ltb-true, le-ltb, eq-eqb, ne_eqb}
use lib.Dec.{eqb, ltb}
use lib.IntN.{ℤ, pos}
use lib.ListN.{length, get_or, set, length-set}
use lib.Seq.{set-get_or, get_or-set_same, get_or-set_other}
use Rattle.std.specs.declared.result.Result.TheVariants.{Ok}
use Rattle.network.specs.declared.Network.{Network}
use Rattle.network.specs.Code.{fields_right, stands_right, may_be_last}
use Rattle.network.specs.Rules.{start_of, count_of, end_of, receives, sends, instruction_of, instruction_right, instructions, passes}
use Rattle.base.proofs.Conjunction.{both_true}
use Rattle.network.proofs.Passed.{passed}
use Rattle.process.specs.Process.{Process}
use Rattle.process.specs.Intent.{Intent, idle}
use Rattle.process.specs.Want.{want}
use Rattle.lane.specs.declared.Standing.{Standing}
use Rattle.lane.specs.State.{no_standing, joined, split, no_instruction, stands_at}
use Rattle.process.specs.Window.{eight, put_eight}
use Rattle.lane.proofs.Instructions.{right_at}
use Rattle.lane.proofs.Windows.{eight_put, eight_put_other, put_eight_lem, length_put}
use Rattle.kahn.specs.Plain.{new_process, intent_of}
use Rattle.kahn.proofs.Unbounded.{Net, Owns}
use Rattle.kahn.proofs.Bounded.{Machine, Ends}
use Rattle.kahn.proofs.Allowed.{sender_in, receiver_in, has_ended, Fit, want_owns, want_leads, want_rests}

-- ---- the network
-- the fields of an instruction that is right
fields_right_lem : (n : Network) (p i : ℕ) → instruction_right n p i ≡ true
    → fields_right (count_of n p) (receives n p (instruction_of n i).b) (sends n p (instruction_of n i).b) (instruction_of n i) ≡ true
unfolding instruction_right stands_right
fields_right_lem n p i e = (both_true _ (not (eqb (i + 1) (end_of n p)) || may_be_last (instruction_of n i).op) e).0

module _ (n : Network) where
  -- what process p wants; a process that is not there wants nothing
  abbrev pub wants_in : ℕ → Process → Intent Process ℤ
  wants_in p q = cond (ltb p n.processes) (intent_of n p q) idle

  abbrev pub OwnsIn : ℕ → Intent Process ℤ → Type 0
  OwnsIn p t = Owns (sender_in n) (receiver_in n) p t

  stop_right : (p : ℕ) → fields_right 0 (receives n p 0) (sends n p 0) no_instruction ≡ true
  unfolding fields_right
  stop_right p = refl

  stands_owns : instructions n ≡ Ok tt → (p : ℕ) → p < n.processes → (q : Process) → OwnsIn p (intent_of n p q)
  unfolding stands_at
  stands_owns g p h q = at (ltb q.position (count_of n p)) refl
    where
      at : (t : Bool) → ltb q.position (count_of n p) ≡ t → OwnsIn p (want (cond t (instruction_of n (start_of n p + q.position)) no_instruction) q)
      at true e =
          want_owns n p (count_of n p) q (instruction_of n (start_of n p + q.position))
          (fields_right_lem n p (start_of n p + q.position) (right_at n g p h q.position (ltb-true _ _ e)))
      at false e = want_owns n p 0 q no_instruction (stop_right p)

  pub wants_owns : instructions n ≡ Ok tt → (p : ℕ) (q : Process) → OwnsIn p (wants_in p q)
  wants_owns g p q = at (ltb p n.processes) refl
    where
      at : (t : Bool) → ltb p n.processes ≡ t → OwnsIn p (cond t (intent_of n p q) idle)
      at true e = stands_owns g p (ltb-true _ _ e) q
      at false e = tt

  pub wants_leads : (p : ℕ) (q : Process) → has_ended q ≡ false → Fit q → Ends has_ended Fit (wants_in p q)
  wants_leads p q e f = at (ltb p n.processes)
    where
      at : (t : Bool) → Ends has_ended Fit (cond t (intent_of n p q) idle)
      at true = want_leads (stands_at n p q.position) q e f
      at false = tt

  pub wants_rests : (p : ℕ) (q : Process) → has_ended q ≡ true → wants_in p q ≡ idle
  wants_rests p q e = at (ltb p n.processes)
    where
      at : (t : Bool) → cond t (intent_of n p q) idle ≡ idle
      at true = want_rests (stands_at n p q.position) q e
      at false = refl

-- channel c is there if its end is not 254
pub there : (n : Network) → n.channels ≤ 32 → (c e : ℕ) → cond (ltb c n.channels) e 254 ≢ 254 → c < 32
there n h c e = at (ltb c n.channels) refl
  where
    at : (t : Bool) → ltb c n.channels ≡ t → cond t e 254 ≢ 254 → c < 32
    at true l k = omega (arith, ltb-true c n.channels l)
    at false l k = absurd (k refl)

abbrev pub net_of : (n : Network) → passes n ≡ true → Net
net_of n pass =
    record {
      X = Process;
      W = ℤ;
      P = n.processes;
      sender = sender_in n;
      receiver = receiver_in n;
      intent = wants_in n;
      start = λ p. new_process;
      few = omega (arith, (passed n pass).processes_high);
      beyond = λ p q h. rw (le-ltb p n.processes h);
      owns = wants_owns n (passed n pass).instructions_good;
    }

-- ---- the states of the processes, as a lane keeps them
pub record Store : Type 0 where
  pub registers : List ℤ
  pub standings : List Standing

pub record Sized (s : Store) : Type 0 where
  pub registers : length s.registers ≡ 128
  pub standings : length s.standings ≡ 16

abbrev pub look : Store → ℕ → Process
look s p = joined (eight s.registers (8 * p)) (get_or s.standings p no_standing)

abbrev pub place : Store → ℕ → Process → Store
place s p q = record { registers = put_eight s.registers (8 * p) q.registers; standings = set s.standings p (split q) }

pub sized_place : (s : Store) (p : ℕ) (q : Process) → Sized s → p < 16 → Fit q → Sized (place s p q)
sized_place s p q g i f =
    record {
      registers = length_put s.registers (8 * p) q.registers ∙ g.registers;
      standings = length-set s.standings p (split q) ∙ g.standings;
    }

pub look_place : (s : Store) (p : ℕ) (x : Process) (q : ℕ) → Sized s → p < 16 → Fit x → look (place s p x) q ≡ cond (eqb q p) x (look s q)
look_place s p x q g i f = go (ℕ_discrete q p)
  where
    go : Dec (q ≡ p) → look (place s p x) q ≡ cond (eqb q p) x (look s q)
    go (yes e) =
        rw (
          eq-eqb q p e,
          e,
          eight_put s.registers (8 * p) x.registers f (omega (arith, g.registers)),
          get_or-set_same s.standings p (split x) no_standing (omega (arith, g.standings)),
        )
    go (no m) =
        rw (
          ne_eqb q p m,
          eight_put_other s.registers p q x.registers (λ e. m (sym e)),
          get_or-set_other s.standings p q (split x) no_standing m,
        )

pub place_look : (s : Store) (p : ℕ) → Sized s → p < 16 → place s p (look s p) ≡ s
place_look s p g i = rw (put_eight_lem s.registers (8 * p) (omega (arith, g.registers)), set-get_or s.standings p no_standing)

abbrev pub machine_of : (n : Network) → passes n ≡ true → Machine
machine_of n pass =
    record {
      net = net_of n pass;
      ended = has_ended;
      Store = Store;
      Good = Sized;
      Fit = Fit;
      look = look;
      place = place;
      good_place = sized_place;
      look_place = look_place;
      place_look = place_look;
      blank_w = pos 0;
      few = (passed n pass).processes_high;
      senders = λ c. there n (passed n pass).channels_high c _;
      receivers = λ c. there n (passed n pass).channels_high c _;
      ends = wants_leads n;
      rests = wants_rests n;
    }
