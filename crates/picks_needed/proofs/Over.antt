-- Where every process has ended: a pick of it answers so, and further rounds of the plain order change nothing.
-- Assumes nothing.
use mathlib.Core.Path.{◌≡◌, refl, ap, ◌∙◌, subst⁻¹}
use mathlib.Core.Bool.{true}
use mathlib.Core.List.{List}
use Prim.Native.Nat.{ℕ, zero, suc, ◌+◌, ◌≤◌, ◌<◌}
use native.Mathlib.Omega.{arith}
use lib.IntN.{ℤ}
use Rattle.network.specs.declared.Network.{Network}
use Rattle.network.specs.Rules.{passes}
use Rattle.process.specs.Process.{Process}
use Rattle.process.specs.declared.Outcome.{Outcome}
use Rattle.process.specs.declared.Outcome.TheVariants.{Moved, Sent, Halted, WaitEmpty, WaitFull, Ended}
use Rattle.lane.specs.State.{World, is_ended, stands_at}
use Rattle.lane.specs.Pick.{step_for}
use Rattle.kahn.specs.Plain.{Plain, resolve, plain_step, turns, round, plain_after}
use Rattle.kahn.proofs.Unbounded.{State}
use Rattle.kahn.proofs.Bounded.{Answer, moved, waiting_empty, waiting_full, over, Machine, Board, process_at, resolve as boundedly, pick_on}
use Rattle.kahn.proofs.Allowed.{has_ended, want_rests}
use Rattle.kahn.proofs.Instance.{machine_of}
use Rattle.kahn.proofs.View.{board_of, answer_of, pick_is}
use Rattle.kahn.proofs.Events.{Stands, world_at}

-- ---- a pick
is_over : (M : Machine) (b : Board M.Store M.net.W) (p : ℕ) → M.ended (process_at M b p) ≡ true → (pick_on M p b).answer ≡ over
unfolding pick_on boundedly
is_over M b p e = rw (M.rests p (process_at M b p) e)

abbrev code : Answer → ℕ
code moved = 0
code waiting_empty = 1
code waiting_full = 2
code over = 3

by_answer : (o : Outcome) → answer_of o ≡ over → o ≡ Ended
by_answer Moved e = absurd (let z : 0 ≡ 3 = ap code e in omega arith)
by_answer (Sent v) e = absurd (let z : 0 ≡ 3 = ap code e in omega arith)
by_answer Halted e = absurd (let z : 0 ≡ 3 = ap code e in omega arith)
by_answer WaitEmpty e = absurd (let z : 1 ≡ 3 = ap code e in omega arith)
by_answer WaitFull e = absurd (let z : 2 ≡ 3 = ap code e in omega arith)
by_answer Ended e = refl

pub outcome_over : (n : Network) (pass : passes n ≡ true) (w : World) (H : State Process ℤ) (out : ℕ → List ℤ) → Stands n pass w H out
    → (p : ℕ) → p < n.processes → has_ended (H.processes p) ≡ true → (step_for p w).outcome ≡ Ended
outcome_over n pass w H out s p h e =
    subst⁻¹ (λ (x : World). (step_for p x).outcome ≡ Ended) (world_at n pass w s.network)
    (by_answer _ ((pick_is n pass p w.lane.accepted (board_of w) s.related.good h).1
    ∙ is_over (machine_of n pass) (board_of w) p (ap has_ended (s.related.same p) ∙ e)))

-- ---- the plain order
module _ (m : Network) (s : Plain) (all : (p : ℕ) → p < m.processes → is_ended (s.processes p).condition ≡ true) where
  step_same : (p : ℕ) → p < m.processes → plain_step m p s ≡ s
  unfolding plain_step resolve
  step_same p h = rw (want_rests (stands_at m p (s.processes p).position) (s.processes p) (all p h))

  turns_same : (k p : ℕ) → p + k ≤ m.processes → turns m p k s ≡ s
  turns_same zero p h = refl
  turns_same (suc k) p h = ap (turns m (suc p) k) (step_same p (omega arith)) ∙ turns_same k (suc p) (omega arith)

pub plain_same : (m : Network) (input : ℕ → List ℤ) (rounds : ℕ) → ((p : ℕ) → p < m.processes → is_ended ((plain_after m input rounds).processes p).condition ≡ true)
    → (k : ℕ) → plain_after m input (rounds + k) ≡ plain_after m input rounds
plain_same m input rounds all zero = let e : rounds + 0 ≡ rounds = omega arith in ap (plain_after m input) e
plain_same m input rounds all (suc k) =
    let e : rounds + suc k ≡ suc (rounds + k) = omega arith in
    ap (plain_after m input) e
    ∙ ap (round m) (plain_same m input rounds all k)
    ∙ turns_same m (plain_after m input rounds) all m.processes 0 (omega arith)
