-- Laws of the reader's answers: what each test that passed says, and the result of an answer.
-- Assumes nothing.
use mathlib.Core.Path.{◌≡◌}
use mathlib.Core.Bool.{true}
use mathlib.Core.List.{List}
use Prim.Native.Nat.{ℕ, ◌≤◌}
use borrow.Author.Tests.{eqb-true}
use native.Mathlib.Omega.{arith}
use lib.Dec.{eqb}
use lib.ListN.{length, get_or}
use Rattle.std.specs.declared.result.Result.TheVariants.{Ok, Err}
use Rattle.base.specs.Refusals.{number_of}
use Rattle.base.specs.Tests.{Verdict, need}
use Rattle.base.proofs.Tests.{both, need_true}
use Rattle.network.specs.declared.Network.{Network}
use Rattle.network.specs.Rules.{slots, total, blocks_for, records, instructions}
use Rattle.std.specs.declared.result.Result.{Result}
use Rattle.lane_file.specs.declared.Refused.{Refused}
use Rattle.lane_file.specs.Read.{network_of, length_right, checks, header, slots_in, rest_in, Told, accepted, refused, unless, answer_in, read_of, result_of}
use Rattle.lane_file.proofs.Verdicts.{passing}

-- ---- 4
pub record Slotted (n : Network) : Type 0 where
  pub good : slots n ≡ Ok tt
  pub few : total n ≤ 1016

pub slotted : (s : List ℕ) (n : Network) → get_or s 5 0 ≤ 8 → slots_in s n ≡ Ok tt → Slotted n
slotted s n h e =
    let b = both (slots n) (need (eqb (get_or s 5 0) (blocks_for (total n))) 16) e in
    let k = eqb-true (get_or s 5 0) (blocks_for (total n)) (need_true _ 16 b.1) in
    record { good = b.0; few = omega arith }

-- ---- the tests 1 to 3
abbrev pub first_of : List ℕ → Told
first_of s = unless 1 (need (length_right (length s)) 0) (unless 2 (checks s) (unless 3 (header s) accepted))

-- all passed
pub first_told : (s : List ℕ) → first_of s ≡ accepted → (length_right (length s) ≡ true) × (checks s ≡ Ok tt) × (header s ≡ Ok tt)
first_told s e =
    let a = passing 1 (need (length_right (length s)) 0) _ e in
    let b = passing 2 (checks s) _ a.1 in
    let c = passing 3 (header s) accepted b.1 in
    (need_true (length_right (length s)) 0 a.0, b.0, c.0)

-- one failed: it is the answer, whatever follows
stopped : (number : ℕ) (v : Verdict) (next more : Told) (m place : ℕ) → (next ≡ refused m place → more ≡ refused m place)
    → unless number v next ≡ refused m place
    → unless number v more ≡ refused m place
stopped number (Ok u) next more m place f e = f e
stopped number (Err k) next more m place f e = e

pub first_refused : (s : List ℕ) (n : Network) (m place : ℕ) → first_of s ≡ refused m place → answer_in s n ≡ refused m place
unfolding answer_in
first_refused s n m place =
    stopped 1 (need (length_right (length s)) 0) _ _ m place
    (stopped 2 (checks s) _ _ m place
    (stopped 3 (header s) accepted _ m place (λ e. let z : ◌≡◌ {A = ℕ} 0 1 = cc in absurd (omega arith))))

-- they passed: 4 to 7 answer
pub first_passed : (s : List ℕ) (n : Network) → length_right (length s) ≡ true → checks s ≡ Ok tt → header s ≡ Ok tt → answer_in s n ≡ unless 4 (slots_in s n) (unless 5 (records n) (unless 6 (rest_in s n) (unless 7 (instructions n) accepted)))
unfolding answer_in
first_passed s n l c h = rw (l, c, h)

-- ---- the result of an answer
pub result_refused : (x : Result Network Refused) (r : Refused) (s : List ℕ) → x ≡ Err r → answer_in s (network_of s) ≡ refused (number_of r.refusal) r.place → result_of x ≡ read_of s
unfolding read_of
result_refused x r s e a = rw (e, a)

pub result_accepted : (x : Result Network Refused) (s : List ℕ) → x ≡ Ok (network_of s) → answer_in s (network_of s) ≡ accepted → result_of x ≡ read_of s
unfolding read_of
result_accepted x s e a = rw (e, a)
