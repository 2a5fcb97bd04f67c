-- What the witnesses share: what is unfolded to compute, cells and a board to compute on, a call beside its answer.
-- Assumes nothing.
use mathlib.Core.Path.{◌≡◌, refl, sym, ap, ◌∙◌}
use mathlib.Core.Bool.{Bool, true, false≢true, not, ◌&&◌}
use mathlib.Core.List.{List, [], ◌∷◌}
use Prim.Native.Nat.{ℕ, zero, suc, ◌+◌, ◌-◌, ◌<◌, ◌≤◌}
use native.Mathlib.Omega.{arith}
use native.Mathlib.Decide.{dec_lt}
use borrow.Author.Tests.{ltb-true, eqb-true, eq-eqb}
use lib.Dec.{eqb, ltb}
use lib.ListN.{length, replicate, length-replicate}
use lib.IntN.{ℤ}
use Rattle.base.specs.Tests.{in_turn}
use Rattle.base.specs.Lists.{values, joined}
use Rattle.network.specs.declared.Network.{Network}
use Rattle.network.specs.Code.{fields_right, stands_right}
use Rattle.network.specs.Rules.{sender_of, outside, slots, ends_right, records, instruction_right, code_of, instructions, unused_slots, unused_records, passes}
use Rattle.base.proofs.Conjunction.{both_true}
use Rattle.arithmetic.specs.Wrap.{residue, centred, wrap}
use Rattle.arithmetic.specs.Quotient.{floor_of, quotient_of}
use Rattle.process.specs.Want.{want_live, want}
use Rattle.process.specs.Execute.{execute, step_of}
use Rattle.process.specs.Window.{eight}
use Rattle.lane.specs.State.{stands_at, fresh_of}
use Rattle.lane.specs.Pick.{put_back, step_at, pick_in}
use Rattle.lane.proofs.SoundLaws.{fresh_sound}
use Rattle.waits.specs.Waits.{wait_of, pointing, full_wait, waits_at}
use Rattle.rings.specs.Rings.{iter, closes_from, chain, first_from, search}
use Rattle.block_check.specs.Crc.{crc}
use Rattle.lane_file.specs.File.{first_block, code_block, file_of}
use Rattle.kahn.specs.Plain.{from_outside}
use Rattle.kahn.specs.Calls.{Call, Reply}
use Rattle.kahn.specs.Boards.{board}
use Rattle.kahn_witnesses.proofs.Traces.{Fit, bare}

-- ---- what is unfolded to compute the tests of a network, a file and a list of calls (for the plain order: InTurn)
unfoldable pub tests : ℕ
unfolding slots records ends_right unused_slots unused_records instructions code_of instruction_right stands_right fields_right in_turn
tests = 0

unfoldable pub files : ℕ
unfolding file_of first_block code_block joined crc
files = 0

unfoldable pub playing : ℕ
unfolding bare fresh_of values stands_at step_at put_back pick_in eight step_of execute want want_live wrap centred residue floor_of quotient_of wait_of pointing full_wait waits_at iter closes_from chain first_from search
playing = 0

-- ---- boards
-- cells that all hold v
abbrev pub filled : ℤ → List ℤ
filled v = replicate 8192 v

pub many_filled : (v : ℤ) → length (filled v) ≡ 8192
many_filled v = length-replicate {A = ℤ} 8192 v

pub fit : (n : Network) (cells : List ℤ) → passes n ≡ true → length cells ≡ 8192 → Fit (board n cells)
unfolding fresh_of values
fit n cells pass many = record { shaped = record { registers = refl; processes = refl; channels = refl }; sound = fresh_sound n pass; many = many }

-- a channel from outside is there, and 255 is its sender
pub outside_says : (n : Network) (c : ℕ) → from_outside n c ≡ true → (c < n.channels) × (sender_of n c ≡ outside)
outside_says n c o =
    let b = both_true (ltb c n.channels) (eqb (sender_of n c) outside) o in
    (ltb-true c n.channels b.0, eqb-true (sender_of n c) outside b.1)

-- the k channels from number c on have their senders inside
abbrev inside_from : Network → ℕ → ℕ → Bool
inside_from n c zero = true
inside_from n c (suc k) = not (eqb (sender_of n c) outside) && inside_from n (suc c) k

inside_from_lem : (n : Network) (c k d : ℕ) → inside_from n c k ≡ true → c ≤ d → d < c + k → sender_of n d ≡ outside → ⊥
inside_from_lem n c zero d e l m o = omega arith
inside_from_lem n c (suc k) d e l m o =
    let b = both_true (not (eqb (sender_of n c) outside)) (inside_from n (suc c) k) e in
    at (dec_lt c d) b.0 (λ q. inside_from_lem n (suc c) k d b.1 q (omega arith) o)
  where
    at : Dec (c < d) → not (eqb (sender_of n c) outside) ≡ true → (c < d → ⊥) → ⊥
    at (yes q) f g = g q
    at (no q) f g =
        let t : c ≡ d = omega arith in
        false≢true (sym (ap not (eq-eqb (sender_of n c) outside (ap (sender_of n) t ∙ o))) ∙ f)

-- where channel 0 alone comes from outside, what holds of it holds of all that do
pub only_first : (n : Network) → inside_from n 1 (n.channels - 1) ≡ true → (P : ℕ → Type 0) → P 0 → (c : ℕ) → from_outside n c ≡ true → P c
only_first n e P h zero o = h
only_first n e P h (suc c) o =
    let b = outside_says n (suc c) o in
    absurd (inside_from_lem n 1 (n.channels - 1) (suc c) e (omega arith) (omega arith) b.1)

-- what holds of process 0 holds of each of one process
pub one_process : (P : ℕ → Type 0) → P 0 → (p : ℕ) → p < 1 → P p
one_process P h zero l = h
one_process P h (suc p) l = absurd (omega arith)

-- ---- a call with its answer
pub data Entry : Type 0 where
  ◌⇒◌ : Call → Reply → Entry

infix 80 ◌⇒◌
abbrev pub calls_of : List Entry → List Call
calls_of [] = []
calls_of ((k ⇒ r) ∷ es) = k ∷ calls_of es

abbrev pub replies_of : List Entry → List Reply
replies_of [] = []
replies_of ((k ⇒ r) ∷ es) = r ∷ replies_of es
