-- A network whose code is zero past its program: it passes the file's rules where a test passes that leaves out the unused code. The test is short
-- enough to be computed.
-- Assumes nothing.
use mathlib.Core.Path.{◌≡◌, refl, ap, ◌∙◌}
use mathlib.Core.Bool.{Bool, true, ◌&&◌}
use mathlib.Core.List.{List, [], ◌∷◌, ◌++◌}
use Prim.Native.Nat.{ℕ, zero, suc, ◌-◌, ◌*◌, ◌≤◌}
use native.Mathlib.Omega.{arith}
use borrow.Author.Tests.{eq-eqb}
use lib.Dec.{leb}
use lib.ListN.{length, get_or, replicate}
use Rattle.std.specs.declared.result.Result.TheVariants.{Ok}
use Rattle.base.specs.Tests.{need, is_good, is_zero}
use Rattle.base.proofs.Tests.{all, true_need}
use Rattle.network.specs.declared.Network.{Network}
use Rattle.network.specs.Rules.{processes_right, channels_right, slots, total, blocks_for, records, unused_slots, unused_records, unused_code, instructions, passes}

zero_past : (program : List ℕ) (k i : ℕ) → length program ≤ i → get_or (program ++ replicate k 0) i 0 ≡ 0
zero_past [] zero i h = refl
zero_past [] (suc k) zero h = refl
zero_past [] (suc k) (suc i) h = zero_past [] k i (omega arith)
zero_past (x ∷ xs) k zero h = absurd (omega arith)
zero_past (x ∷ xs) k (suc i) h = zero_past xs k i (omega arith)

unused_zero_lem : (n : Network) (program : List ℕ) (k : ℕ) → n.code ≡ program ++ replicate k 0 → length program ≤ 4 * total n → unused_code n ≡ Ok tt
unfolding unused_code
unused_zero_lem n program k e h =
    all (λ i. need (is_zero n.code i) i) (4064 - 4 * total n) (4 * total n)
    (λ i l m. true_need (is_zero n.code i) i
    (eq-eqb (get_or n.code i 0) 0 (ap (λ (l : List ℕ). get_or l i 0) e ∙ zero_past program k i (omega arith))))

-- the rules of a file but for the unused code
abbrev pub passes_but : Network → Bool
passes_but n =
    processes_right n.processes && channels_right n.channels && is_good (slots n) && leb (blocks_for (total n)) 8 && is_good (records n)
    && (is_good (unused_slots n) && is_good (unused_records n) && true)
    && is_good (instructions n)

pub passes_by : (n : Network) (program : List ℕ) (k : ℕ) → n.code ≡ program ++ replicate k 0 → length program ≤ 4 * total n → passes_but n ≡ true → passes n ≡ true
unfolding passes
passes_by n program k e h t = rw (unused_zero_lem n program k e h) t
