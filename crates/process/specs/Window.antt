-- "Register file [0; 128] as sixteen processes of eight": the eight registers from b on.
-- Assumes nothing.
use Rattle.std.specs.Prelude.{ℕ, ◌+◌, List, [], ◌∷◌, get_or, set, ℤ, pos}

-- what stands at i of a list of registers
abbrev pub at : List ℤ → ℕ → ℤ
at xs i = get_or xs i (pos 0)

unfoldable pub eight : List ℤ → ℕ → List ℤ
eight xs b = at xs b ∷ at xs (b + 1) ∷ at xs (b + 2) ∷ at xs (b + 3) ∷ at xs (b + 4) ∷ at xs (b + 5) ∷ at xs (b + 6) ∷ at xs (b + 7) ∷ []

-- the eight registers r put there
abbrev pub put_eight : List ℤ → ℕ → List ℤ → List ℤ
put_eight xs b r =
    set (set (set (set (set (set (set (set xs b (at r 0)) (b + 1) (at r 1)) (b + 2) (at r 2)) (b + 3) (at r 3)) (b + 4) (at r 4)) (b + 5) (at r 5))
    (b + 6) (at r 6)) (b + 7) (at r 7)
