-- A list of bytes stored into another, from a place on.
-- Assumes nothing.
use Rattle.std.specs.Prelude.{List, ℕ}
use Rattle.std.proofs.lemmas.List.Edits.{sets}

unfoldable pub put : List ℕ → ℕ → List ℕ → List ℕ
put l at bytes = sets l at bytes
