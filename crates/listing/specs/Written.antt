-- A text in a lent buffer: "Bytes past what is written stay."
-- Assumes nothing.
use Rattle.std.specs.Prelude.{List, ◌++◌, ℕ, ◌+◌, length, take, drop}

-- the text t from place i on; all else as it was
unfoldable pub written : ℕ → List ℕ → List ℕ → List ℕ
written i t buffer = take i buffer ++ t ++ drop (i + length t) buffer
