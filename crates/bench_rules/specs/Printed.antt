-- Document 01, "Bench listing": lines printed on the way.
-- Assumes nothing.
use Rattle.std.specs.Prelude.{List, [], ◌++◌}
use Rattle.listing.specs.Text.{Line}

-- lines printed, and what is there after them
pub record Printed (A : Type 0) : Type 0 where
  pub lines : List Line
  pub after : A

abbrev pub printed : {A : Type 0} → List Line → A → Printed A
printed lines a = record { lines = lines; after = a }

-- nothing printed
abbrev pub silent : {A : Type 0} → A → Printed A
silent a = printed [] a

-- first this, then that
abbrev pub then_do : {A B : Type 0} → Printed A → (A → Printed B) → Printed B
then_do d f = printed (d.lines ++ (f d.after).lines) (f d.after).after
