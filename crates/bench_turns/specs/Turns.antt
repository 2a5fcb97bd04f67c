-- A pick byte alone, in the terms of the rule.
-- Assumes nothing.
use Rattle.std.specs.Prelude.{ℕ}
use Rattle.bench_rules.specs.Printed.{Printed, printed}
use Rattle.bench_rules.specs.Playing.{picks_in, Bench, bench}

abbrev pub byte_in : ℕ → Bench → Printed Bench
byte_in p b = printed (picks_in p b.world).lines (bench (picks_in p b.world).after b.left b.given)
