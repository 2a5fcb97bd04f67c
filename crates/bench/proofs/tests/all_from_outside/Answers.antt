-- `bench::tests::all_from_outside` meets its contract.
-- Assumes nothing.
use mathlib.Core.Path.{sym, ap, ◌∙◌}
use borrow.Author.Tests.{lt-ltb, le-ltb, ne_eqb}
use Rattle.base.specs.Tests.{is_good, need}
use Rattle.base.proofs.Tests.{stop}
use Rattle.bench_rules.specs.Input.{records}
use Rattle.bench.specs.Bench.{from_outside}
use Rattle.bench.proofs.tests.all_from_outside.Goals.{then-network-c-via-then-network-c, then-network-c-via-else-network-c+then-network-c-2}
use Rattle.bench.proofs.tests.all_from_outside.Goals as goal

pub returns-then-network-c : goal.returns-then-network-c
returns-then-network-c c =
    let l = c.loop-i in
    let a = c.args in
    elim c.then-network-c.branch [
      | then-network-c-via-then-network-c w ↦
          ap is_good
          (sym (stop (λ j. need (from_outside a.network.now a.input.now j) j) l.i (records a.input.now) l.i c.loop-i-test.true
          (rw (← c.channel_at-c.ensures, le-ltb _ _ w.if-network-c.true)))
          ∙ l.invariant)
      | then-network-c-via-else-network-c+then-network-c-2 w ↦
          ap is_good
          (sym (stop (λ j. need (from_outside a.network.now a.input.now j) j) l.i (records a.input.now) l.i c.loop-i-test.true
          (rw (← c.channel_at-c.ensures, lt-ltb _ _ w.if-network-c.false, ne_eqb _ 255 w.if-network-c-2.true)))
          ∙ l.invariant)
    ]
