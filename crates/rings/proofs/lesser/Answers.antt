-- `rings::lesser` meets its contract.
-- Assumes nothing.
use native.Mathlib.Omega.{arith}
use borrow.Author.Tests.{le-ltb, eq-eqb, ne_eqb}
use Rattle.base.proofs.Conjunction.{or_false}
use Rattle.rings.proofs.lesser.Goals as goal

pub returns-then-capacity-eq0 : goal.returns-then-capacity-eq0
returns-then-capacity-eq0 c = rw (eq-eqb _ 0 c.if-capacity-eq0.true)

pub returns-then-other-eq0 : goal.returns-then-other-eq0
returns-then-other-eq0 c = rw (ne_eqb _ 0 c.if-capacity-eq0.false, eq-eqb _ 0 c.if-other-eq0.true)

pub returns-then-capacity-other : goal.returns-then-capacity-other
returns-then-capacity-other c =
    let a = c.args in
    rw (ne_eqb a.capacity 0 c.if-capacity-eq0.false, ne_eqb a.other 0 c.if-other-eq0.false, eq-eqb a.capacity a.other c.if-capacity-other.true, le-ltb a.capacity a.other (omega (arith, c.if-capacity-other.true)))

pub returns : goal.returns
returns c =
    let a = c.args in
    rw (ne_eqb a.capacity 0 c.if-capacity-eq0.false, ne_eqb a.other 0 c.if-other-eq0.false, ne_eqb a.capacity a.other c.if-capacity-other.false, or_false)
