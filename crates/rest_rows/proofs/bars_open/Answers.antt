use borrow.Author.Tests.{eq-eqb, ne_eqb}
use Rattle.rest_rows.proofs.bars_open.Goals as goal

pub returns-then-kind-ne11 : goal.returns-then-kind-ne11
returns-then-kind-ne11 c = rw (ne_eqb _ 11 c.if-kind-ne11.true)

pub returns-then-m-eq1 : goal.returns-then-m-eq1
returns-then-m-eq1 c = rw (eq-eqb _ 11 c.if-kind-ne11.false, eq-eqb _ 1 c.if-m-eq1.true)

pub returns : goal.returns
returns c = rw (eq-eqb _ 11 c.if-kind-ne11.false, ne_eqb _ 1 c.if-m-eq1.false)
