use borrow.Author.Rules.{rules}
use borrow.Author.Tests.{eq-eqb, ne_eqb}
use Rattle.body_row_rules.specs.Bodies.{entries_belong}
use Rattle.body_row_rules.proofs.rows.entries_belong.Goals as goal

pub returns-then-counts-eq0 : goal.returns-then-counts-eq0
unfolding entries_belong
returns-then-counts-eq0 c = rw (eq-eqb _ 0 c.if-counts-eq0.true)

pub returns : goal.returns
unfolding entries_belong
returns c = rw (ne_eqb _ 0 c.if-counts-eq0.false)
