use borrow.Author.Tests.{eq-eqb, ne_eqb}
use Rattle.pattern_matching.specs.Patterns.{end_op}
use Rattle.pattern_range_ends.proofs.end_op.Goals as goal

pub returns-then-half_open-eq1 : goal.returns-then-half_open-eq1
unfolding end_op
returns-then-half_open-eq1 c = rw (eq-eqb _ 1 c.if-half_open-eq1.true)

pub returns : goal.returns
unfolding end_op
returns c = rw (ne_eqb _ 1 c.if-half_open-eq1.false)
