use borrow.Author.Tests.{eq-eqb, ne_eqb}
use Rattle.pattern_rows.specs.Rows.{before_ellipsis}
use Rattle.pattern_rows.proofs.ellipsis_at.Goals as goal

pub returns-then-ellipsis-eq65535 : goal.returns-then-ellipsis-eq65535
unfolding before_ellipsis
returns-then-ellipsis-eq65535 c = rw (eq-eqb _ 65535 c.if-ellipsis-eq65535.true)

pub returns : goal.returns
unfolding before_ellipsis
returns c = rw (ne_eqb _ 65535 c.if-ellipsis-eq65535.false)
