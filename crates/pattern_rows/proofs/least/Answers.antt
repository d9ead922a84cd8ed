use borrow.Author.Tests.{lt-ltb, le-ltb}
use Rattle.pattern_rows.specs.Rows.{smaller}
use Rattle.pattern_rows.proofs.least.Goals as goal

pub returns-then-m-n : goal.returns-then-m-n
unfolding smaller
returns-then-m-n c = rw (lt-ltb _ _ c.if-m-n.true)

pub returns : goal.returns
unfolding smaller
returns c = rw (le-ltb _ _ c.if-m-n.false)
