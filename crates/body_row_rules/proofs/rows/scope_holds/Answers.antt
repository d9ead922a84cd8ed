use borrow.Author.Rules.{rules}
use borrow.Author.Tests.{lt-ltb, le-ltb}
use Rattle.body_row_rules.specs.Bodies.{scope_end, scope_holds}
use Rattle.body_row_rules.proofs.rows.scope_holds.Goals as goal

pub returns-then-i-counts : goal.returns-then-i-counts
unfolding scope_holds scope_end
returns-then-i-counts c = rw (lt-ltb _ _ c.if-i-counts.true)

pub returns : goal.returns
unfolding scope_holds scope_end
returns c = rw (le-ltb _ _ c.if-i-counts.false)
