use borrow.Author.Rules.{rules}
use borrow.Author.Tests.{le-ltb, lt-ltb}
use Rattle.body_scopes.proofs.scope_start.Goals as goal

pub returns-then-i-counts : goal.returns-then-i-counts
returns-then-i-counts c = rw (lt-ltb _ _ c.if-i-counts.true) c.scope_word.ensures

pub returns : goal.returns
returns c = rw (le-ltb _ _ c.if-i-counts.false)
