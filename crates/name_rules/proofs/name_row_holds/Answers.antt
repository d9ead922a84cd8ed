use borrow.Author.Rules.{rules}
use borrow.Author.Tests.{lt-leb, le-leb}
use Rattle.name_rules.proofs.name_row_holds.Goals as goal

pub returns-then-bytes-row : goal.returns-then-bytes-row
returns-then-bytes-row c = rw (lt-leb _ _ c.if-bytes-row.true)

pub returns : goal.returns
returns c = rw (le-leb _ _ c.if-bytes-row.false) c.names_something.ensures
