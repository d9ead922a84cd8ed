use borrow.Author.Rules.{rules}
use borrow.Author.Tests.{not-true, not-false}
use Rattle.image_tables.proofs.tables_hold.listed_rows_hold.Goals as goal

pub returns-then-not-types_hold : goal.returns-then-not-types_hold
returns-then-not-types_hold c = rw (← c.types_hold.ensures, c.if-not-types_hold.true)

pub returns : goal.returns
returns c = rw (← c.types_hold.ensures, c.if-not-types_hold.false) c.variants_hold.ensures
