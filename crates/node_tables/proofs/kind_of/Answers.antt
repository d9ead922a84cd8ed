use borrow.Author.Tests.{lt-ltb, le-ltb}
use Rattle.node_tables.specs.Tables.{row_kind}
use Rattle.node_tables.proofs.kind_of.Goals as goal

pub returns-then-kind-lt14 : goal.returns-then-kind-lt14
unfolding row_kind
returns-then-kind-lt14 c = rw (lt-ltb _ _ c.if-kind-lt14.true)

pub returns : goal.returns
unfolding row_kind
returns c = rw (le-ltb _ _ c.if-kind-lt14.false)
