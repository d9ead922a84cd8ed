use borrow.Author.Rules.{rules}
use Rattle.body_tables.specs.Layout.{body_of}
use Rattle.body_restoring.proofs.block_row.Goals as goal

pub returns : goal.returns
unfolding body_of
returns c = c.row_of.ensures
