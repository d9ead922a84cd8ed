use borrow.Author.Rules.{rules}
use Rattle.image.specs.Rows.{type_at}
use Rattle.image.proofs.rows.type_at.Goals as goal

pub returns : goal.returns
unfolding type_at
returns c = rw c.requires.0.types at c.type_row.ensures
