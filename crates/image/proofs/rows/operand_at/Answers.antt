use borrow.Author.Rules.{rules}
use Rattle.image.specs.Rows.{operand_at}
use Rattle.image.proofs.rows.operand_at.Goals as goal

pub returns : goal.returns
unfolding operand_at
returns c = rw c.requires.0.list at c.operand_row.ensures
