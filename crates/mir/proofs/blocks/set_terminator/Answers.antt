use borrow.Author.Rules.{rules}
use Rattle.mir.proofs.blocks.set_terminator.Goals as goal

pub returns : goal.returns
returns c = rw c.term_row-row.ensures at c.store_row.ensures
