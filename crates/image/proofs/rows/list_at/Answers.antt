use borrow.Author.Rules.{rules}
use Rattle.image.specs.Rows.{list_at}
use Rattle.image.proofs.rows.list_at.Goals as goal

pub returns : goal.returns
unfolding list_at
returns c = rw c.requires.0.list at c.word_at.ensures
