use borrow.Author.Rules.{rules}
use Rattle.image.specs.Rows.{pat_at}
use Rattle.image.proofs.rows.pat_at.Goals as goal

pub returns : goal.returns
unfolding pat_at
returns c = rw c.requires.0.patterns at c.pat_row.ensures
