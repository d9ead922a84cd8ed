use borrow.Author.Rules.{rules}
use Rattle.image.specs.Rows.{binding_at}
use Rattle.image.proofs.rows.binding_at.Goals as goal

pub returns : goal.returns
unfolding binding_at
returns c = rw c.requires.0.bindings at c.binding_row.ensures
