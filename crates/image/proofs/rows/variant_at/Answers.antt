use borrow.Author.Rules.{rules}
use Rattle.image.specs.Rows.{variant_at}
use Rattle.image.proofs.rows.variant_at.Goals as goal

pub returns : goal.returns
unfolding variant_at
returns c = rw c.requires.0.variants at c.variant_row.ensures
