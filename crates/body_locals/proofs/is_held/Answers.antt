use borrow.Author.Rules.{rules}
use Rattle.image.specs.Lists.{member}
use Rattle.body_tables.specs.Layout.{body_of}
use Rattle.body_locals.proofs.is_held.Goals as goal

pub returns : goal.returns
unfolding body_of
returns c = c.is_among.ensures
