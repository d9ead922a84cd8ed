use borrow.Author.Rules.{rules}
use Rattle.body_tables.specs.Layout.{body_of}
use Rattle.body_handed.proofs.self_holds.Goals as goal

pub returns : goal.returns
unfolding body_of
returns c = c.self_holds.ensures
