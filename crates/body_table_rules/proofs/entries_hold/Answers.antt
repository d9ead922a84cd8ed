use borrow.Author.Rules.{rules}
use Rattle.body_tables.specs.Layout.{body_of}
use Rattle.body_table_rules.proofs.entries_hold.Goals as goal

pub returns : goal.returns
unfolding body_of
returns c = c.entries_hold.ensures
