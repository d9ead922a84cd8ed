use borrow.Author.Rules.{rules}
use Rattle.body_tables.specs.Layout.{entries_at, body_of}
use Rattle.body_tables.proofs.Regions.{word_of_lem}
use Rattle.body_scope_tables.proofs.entry_local.Goals as goal

pub returns : goal.returns
unfolding body_of
returns c = word_of_lem entries_at 1024 c.args.body.now c.args.i c.requires.1
