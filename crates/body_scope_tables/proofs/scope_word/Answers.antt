use borrow.Author.Rules.{rules}
use Rattle.body_tables.specs.Layout.{scopes_at, body_of}
use Rattle.body_tables.proofs.Regions.{word_of_lem}
use Rattle.body_scope_tables.proofs.scope_word.Goals as goal

pub returns : goal.returns
unfolding body_of
returns c = word_of_lem scopes_at 32 c.args.body.now c.args.i c.requires.1
