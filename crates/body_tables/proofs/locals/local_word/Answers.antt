use borrow.Author.Rules.{rules}
use Rattle.body_tables.specs.Layout.{locals_at, body_of}
use Rattle.body_tables.proofs.Regions.{word_of_lem}
use Rattle.body_tables.proofs.locals.local_word.Goals as goal

pub returns : goal.returns
unfolding body_of
returns c = word_of_lem locals_at 512 c.args.body.now c.args.l.0 c.requires.1
