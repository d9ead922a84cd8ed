use borrow.Author.Rules.{rules}
use Rattle.body_restoring.proofs.RowWords.{row_words}
use Rattle.body_restoring.proofs.row_of.Goals as goal

pub returns : goal.returns
returns c = row_words c.args.blocks.now c.args.b.0 c.requires.0 c.requires.1
