use borrow.Author.Rules.{rules}
use Rattle.param_steps.proofs.Keeping.{words_put_lem}
use Rattle.param_steps.proofs.saving.put_words.Goals as goal

pub returns : goal.returns
returns c = words_put_lem c.args.table.now c.args.words.now c.requires c.store_row.ensures
