use borrow.Author.Rules.{rules}
use Rattle.body_row_rules.specs.Bodies.{local_holds}
use Rattle.body_row_rules.proofs.rows.local_holds.Goals as goal

pub returns : goal.returns
unfolding local_holds
returns c = c.is_type_word.ensures
