use borrow.Author.Rules.{rules}
use Rattle.parsing_opening.proofs.Opened.{mutates_top}
use Rattle.parsing_opening.proofs.make_mut.Goals as goal

pub returns : goal.returns
returns c = mutates_top _ _ _ _ _ c.mutate.ensures c.going_on.ensures
