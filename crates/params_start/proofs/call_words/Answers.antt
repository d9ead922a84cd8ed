use borrow.Author.Rules.{rules}
use Rattle.params_start.proofs.Starting.{words_are_lem}
use Rattle.params_start.proofs.call_words.Goals as goal

pub returns : goal.returns
returns c = words_are_lem _ c.receiver_of.ensures
