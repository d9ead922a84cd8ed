use borrow.Author.Rules.{rules}
use Rattle.lowering_c.specs.Words.{block_word}
use Rattle.lowering_c.proofs.block_word.Goals as goal

pub returns-in-None : goal.returns-in-None
unfolding block_word
returns-in-None c = search rules

pub returns-in-Some : goal.returns-in-Some
unfolding block_word
returns-in-Some c = search rules
