use borrow.Author.Rules.{rules}
use Rattle.mir.specs.Rvalues.{left_words}
use Rattle.mir_statements.proofs.left_words.Goals as goal

pub returns-in-Local : goal.returns-in-Local
unfolding left_words
returns-in-Local c = rw c.in-Local.is

pub returns-in-Constant : goal.returns-in-Constant
unfolding left_words
returns-in-Constant c = rw c.in-Constant.is c.constant_words.ensures
