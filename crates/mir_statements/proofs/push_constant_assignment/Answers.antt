use borrow.Author.Rules.{rules}
use Rattle.mir.specs.Rvalues.{constant_row}
use Rattle.mir_statements.proofs.push_constant_assignment.Goals as goal

pub returns : goal.returns
unfolding constant_row
returns c = rw c.constant_words-words.ensures at c.push_statement.ensures
