use borrow.Author.Rules.{rules}
use Rattle.mir.specs.Rvalues.{binary_row}
use Rattle.mir_statements.proofs.push_binary_assignment.Goals as goal

pub returns : goal.returns
unfolding binary_row
returns c = rw (c.binary_kind-kind.ensures, c.left_words-operand.ensures, c.place_words-words.ensures) at c.push_statement.ensures
