use borrow.Author.Rules.{rules}
use Rattle.mir.specs.Rvalues.{place_rvalue_row}
use Rattle.mir_statements.proofs.push_assignment.Goals as goal

pub returns : goal.returns
unfolding place_rvalue_row
returns c = rw (c.place_rvalue_kind-kind.ensures, c.place_words-words.ensures) at c.push_statement.ensures
