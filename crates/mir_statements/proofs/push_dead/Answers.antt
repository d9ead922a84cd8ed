use borrow.Author.Rules.{rules}
use Rattle.mir.specs.Rvalues.{dead_row}
use Rattle.mir_statements.proofs.push_dead.Goals as goal

pub returns : goal.returns
unfolding dead_row
returns c = c.push_statement.ensures
