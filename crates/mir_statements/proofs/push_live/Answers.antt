use borrow.Author.Rules.{rules}
use Rattle.mir.specs.Rvalues.{live_row}
use Rattle.mir_statements.proofs.push_live.Goals as goal

pub returns : goal.returns
unfolding live_row
returns c = c.push_statement.ensures
