use borrow.Author.Rules.{rules}
use Rattle.node_rows.specs.Nodes.{node_row_at}
use Rattle.node_tables.proofs.node_at.Goals as goal

pub returns : goal.returns
unfolding node_row_at
returns c = search rules
