use borrow.Author.Rules.{rules}
use mathlib.Core.Path.{refl}
use Rattle.node_rows.specs.Nodes.{node_row_at}
use Rattle.node_typing.proofs.tables.node_at.Goals as goal

pub returns : goal.returns
unfolding node_row_at
returns c = refl
