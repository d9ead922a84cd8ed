use borrow.Author.Rules.{rules}
use mathlib.Core.Path.{refl}
use Rattle.fit_rows.proofs.nodes.bind_node.Goals as goal

pub returns : goal.returns
returns c = rw c.present.ensures refl
