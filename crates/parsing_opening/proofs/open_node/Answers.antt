use borrow.Author.Rules.{rules}
use native.Mathlib.Omega.{arith}
use Rattle.parsing_opening.proofs.Opened.{opens_node}
use Rattle.parsing_opening.proofs.open_node.Goals as goal

pub returns : goal.returns
returns c = opens_node _ _ _ _ _ _ _ _ c.put_node.ensures (omega arith) c.going_on.ensures
