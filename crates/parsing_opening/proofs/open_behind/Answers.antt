use borrow.Author.Rules.{rules}
use native.Mathlib.Omega.{arith}
use Rattle.parsing_opening.proofs.Opened.{opens_behind_lem}
use Rattle.parsing_opening.proofs.open_behind.Goals as goal

pub returns : goal.returns
returns c = opens_behind_lem c.put_node.ensures (omega arith) c.open_node.ensures
