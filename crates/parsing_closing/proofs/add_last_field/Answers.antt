use borrow.Author.Rules.{rules}
use native.Mathlib.Omega.{arith}
use Rattle.parsing_closing.proofs.Closed.{adds_last}
use Rattle.parsing_closing.proofs.add_last_field.Goals as goal

pub returns : goal.returns
returns c = adds_last c.put_node.ensures (omega arith) c.shut_range.ensures
