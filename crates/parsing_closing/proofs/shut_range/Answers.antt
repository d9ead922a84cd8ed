use borrow.Author.Rules.{rules}
use native.Mathlib.Omega.{arith}
use Rattle.parsing_rests.proofs.Opens.{parts_wide}
use Rattle.parsing_closing.proofs.Closed.{shuts_range_lem}
use Rattle.parsing_closing.proofs.shut_range.Goals as goal

pub shut_grown-requires : goal.shut_grown-requires
shut_grown-requires c = (omega (arith, c.requires.0), parts_wide c.requires.1)

pub returns : goal.returns
returns c = shuts_range_lem _ c.put_node.ensures (omega arith) c.shut_grown.ensures c.going_on.ensures
