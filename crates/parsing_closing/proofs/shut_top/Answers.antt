use borrow.Author.Rules.{rules}
use native.Mathlib.Omega.{arith}
use Rattle.parsing_steps.proofs.Lasting.{fewer}
use Rattle.parsing_closing.proofs.Closed.{shuts_nothing, shuts_innermost}
use Rattle.parsing_closing.proofs.shut_top.Goals as goal

pub returns-then-depth-eq0 : goal.returns-then-depth-eq0
returns-then-depth-eq0 c = shuts_nothing _ _ _ _ _ c.if-depth-eq0.true c.going_on.ensures

pub shut_node-requires : goal.shut_node-requires
shut_node-requires c = (omega (arith, c.requires.0), fewer c.requires.1 (omega arith))

pub returns : goal.returns
returns c = shuts_innermost _ _ (omega arith) c.node_at-f.ensures c.shut_node.ensures
