use borrow.Author.Rules.{rules}
use native.Mathlib.Omega.{arith}
use Rattle.parsing_steps.proofs.Passing.{begins_none, begins_there}
use Rattle.parsing_steps.proofs.settling.begin_last.Goals as goal

pub returns-then-rows-eq0 : goal.returns-then-rows-eq0
returns-then-rows-eq0 c = begins_none _ _ _ c.if-rows-eq0.true

pub returns : goal.returns
returns c = begins_there _ _ _ _ _ _ _ (omega arith) c.node_at-w.ensures c.begun_row.ensures c.put_node.ensures
