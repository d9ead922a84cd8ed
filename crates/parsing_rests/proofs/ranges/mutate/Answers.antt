use borrow.Author.Rules.{rules}
use native.Mathlib.Omega.{arith}
use Rattle.parsing_rests.proofs.Opens.{mutates_none, mutates_one}
use Rattle.parsing_rests.proofs.ranges.mutate.Goals as goal

pub returns-then-depth-eq0 : goal.returns-then-depth-eq0
returns-then-depth-eq0 c = mutates_none _ _ c.if-depth-eq0.true

pub returns : goal.returns
returns c = mutates_one _ _ _ _ _ _ (omega arith) c.node_at-f.ensures c.mutated_row.ensures c.put_node.ensures
