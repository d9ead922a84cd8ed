use borrow.Author.Rules.{rules}
use native.Mathlib.Omega.{arith}
use Rattle.parsing_steps.proofs.Passing.{parts_fit_lem}
use Rattle.parsing_steps.proofs.Enders.{grows_none, grows_one}
use Rattle.parsing_steps.proofs.ending.grow_top.Goals as goal

pub returns-then-depth-eq0 : goal.returns-then-depth-eq0
returns-then-depth-eq0 c = grows_none _ _ c.if-depth-eq0.true

pub grown_row-requires : goal.grown_row-requires
grown_row-requires c = parts_fit_lem _ c.requires.1 (omega arith) c.node_at-f.ensures

pub returns : goal.returns
returns c = grows_one _ _ _ _ _ _ (omega arith) c.node_at-f.ensures c.grown_row.ensures c.put_node.ensures
