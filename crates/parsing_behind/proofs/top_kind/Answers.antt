use borrow.Author.Rules.{rules}
use native.Mathlib.Omega.{arith}
use borrow.Author.Rules.{rules}
use Rattle.parsing_behind.proofs.Behinds.{top_none, top_some}
use Rattle.parsing_behind.proofs.top_kind.Goals as goal

pub returns-then-depth-eq0 : goal.returns-then-depth-eq0
returns-then-depth-eq0 c = top_none _ _ c.if-depth-eq0.true

pub returns : goal.returns
returns c = top_some _ _ _ _ _ (omega arith) c.node_at.ensures c.kind_of.ensures
