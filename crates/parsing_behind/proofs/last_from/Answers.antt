use borrow.Author.Rules.{rules}
use mathlib.Core.Path.{refl}
use native.Mathlib.Omega.{arith}
use borrow.Author.Rules.{rules}
use Rattle.parsing_behind.proofs.Behinds.{last_none, last_some}
use Rattle.parsing_behind.proofs.last_from.Goals as goal

pub returns-then-rows-eq0 : goal.returns-then-rows-eq0
returns-then-rows-eq0 c = last_none _ _ c.if-rows-eq0.true

pub returns : goal.returns
returns c = last_some _ _ _ _ _ (omega arith) c.node_at-w.ensures refl
