use borrow.Author.Rules.{rules}
use native.Mathlib.Omega.{arith}
use borrow.Author.Rules.{rules}
use borrow.Author.Tests.{eq-eqb, ne_eqb}
use Rattle.parsing_behind.proofs.Behinds.{waits_same, waits_new}
use Rattle.parsing_behind.proofs.another.Goals as goal

pub returns-then-top_kind-eq14 : goal.returns-then-top_kind-eq14
returns-then-top_kind-eq14 c = waits_same _ _ _ _ _ c.top_kind.ensures (eq-eqb _ 14 c.if-top_kind-eq14.true)

pub returns : goal.returns
returns c = waits_new _ _ _ _ _ _ _ _ _ c.top_kind.ensures (ne_eqb _ 14 c.if-top_kind-eq14.false) c.last_from-at.ensures c.or_row.ensures c.put_node.ensures (omega arith)
