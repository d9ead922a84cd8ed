use borrow.Author.Rules.{rules}
use native.Mathlib.Omega.{arith}
use borrow.Author.Rules.{rules}
use borrow.Author.Tests.{eq-eqb, ne_eqb}
use Rattle.parsing_steps.proofs.Lasting.{fewer}
use Rattle.parsing_behind.proofs.Behinds.{behind_or_lem, behind_ends, behind_shuts, some_waits, or_one_lem}
use Rattle.parsing_behind.proofs.behind_alt.Goals as goal

pub another-requires : goal.another-requires
another-requires c = omega (arith, c.requires.0, or_one_lem _ c.if-m-eq2.true)

pub returns-then-m-eq2 : goal.returns-then-m-eq2
returns-then-m-eq2 c = behind_or_lem _ _ _ (eq-eqb _ 2 c.if-m-eq2.true) c.another.ensures c.going_on.ensures

pub ended-requires : goal.ended-requires
ended-requires c = (omega (arith, c.requires.0), c.requires.1)

pub returns-then-top_kind-ne14 : goal.returns-then-top_kind-ne14
returns-then-top_kind-ne14 c = behind_ends _ (ne_eqb _ 2 c.if-m-eq2.false) c.top_kind.ensures (ne_eqb _ 14 c.if-top_kind-ne14.true) c.ended.ensures

pub overflow_sub-depth : goal.overflow_sub-depth
overflow_sub-depth c = some_waits _ c.top_kind.ensures c.if-top_kind-ne14.false

pub node_at-f-requires : goal.node_at-f-requires
node_at-f-requires c = let h = some_waits _ c.top_kind.ensures c.if-top_kind-ne14.false in omega (arith, c.requires.0, h)

pub put_node-requires : goal.put_node-requires
put_node-requires c = let h = some_waits _ c.top_kind.ensures c.if-top_kind-ne14.false in omega (arith, c.requires.0, h)

pub overflow_sub-depth-2 : goal.overflow_sub-depth-2
overflow_sub-depth-2 c = some_waits _ c.top_kind.ensures c.if-top_kind-ne14.false

pub overflow_add-rows : goal.overflow_add-rows
overflow_add-rows c = let h = some_waits _ c.top_kind.ensures c.if-top_kind-ne14.false in omega (arith, c.requires.0, h)

pub ended-requires-2 : goal.ended-requires-2
ended-requires-2 c = let h = some_waits _ c.top_kind.ensures c.if-top_kind-ne14.false in (omega (arith, c.requires.0, h), fewer c.requires.1 (omega arith))

pub returns : goal.returns
returns c = let h = some_waits _ c.top_kind.ensures c.if-top_kind-ne14.false in behind_shuts _ _ _ (ne_eqb _ 2 c.if-m-eq2.false) c.top_kind.ensures (eq-eqb _ 14 c.if-top_kind-ne14.false) (omega (arith, h)) c.node_at-f.ensures c.put_node.ensures (omega arith) c.ended-2.ensures
