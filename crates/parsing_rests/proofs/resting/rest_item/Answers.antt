use borrow.Author.Rules.{rules}
use mathlib.Core.Path.{sym, ◌∙◌}
use native.Mathlib.Omega.{arith}
use borrow.Author.Tests.{eq-eqb, ne_eqb}
use Rattle.parsing_steps.proofs.Passing.{parts_fit_lem}
use Rattle.parsing_steps.proofs.Lasting.{fewer}
use Rattle.parsing_rests.proofs.Items.{rests_none, rests_next, rests_last, rests_not}
use Rattle.parsing_rests.proofs.resting.rest_item.Goals as goal

pub returns-then-depth-eq0 : goal.returns-then-depth-eq0
returns-then-depth-eq0 c = rests_none _ _ _ _ _ _ c.if-depth-eq0.true

pub rested_row-requires : goal.rested_row-requires
rested_row-requires c = parts_fit_lem _ c.requires.1 (omega arith) c.node_at-f.ensures

pub returns-then-m-eq1 : goal.returns-then-m-eq1
returns-then-m-eq1 c = rests_next _ _ _ _ _ _ _ _ _ _ _ (omega arith) c.node_at-f.ensures (parts_fit_lem _ c.requires.1 (omega arith) c.node_at-f.ensures) (eq-eqb _ 1 c.if-m-eq1.true) c.rested_row.ensures c.put_node.ensures c.going_on.ensures

pub rested_row-requires-then-closes_list : goal.rested_row-requires-then-closes_list
rested_row-requires-then-closes_list c = parts_fit_lem _ c.requires.1 (omega arith) c.node_at-f.ensures

pub shut-requires : goal.shut-requires
shut-requires c = (omega (arith, c.requires.0), fewer c.requires.1 (omega arith))

pub returns-then-closes_list : goal.returns-then-closes_list
returns-then-closes_list c = rests_last _ _ _ _ _ _ _ _ (omega arith) c.node_at-f.ensures (parts_fit_lem _ c.requires.1 (omega arith) c.node_at-f.ensures) (ne_eqb _ 1 c.if-m-eq1.false) c.kind_of.ensures (sym c.closes_list.ensures ∙ c.if-closes_list.true) c.rested_row-then-closes_list.ensures c.shut.ensures c.going_on-then-closes_list.ensures

pub returns : goal.returns
returns c = rests_not _ _ _ _ _ _ _ _ _ (omega arith) c.node_at-f.ensures (ne_eqb _ 1 c.if-m-eq1.false) c.kind_of.ensures (sym c.closes_list.ensures ∙ c.if-closes_list.false)
