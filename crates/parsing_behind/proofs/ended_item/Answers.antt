use borrow.Author.Rules.{rules}
use mathlib.Core.Path.{sym, ◌∙◌}
use native.Mathlib.Omega.{arith}
use borrow.Author.Tests.{eq-eqb, ne_eqb}
use Rattle.parsing_steps.proofs.Enders.{item_next, item_ends, item_halts}
use Rattle.parsing_behind.proofs.ended_item.Goals as goal

pub returns-then-m-eq1 : goal.returns-then-m-eq1
returns-then-m-eq1 c = item_next _ _ _ _ _ _ _ _ _ _ _ (eq-eqb _ 1 c.if-m-eq1.true) c.grown_row.ensures c.put_node.ensures (omega arith) c.going_on.ensures

pub returns-then-closes_list : goal.returns-then-closes_list
returns-then-closes_list c = item_ends _ _ _ _ (ne_eqb _ 1 c.if-m-eq1.false) c.kind_of.ensures (sym c.closes_list.ensures ∙ c.if-closes_list.true) c.item_last.ensures c.going_on-then-closes_list.ensures

pub returns : goal.returns
returns c = item_halts _ _ _ _ _ _ _ _ (ne_eqb _ 1 c.if-m-eq1.false) c.kind_of.ensures (sym c.closes_list.ensures ∙ c.if-closes_list.false)
