use borrow.Author.Rules.{rules}
use native.Mathlib.Omega.{arith}
use borrow.Author.Tests.{eq-eqb, ne_eqb}
use Rattle.parsing_steps.proofs.Enders.{field_next, field_ends, field_halts}
use Rattle.parsing_behind.proofs.ended_field.Goals as goal

pub returns-then-m-eq1 : goal.returns-then-m-eq1
returns-then-m-eq1 c = field_next _ _ _ _ _ _ _ _ _ _ _ _ (eq-eqb _ 1 c.if-m-eq1.true) c.grown_row.ensures c.put_node.ensures c.grow_top.ensures (omega arith) c.going_on.ensures

pub returns-then-m-eq5 : goal.returns-then-m-eq5
returns-then-m-eq5 c = field_ends _ _ _ (ne_eqb _ 1 c.if-m-eq1.false) (eq-eqb _ 5 c.if-m-eq5.true) c.grown_row-then-m-eq5.ensures c.put_node-then-m-eq5.ensures (omega arith) c.shut_grown.ensures c.going_on-then-m-eq5.ensures

pub returns : goal.returns
returns c = field_halts _ _ _ _ _ _ _ (ne_eqb _ 1 c.if-m-eq1.false) (ne_eqb _ 5 c.if-m-eq5.false)
