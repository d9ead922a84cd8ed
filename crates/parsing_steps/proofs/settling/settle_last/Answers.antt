use borrow.Author.Rules.{rules}
use native.Mathlib.Omega.{arith}
use borrow.Author.Tests.{eq-eqb, ne_eqb}
use Rattle.parsing_steps.proofs.Passing.{parts_fit_lem}
use Rattle.parsing_steps.proofs.Lasting.{last_empty, last_stays, last_bar, last_or}
use Rattle.parsing_steps.proofs.settling.settle_last.Goals as goal

pub returns-then-depth-eq0 : goal.returns-then-depth-eq0
returns-then-depth-eq0 c = last_empty _ _ _ _ c.if-depth-eq0.true

pub returns-then-kind_of-ne14 : goal.returns-then-kind_of-ne14
returns-then-kind_of-ne14 c = last_stays _ _ _ _ _ _ _ (omega arith) c.node_at-f.ensures c.kind_of.ensures (ne_eqb _ 14 c.if-kind_of-ne14.true)

pub returns-then-parts-eq0 : goal.returns-then-parts-eq0
returns-then-parts-eq0 c = last_bar _ _ _ _ _ _ _ _ (omega arith) c.node_at-f.ensures c.kind_of.ensures (eq-eqb _ 14 c.if-kind_of-ne14.false) (eq-eqb _ 0 c.if-parts-eq0.true) c.begin_last.ensures

pub grown_row-requires : goal.grown_row-requires
grown_row-requires c = parts_fit_lem _ c.requires.1 (omega arith) c.node_at-f.ensures

pub returns : goal.returns
returns c = last_or _ _ _ _ _ _ _ _ _ (omega arith) c.node_at-f.ensures c.kind_of.ensures (eq-eqb _ 14 c.if-kind_of-ne14.false) (ne_eqb _ 0 c.if-parts-eq0.false) c.grown_row.ensures c.put_node.ensures
