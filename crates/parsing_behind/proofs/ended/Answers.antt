use borrow.Author.Rules.{rules}
use native.Mathlib.Omega.{arith}
use borrow.Author.Rules.{rules}
use borrow.Author.Tests.{eq-eqb, ne_eqb}
use Rattle.parsing_steps.proofs.Passing.{parts_fit_lem}
use Rattle.parsing_steps.proofs.Lasting.{fewer}
use Rattle.parsing_behind.proofs.Behinds.{ends_whole, ends_not, ends_field, ends_item}
use Rattle.parsing_behind.proofs.ended.Goals as goal

pub returns-then-m-eq0 : goal.returns-then-m-eq0
returns-then-m-eq0 c = ends_whole _ _ _ _ _ _ c.if-depth-eq0.true (eq-eqb _ 0 c.if-m-eq0.true)

pub returns-then-depth-eq0 : goal.returns-then-depth-eq0
returns-then-depth-eq0 c = ends_not _ _ _ _ _ _ c.if-depth-eq0.true (ne_eqb _ 0 c.if-m-eq0.false)

pub ended_field-requires : goal.ended_field-requires
ended_field-requires c = (omega (arith, c.requires.0), fewer c.requires.1 (omega arith), parts_fit_lem _ c.requires.1 (omega arith) c.node_at-f.ensures)

pub returns-then-kind_of-eq13 : goal.returns-then-kind_of-eq13
returns-then-kind_of-eq13 c = ends_field _ _ _ (omega arith) c.node_at-f.ensures c.kind_of.ensures (eq-eqb _ 13 c.if-kind_of-eq13.true) c.ended_field.ensures

pub ended_item-requires : goal.ended_item-requires
ended_item-requires c = (omega (arith, c.requires.0), fewer c.requires.1 (omega arith), parts_fit_lem _ c.requires.1 (omega arith) c.node_at-f.ensures)

pub returns : goal.returns
returns c = ends_item _ _ _ (omega arith) c.node_at-f.ensures c.kind_of.ensures (ne_eqb _ 13 c.if-kind_of-eq13.false) c.ended_item.ensures
