use borrow.Author.Rules.{rules}
use native.Mathlib.Omega.{arith}
use borrow.Author.Tests.{eq-eqb, ne_eqb}
use Rattle.parsing_steps.proofs.Passing.{parts_fit_lem}
use Rattle.parsing_rests.proofs.Items.{notes_none, notes_named, notes_slice, notes_tuple}
use Rattle.parsing_rests.proofs.resting.note_rest.Goals as goal

pub returns-then-depth-eq0 : goal.returns-then-depth-eq0
returns-then-depth-eq0 c = notes_none _ _ _ _ _ c.if-depth-eq0.true

pub grown_row-requires : goal.grown_row-requires
grown_row-requires c = parts_fit_lem _ c.requires.1 (omega arith) c.node_at-f.ensures

pub returns-then-kind-eq7 : goal.returns-then-kind-eq7
returns-then-kind-eq7 c = notes_named _ _ _ _ _ _ _ _ _ _ _ _ _ _ (omega arith) c.node_at-f.ensures c.kind_of-kind.ensures (eq-eqb _ 7 c.if-kind-eq7.true) c.rest_row.ensures c.put_node.ensures (omega arith) c.grown_row.ensures c.put_node-then-kind-eq7.ensures (omega arith)

pub returns-then-kind-eq11 : goal.returns-then-kind-eq11
returns-then-kind-eq11 c = notes_slice _ _ _ _ _ _ _ _ _ _ _ (omega arith) c.node_at-f.ensures c.kind_of-kind.ensures (ne_eqb _ 7 c.if-kind-eq7.false) (eq-eqb _ 11 c.if-kind-eq11.true) c.rest_row-then-kind-eq11.ensures c.put_node-then-kind-eq11.ensures (omega arith)

pub returns : goal.returns
returns c = notes_tuple _ _ _ _ _ _ _ _ (omega arith) c.node_at-f.ensures c.kind_of-kind.ensures (ne_eqb _ 7 c.if-kind-eq7.false) (ne_eqb _ 11 c.if-kind-eq11.false)
