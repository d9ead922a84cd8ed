use borrow.Author.Rules.{rules}
use native.Mathlib.Omega.{arith}
use borrow.Author.Tests.{eq-eqb, ne_eqb}
use Rattle.rest_rows.proofs.Lists.{rested_slice, rested_tuple, rested_struct, rested_other}
use Rattle.rest_rows.proofs.rested_row.Goals as goal

pub returns-then-kind-eq11 : goal.returns-then-kind-eq11
returns-then-kind-eq11 c = rested_slice _ _ _ _ c.kind_of-kind.ensures (eq-eqb _ 11 c.if-kind-eq11.true) (omega arith) c.counted_row.ensures

pub returns-then-kind-eq9 : goal.returns-then-kind-eq9
returns-then-kind-eq9 c = rested_tuple _ _ _ c.kind_of-kind.ensures (ne_eqb _ 11 c.if-kind-eq11.false) (eq-eqb _ 9 c.if-kind-eq9.true) c.counted_row-then-kind-eq9.ensures

pub returns-then-kind-eq10 : goal.returns-then-kind-eq10
returns-then-kind-eq10 c = rested_struct _ _ _ c.kind_of-kind.ensures (ne_eqb _ 11 c.if-kind-eq11.false) (ne_eqb _ 9 c.if-kind-eq9.false) (eq-eqb _ 10 c.if-kind-eq10.true) c.counted_row-then-kind-eq10.ensures

pub returns : goal.returns
returns c = rested_other _ _ c.kind_of-kind.ensures (ne_eqb _ 11 c.if-kind-eq11.false) (ne_eqb _ 9 c.if-kind-eq9.false) (ne_eqb _ 10 c.if-kind-eq10.false)
