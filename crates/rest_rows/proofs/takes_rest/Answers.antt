use borrow.Author.Rules.{rules}
use mathlib.Core.Path.{sym}
use borrow.Author.Tests.{eq-eqb, ne_eqb}
use Rattle.rest_rows.specs.Rested.{takes_rest_row}
use Rattle.rest_rows.proofs.takes_rest.Goals as goal

pub returns-then-kind-eq9 : goal.returns-then-kind-eq9
unfolding takes_rest_row
returns-then-kind-eq9 c = rw (sym c.kind_of-kind.ensures, eq-eqb _ 9 c.if-kind-eq9.true)

pub returns-then-kind-eq10 : goal.returns-then-kind-eq10
unfolding takes_rest_row
returns-then-kind-eq10 c = rw (sym c.kind_of-kind.ensures, ne_eqb _ 9 c.if-kind-eq9.false, eq-eqb _ 10 c.if-kind-eq10.true)

pub returns-then-kind-eq11 : goal.returns-then-kind-eq11
unfolding takes_rest_row
returns-then-kind-eq11 c = rw (sym c.kind_of-kind.ensures, ne_eqb _ 9 c.if-kind-eq9.false, ne_eqb _ 10 c.if-kind-eq10.false, eq-eqb _ 11 c.if-kind-eq11.true)

pub returns : goal.returns
unfolding takes_rest_row
returns c = rw (sym c.kind_of-kind.ensures, ne_eqb _ 9 c.if-kind-eq9.false, ne_eqb _ 10 c.if-kind-eq10.false, ne_eqb _ 11 c.if-kind-eq11.false)
