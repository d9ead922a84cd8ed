use borrow.Author.Rules.{rules}
use borrow.Author.Tests.{lt-ltb, le-ltb, lt-leb, le-leb, eq-eqb, ne_eqb, not-true, not-false}
use Rattle.body_row_rules.specs.Bodies.{rvalue_holds}
use Rattle.body_statement_rules.proofs.rvalue_holds.Goals as goal

pub returns-then-kind-lt1 : goal.returns-then-kind-lt1
unfolding rvalue_holds
returns-then-kind-lt1 c = rw (lt-ltb _ 1 c.if-kind-lt1.true)

pub returns-then-kind-le2 : goal.returns-then-kind-le2
unfolding rvalue_holds
returns-then-kind-le2 c = rw (le-ltb _ 1 c.if-kind-lt1.false, le-leb _ 2 c.if-kind-le2.true)

pub returns-then-kind-le7 : goal.returns-then-kind-le7
unfolding rvalue_holds
returns-then-kind-le7 c = rw (le-ltb _ 1 c.if-kind-lt1.false, lt-leb _ 2 c.if-kind-le2.false, le-leb _ 7 c.if-kind-le7.true) c.place_holds.ensures

pub returns-then-kind-eq8 : goal.returns-then-kind-eq8
unfolding rvalue_holds
returns-then-kind-eq8 c = rw (le-ltb _ 1 c.if-kind-lt1.false, lt-leb _ 2 c.if-kind-le2.false, lt-leb _ 7 c.if-kind-le7.false, eq-eqb _ 8 c.if-kind-eq8.true) c.constant_holds.ensures

pub returns-then-kind-gt12 : goal.returns-then-kind-gt12
unfolding rvalue_holds
returns-then-kind-gt12 c = rw (le-ltb _ 1 c.if-kind-lt1.false, lt-leb _ 2 c.if-kind-le2.false, lt-leb _ 7 c.if-kind-le7.false, ne_eqb _ 8 c.if-kind-eq8.false, lt-leb _ 12 c.if-kind-gt12.true)

pub returns-then-not-left_holds : goal.returns-then-not-left_holds
unfolding rvalue_holds
returns-then-not-left_holds c = rw (le-ltb _ 1 c.if-kind-lt1.false, lt-leb _ 2 c.if-kind-le2.false, lt-leb _ 7 c.if-kind-le7.false, ne_eqb _ 8 c.if-kind-eq8.false, le-leb _ 12 c.if-kind-gt12.false, ← c.left_holds.ensures, c.if-not-left_holds.true)

pub returns : goal.returns
unfolding rvalue_holds
returns c = rw (le-ltb _ 1 c.if-kind-lt1.false, lt-leb _ 2 c.if-kind-le2.false, lt-leb _ 7 c.if-kind-le7.false, ne_eqb _ 8 c.if-kind-eq8.false, le-leb _ 12 c.if-kind-gt12.false, ← c.left_holds.ensures, c.if-not-left_holds.false) c.place_holds-2.ensures
