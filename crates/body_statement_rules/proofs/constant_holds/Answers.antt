use borrow.Author.Rules.{rules}
use borrow.Author.Tests.{eq-eqb, ne_eqb, lt-leb, le-leb}
use Rattle.body_row_rules.specs.Bodies.{constant_holds}
use Rattle.body_statement_rules.proofs.constant_holds.Goals as goal

pub returns-then-statements-at-ne2 : goal.returns-then-statements-at-ne2
unfolding constant_holds
returns-then-statements-at-ne2 c = rw (ne_eqb _ 2 c.if-statements-at-ne2.true)

pub returns-then-statements-at-gt16 : goal.returns-then-statements-at-gt16
unfolding constant_holds
returns-then-statements-at-gt16 c = rw (eq-eqb _ 2 c.if-statements-at-ne2.false, lt-leb _ 16 c.if-statements-at-gt16.true)

pub returns : goal.returns
unfolding constant_holds
returns c = rw (eq-eqb _ 2 c.if-statements-at-ne2.false, le-leb _ 16 c.if-statements-at-gt16.false) c.is_type_word.ensures
