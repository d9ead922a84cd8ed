use borrow.Author.Rules.{rules}
use borrow.Author.Tests.{eq-eqb, ne_eqb}
use Rattle.body_row_rules.specs.Bodies.{left_holds}
use Rattle.body_statement_rules.proofs.left_holds.Goals as goal

pub returns-then-statements-at-eq1 : goal.returns-then-statements-at-eq1
unfolding left_holds
returns-then-statements-at-eq1 c = rw (eq-eqb _ 1 c.if-statements-at-eq1.true)

pub returns : goal.returns
unfolding left_holds
returns c = rw (ne_eqb _ 1 c.if-statements-at-eq1.false) c.constant_holds.ensures
