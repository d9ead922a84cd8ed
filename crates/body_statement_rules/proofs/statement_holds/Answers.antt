use borrow.Author.Rules.{rules}
use Rattle.mir.specs.Statements.{statement_width}
use borrow.Author.Tests.{lt-ltb, le-ltb}
use Rattle.body_row_rules.specs.Bodies.{statement_holds}
use Rattle.body_row_rules.proofs.RowWords.{first_word}
use Rattle.body_statement_rules.proofs.statement_holds.Goals as goal

pub returns-then-counts-statements : goal.returns-then-counts-statements
unfolding statement_holds
returns-then-counts-statements c = rw (first_word statement_width c.args.statements.now c.args.i, le-ltb _ _ c.if-counts-statements.true)

pub returns-then-counts-statements-2 : goal.returns-then-counts-statements-2
unfolding statement_holds
returns-then-counts-statements-2 c = rw (first_word statement_width c.args.statements.now c.args.i, lt-ltb _ _ c.if-counts-statements.false, le-ltb _ _ c.if-counts-statements-2.true)

pub returns : goal.returns
unfolding statement_holds
returns c = rw (first_word statement_width c.args.statements.now c.args.i, lt-ltb _ _ c.if-counts-statements.false, lt-ltb _ _ c.if-counts-statements-2.false) c.rvalue_holds.ensures
