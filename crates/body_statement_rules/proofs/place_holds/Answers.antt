use borrow.Author.Rules.{rules}
use Rattle.mir.specs.Statements.{statement_width}
use Prim.Native.Nat.{◌+◌, ◌*◌}
use lib.ListN.{get_or}
use native.Mathlib.Omega.{arith}
use borrow.Author.Tests.{lt-ltb, le-ltb, lt-leb, le-leb}
use Rattle.body_row_rules.specs.Bodies.{statement_place_holds}
use Rattle.body_statement_rules.proofs.place_holds.Goals as goal

pub returns-then-counts-statements : goal.returns-then-counts-statements
unfolding statement_place_holds
returns-then-counts-statements c = rw (le-ltb _ _ c.if-counts-statements.true)

pub returns-then-count-gt16 : goal.returns-then-count-gt16
unfolding statement_place_holds
returns-then-count-gt16 c = rw (lt-ltb _ _ c.if-counts-statements.false, lt-leb (get_or c.args.statements.now (statement_width * c.args.i + 16) 0) 16 (omega (arith, c.if-count-gt16.true)))

pub returns : goal.returns
unfolding statement_place_holds
returns c = rw (lt-ltb _ _ c.if-counts-statements.false, le-leb (get_or c.args.statements.now (statement_width * c.args.i + 16) 0) 16 (omega (arith, c.if-count-gt16.false))) c.elems_hold.ensures
