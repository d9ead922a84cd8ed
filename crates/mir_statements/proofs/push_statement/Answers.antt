use borrow.Author.Rules.{rules}
use Prim.Native.Nat.{◌*◌}
use native.Mathlib.Omega.{arith}
use borrow.Author.Tests.{le-ltb, lt-ltb}
use Rattle.mir.specs.Statements.{new_statement, statements_after, statement_width}
use Rattle.mir.proofs.RowParts.{three_parts}
use Rattle.mir_statements.proofs.push_statement.Goals as goal

pub returns-then-n-ge1024 : goal.returns-then-n-ge1024
unfolding new_statement statements_after
returns-then-n-ge1024 c =
    let full = le-ltb _ 1024 c.if-n-ge1024.true in
    (rw full, rw full)

pub returns : goal.returns
unfolding new_statement statements_after
returns c =
    let a = c.args in
    let room = lt-ltb _ 1024 c.if-n-ge1024.false in
    (rw room, rw room (three_parts a.statements.now _ _ _ (statement_width * a.counts.statements) a.head a.operand a.place (search rules) (search rules) (search rules) (omega (arith, c.if-n-ge1024.false, c.requires)) c.store_row.ensures c.store_row-2.ensures c.store_row-3.ensures))
