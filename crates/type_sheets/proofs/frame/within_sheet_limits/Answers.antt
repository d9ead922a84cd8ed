use borrow.Author.Tests.{lt-leb, le-leb}
use Rattle.type_sheets.proofs.frame.within_sheet_limits.Goals as goal

pub returns-then-types-gt256 : goal.returns-then-types-gt256
returns-then-types-gt256 c = rw (lt-leb _ 256 c.if-types-gt256.true)

pub returns-then-variants-gt512 : goal.returns-then-variants-gt512
returns-then-variants-gt512 c = rw (le-leb _ 256 c.if-types-gt256.false, lt-leb _ 512 c.if-variants-gt512.true)

pub returns-then-patterns-gt512 : goal.returns-then-patterns-gt512
returns-then-patterns-gt512 c = rw (le-leb _ 256 c.if-types-gt256.false, le-leb _ 512 c.if-variants-gt512.false, lt-leb _ 512 c.if-patterns-gt512.true)

pub returns-then-bindings-gt256 : goal.returns-then-bindings-gt256
returns-then-bindings-gt256 c = rw (le-leb _ 256 c.if-types-gt256.false, le-leb _ 512 c.if-variants-gt512.false, le-leb _ 512 c.if-patterns-gt512.false, lt-leb _ 256 c.if-bindings-gt256.true)

pub returns-then-list-gt2048 : goal.returns-then-list-gt2048
returns-then-list-gt2048 c = rw (le-leb _ 256 c.if-types-gt256.false, le-leb _ 512 c.if-variants-gt512.false, le-leb _ 512 c.if-patterns-gt512.false, le-leb _ 256 c.if-bindings-gt256.false, lt-leb _ 2048 c.if-list-gt2048.true)

pub returns : goal.returns
returns c = rw (le-leb _ 256 c.if-types-gt256.false, le-leb _ 512 c.if-variants-gt512.false, le-leb _ 512 c.if-patterns-gt512.false, le-leb _ 256 c.if-bindings-gt256.false, le-leb _ 2048 c.if-list-gt2048.false)
