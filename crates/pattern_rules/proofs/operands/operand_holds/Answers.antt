use borrow.Author.Rules.{rules}
use borrow.Author.Tests.{lt-leb, le-leb}
use Rattle.image.specs.Operands.{operand_holds}
use Rattle.pattern_rules.proofs.operands.operand_holds.Goals as goal

pub returns-then-tables-o : goal.returns-then-tables-o
unfolding operand_holds
returns-then-tables-o c = rw (← c.requires.list_count_lem, lt-leb _ _ c.if-tables-o.true)

pub returns-then-tables-row : goal.returns-then-tables-row
unfolding operand_holds
returns-then-tables-row c = rw (← c.requires.list_count_lem, ← c.requires.data_count_lem, le-leb _ _ c.if-tables-o.false, ← c.operand_at-row.ensures, lt-leb _ _ c.if-tables-row.true)

pub returns : goal.returns
unfolding operand_holds
returns c = rw (← c.requires.list_count_lem, ← c.requires.data_count_lem, le-leb _ _ c.if-tables-o.false, ← c.operand_at-row.ensures, le-leb _ _ c.if-tables-row.false, ← c.from.ensures, ← c.operand_bytes.ensures) c.operand_value_holds.ensures
