use borrow.Author.Rules.{rules}
use native.Mathlib.Omega.{arith}
use Rattle.pattern_rows.specs.Rows.{argument_pat}
use Rattle.pattern_rows.proofs.argument_pat.Goals as goal

pub overflow_add-from : goal.overflow_add-from
overflow_add-from c = omega (arith, c.requires.1, (rw c.in-Fields.is at c.requires.2))

pub list_at-requires : goal.list_at-requires
list_at-requires c = (c.requires.1, omega (arith, c.requires.1.list_count_lem, (rw c.in-Fields.is at c.requires.2)))

pub overflow_sub-from : goal.overflow_sub-from
overflow_sub-from c = omega (arith, (rw c.in-LastFields.is at c.requires.2))

pub overflow_sub-from-in-LastFields : goal.overflow_sub-from-in-LastFields
overflow_sub-from-in-LastFields c = omega (arith, (rw c.in-LastFields.is at c.requires.2))

pub list_at-requires-in-LastFields : goal.list_at-requires-in-LastFields
list_at-requires-in-LastFields c = (c.requires.1, omega (arith, c.requires.1.list_count_lem, (rw c.in-LastFields.is at c.requires.2)))

pub overflow_mul-i : goal.overflow_mul-i
overflow_mul-i c = omega (arith, c.requires.1, (rw c.in-RecordFields.is at c.requires.2))

pub overflow_add-from-in-RecordFields : goal.overflow_add-from-in-RecordFields
overflow_add-from-in-RecordFields c = omega (arith, c.requires.1, (rw c.in-RecordFields.is at c.requires.2))

pub overflow_add-from-in-RecordFields-2 : goal.overflow_add-from-in-RecordFields-2
overflow_add-from-in-RecordFields-2 c = omega (arith, c.requires.1, (rw c.in-RecordFields.is at c.requires.2))

pub list_at-requires-in-RecordFields : goal.list_at-requires-in-RecordFields
list_at-requires-in-RecordFields c = (c.requires.1, omega (arith, c.requires.1.list_count_lem, (rw c.in-RecordFields.is at c.requires.2)))

pub overflow_add-from-in-Items : goal.overflow_add-from-in-Items
overflow_add-from-in-Items c = omega (arith, c.requires.1, (rw c.in-Items.is at c.requires.2))

pub list_at-requires-in-Items : goal.list_at-requires-in-Items
list_at-requires-in-Items c = (c.requires.1, omega (arith, c.requires.1.list_count_lem, (rw c.in-Items.is at c.requires.2)))

pub overflow_add-from-in-LastItems : goal.overflow_add-from-in-LastItems
overflow_add-from-in-LastItems c = omega (arith, c.requires.1, (rw c.in-LastItems.is at c.requires.2))

pub list_at-requires-in-LastItems : goal.list_at-requires-in-LastItems
list_at-requires-in-LastItems c = (c.requires.1, omega (arith, c.requires.1.list_count_lem, (rw c.in-LastItems.is at c.requires.2)))

pub returns-in-Fields : goal.returns-in-Fields
unfolding argument_pat
returns-in-Fields c = rw (c.in-Fields.is, c.list_at.ensures)

pub returns-in-LastFields : goal.returns-in-LastFields
unfolding argument_pat
returns-in-LastFields c = rw (c.in-LastFields.is, c.list_at-in-LastFields.ensures)

pub returns-in-RecordFields : goal.returns-in-RecordFields
unfolding argument_pat
returns-in-RecordFields c = rw (c.in-RecordFields.is, c.list_at-in-RecordFields.ensures)

pub returns-in-Items : goal.returns-in-Items
unfolding argument_pat
returns-in-Items c = rw (c.in-Items.is, c.list_at-in-Items.ensures)

pub returns-in-LastItems : goal.returns-in-LastItems
unfolding argument_pat
returns-in-LastItems c = rw (c.in-LastItems.is, c.list_at-in-LastItems.ensures)
