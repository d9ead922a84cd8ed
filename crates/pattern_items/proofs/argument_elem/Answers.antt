use borrow.Author.Rules.{rules}
use native.Mathlib.Omega.{arith}
use Rattle.pattern_rows.specs.Rows.{argument_elem}
use Rattle.pattern_items.proofs.argument_elem.Goals as goal

pub overflow_sub-result : goal.overflow_sub-result
overflow_sub-result c = omega (arith, (rw c.in-LastFields.is at c.requires.2))

pub overflow_sub-result-in-LastFields : goal.overflow_sub-result-in-LastFields
overflow_sub-result-in-LastFields c = omega (arith, (rw c.in-LastFields.is at c.requires.2))

pub overflow_mul-i : goal.overflow_mul-i
overflow_mul-i c = omega (arith, c.requires.1, (rw c.in-RecordFields.is at c.requires.2))

pub overflow_add-from : goal.overflow_add-from
overflow_add-from c = omega (arith, c.requires.1, (rw c.in-RecordFields.is at c.requires.2))

pub list_at-requires : goal.list_at-requires
list_at-requires c = (c.requires.1, omega (arith, c.requires.1.list_count_lem, (rw c.in-RecordFields.is at c.requires.2)))

pub overflow_sub-result-in-LastItems : goal.overflow_sub-result-in-LastItems
overflow_sub-result-in-LastItems c = omega (arith, (rw c.in-LastItems.is at c.requires.2))

pub overflow_sub-result-in-LastItems-2 : goal.overflow_sub-result-in-LastItems-2
overflow_sub-result-in-LastItems-2 c = omega (arith, (rw c.in-LastItems.is at c.requires.2))

pub returns-in-Fields : goal.returns-in-Fields
unfolding argument_elem
returns-in-Fields c = rw c.in-Fields.is

pub returns-in-LastFields : goal.returns-in-LastFields
unfolding argument_elem
returns-in-LastFields c = rw c.in-LastFields.is

pub returns-in-RecordFields : goal.returns-in-RecordFields
unfolding argument_elem
returns-in-RecordFields c = rw (c.in-RecordFields.is, c.list_at.ensures)

pub returns-in-Items : goal.returns-in-Items
unfolding argument_elem
returns-in-Items c = rw c.in-Items.is

pub returns-in-LastItems : goal.returns-in-LastItems
unfolding argument_elem
returns-in-LastItems c = rw c.in-LastItems.is
