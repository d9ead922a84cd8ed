use borrow.Author.Rules.{rules}
use mathlib.Core.Path.{sym, ◌∙◌}
use borrow.Author.Tests.{not-true, not-false, le-ltb, lt-ltb}
use Rattle.image.specs.Rules.{type_shape_holds}
use Rattle.type_rules.proofs.type_shape_holds.Goals as goal

pub returns-then-not-is_integer_size : goal.returns-then-not-is_integer_size
unfolding type_shape_holds
returns-then-not-is_integer_size c = rw (c.in-Integer.is, ← c.is_integer_size.ensures, c.if-not-is_integer_size.true)

pub returns-then-not-in_table : goal.returns-then-not-in_table
unfolding type_shape_holds
returns-then-not-in_table c = rw (c.in-Adt.is, ← c.requires.0.variant_count_lem, ← c.in_table.ensures, c.if-not-in_table.true)

pub returns-then-tables-row : goal.returns-then-tables-row
unfolding type_shape_holds
returns-then-tables-row c = rw (c.in-Array.is, ← c.requires.0.type_count_lem, le-ltb _ _ c.if-tables-row.true)

pub returns-else-not-is_integer_size : goal.returns-else-not-is_integer_size
unfolding type_shape_holds
returns-else-not-is_integer_size c = rw (c.in-Integer.is, ← c.is_integer_size.ensures, c.if-not-is_integer_size.false) c.is_flag.ensures

pub returns-in-Bool : goal.returns-in-Bool
unfolding type_shape_holds
returns-in-Bool c = rw c.in-Bool.is

pub returns-in-Char : goal.returns-in-Char
unfolding type_shape_holds
returns-in-Char c = rw c.in-Char.is

pub returns-in-Str : goal.returns-in-Str
unfolding type_shape_holds
returns-in-Str c = rw c.in-Str.is

pub returns-in-Tuple : goal.returns-in-Tuple
unfolding type_shape_holds
returns-in-Tuple c = rw c.in-Tuple.is c.types_listed.ensures

pub returns-else-not-in_table : goal.returns-else-not-in_table
unfolding type_shape_holds
returns-else-not-in_table c = rw (c.in-Adt.is, ← c.requires.0.variant_count_lem, ← c.in_table.ensures, c.if-not-in_table.false, ← c.from.ensures) c.adt_may_have.ensures

pub returns-in-Reference : goal.returns-in-Reference
unfolding type_shape_holds
returns-in-Reference c = rw (c.in-Reference.is, ← c.requires.0.type_count_lem)

pub returns-else-tables-row : goal.returns-else-tables-row
unfolding type_shape_holds
returns-else-tables-row c = rw (c.in-Array.is, ← c.requires.0.type_count_lem, lt-ltb _ _ c.if-tables-row.false)

pub returns-in-Slice : goal.returns-in-Slice
unfolding type_shape_holds
returns-in-Slice c = rw (c.in-Slice.is, ← c.requires.0.type_count_lem)

pub returns-in-Unknown : goal.returns-in-Unknown
unfolding type_shape_holds
returns-in-Unknown c = rw c.in-Unknown.is
