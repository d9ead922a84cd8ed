use borrow.Author.Rules.{rules}
use borrow.Author.Tests.{not-true, not-false}
use Rattle.image.specs.Patterns.{pattern_shape_holds}
use Rattle.pattern_rules.proofs.patterns.tuple_struct_holds.Goals as goal

pub returns-then-not-in_table : goal.returns-then-not-in_table
unfolding pattern_shape_holds
returns-then-not-in_table c = rw (← c.requires.list_count_lem, ← c.in_table.ensures, c.if-not-in_table.true)

pub returns : goal.returns
unfolding pattern_shape_holds
returns c = rw (← c.requires.list_count_lem, ← c.in_table.ensures, c.if-not-in_table.false) c.variant_or_absent.ensures
