use borrow.Author.Tests.{le-ltb, lt-ltb, le-leb, lt-leb}
use Rattle.image.specs.Patterns.{pattern_shape_holds}
use Rattle.pattern_rules.proofs.patterns.bind_holds.Goals as goal

pub returns-then-tables-row : goal.returns-then-tables-row
unfolding pattern_shape_holds
returns-then-tables-row c = rw (← c.requires.binding_count_lem, le-ltb _ _ c.if-tables-row.true)

pub returns-then-row-gt2 : goal.returns-then-row-gt2
unfolding pattern_shape_holds
returns-then-row-gt2 c = rw (← c.requires.binding_count_lem, lt-ltb _ _ c.if-tables-row.false, lt-leb _ 2 c.if-row-gt2.true)

pub returns : goal.returns
unfolding pattern_shape_holds
returns c = rw (← c.requires.binding_count_lem, lt-ltb _ _ c.if-tables-row.false, le-leb _ 2 c.if-row-gt2.false)
