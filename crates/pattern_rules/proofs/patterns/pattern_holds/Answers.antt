use borrow.Author.Rules.{rules}
use borrow.Author.Tests.{le-ltb, lt-ltb, le-leb, lt-leb}
use Rattle.image.specs.Patterns.{pattern_holds}
use Rattle.pattern_rules.proofs.patterns.pattern_holds.Goals as goal

pub returns-then-tables-row : goal.returns-then-tables-row
unfolding pattern_holds
returns-then-tables-row c = rw (← c.pat_at-row.ensures, ← c.requires.0.type_count_lem, le-ltb _ _ c.if-tables-row.true)

pub returns-then-row-gt16 : goal.returns-then-row-gt16
unfolding pattern_holds
returns-then-row-gt16 c = rw (← c.pat_at-row.ensures, ← c.requires.0.type_count_lem, lt-ltb _ _ c.if-tables-row.false, lt-leb _ 16 c.if-row-gt16.true)

pub returns : goal.returns
unfolding pattern_holds
returns c = rw (← c.pat_at-row.ensures, ← c.requires.0.type_count_lem, lt-ltb _ _ c.if-tables-row.false, le-leb _ 16 c.if-row-gt16.false, ← c.from.ensures) c.pattern_shape_holds.ensures
