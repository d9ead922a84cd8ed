use borrow.Author.Rules.{rules}
use borrow.Author.Tests.{le-ltb, lt-ltb}
use Rattle.image.specs.Rules.{binding_holds}
use Rattle.type_rules.proofs.binding_holds.Goals as goal

pub returns-then-tables-row : goal.returns-then-tables-row
unfolding binding_holds
returns-then-tables-row c = rw (← c.binding_at-row.ensures, ← c.requires.0.type_count_lem, le-ltb _ _ c.if-tables-row.true)

pub returns : goal.returns
unfolding binding_holds
returns c = rw (← c.binding_at-row.ensures, ← c.requires.0.type_count_lem, lt-ltb _ _ c.if-tables-row.false) c.is_flag.ensures
