use borrow.Author.Rules.{rules}
use borrow.Author.Tests.{le-ltb, lt-ltb}
use Rattle.name_rules.proofs.names_field.Goals as goal

pub returns-then-tables-owner : goal.returns-then-tables-owner
returns-then-tables-owner c = rw (← c.requires.variant_count_lem, le-ltb _ _ c.if-tables-owner.true)

pub returns : goal.returns
returns c = rw (← c.requires.variant_count_lem, lt-ltb _ _ c.if-tables-owner.false, ← c.variant_at-variant.ensures)
