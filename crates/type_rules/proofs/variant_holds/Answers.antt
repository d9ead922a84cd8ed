use borrow.Author.Rules.{rules}
use borrow.Author.Tests.{not-true, not-false}
use Rattle.image.specs.Rules.{variant_holds}
use Rattle.type_rules.proofs.variant_holds.Goals as goal

pub returns-then-not-types_listed : goal.returns-then-not-types_listed
unfolding variant_holds
returns-then-not-types_listed c = rw (← c.variant_at-row.ensures, ← c.types_listed.ensures, c.if-not-types_listed.true)

pub returns : goal.returns
unfolding variant_holds
returns c = rw (← c.variant_at-row.ensures, ← c.types_listed.ensures, c.if-not-types_listed.false, ← c.requires.0.data_count_lem) c.in_table.ensures
