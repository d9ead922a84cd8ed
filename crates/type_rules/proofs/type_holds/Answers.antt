use borrow.Author.Rules.{rules}
use borrow.Author.Tests.{not-true, not-false}
use Rattle.image.specs.Rules.{type_holds}
use Rattle.type_rules.proofs.type_holds.Goals as goal

pub returns-then-not-is_flag : goal.returns-then-not-is_flag
unfolding type_holds
returns-then-not-is_flag c = rw (← c.type_at-row.ensures, ← c.is_flag.ensures, c.if-not-is_flag.true)

pub returns : goal.returns
unfolding type_holds
returns c = rw (← c.type_at-row.ensures, ← c.is_flag.ensures, c.if-not-is_flag.false, ← c.from.ensures) c.type_shape_holds.ensures
