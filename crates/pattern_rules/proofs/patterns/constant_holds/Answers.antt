use borrow.Author.Rules.{rules}
use borrow.Author.Tests.{not-true, not-false}
use mathlib.Core.Path.{sym, ◌∙◌}
use Rattle.image.specs.Patterns.{path_holds}
use Rattle.pattern_rules.proofs.Listed.{operand_listed}
use Rattle.pattern_rules.proofs.patterns.constant_holds.Goals as goal

pub returns-then-not-operand_holds : goal.returns-then-not-operand_holds
unfolding path_holds
returns-then-not-operand_holds c = rw (← c.operand_holds.ensures, c.if-not-operand_holds.true)

pub operand_at-row-requires : goal.operand_at-row-requires
operand_at-row-requires c = (c.requires, operand_listed _ _ _ c.requires (sym c.operand_holds.ensures ∙ c.if-not-operand_holds.false))

pub returns : goal.returns
unfolding path_holds
returns c = rw (← c.operand_holds.ensures, c.if-not-operand_holds.false, ← c.operand_at-row.ensures)
