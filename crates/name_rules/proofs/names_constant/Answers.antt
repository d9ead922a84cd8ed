use borrow.Author.Rules.{rules}
use mathlib.Core.Path.{sym, ◌∙◌}
use borrow.Author.Tests.{not-true, not-false}
use Rattle.name_tables.proofs.Ruled.{operand_listed}
use Rattle.name_rules.proofs.names_constant.Goals as goal

pub returns-then-not-operand_holds : goal.returns-then-not-operand_holds
returns-then-not-operand_holds c = rw (sym c.operand_holds.ensures ∙ c.if-not-operand_holds.true)

pub operand_at-operand-requires : goal.operand_at-operand-requires
operand_at-operand-requires c = (c.requires, rw c.requires.list_count_lem (operand_listed _ _ (sym c.operand_holds.ensures ∙ c.if-not-operand_holds.false)))

pub returns : goal.returns
returns c = rw (sym c.operand_holds.ensures ∙ c.if-not-operand_holds.false, ← c.operand_at-operand.ensures)
