use Rattle.std.specs.Prelude.{Ok, Err}
use borrow.Author.Rules.{rules}
use mathlib.Core.Path.{refl, sym, ◌∙◌}
use native.Mathlib.Omega.{arith}
use borrow.Author.Tests.{not-true, not-false}
use Rattle.literals.proofs.Operands.{operand_listed}
use Rattle.literals.proofs.Answers.{kind_of_lem}
use Rattle.pattern_tests.proofs.Constants.{lit_not, lit_skips, lit_refused, lit_tests}
use Rattle.pattern_tests.proofs.consts.pattern_match_lit.Goals as goal

pub operand_at-requires : goal.operand_at-requires
operand_at-requires c = (c.requires.image_value.1, omega (arith, c.requires.image_value.1.list_count_lem, operand_listed _ _ c.requires.image_value.3))

pub returns-then-not-is_literal : goal.returns-then-not-is_literal
returns-then-not-is_literal c = lit_not _ _ _ _ _ _ _ _ _ _ (kind_of_lem _ _ c.operand_at.ensures _ c.from.ensures refl) (sym c.is_literal.ensures ∙ c.if-not-is_literal.true)

pub returns-then-not-is_check : goal.returns-then-not-is_check
returns-then-not-is_check c = lit_skips _ _ _ _ _ _ _ _ _ _ (kind_of_lem _ _ c.operand_at.ensures _ c.from.ensures refl) (sym c.is_literal.ensures ∙ c.if-not-is_literal.false) (sym c.is_check.ensures ∙ c.if-not-is_check.true) c.requires.ready.1

pub returns-in-Err : goal.returns-in-Err
returns-in-Err c = lit_refused _ _ _ _ _ _ _ _ _ _ (kind_of_lem _ _ c.operand_at.ensures _ c.from.ensures refl) (sym c.is_literal.ensures ∙ c.if-not-is_literal.false) (sym c.is_check.ensures ∙ c.if-not-is_check.false) (rw c.in-Err.is at c.lower_literal_to_operand.ensures)

pub returns-in-Ok : goal.returns-in-Ok
returns-in-Ok c = lit_tests _ _ _ _ _ _ _ _ _ _ (kind_of_lem _ _ c.operand_at.ensures _ c.from.ensures refl) (sym c.is_literal.ensures ∙ c.if-not-is_literal.false) (sym c.is_check.ensures ∙ c.if-not-is_check.false) (rw c.in-Ok.is at c.lower_literal_to_operand.ensures) c.pattern_match_const.ensures
