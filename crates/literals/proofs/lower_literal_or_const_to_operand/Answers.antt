use borrow.Enum.Refused.{opened}
use borrow.Author.Rules.{rules}
use mathlib.Core.Path.{◌∙◌, ap, refl}
use native.Mathlib.Omega.{arith}
use Rattle.image.specs.declared.kinds.OperandKind.{OperandKind}
use Rattle.refusals.specs.Refusals.{done}
use Rattle.literals.specs.Literals.{literal_or_const_by}
use Rattle.literals.proofs.Operands.{operand_listed}
use Rattle.literals.proofs.Answers.{kind_of_lem, literal_or_const_by_lem}
use Rattle.literals.proofs.Defaults.{a_literal}
use Rattle.literals.proofs.lower_literal_or_const_to_operand.Goals as goal

pub operand_at-row-requires : goal.operand_at-row-requires
operand_at-row-requires c = (c.requires.1, omega (arith, c.requires.1.list_count_lem, operand_listed _ _ c.requires.3))

pub lower_const_to_operand-requires : goal.lower_const_to_operand-requires
lower_const_to_operand-requires c = (c.requires.1, c.requires.3, kind_of_lem _ _ c.operand_at-row.ensures OperandKind.Constant c.from.ensures c.in-Constant.is)

pub lower_literal_to_operand-requires : goal.lower_literal_to_operand-requires
lower_literal_to_operand-requires c = c.requires

pub returns-in-Constant : goal.returns-in-Constant
unfolding literal_or_const_by
returns-in-Constant c = ap done c.lower_const_to_operand.ensures ∙ literal_or_const_by_lem _ _ c.operand_at-row.ensures OperandKind.Constant c.from.ensures c.in-Constant.is _

pub returns-in_default : goal.returns-in_default
returns-in_default c = c.lower_literal_to_operand.ensures ∙ a_literal _ _ _ _ (opened c.in_default.in_default-own.keys2) ∙ literal_or_const_by_lem _ _ c.operand_at-row.ensures _ c.from.ensures refl _
