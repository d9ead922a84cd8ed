use borrow.Enum.Refused.{opened}
use borrow.Author.Rules.{rules}
use mathlib.Core.Path.{refl, sym, ◌∙◌}
use native.Mathlib.Omega.{arith}
use Rattle.image.specs.declared.kinds.OperandKind.{OperandKind}
use Rattle.literals.proofs.Operands.{operand_listed}
use Rattle.meaning.specs.Fit.{literal_fits, end_fits}
use Rattle.fit_literals.proofs.Clauses.{literal_of, end_by, no_end}
use Rattle.fit_literals.proofs.operands.end_fits.Goals as goal

pub operand_at-operand-requires : goal.operand_at-operand-requires
operand_at-operand-requires c = (c.requires.1, omega (arith, c.requires.1.list_count_lem, operand_listed _ _ c.requires.3))

pub literal_fits-requires : goal.literal_fits-requires
literal_fits-requires c = c.requires

pub literal_fits-requires-in-Uint : goal.literal_fits-requires-in-Uint
literal_fits-requires-in-Uint c = c.requires

pub literal_fits-requires-in-Char : goal.literal_fits-requires-in-Char
literal_fits-requires-in-Char c = c.requires

pub constant_end_fits-requires : goal.constant_end_fits-requires
constant_end_fits-requires c = c.requires

pub returns-in-Int : goal.returns-in-Int
unfolding literal_fits end_fits
returns-in-Int c = c.literal_fits.ensures ∙ sym (literal_of _ _ c.operand_at-operand.ensures OperandKind.Int c.from.ensures c.in-Int.is _) ∙ end_by _ _ c.operand_at-operand.ensures OperandKind.Int c.from.ensures c.in-Int.is _

pub returns-in-Uint : goal.returns-in-Uint
unfolding literal_fits end_fits
returns-in-Uint c = c.literal_fits-in-Uint.ensures ∙ sym (literal_of _ _ c.operand_at-operand.ensures OperandKind.Uint c.from.ensures c.in-Uint.is _) ∙ end_by _ _ c.operand_at-operand.ensures OperandKind.Uint c.from.ensures c.in-Uint.is _

pub returns-in-Char : goal.returns-in-Char
unfolding literal_fits end_fits
returns-in-Char c = c.literal_fits-in-Char.ensures ∙ sym (literal_of _ _ c.operand_at-operand.ensures OperandKind.Char c.from.ensures c.in-Char.is _) ∙ end_by _ _ c.operand_at-operand.ensures OperandKind.Char c.from.ensures c.in-Char.is _

pub returns-in-Constant : goal.returns-in-Constant
returns-in-Constant c = c.constant_end_fits.ensures ∙ end_by _ _ c.operand_at-operand.ensures OperandKind.Constant c.from.ensures c.in-Constant.is _

pub returns-in_default : goal.returns-in_default
returns-in_default c = no_end _ _ _ (opened c.in_default.in_default-own.keys5) ∙ end_by _ _ c.operand_at-operand.ensures _ c.from.ensures refl _
