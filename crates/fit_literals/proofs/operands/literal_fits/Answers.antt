use borrow.Enum.Refused.{opened}
use borrow.Author.Rules.{rules}
use mathlib.Core.Path.{◌∙◌}
use native.Mathlib.Omega.{arith}
use Rattle.image.specs.declared.kinds.OperandKind.{OperandKind}
use Rattle.literals.proofs.Operands.{operand_listed, operand_lies_lem}
use Rattle.meaning.specs.Fit.{literal_fits}
use Rattle.fit_literals.proofs.Shapes.{holds_of, is_kind_lem}
use Rattle.fit_literals.proofs.Clauses.{integer_at, literal_by_lem, integer_bytes, literal_integer, literal_other}
use Rattle.fit_literals.proofs.operands.literal_fits.Goals as goal

pub type_at-row-requires : goal.type_at-row-requires
type_at-row-requires c = (c.requires.1, omega (arith, c.requires.1.type_count_lem, c.requires.2))

pub operand_at-operand-requires : goal.operand_at-operand-requires
operand_at-operand-requires c = (c.requires.1, omega (arith, c.requires.1.list_count_lem, operand_listed _ _ c.requires.3))

pub operand_bytes-bytes-requires : goal.operand_bytes-bytes-requires
operand_bytes-bytes-requires c = (c.requires.1, omega (arith, c.requires.1.data_count_lem, operand_lies_lem _ _ c.requires.3 c.operand_at-operand.ensures))

pub integer_fits-requires : goal.integer_fits-requires
integer_fits-requires c = (holds_of _ _ c.type_at-row.ensures c.requires.0 c.requires.2 c.from-kind.ensures, integer_bytes _ _ c.operand_at-operand.ensures c.requires.3 _ c.from.ensures c.in-Int.in-Int-own.keys1 c.operand_bytes-bytes.ensures)

pub refers_to_str-requires : goal.refers_to_str-requires
refers_to_str-requires c = (c.requires.0, c.requires.1, c.requires.2)

pub returns-in-Int : goal.returns-in-Int
unfolding literal_fits
returns-in-Int c = c.integer_fits.ensures ∙ integer_at _ _ c.type_at-row.ensures c.from-kind.ensures _ _ ∙ literal_integer _ _ c.operand_at-operand.ensures _ c.from.ensures c.in-Int.in-Int-own.keys1 _ c.operand_bytes-bytes.ensures

pub returns-in-Char : goal.returns-in-Char
unfolding literal_fits
returns-in-Char c = is_kind_lem _ _ c.type_at-row.ensures c.requires.0 c.requires.2 3 ∙ literal_by_lem _ _ c.operand_at-operand.ensures OperandKind.Char c.from.ensures c.in-Char.is _ c.operand_bytes-bytes.ensures

pub returns-in-Bool : goal.returns-in-Bool
unfolding literal_fits
returns-in-Bool c = is_kind_lem _ _ c.type_at-row.ensures c.requires.0 c.requires.2 2 ∙ literal_by_lem _ _ c.operand_at-operand.ensures OperandKind.Bool c.from.ensures c.in-Bool.is _ c.operand_bytes-bytes.ensures

pub returns-in-Str : goal.returns-in-Str
unfolding literal_fits
returns-in-Str c = c.refers_to_str.ensures ∙ literal_by_lem _ _ c.operand_at-operand.ensures OperandKind.Str c.from.ensures c.in-Str.is _ c.operand_bytes-bytes.ensures

pub returns-in_default : goal.returns-in_default
returns-in_default c = literal_other _ _ c.operand_at-operand.ensures _ c.from.ensures (opened c.in_default.in_default-own.keys5) _ c.operand_bytes-bytes.ensures
