use borrow.Enum.Refused.{opened}
use borrow.Author.Rules.{rules}
use Prim.Native.Nat.{ℕ, ◌+◌}
use mathlib.Core.Path.{◌∙◌, ap, refl}
use native.Mathlib.Omega.{arith}
use Rattle.image.specs.declared.kinds.OperandKind.{OperandKind}
use Rattle.refusals.specs.Refusals.{done}
use Rattle.literals.specs.Literals.{literal_by}
use Rattle.literals.proofs.Operands.{operand_listed, operand_lies_lem, bytes_counted, int_bytes, uint_bytes, char_bytes, bool_bytes}
use Rattle.literals.proofs.Answers.{all_bytes, same_string, literal_by_lem}
use Rattle.literals.proofs.Defaults.{no_literal}
use Rattle.literals.proofs.lower_literal_to_operand.Goals as goal

pub operand_at-row-requires : goal.operand_at-row-requires
operand_at-row-requires c = (c.requires.1, omega (arith, c.requires.1.list_count_lem, operand_listed _ _ c.requires.3))

pub operand_bytes-bytes-requires : goal.operand_bytes-bytes-requires
operand_bytes-bytes-requires c = (c.requires.1, omega (arith, c.requires.1.data_count_lem, operand_lies_lem _ _ c.requires.3 c.operand_at-row.ensures))

pub integer_constant-requires : goal.integer_constant-requires
integer_constant-requires c = (c.requires.0, c.requires.1, c.requires.2, int_bytes _ _ c.requires.3 c.operand_at-row.ensures c.operand_bytes-bytes.ensures c.from.ensures c.in-Int.is)

pub integer_constant-requires-in-Uint : goal.integer_constant-requires-in-Uint
integer_constant-requires-in-Uint c = (c.requires.0, c.requires.1, c.requires.2, uint_bytes _ _ c.requires.3 c.operand_at-row.ensures c.operand_bytes-bytes.ensures c.from.ensures c.in-Uint.is)

pub constant_of-requires : goal.constant_of-requires
constant_of-requires c =
    let long = char_bytes _ _ c.requires.3 c.operand_at-row.ensures c.operand_bytes-bytes.ensures c.from.ensures c.in-Char.is in
    (omega arith, omega arith)

pub constant_of-requires-in-Bool : goal.constant_of-requires-in-Bool
constant_of-requires-in-Bool c =
    let long = bool_bytes _ _ c.requires.3 c.operand_at-row.ensures c.operand_bytes-bytes.ensures c.from.ensures c.in-Bool.is in
    (omega arith, omega arith)

pub returns-in-Int : goal.returns-in-Int
unfolding literal_by
returns-in-Int c = c.integer_constant.ensures ∙ literal_by_lem _ _ c.operand_at-row.ensures OperandKind.Int c.from.ensures c.in-Int.is _ c.operand_bytes-bytes.ensures

pub returns-in-Uint : goal.returns-in-Uint
unfolding literal_by
returns-in-Uint c = c.integer_constant-in-Uint.ensures ∙ literal_by_lem _ _ c.operand_at-row.ensures OperandKind.Uint c.from.ensures c.in-Uint.is _ c.operand_bytes-bytes.ensures

pub returns-in-Char : goal.returns-in-Char
unfolding literal_by
returns-in-Char c = ap done (all_bytes _ _ _ (char_bytes _ _ c.requires.3 c.operand_at-row.ensures c.operand_bytes-bytes.ensures c.from.ensures c.in-Char.is) c.constant_of.ensures) ∙ literal_by_lem _ _ c.operand_at-row.ensures OperandKind.Char c.from.ensures c.in-Char.is _ c.operand_bytes-bytes.ensures

pub returns-in-Bool : goal.returns-in-Bool
unfolding literal_by
returns-in-Bool c = ap done (all_bytes _ _ _ (bool_bytes _ _ c.requires.3 c.operand_at-row.ensures c.operand_bytes-bytes.ensures c.from.ensures c.in-Bool.is) c.constant_of-in-Bool.ensures) ∙ literal_by_lem _ _ c.operand_at-row.ensures OperandKind.Bool c.from.ensures c.in-Bool.is _ c.operand_bytes-bytes.ensures

pub returns-in-Str : goal.returns-in-Str
unfolding literal_by
returns-in-Str c = ap done (same_string _ _ (bytes_counted _ _ c.requires.3 c.operand_at-row.ensures c.operand_bytes-bytes.ensures c.requires.1) c.string_constant.ensures) ∙ literal_by_lem _ _ c.operand_at-row.ensures OperandKind.Str c.from.ensures c.in-Str.is _ c.operand_bytes-bytes.ensures

pub returns-in-CStr : goal.returns-in-CStr
unfolding literal_by
returns-in-CStr c = ap done (same_string _ _ (ap (λ (n : ℕ). n + 1) (bytes_counted _ _ c.requires.3 c.operand_at-row.ensures c.operand_bytes-bytes.ensures c.requires.1)) c.string_constant-in-CStr.ensures) ∙ literal_by_lem _ _ c.operand_at-row.ensures OperandKind.CStr c.from.ensures c.in-CStr.is _ c.operand_bytes-bytes.ensures

pub returns-in-ByteStr : goal.returns-in-ByteStr
unfolding literal_by
returns-in-ByteStr c = ap done (same_string _ _ (bytes_counted _ _ c.requires.3 c.operand_at-row.ensures c.operand_bytes-bytes.ensures c.requires.1) c.string_constant-in-ByteStr.ensures) ∙ literal_by_lem _ _ c.operand_at-row.ensures OperandKind.ByteStr c.from.ensures c.in-ByteStr.is _ c.operand_bytes-bytes.ensures

pub returns-in_default : goal.returns-in_default
returns-in_default c = no_literal _ _ _ _ _ c.in_default.in_default-own.keys8 ∙ literal_by_lem _ _ c.operand_at-row.ensures _ c.from.ensures refl _ c.operand_bytes-bytes.ensures
