-- Operands: three words of the list that name bytes of the data. Document 01, "The image", the paragraph on the list.
-- Assumes nothing: these are definitions.
use Rattle.std.specs.Prelude.{ℕ, ◌+◌, Bool, true, false, ◌&&◌, ◌||◌, List, eqb, leb, ltb, length, get_or}
use Rattle.image.specs.declared.kinds.OperandKind.{OperandKind}
use Rattle.image.specs.declared.rows.OperandRow.{OperandRow}
use Rattle.image.specs.Bytes.{little_endian}
use Rattle.image.specs.Kinds.{operand_kind}
use Rattle.image.specs.Tables.{list_count, data_count}
use Rattle.image.specs.Rows.{operand_at, operand_bytes}

-- a Unicode scalar value, as CHAR is (input.syntax): below 2^16 + 2^20, and no surrogate
unfoldable pub is_scalar_value : ℕ → Bool
is_scalar_value n = ltb n 0xd800 || (leb 0xe000 n && ltb n 0x110000)

-- "1 Int and 2 Uint (16 bytes, little-endian), 3 Char (4, a scalar value), 4 Bool (1, 0 or 1), 5 String, 6 CString, 7 ByteString,
-- 8 evaluated constant (1 to 16), 9 float, 10 other"
unfoldable pub operand_value_holds : OperandKind → List ℕ → Bool
operand_value_holds OperandKind.Int bytes = eqb (length bytes) 16
operand_value_holds OperandKind.Uint bytes = eqb (length bytes) 16
operand_value_holds OperandKind.Char bytes = eqb (length bytes) 4 && is_scalar_value (little_endian bytes)
operand_value_holds OperandKind.Bool bytes = eqb (length bytes) 1 && leb (get_or bytes 0 0) 1
operand_value_holds OperandKind.Str bytes = true
operand_value_holds OperandKind.CStr bytes = true
operand_value_holds OperandKind.ByteStr bytes = true
operand_value_holds OperandKind.Constant bytes = leb 1 (length bytes) && leb (length bytes) 16
operand_value_holds OperandKind.Float bytes = true
operand_value_holds OperandKind.Other bytes = true
operand_value_holds OperandKind.Unknown bytes = false

-- the operand's bytes lie in the data, also where there are none
abbrev pub operand_lies : List ℕ → OperandRow → Bool
operand_lies image operand = leb (operand.offset + operand.count) (data_count image)

-- the word o of the list begins an operand that holds
unfoldable pub operand_holds : List ℕ → ℕ → Bool
operand_holds image o =
    leb (o + 3) (list_count image)
    && operand_lies image (operand_at image o)
    && operand_value_holds (operand_kind (operand_at image o).kind) (operand_bytes image (operand_at image o))
