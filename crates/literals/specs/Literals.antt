-- Literals and constants as operands of MIR: their bytes, as they lie in memory. Assumes nothing: these are definitions.
use Rattle.std.specs.Prelude.{Ok, Err}
use Rattle.std.specs.Prelude.{ℕ, ◌+◌, List, length, take, drop}
use Rattle.image.specs.declared.kinds.OperandKind.{OperandKind}
use Rattle.image.specs.Bytes.{little_endian}
use Rattle.image.specs.Types.{Shape, integer, bool, char, str, tuple, adt, reference, array, slice, unknown, ty_of, Operand}
use Rattle.refusals.specs.declared.MirLowerError.{MirLowerError}
use Rattle.refusals.specs.Refusals.{Result, done, stopped}
use Rattle.mir.specs.declared.rvalues.Constant.{Constant}
use Rattle.literals.specs.Results.{LoweredOperand}

-- at most 16 bytes as a constant of the type ty: their count, and the bytes as two halves, the lowest first
unfoldable pub constant_of : ℕ → List ℕ → Constant
constant_of ty bytes = record { count = length bytes; ty = ty; offset = 0; low = little_endian (take 8 bytes); high = little_endian (drop 8 bytes) }

-- a string of n bytes as a constant: eight zero bytes and the length. Where its bytes lie in the image's data is kept beside it
unfoldable pub string_constant : ℕ → ℕ → ℕ → Constant
string_constant ty offset n = record { count = 16; ty = ty; offset = offset; low = 0; high = n }

-- an integer literal, cut to its type's size; of another type it has none, and is refused with document 01's number 6
unfoldable pub integer_constant : Shape → ℕ → List ℕ → Result Constant
integer_constant (integer size signed) ty bytes = done (constant_of ty (take size bytes))
integer_constant bool ty bytes = stopped MirLowerError.NotSupported
integer_constant char ty bytes = stopped MirLowerError.NotSupported
integer_constant str ty bytes = stopped MirLowerError.NotSupported
integer_constant (tuple fields) ty bytes = stopped MirLowerError.NotSupported
integer_constant (adt kind variants) ty bytes = stopped MirLowerError.NotSupported
integer_constant (reference t) ty bytes = stopped MirLowerError.NotSupported
integer_constant (array t n) ty bytes = stopped MirLowerError.NotSupported
integer_constant (slice t) ty bytes = stopped MirLowerError.NotSupported
integer_constant unknown ty bytes = stopped MirLowerError.NotSupported

-- a literal by its kind. A char has 4 bytes and a bool 1; a CString's length counts its closing zero; a float, and what is no literal, is refused with 6
unfoldable pub literal_by : OperandKind → List ℕ → ℕ → ℕ → List ℕ → Result Constant
literal_by OperandKind.Int image ty offset bytes = integer_constant (ty_of image ty).shape ty bytes
literal_by OperandKind.Uint image ty offset bytes = integer_constant (ty_of image ty).shape ty bytes
literal_by OperandKind.Char image ty offset bytes = done (constant_of ty bytes)
literal_by OperandKind.Bool image ty offset bytes = done (constant_of ty bytes)
literal_by OperandKind.Str image ty offset bytes = done (string_constant ty offset (length bytes))
literal_by OperandKind.CStr image ty offset bytes = done (string_constant ty offset (length bytes + 1))
literal_by OperandKind.ByteStr image ty offset bytes = done (string_constant ty offset (length bytes))
literal_by OperandKind.Constant image ty offset bytes = stopped MirLowerError.NotSupported
literal_by OperandKind.Float image ty offset bytes = stopped MirLowerError.NotSupported
literal_by OperandKind.Other image ty offset bytes = stopped MirLowerError.NotSupported
literal_by OperandKind.Unknown image ty offset bytes = stopped MirLowerError.NotSupported

-- a literal at the type ty
unfoldable pub lower_literal_to_operand : List ℕ → ℕ → Operand → Result Constant
lower_literal_to_operand image ty operand = literal_by operand.kind image ty operand.offset operand.bytes

-- an evaluated constant at the type ty: its bytes as they are
unfoldable pub lower_const_to_operand : ℕ → Operand → Constant
lower_const_to_operand ty operand = constant_of ty operand.bytes

-- a range's end by its kind: a literal, or an evaluated constant
unfoldable pub literal_or_const_by : OperandKind → List ℕ → ℕ → Operand → Result Constant
literal_or_const_by OperandKind.Int image ty operand = lower_literal_to_operand image ty operand
literal_or_const_by OperandKind.Uint image ty operand = lower_literal_to_operand image ty operand
literal_or_const_by OperandKind.Char image ty operand = lower_literal_to_operand image ty operand
literal_or_const_by OperandKind.Bool image ty operand = lower_literal_to_operand image ty operand
literal_or_const_by OperandKind.Str image ty operand = lower_literal_to_operand image ty operand
literal_or_const_by OperandKind.CStr image ty operand = lower_literal_to_operand image ty operand
literal_or_const_by OperandKind.ByteStr image ty operand = lower_literal_to_operand image ty operand
literal_or_const_by OperandKind.Constant image ty operand = done (lower_const_to_operand ty operand)
literal_or_const_by OperandKind.Float image ty operand = lower_literal_to_operand image ty operand
literal_or_const_by OperandKind.Other image ty operand = lower_literal_to_operand image ty operand
literal_or_const_by OperandKind.Unknown image ty operand = lower_literal_to_operand image ty operand

-- a range's end at the type ty
unfoldable pub lower_literal_or_const_to_operand : List ℕ → ℕ → Operand → Result Constant
lower_literal_or_const_to_operand image ty operand = literal_or_const_by operand.kind image ty operand

-- an answer of the code, as the definitions have it
abbrev pub operand_result : LoweredOperand → Result Constant
operand_result (Ok c) = done c
operand_result (Err e) = stopped e
