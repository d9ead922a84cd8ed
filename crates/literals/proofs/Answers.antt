-- Each way through the functions that lower a literal or a constant: the row and the kind that are read say which clause of the definition it is.
-- Assumes nothing.
use Prim.Native.Nat.{ℕ}
use mathlib.Core.Path.{◌≡◌, ap, sym, ◌∙◌}
use mathlib.Core.List.{List}
use native.Mathlib.Omega.{arith}
use lib.ListN.{length, take}
use lib.Seq.{take_all}
use Rattle.image.specs.declared.kinds.TypeKind.{TypeKind}
use Rattle.image.specs.declared.kinds.OperandKind.{OperandKind}
use Rattle.image.specs.declared.rows.TypeRow.{TypeRow}
use Rattle.image.specs.declared.rows.OperandRow.{OperandRow}
use Rattle.image.specs.Kinds.{type_kind, operand_kind}
use Rattle.image.specs.Rows.{type_at, operand_at, operand_bytes}
use Rattle.image.specs.Types.{Shape, shape_by, ty_of, operand_of}
use Rattle.mir.specs.declared.rvalues.Constant.{Constant}
use Rattle.literals.specs.Literals.{constant_of, string_constant, integer_constant, literal_by, lower_literal_to_operand, lower_const_to_operand, literal_or_const_by, lower_literal_or_const_to_operand}

-- `integer_constant`: the clause of a type's kind
pub integer_by : (image : List ℕ) (ty : ℕ) (bytes : List ℕ) {row : TypeRow} {kind : TypeKind} (is : TypeKind) → row ≡ type_at image ty → kind ≡ type_kind row.kind → kind ≡ is →
    integer_constant (shape_by is image row) ty bytes ≡ integer_constant (ty_of image ty).shape ty bytes
unfolding ty_of
integer_by image ty bytes {row} {kind} is at told k =
    let shape : shape_by is image row ≡ shape_by (type_kind (type_at image ty).kind) image (type_at image ty) = rw (← k, told, at) in
    ap (λ (s : Shape). integer_constant s ty bytes) shape

-- all bytes as a constant
pub all_bytes : (ty n : ℕ) (bytes : List ℕ) {r : Constant} → length bytes ≡ n → r ≡ constant_of ty (take n bytes) → r ≡ constant_of ty bytes
all_bytes ty n bytes long e = e ∙ ap (constant_of ty) (take_all n bytes (omega arith))

-- a string's constant by another name of its length
pub same_string : (ty offset : ℕ) {m n : ℕ} {r : Constant} → n ≡ m → r ≡ string_constant ty offset m → r ≡ string_constant ty offset n
same_string ty offset e d = d ∙ ap (string_constant ty offset) (sym e)

module _ (image : List ℕ) (o : ℕ) {row : OperandRow} (at : row ≡ operand_at image o) where
  -- `lower_const_to_operand`: the bytes that are read
  pub const_of : (ty : ℕ) {bytes : List ℕ} → bytes ≡ operand_bytes image row → constant_of ty bytes ≡ lower_const_to_operand ty (operand_of image o)
  unfolding operand_of lower_const_to_operand
  const_of ty read = rw (read, at)

  module _ {kind : OperandKind} (is : OperandKind) (told : kind ≡ operand_kind row.kind) (k : kind ≡ is) where
    -- the kind that is read is the operand's
    pub kind_of_lem : (operand_of image o).kind ≡ is
    unfolding operand_of
    kind_of_lem = rw (← at, ← told, k)

    -- `lower_literal_to_operand`: the clause of an operand's kind
    pub literal_by_lem : (ty : ℕ) {bytes : List ℕ} → bytes ≡ operand_bytes image row → literal_by is image ty row.offset bytes ≡ lower_literal_to_operand image ty (operand_of image o)
    unfolding operand_of lower_literal_to_operand
    literal_by_lem ty read = rw (← k, told, read, at)

    -- `lower_literal_or_const_to_operand`: the clause of an operand's kind
    pub literal_or_const_by_lem : (ty : ℕ) → literal_or_const_by is image ty (operand_of image o) ≡ lower_literal_or_const_to_operand image ty (operand_of image o)
    unfolding lower_literal_or_const_to_operand
    literal_or_const_by_lem ty = ap (λ (s : OperandKind). literal_or_const_by s image ty (operand_of image o)) (sym kind_of_lem)
