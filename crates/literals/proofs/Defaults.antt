-- What a default arm answers, for each kind that it stands for. Assumes nothing.
use Prim.Native.Nat.{ℕ}
use mathlib.Core.Path.{◌≡◌, refl}
use mathlib.Core.List.{List, [], ◌∷◌}
use types.Run.{OneOf, miss}
use denote.Enum.Declared as Declared
use Rattle.image.specs.declared.kinds.TypeKind.{TypeKind}
use Rattle.image.specs.declared.kinds.OperandKind.{OperandKind}
use Rattle.image.specs.declared.rows.TypeRow.{TypeRow}
use Rattle.image.specs.Types.{shape_by, Operand}
use Rattle.image.specs.contracts.kinds.TypeKind as type-kind
use Rattle.image.specs.contracts.kinds.OperandKind as operand-kind
use Rattle.refusals.specs.declared.MirLowerError.{MirLowerError}
use Rattle.refusals.specs.Refusals.{stopped}
use Rattle.literals.specs.Literals.{integer_constant, literal_by, lower_literal_to_operand, literal_or_const_by}

-- `integer_constant`: what is no integer type
pub no_integer : (kind : TypeKind) (image : List ℕ) (row : TypeRow) (ty : ℕ) (bytes : List ℕ) → OneOf (1 ∷ 2 ∷ 3 ∷ 4 ∷ 5 ∷ 6 ∷ 7 ∷ 8 ∷ 9 ∷ []) (Declared.tag_of type-kind.the_type kind) → stopped MirLowerError.NotSupported ≡ integer_constant (shape_by kind image row) ty bytes
unfolding integer_constant shape_by
no_integer TypeKind.Integer image row ty bytes h = absurd (miss (1 ∷ 2 ∷ 3 ∷ 4 ∷ 5 ∷ 6 ∷ 7 ∷ 8 ∷ 9 ∷ []) 0 tt h)
no_integer TypeKind.Bool image row ty bytes h = refl
no_integer TypeKind.Char image row ty bytes h = refl
no_integer TypeKind.Str image row ty bytes h = refl
no_integer TypeKind.Tuple image row ty bytes h = refl
no_integer TypeKind.Adt image row ty bytes h = refl
no_integer TypeKind.Reference image row ty bytes h = refl
no_integer TypeKind.Array image row ty bytes h = refl
no_integer TypeKind.Slice image row ty bytes h = refl
no_integer TypeKind.Unknown image row ty bytes h = refl

-- `lower_literal_to_operand`: a float, and what is no literal
pub no_literal : (kind : OperandKind) (image : List ℕ) (ty offset : ℕ) (bytes : List ℕ) → OneOf (7 ∷ 8 ∷ 9 ∷ 10 ∷ []) (Declared.tag_of operand-kind.the_type kind) → stopped MirLowerError.NotSupported ≡ literal_by kind image ty offset bytes
unfolding literal_by
no_literal OperandKind.Int image ty offset bytes h = absurd (miss (7 ∷ 8 ∷ 9 ∷ 10 ∷ []) 0 tt h)
no_literal OperandKind.Uint image ty offset bytes h = absurd (miss (7 ∷ 8 ∷ 9 ∷ 10 ∷ []) 1 tt h)
no_literal OperandKind.Char image ty offset bytes h = absurd (miss (7 ∷ 8 ∷ 9 ∷ 10 ∷ []) 2 tt h)
no_literal OperandKind.Bool image ty offset bytes h = absurd (miss (7 ∷ 8 ∷ 9 ∷ 10 ∷ []) 3 tt h)
no_literal OperandKind.Str image ty offset bytes h = absurd (miss (7 ∷ 8 ∷ 9 ∷ 10 ∷ []) 4 tt h)
no_literal OperandKind.CStr image ty offset bytes h = absurd (miss (7 ∷ 8 ∷ 9 ∷ 10 ∷ []) 5 tt h)
no_literal OperandKind.ByteStr image ty offset bytes h = absurd (miss (7 ∷ 8 ∷ 9 ∷ 10 ∷ []) 6 tt h)
no_literal OperandKind.Constant image ty offset bytes h = refl
no_literal OperandKind.Float image ty offset bytes h = refl
no_literal OperandKind.Other image ty offset bytes h = refl
no_literal OperandKind.Unknown image ty offset bytes h = refl

-- `lower_literal_or_const_to_operand`: what is no evaluated constant
pub a_literal : (kind : OperandKind) (image : List ℕ) (ty : ℕ) (operand : Operand) → OneOf (0 ∷ 1 ∷ 2 ∷ 3 ∷ 4 ∷ 5 ∷ 6 ∷ 8 ∷ 9 ∷ 10 ∷ []) (Declared.tag_of operand-kind.the_type kind) → lower_literal_to_operand image ty operand ≡ literal_or_const_by kind image ty operand
unfolding literal_or_const_by
a_literal OperandKind.Int image ty operand h = refl
a_literal OperandKind.Uint image ty operand h = refl
a_literal OperandKind.Char image ty operand h = refl
a_literal OperandKind.Bool image ty operand h = refl
a_literal OperandKind.Str image ty operand h = refl
a_literal OperandKind.CStr image ty operand h = refl
a_literal OperandKind.ByteStr image ty operand h = refl
a_literal OperandKind.Constant image ty operand h = absurd (miss (0 ∷ 1 ∷ 2 ∷ 3 ∷ 4 ∷ 5 ∷ 6 ∷ 8 ∷ 9 ∷ 10 ∷ []) 7 tt h)
a_literal OperandKind.Float image ty operand h = refl
a_literal OperandKind.Other image ty operand h = refl
a_literal OperandKind.Unknown image ty operand h = refl
