-- Types, variants, bindings and operands as the image's rows stand for them. Assumes nothing: these are definitions.
use Rattle.std.specs.Prelude.{ℕ, ◌+◌, Bool, List, eqb, take, drop}
use Rattle.image.specs.declared.kinds.TypeKind.{TypeKind}
use Rattle.image.specs.declared.kinds.AdtKind.{AdtKind}
use Rattle.image.specs.declared.kinds.OperandKind.{OperandKind}
use Rattle.image.specs.declared.rows.TypeRow.{TypeRow}
use Rattle.image.specs.Bytes.{little_endian}
use Rattle.image.specs.Tables.{data_at}
use Rattle.image.specs.Kinds.{type_kind, adt_kind, operand_kind}
use Rattle.image.specs.Rows.{type_at, variant_at, binding_at, operand_at, operand_bytes}
use Rattle.image.specs.Lists.{up_from}
use Rattle.image.specs.Rules.{listed}

-- what a type is; types and variants are named by their numbers
pub data Shape : Type 0 where
  -- the size in bytes, and whether it is signed
  integer : ℕ → Bool → Shape
  bool : Shape
  char : Shape
  str : Shape
  -- the types of the fields
  tuple : List ℕ → Shape
  -- struct, enum or union, and the variants
  adt : AdtKind → List ℕ → Shape
  reference : ℕ → Shape
  -- the element's type, and the length
  array : ℕ → ℕ → Shape
  slice : ℕ → Shape
  unknown : Shape

pub record Ty : Type 0 where
  pub shape : Shape
  pub copy : Bool

-- the types of the fields, and the discriminant's 16 bytes as a number
pub record Variant : Type 0 where
  pub fields : List ℕ
  pub discriminant : ℕ

pub record Binding : Type 0 where
  pub ty : ℕ
  pub picked : Bool

-- a kind, and bytes of the data: where they begin there, and what they are
pub record Operand : Type 0 where
  pub kind : OperandKind
  pub offset : ℕ
  pub bytes : List ℕ

-- a flag is set by 1
abbrev pub is_set : ℕ → Bool
is_set w = eqb w 1

unfoldable pub shape_by : TypeKind → List ℕ → TypeRow → Shape
shape_by TypeKind.Integer image row = integer row.a (is_set row.b)
shape_by TypeKind.Bool image row = bool
shape_by TypeKind.Char image row = char
shape_by TypeKind.Str image row = str
shape_by TypeKind.Tuple image row = tuple (listed image 1 row.a row.b)
shape_by TypeKind.Adt image row = adt (adt_kind row.c) (up_from row.a row.b)
shape_by TypeKind.Reference image row = reference row.a
shape_by TypeKind.Array image row = array row.a row.b
shape_by TypeKind.Slice image row = slice row.a
shape_by TypeKind.Unknown image row = unknown

-- the type t of an image
unfoldable pub ty_of : List ℕ → ℕ → Ty
ty_of image t = record { shape = shape_by (type_kind (type_at image t).kind) image (type_at image t); copy = is_set (type_at image t).copy }

-- the variant v of an image
unfoldable pub variant_of : List ℕ → ℕ → Variant
variant_of image v =
    record {
      fields = listed image 1 (variant_at image v).fields (variant_at image v).count;
      discriminant = little_endian (take 16 (drop (data_at image + (variant_at image v).discriminant) image));
    }

-- the binding b of an image
unfoldable pub binding_of : List ℕ → ℕ → Binding
binding_of image b = record { ty = (binding_at image b).ty; picked = is_set (binding_at image b).picked }

-- the operand that begins at the word o of an image's list
unfoldable pub operand_of : List ℕ → ℕ → Operand
operand_of image o =
    record {
      kind = operand_kind (operand_at image o).kind;
      offset = (operand_at image o).offset;
      bytes = operand_bytes image (operand_at image o);
    }
