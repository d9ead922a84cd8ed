-- The numbers of kinds, by name: document 01's section "The image". Assumes nothing: these are definitions.
use Rattle.std.specs.Prelude.{ℕ, List, [], ◌∷◌, get_or}
use Rattle.image.specs.declared.kinds.TypeKind.{TypeKind}
use Rattle.image.specs.declared.kinds.AdtKind.{AdtKind}
use Rattle.image.specs.declared.kinds.PatKind.{PatKind}
use Rattle.image.specs.declared.kinds.PathKind.{PathKind}
use Rattle.image.specs.declared.kinds.OperandKind.{OperandKind}
use Rattle.image.specs.declared.kinds.BindingMode.{BindingMode}
use Rattle.image.specs.declared.kinds.BindingAnnotation.{BindingAnnotation}

-- the kinds of types, numbered from 1
abbrev pub type_kinds : List TypeKind
type_kinds = TypeKind.Unknown ∷ TypeKind.Integer ∷ TypeKind.Bool ∷ TypeKind.Char ∷ TypeKind.Str ∷ TypeKind.Tuple ∷ TypeKind.Adt ∷ TypeKind.Reference ∷ TypeKind.Array ∷ TypeKind.Slice ∷ []

abbrev pub type_kind : ℕ → TypeKind
type_kind k = get_or type_kinds k TypeKind.Unknown

-- the kinds of ADTs, numbered from 0
abbrev pub adt_kinds : List AdtKind
adt_kinds = AdtKind.Struct ∷ AdtKind.Enum ∷ AdtKind.Union ∷ []

abbrev pub adt_kind : ℕ → AdtKind
adt_kind k = get_or adt_kinds k AdtKind.Unknown

-- the kinds of patterns, numbered from 0
abbrev pub pat_kinds : List PatKind
pat_kinds = PatKind.Missing ∷ PatKind.Rest ∷ PatKind.NotNull ∷ PatKind.Wild ∷ PatKind.Tuple ∷ PatKind.Or ∷ PatKind.Record ∷ PatKind.Range ∷ PatKind.Slice ∷ PatKind.Path ∷ PatKind.Lit ∷ PatKind.Bind ∷ PatKind.TupleStruct ∷ PatKind.Ref ∷ PatKind.Expr ∷ PatKind.Box ∷ PatKind.Deref ∷ []

abbrev pub pat_kind : ℕ → PatKind
pat_kind k = get_or pat_kinds k PatKind.Unknown

-- the kinds of paths, numbered from 0
abbrev pub path_kinds : List PathKind
path_kinds = PathKind.Unresolved ∷ PathKind.Variant ∷ PathKind.Local ∷ PathKind.Constant ∷ PathKind.Other ∷ []

abbrev pub path_kind : ℕ → PathKind
path_kind k = get_or path_kinds k PathKind.Unknown

-- the kinds of operands, numbered from 1
abbrev pub operand_kinds : List OperandKind
operand_kinds = OperandKind.Unknown ∷ OperandKind.Int ∷ OperandKind.Uint ∷ OperandKind.Char ∷ OperandKind.Bool ∷ OperandKind.Str ∷ OperandKind.CStr ∷ OperandKind.ByteStr ∷ OperandKind.Constant ∷ OperandKind.Float ∷ OperandKind.Other ∷ []

abbrev pub operand_kind : ℕ → OperandKind
operand_kind k = get_or operand_kinds k OperandKind.Unknown

-- how a Bind binds, numbered from 0
abbrev pub binding_modes : List BindingMode
binding_modes = BindingMode.Value ∷ BindingMode.Ref ∷ BindingMode.RefMut ∷ []

abbrev pub binding_mode : ℕ → BindingMode
binding_mode k = get_or binding_modes k BindingMode.Unknown

-- what is written before a Bind's name, numbered from 0
abbrev pub binding_annotations : List BindingAnnotation
binding_annotations = BindingAnnotation.Unannotated ∷ BindingAnnotation.Mutable ∷ BindingAnnotation.Other ∷ []

abbrev pub binding_annotation : ℕ → BindingAnnotation
binding_annotation k = get_or binding_annotations k BindingAnnotation.Unknown
