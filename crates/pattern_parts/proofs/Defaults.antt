-- What a default arm answers, for each kind that it stands for. Assumes nothing.
use Rattle.std.specs.Prelude.{None, Ok}
use Prim.Native.Nat.{ℕ}
use mathlib.Core.Path.{◌≡◌, refl}
use mathlib.Core.Option.{some}
use mathlib.Core.List.{List, [], ◌∷◌}
use types.Run.{OneOf, miss}
use denote.Enum.Declared as Declared
use Rattle.refusals.specs.declared.MirLowerError.{MirLowerError}
use Rattle.refusals.specs.Refusals.{stopped}
use Rattle.image.specs.declared.kinds.AdtKind.{AdtKind}
use Rattle.image.specs.declared.kinds.BindingMode.{BindingMode}
use Rattle.image.specs.declared.kinds.TypeKind.{TypeKind}
use Rattle.image.specs.declared.rows.TypeRow.{TypeRow}
use Rattle.image.specs.Types.{shape_by}
use Rattle.image.specs.contracts.kinds.AdtKind as adt_kind_lem
use Rattle.image.specs.contracts.kinds.BindingMode as binding-mode
use Rattle.image.specs.contracts.kinds.TypeKind as type-kind
use Rattle.place.specs.declared.place_ty.PlaceTy.{PlaceTy}
use Rattle.place.specs.contracts.place_ty.PlaceTy as place-ty
use Rattle.mir.specs.declared.rvalues.PlaceRvalue.{PlaceRvalue}
use Rattle.pattern_matching.specs.Tests.{binding_rvalue}
use Rattle.pattern_parts.specs.Parts.{needed_ty, tuple_at, reference_at, adt_taken, adt_at}

-- `needed_ty`
pub not_needed : (kind : PlaceTy) → OneOf (2 ∷ 3 ∷ 4 ∷ 5 ∷ []) (Declared.tag_of place-ty.the_type kind) → Ok None ≡ needed_ty kind
unfolding needed_ty
not_needed (PlaceTy.Ty t) h = absurd (miss (2 ∷ 3 ∷ 4 ∷ 5 ∷ []) 0 tt h)
not_needed (PlaceTy.Variant e v) h = absurd (miss (2 ∷ 3 ∷ 4 ∷ 5 ∷ []) 1 tt h)
not_needed (PlaceTy.Part t) h = refl
not_needed PlaceTy.Bool h = refl
not_needed PlaceTy.Usize h = refl
not_needed PlaceTy.I128 h = refl
not_needed PlaceTy.Inapplicable h = absurd (miss (2 ∷ 3 ∷ 4 ∷ 5 ∷ []) 6 tt h)

-- `tuple_at`, `reference_at` and `adt_at`, by the kind of the type
module _ (image : List ℕ) (row : TypeRow) where
  pub no_tuple : (kind : TypeKind) → OneOf (0 ∷ 1 ∷ 2 ∷ 3 ∷ 5 ∷ 6 ∷ 7 ∷ 8 ∷ 9 ∷ []) (Declared.tag_of type-kind.the_type kind) → stopped (MirLowerError.TypeError 1) ≡ tuple_at (some (shape_by kind image row))
  unfolding tuple_at shape_by
  no_tuple TypeKind.Integer h = refl
  no_tuple TypeKind.Bool h = refl
  no_tuple TypeKind.Char h = refl
  no_tuple TypeKind.Str h = refl
  no_tuple TypeKind.Tuple h = absurd (miss (0 ∷ 1 ∷ 2 ∷ 3 ∷ 5 ∷ 6 ∷ 7 ∷ 8 ∷ 9 ∷ []) 4 tt h)
  no_tuple TypeKind.Adt h = refl
  no_tuple TypeKind.Reference h = refl
  no_tuple TypeKind.Array h = refl
  no_tuple TypeKind.Slice h = refl
  no_tuple TypeKind.Unknown h = refl

  pub no_reference : (kind : TypeKind) → OneOf (0 ∷ 1 ∷ 2 ∷ 3 ∷ 4 ∷ 5 ∷ 7 ∷ 8 ∷ 9 ∷ []) (Declared.tag_of type-kind.the_type kind) → stopped (MirLowerError.TypeError 3) ≡ reference_at (some (shape_by kind image row))
  unfolding reference_at shape_by
  no_reference TypeKind.Integer h = refl
  no_reference TypeKind.Bool h = refl
  no_reference TypeKind.Char h = refl
  no_reference TypeKind.Str h = refl
  no_reference TypeKind.Tuple h = refl
  no_reference TypeKind.Adt h = refl
  no_reference TypeKind.Reference h = absurd (miss (0 ∷ 1 ∷ 2 ∷ 3 ∷ 4 ∷ 5 ∷ 7 ∷ 8 ∷ 9 ∷ []) 6 tt h)
  no_reference TypeKind.Array h = refl
  no_reference TypeKind.Slice h = refl
  no_reference TypeKind.Unknown h = refl

  pub no_adt : (kind : TypeKind) (v : ℕ) → OneOf (0 ∷ 1 ∷ 2 ∷ 3 ∷ 4 ∷ 6 ∷ 7 ∷ 8 ∷ 9 ∷ []) (Declared.tag_of type-kind.the_type kind) → stopped (MirLowerError.TypeError 4) ≡ adt_at (some (shape_by kind image row)) v
  unfolding adt_at shape_by
  no_adt TypeKind.Integer v h = refl
  no_adt TypeKind.Bool v h = refl
  no_adt TypeKind.Char v h = refl
  no_adt TypeKind.Str v h = refl
  no_adt TypeKind.Tuple v h = refl
  no_adt TypeKind.Adt v h = absurd (miss (0 ∷ 1 ∷ 2 ∷ 3 ∷ 4 ∷ 6 ∷ 7 ∷ 8 ∷ 9 ∷ []) 5 tt h)
  no_adt TypeKind.Reference v h = refl
  no_adt TypeKind.Array v h = refl
  no_adt TypeKind.Slice v h = refl
  no_adt TypeKind.Unknown v h = refl

-- `variant_of`
pub not_taken : (kind : AdtKind) → OneOf (2 ∷ 3 ∷ []) (Declared.tag_of adt_kind_lem.the_type kind) → stopped (MirLowerError.TypeError 6) ≡ adt_taken kind
unfolding adt_taken
not_taken AdtKind.Struct h = absurd (miss (2 ∷ 3 ∷ []) 0 tt h)
not_taken AdtKind.Enum h = absurd (miss (2 ∷ 3 ∷ []) 1 tt h)
not_taken AdtKind.Union h = refl
not_taken AdtKind.Unknown h = refl

-- `binding_rvalue`
pub by_value_lem : (kind : BindingMode) → OneOf (0 ∷ 3 ∷ []) (Declared.tag_of binding-mode.the_type kind) → PlaceRvalue.Copy ≡ binding_rvalue kind
unfolding binding_rvalue
by_value_lem BindingMode.Value h = refl
by_value_lem BindingMode.Ref h = absurd (miss (0 ∷ 3 ∷ []) 1 tt h)
by_value_lem BindingMode.RefMut h = absurd (miss (0 ∷ 3 ∷ []) 2 tt h)
by_value_lem BindingMode.Unknown h = refl
