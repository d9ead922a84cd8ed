-- What a default arm answers, for each kind that it stands for. Assumes nothing.
use Prim.Native.Nat.{ℕ}
use mathlib.Core.Path.{◌≡◌, refl}
use mathlib.Core.List.{List, [], ◌∷◌}
use types.Run.{OneOf, miss}
use denote.Enum.Declared as Declared
use Rattle.image.specs.declared.kinds.AdtKind.{AdtKind}
use Rattle.image.specs.declared.kinds.TypeKind.{TypeKind}
use Rattle.image.specs.declared.rows.TypeRow.{TypeRow}
use Rattle.image.specs.Types.{shape_by}
use Rattle.image.specs.contracts.kinds.AdtKind as adt_kind_lem
use Rattle.image.specs.contracts.kinds.TypeKind as type-kind
use Rattle.place.specs.declared.elems.ProjectionElem.{ProjectionElem}
use Rattle.place.specs.declared.place_ty.PlaceTy.{PlaceTy}
use Rattle.place.specs.PlaceTypes.{deref_ty, adt_field_ty, field_ty, element_ty, subslice_ty, adt_downcast_ty, downcast_ty, variant_projection, part_projection, projection_ty}
use Rattle.place.specs.contracts.elems.ProjectionElem as projection-elem
use Rattle.place.specs.contracts.place_ty.PlaceTy as place-ty

-- a projection of a type, by the type's kind
module _ (image : List ℕ) (row : TypeRow) where
  pub no_deref : (kind : TypeKind) → OneOf (0 ∷ 1 ∷ 2 ∷ 3 ∷ 4 ∷ 5 ∷ 7 ∷ 8 ∷ 9 ∷ []) (Declared.tag_of type-kind.the_type kind) → PlaceTy.Inapplicable ≡ deref_ty (shape_by kind image row)
  unfolding deref_ty shape_by
  no_deref TypeKind.Integer h = refl
  no_deref TypeKind.Bool h = refl
  no_deref TypeKind.Char h = refl
  no_deref TypeKind.Str h = refl
  no_deref TypeKind.Tuple h = refl
  no_deref TypeKind.Adt h = refl
  no_deref TypeKind.Reference h = absurd (miss (0 ∷ 1 ∷ 2 ∷ 3 ∷ 4 ∷ 5 ∷ 7 ∷ 8 ∷ 9 ∷ []) 6 tt h)
  no_deref TypeKind.Array h = refl
  no_deref TypeKind.Slice h = refl
  no_deref TypeKind.Unknown h = refl

  pub no_field_lem : (kind : TypeKind) (i : ℕ) → OneOf (0 ∷ 1 ∷ 2 ∷ 3 ∷ 6 ∷ 7 ∷ 8 ∷ 9 ∷ []) (Declared.tag_of type-kind.the_type kind) → PlaceTy.Inapplicable ≡ field_ty (shape_by kind image row) image i
  unfolding field_ty shape_by
  no_field_lem TypeKind.Integer i h = refl
  no_field_lem TypeKind.Bool i h = refl
  no_field_lem TypeKind.Char i h = refl
  no_field_lem TypeKind.Str i h = refl
  no_field_lem TypeKind.Tuple i h = absurd (miss (0 ∷ 1 ∷ 2 ∷ 3 ∷ 6 ∷ 7 ∷ 8 ∷ 9 ∷ []) 4 tt h)
  no_field_lem TypeKind.Adt i h = absurd (miss (0 ∷ 1 ∷ 2 ∷ 3 ∷ 6 ∷ 7 ∷ 8 ∷ 9 ∷ []) 5 tt h)
  no_field_lem TypeKind.Reference i h = refl
  no_field_lem TypeKind.Array i h = refl
  no_field_lem TypeKind.Slice i h = refl
  no_field_lem TypeKind.Unknown i h = refl

  pub no_element : (kind : TypeKind) → OneOf (0 ∷ 1 ∷ 2 ∷ 3 ∷ 4 ∷ 5 ∷ 6 ∷ 9 ∷ []) (Declared.tag_of type-kind.the_type kind) → PlaceTy.Inapplicable ≡ element_ty (shape_by kind image row)
  unfolding element_ty shape_by
  no_element TypeKind.Integer h = refl
  no_element TypeKind.Bool h = refl
  no_element TypeKind.Char h = refl
  no_element TypeKind.Str h = refl
  no_element TypeKind.Tuple h = refl
  no_element TypeKind.Adt h = refl
  no_element TypeKind.Reference h = refl
  no_element TypeKind.Array h = absurd (miss (0 ∷ 1 ∷ 2 ∷ 3 ∷ 4 ∷ 5 ∷ 6 ∷ 9 ∷ []) 7 tt h)
  no_element TypeKind.Slice h = absurd (miss (0 ∷ 1 ∷ 2 ∷ 3 ∷ 4 ∷ 5 ∷ 6 ∷ 9 ∷ []) 8 tt h)
  no_element TypeKind.Unknown h = refl

  pub no_part : (kind : TypeKind) (s : ℕ) → OneOf (0 ∷ 1 ∷ 2 ∷ 3 ∷ 4 ∷ 5 ∷ 6 ∷ 9 ∷ []) (Declared.tag_of type-kind.the_type kind) → PlaceTy.Inapplicable ≡ subslice_ty s (shape_by kind image row)
  unfolding subslice_ty shape_by
  no_part TypeKind.Integer s h = refl
  no_part TypeKind.Bool s h = refl
  no_part TypeKind.Char s h = refl
  no_part TypeKind.Str s h = refl
  no_part TypeKind.Tuple s h = refl
  no_part TypeKind.Adt s h = refl
  no_part TypeKind.Reference s h = refl
  no_part TypeKind.Array s h = absurd (miss (0 ∷ 1 ∷ 2 ∷ 3 ∷ 4 ∷ 5 ∷ 6 ∷ 9 ∷ []) 7 tt h)
  no_part TypeKind.Slice s h = absurd (miss (0 ∷ 1 ∷ 2 ∷ 3 ∷ 4 ∷ 5 ∷ 6 ∷ 9 ∷ []) 8 tt h)
  no_part TypeKind.Unknown s h = refl

  pub no_variant : (kind : TypeKind) (e v : ℕ) → OneOf (0 ∷ 1 ∷ 2 ∷ 3 ∷ 4 ∷ 6 ∷ 7 ∷ 8 ∷ 9 ∷ []) (Declared.tag_of type-kind.the_type kind) → PlaceTy.Inapplicable ≡ downcast_ty e v (shape_by kind image row)
  unfolding downcast_ty shape_by
  no_variant TypeKind.Integer e v h = refl
  no_variant TypeKind.Bool e v h = refl
  no_variant TypeKind.Char e v h = refl
  no_variant TypeKind.Str e v h = refl
  no_variant TypeKind.Tuple e v h = refl
  no_variant TypeKind.Adt e v h = absurd (miss (0 ∷ 1 ∷ 2 ∷ 3 ∷ 4 ∷ 6 ∷ 7 ∷ 8 ∷ 9 ∷ []) 5 tt h)
  no_variant TypeKind.Reference e v h = refl
  no_variant TypeKind.Array e v h = refl
  no_variant TypeKind.Slice e v h = refl
  no_variant TypeKind.Unknown e v h = refl

-- of an ADT
pub no_adt_field : (kind : AdtKind) (image variants : List ℕ) (i : ℕ) → OneOf (1 ∷ 3 ∷ []) (Declared.tag_of adt_kind_lem.the_type kind) → PlaceTy.Inapplicable ≡ adt_field_ty kind image variants i
unfolding adt_field_ty
no_adt_field AdtKind.Struct image variants i h = absurd (miss (1 ∷ 3 ∷ []) 0 tt h)
no_adt_field AdtKind.Enum image variants i h = refl
no_adt_field AdtKind.Union image variants i h = absurd (miss (1 ∷ 3 ∷ []) 2 tt h)
no_adt_field AdtKind.Unknown image variants i h = refl

pub no_adt_variant : (kind : AdtKind) (e v : ℕ) (variants : List ℕ) → OneOf (0 ∷ 2 ∷ 3 ∷ []) (Declared.tag_of adt_kind_lem.the_type kind) → PlaceTy.Inapplicable ≡ adt_downcast_ty kind e v variants
unfolding adt_downcast_ty
no_adt_variant AdtKind.Struct e v variants h = refl
no_adt_variant AdtKind.Enum e v variants h = absurd (miss (0 ∷ 2 ∷ 3 ∷ []) 1 tt h)
no_adt_variant AdtKind.Union e v variants h = refl
no_adt_variant AdtKind.Unknown e v variants h = refl

-- of a variant and of a part of an array, by the element
pub not_of_variant : (kind : ProjectionElem) (image : List ℕ) (w : ℕ) → OneOf (0 ∷ 2 ∷ 3 ∷ 4 ∷ 5 ∷ 6 ∷ []) (Declared.tag_of projection-elem.the_type kind) → PlaceTy.Inapplicable ≡ variant_projection kind image w
unfolding variant_projection
not_of_variant ProjectionElem.Deref image w h = refl
not_of_variant (ProjectionElem.Field i) image w h = absurd (miss (0 ∷ 2 ∷ 3 ∷ 4 ∷ 5 ∷ 6 ∷ []) 1 tt h)
not_of_variant (ProjectionElem.Index i) image w h = refl
not_of_variant (ProjectionElem.IndexFromEnd i) image w h = refl
not_of_variant (ProjectionElem.Subslice a b) image w h = refl
not_of_variant (ProjectionElem.Downcast v) image w h = refl
not_of_variant ProjectionElem.Unknown image w h = refl

pub not_of_part : (kind : ProjectionElem) (t : ℕ) → OneOf (0 ∷ 1 ∷ 5 ∷ 6 ∷ []) (Declared.tag_of projection-elem.the_type kind) → PlaceTy.Inapplicable ≡ part_projection kind t
unfolding part_projection
not_of_part ProjectionElem.Deref t h = refl
not_of_part (ProjectionElem.Field i) t h = refl
not_of_part (ProjectionElem.Index i) t h = absurd (miss (0 ∷ 1 ∷ 5 ∷ 6 ∷ []) 2 tt h)
not_of_part (ProjectionElem.IndexFromEnd i) t h = absurd (miss (0 ∷ 1 ∷ 5 ∷ 6 ∷ []) 3 tt h)
not_of_part (ProjectionElem.Subslice a b) t h = absurd (miss (0 ∷ 1 ∷ 5 ∷ 6 ∷ []) 4 tt h)
not_of_part (ProjectionElem.Downcast v) t h = refl
not_of_part ProjectionElem.Unknown t h = refl

-- of what is no type of the table and no part of one
pub leads_nowhere : (kind : PlaceTy) (image : List ℕ) (elem : ProjectionElem) → OneOf (3 ∷ 4 ∷ 5 ∷ 6 ∷ []) (Declared.tag_of place-ty.the_type kind) → PlaceTy.Inapplicable ≡ projection_ty kind image elem
unfolding projection_ty
leads_nowhere (PlaceTy.Ty t) image elem h = absurd (miss (3 ∷ 4 ∷ 5 ∷ 6 ∷ []) 0 tt h)
leads_nowhere (PlaceTy.Variant e v) image elem h = absurd (miss (3 ∷ 4 ∷ 5 ∷ 6 ∷ []) 1 tt h)
leads_nowhere (PlaceTy.Part t) image elem h = absurd (miss (3 ∷ 4 ∷ 5 ∷ 6 ∷ []) 2 tt h)
leads_nowhere PlaceTy.Bool image elem h = refl
leads_nowhere PlaceTy.Usize image elem h = refl
leads_nowhere PlaceTy.I128 image elem h = refl
leads_nowhere PlaceTy.Inapplicable image elem h = refl
