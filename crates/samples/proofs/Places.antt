-- The types of places in some samples, computed. Assumes nothing.
use mathlib.Core.Path.{◌≡◌, refl}
use mathlib.Core.List.{[], ◌∷◌}
use Rattle.image.specs.Bytes.{word_at}
use Rattle.image.specs.Rows.{type_at, variant_at, list_at}
use Rattle.image.specs.Lists.{member, up_from}
use Rattle.image.specs.Rules.{listed}
use Rattle.image.specs.Types.{shape_by, ty_of, variant_of}
use Rattle.place.specs.declared.elems.ProjectionElem.{ProjectionElem}
use Rattle.place.specs.declared.place_ty.PlaceTy.{PlaceTy}
use Rattle.place.specs.PlaceTypes.{field_of, deref_ty, adt_field_ty, field_ty, element_ty, subslice_ty, adt_downcast_ty, downcast_ty, ty_projection, variant_projection, part_projection, projection_ty, multi_projection_ty}
use Rattle.samples.proofs.Samples.{tuple_ellipsis, slice_rest, enum_fields, array}

-- `(a, .., b, c)` on four fields: the fields 0 and 3 are u8, and there is no field 4
last_field : multi_projection_ty tuple_ellipsis (PlaceTy.Ty 1) (ProjectionElem.Field 3 ∷ []) ≡ PlaceTy.Ty 0
unfolding multi_projection_ty projection_ty ty_projection field_ty field_of ty_of shape_by type_at listed list_at word_at
last_field = refl

no_field_lem : multi_projection_ty tuple_ellipsis (PlaceTy.Ty 1) (ProjectionElem.Field 4 ∷ []) ≡ PlaceTy.Inapplicable
unfolding multi_projection_ty projection_ty ty_projection field_ty field_of ty_of shape_by type_at listed list_at word_at
no_field_lem = refl

-- `[a, rest @ .., b]` on &[u8]: behind the reference a slice, whose part is a slice, and whose last element is u8
slice_part : multi_projection_ty slice_rest (PlaceTy.Ty 3) (ProjectionElem.Deref ∷ ProjectionElem.Subslice 1 1 ∷ []) ≡ PlaceTy.Ty 1
unfolding multi_projection_ty projection_ty ty_projection deref_ty subslice_ty ty_of shape_by type_at word_at
slice_part = refl

last_element : multi_projection_ty slice_rest (PlaceTy.Ty 3) (ProjectionElem.Deref ∷ ProjectionElem.IndexFromEnd 0 ∷ []) ≡ PlaceTy.Ty 0
unfolding multi_projection_ty projection_ty ty_projection deref_ty element_ty ty_of shape_by type_at word_at
last_element = refl

-- a part of [u8; 2] has no number, and its elements are u8
array_part : multi_projection_ty array (PlaceTy.Ty 1) (ProjectionElem.Subslice 1 0 ∷ []) ≡ PlaceTy.Part 0
unfolding multi_projection_ty projection_ty ty_projection subslice_ty ty_of shape_by type_at word_at
array_part = refl

part_element : multi_projection_ty array (PlaceTy.Ty 1) (ProjectionElem.Subslice 1 0 ∷ ProjectionElem.Index 0 ∷ []) ≡ PlaceTy.Ty 0
unfolding multi_projection_ty projection_ty ty_projection part_projection subslice_ty ty_of shape_by type_at word_at
part_element = refl

-- an enum's field wants a Downcast, and only a field follows one
field_behind_downcast : multi_projection_ty enum_fields (PlaceTy.Ty 3) (ProjectionElem.Downcast 0 ∷ ProjectionElem.Field 1 ∷ []) ≡ PlaceTy.Ty 2
unfolding multi_projection_ty projection_ty ty_projection variant_projection downcast_ty adt_downcast_ty field_of ty_of variant_of shape_by type_at variant_at listed list_at member up_from word_at
field_behind_downcast = refl

enum_has_no_field : multi_projection_ty enum_fields (PlaceTy.Ty 3) (ProjectionElem.Field 0 ∷ []) ≡ PlaceTy.Inapplicable
unfolding multi_projection_ty projection_ty ty_projection field_ty adt_field_ty ty_of shape_by type_at word_at
enum_has_no_field = refl

no_deref_behind_downcast : multi_projection_ty enum_fields (PlaceTy.Ty 3) (ProjectionElem.Downcast 0 ∷ ProjectionElem.Deref ∷ []) ≡ PlaceTy.Inapplicable
unfolding multi_projection_ty projection_ty ty_projection variant_projection downcast_ty adt_downcast_ty ty_of shape_by type_at member up_from word_at
no_deref_behind_downcast = refl
