-- In a valid image the numbers of a place's type name entries, however far the projection goes. Assumes nothing.
use Prim.Native.Nat.{ℕ, zero, suc, ◌+◌, ◌≤◌, ◌<◌}
use mathlib.Core.Path.{◌≡◌, refl}
use mathlib.Core.Bool.{Bool, true, false, cond, not, ◌||◌, false≢true}
use mathlib.Core.List.{List, [], ◌∷◌}
use native.Mathlib.Omega.{arith}
use borrow.Author.Tests.{ltb-true, eqb-true}
use lib.Dec.{eqb, ltb}
use lib.ListN.{length, get_or}
use Rattle.image.specs.declared.kinds.TypeKind.{TypeKind}
use Rattle.image.specs.declared.kinds.AdtKind.{AdtKind}
use Rattle.image.specs.declared.rows.TypeRow.{TypeRow}
use Rattle.image.specs.Tables.{type_count, variant_count, data_count}
use Rattle.image.specs.Kinds.{adt_kind}
use Rattle.image.specs.Rows.{variant_at}
use Rattle.image.specs.Lists.{all_in, member, up_from}
use Rattle.image.specs.Rules.{absent, in_table, names_type, listed, types_listed, type_shape_holds, variant_holds}
use Rattle.image.specs.Types.{shape_by, ty_of, variant_of}
use Rattle.image.specs.Valid.{valid}
use Rattle.image.proofs.Bools.{and_left, and_right}
use Rattle.image.proofs.Known.{shape_holds, variant_holds_lem, adt_variants_lem}
use Rattle.place.specs.declared.elems.ProjectionElem.{ProjectionElem}
use Rattle.place.specs.declared.place_ty.PlaceTy.{PlaceTy}
use Rattle.place.specs.PlaceTypes.{field_of, deref_ty, adt_field_ty, field_ty, element_ty, subslice_ty, adt_downcast_ty, downcast_ty, ty_projection, variant_projection, part_projection, projection_ty, Named}
use Rattle.place.proofs.Ranges.{first_of_range}

-- a test that all of a list pass, each passes
all_in_at : (f : ℕ → Bool) (xs : List ℕ) (i : ℕ) → all_in f xs ≡ true → i < length xs → f (get_or xs i 0) ≡ true
unfolding all_in
all_in_at f [] i e h = absurd (omega arith)
all_in_at f (x ∷ xs) zero e h = and_left (f x) (all_in f xs) e
all_in_at f (x ∷ xs) (suc i) e h = all_in_at f xs i (and_right (f x) (all_in f xs) e) (omega arith)

-- a number of a range is below its end
member_below : (v from count : ℕ) → member v (up_from from count) ≡ true → v < from + count
unfolding member up_from
member_below v from zero e = absurd (false≢true e)
member_below v from (suc count) e = go (eqb v from) refl e (member_below v (from + 1) count)
  where
    go : (t : Bool) → eqb v from ≡ t → t || member v (up_from (from + 1) count) ≡ true → (member v (up_from (from + 1) count) ≡ true → v < from + 1 + count) → v < from + suc count
    go true q d later = omega (arith, eqb-true v from q)
    go false q d later = omega (arith, later d)

module _ (image : List ℕ) where
  -- a field of fields that all name types
  named_field : (fields : List ℕ) (i : ℕ) → all_in (names_type image) fields ≡ true → Named image (field_of fields i)
  unfolding field_of
  named_field fields i e = go (ltb i (length fields)) refl
    where
      go : (t : Bool) → ltb i (length fields) ≡ t → Named image (cond t (PlaceTy.Ty (get_or fields i 0)) PlaceTy.Inapplicable)
      go true q = ltb-true (get_or fields i 0) (type_count image) (all_in_at (names_type image) fields i e (ltb-true i (length fields) q))
      go false q = tt

  listed_types : (from count : ℕ) → types_listed image from count ≡ true → all_in (names_type image) (listed image 1 from count) ≡ true
  unfolding types_listed
  listed_types from count e = and_right (in_table from count (Rattle.image.specs.Tables.list_count image)) (all_in (names_type image) (listed image 1 from count)) e

  module _ (holds : valid image ≡ true) where
    named_variant_field : (v i : ℕ) → v < variant_count image → Named image (field_of (variant_of image v).fields i)
    unfolding variant_of variant_holds
    named_variant_field v i h =
        let row = variant_at image v in
        named_field (listed image 1 row.fields row.count) i
        (listed_types row.fields row.count
        (and_left (types_listed image row.fields row.count) (in_table row.discriminant 16 (data_count image)) (variant_holds_lem image v holds h)))

    named_deref : (kind : TypeKind) (row : TypeRow) → type_shape_holds kind image row ≡ true → Named image (deref_ty (shape_by kind image row))
    unfolding type_shape_holds deref_ty shape_by
    named_deref TypeKind.Integer row e = tt
    named_deref TypeKind.Bool row e = tt
    named_deref TypeKind.Char row e = tt
    named_deref TypeKind.Str row e = tt
    named_deref TypeKind.Tuple row e = tt
    named_deref TypeKind.Adt row e = tt
    named_deref TypeKind.Reference row e = ltb-true row.a (type_count image) e
    named_deref TypeKind.Array row e = tt
    named_deref TypeKind.Slice row e = tt
    named_deref TypeKind.Unknown row e = tt

    named_adt_field : (kind : AdtKind) (from count i : ℕ) → 0 < count → from + count ≤ variant_count image → Named image (adt_field_ty kind image (up_from from count) i)
    unfolding adt_field_ty
    named_adt_field AdtKind.Struct from count i h k = rw (first_of_range from count h) (named_variant_field from i (omega arith))
    named_adt_field AdtKind.Enum from count i h k = tt
    named_adt_field AdtKind.Union from count i h k = rw (first_of_range from count h) (named_variant_field from i (omega arith))
    named_adt_field AdtKind.Unknown from count i h k = tt

    named_field_ty : (kind : TypeKind) (row : TypeRow) (i : ℕ) → type_shape_holds kind image row ≡ true → Named image (field_ty (shape_by kind image row) image i)
    unfolding type_shape_holds field_ty shape_by
    named_field_ty TypeKind.Integer row i e = tt
    named_field_ty TypeKind.Bool row i e = tt
    named_field_ty TypeKind.Char row i e = tt
    named_field_ty TypeKind.Str row i e = tt
    named_field_ty TypeKind.Tuple row i e = named_field (listed image 1 row.a row.b) i (listed_types row.a row.b e)
    named_field_ty TypeKind.Adt row i e = let known = adt_variants_lem image row refl e in named_adt_field (adt_kind row.c) row.a row.b i known.0 known.1
    named_field_ty TypeKind.Reference row i e = tt
    named_field_ty TypeKind.Array row i e = tt
    named_field_ty TypeKind.Slice row i e = tt
    named_field_ty TypeKind.Unknown row i e = tt

    array_element : (row : TypeRow) → type_shape_holds TypeKind.Array image row ≡ true → row.a < type_count image
    unfolding type_shape_holds
    array_element row e = ltb-true row.a (type_count image) (and_left (names_type image row.a) (not (eqb row.b absent)) e)

    named_element : (kind : TypeKind) (row : TypeRow) → type_shape_holds kind image row ≡ true → Named image (element_ty (shape_by kind image row))
    unfolding type_shape_holds element_ty shape_by
    named_element TypeKind.Integer row e = tt
    named_element TypeKind.Bool row e = tt
    named_element TypeKind.Char row e = tt
    named_element TypeKind.Str row e = tt
    named_element TypeKind.Tuple row e = tt
    named_element TypeKind.Adt row e = tt
    named_element TypeKind.Reference row e = tt
    named_element TypeKind.Array row e = array_element row e
    named_element TypeKind.Slice row e = ltb-true row.a (type_count image) e
    named_element TypeKind.Unknown row e = tt

    named_subslice : (t : ℕ) (kind : TypeKind) (row : TypeRow) → t < type_count image → type_shape_holds kind image row ≡ true → Named image (subslice_ty t (shape_by kind image row))
    unfolding type_shape_holds subslice_ty shape_by
    named_subslice t TypeKind.Integer row h e = tt
    named_subslice t TypeKind.Bool row h e = tt
    named_subslice t TypeKind.Char row h e = tt
    named_subslice t TypeKind.Str row h e = tt
    named_subslice t TypeKind.Tuple row h e = tt
    named_subslice t TypeKind.Adt row h e = tt
    named_subslice t TypeKind.Reference row h e = tt
    named_subslice t TypeKind.Array row h e = array_element row e
    named_subslice t TypeKind.Slice row h e = h
    named_subslice t TypeKind.Unknown row h e = tt

    named_adt_downcast : (kind : AdtKind) (t v from count : ℕ) → t < type_count image → from + count ≤ variant_count image → Named image (adt_downcast_ty kind t v (up_from from count))
    unfolding adt_downcast_ty
    named_adt_downcast AdtKind.Struct t v from count h k = tt
    named_adt_downcast AdtKind.Enum t v from count h k = go (member v (up_from from count)) refl
      where
        go : (b : Bool) → member v (up_from from count) ≡ b → Named image (cond b (PlaceTy.Variant t v) PlaceTy.Inapplicable)
        go true q = (h, omega (arith, member_below v from count q))
        go false q = tt
    named_adt_downcast AdtKind.Union t v from count h k = tt
    named_adt_downcast AdtKind.Unknown t v from count h k = tt

    named_downcast : (t v : ℕ) (kind : TypeKind) (row : TypeRow) → t < type_count image → type_shape_holds kind image row ≡ true → Named image (downcast_ty t v (shape_by kind image row))
    unfolding downcast_ty shape_by
    named_downcast t v TypeKind.Integer row h e = tt
    named_downcast t v TypeKind.Bool row h e = tt
    named_downcast t v TypeKind.Char row h e = tt
    named_downcast t v TypeKind.Str row h e = tt
    named_downcast t v TypeKind.Tuple row h e = tt
    named_downcast t v TypeKind.Adt row h e = named_adt_downcast (adt_kind row.c) t v row.a row.b h (adt_variants_lem image row refl e).1
    named_downcast t v TypeKind.Reference row h e = tt
    named_downcast t v TypeKind.Array row h e = tt
    named_downcast t v TypeKind.Slice row h e = tt
    named_downcast t v TypeKind.Unknown row h e = tt

    named_ty : (elem : ProjectionElem) (t : ℕ) → t < type_count image → Named image (ty_projection elem image t)
    unfolding ty_projection ty_of
    named_ty ProjectionElem.Deref t h = named_deref _ _ (shape_holds image t holds h)
    named_ty (ProjectionElem.Field i) t h = named_field_ty _ _ i (shape_holds image t holds h)
    named_ty (ProjectionElem.Index i) t h = named_element _ _ (shape_holds image t holds h)
    named_ty (ProjectionElem.IndexFromEnd i) t h = named_element _ _ (shape_holds image t holds h)
    named_ty (ProjectionElem.Subslice a b) t h = named_subslice t _ _ h (shape_holds image t holds h)
    named_ty (ProjectionElem.Downcast v) t h = named_downcast t v _ _ h (shape_holds image t holds h)
    named_ty ProjectionElem.Unknown t h = tt

    named_variant : (elem : ProjectionElem) (v : ℕ) → v < variant_count image → Named image (variant_projection elem image v)
    unfolding variant_projection
    named_variant ProjectionElem.Deref v h = tt
    named_variant (ProjectionElem.Field i) v h = named_variant_field v i h
    named_variant (ProjectionElem.Index i) v h = tt
    named_variant (ProjectionElem.IndexFromEnd i) v h = tt
    named_variant (ProjectionElem.Subslice a b) v h = tt
    named_variant (ProjectionElem.Downcast w) v h = tt
    named_variant ProjectionElem.Unknown v h = tt

    named_part : (elem : ProjectionElem) (t : ℕ) → t < type_count image → Named image (part_projection elem t)
    unfolding part_projection
    named_part ProjectionElem.Deref t h = tt
    named_part (ProjectionElem.Field i) t h = tt
    named_part (ProjectionElem.Index i) t h = h
    named_part (ProjectionElem.IndexFromEnd i) t h = h
    named_part (ProjectionElem.Subslice a b) t h = h
    named_part (ProjectionElem.Downcast v) t h = tt
    named_part ProjectionElem.Unknown t h = tt

    -- The theorem, one element on.
    pub named_projection : (ty : PlaceTy) (elem : ProjectionElem) → Named image ty → Named image (projection_ty ty image elem)
    unfolding projection_ty
    named_projection (PlaceTy.Ty t) elem h = named_ty elem t h
    named_projection (PlaceTy.Variant e v) elem h = named_variant elem v h.1
    named_projection (PlaceTy.Part t) elem h = named_part elem t h
    named_projection PlaceTy.Bool elem h = tt
    named_projection PlaceTy.Usize elem h = tt
    named_projection PlaceTy.I128 elem h = tt
    named_projection PlaceTy.Inapplicable elem h = tt
