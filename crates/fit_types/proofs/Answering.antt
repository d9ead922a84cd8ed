-- The answers of the tests of a row's parts, put together as the definition has them. Assumes nothing.
use Prim.Native.Nat.{ℕ, ◌+◌}
use mathlib.Core.Path.{◌≡◌, sym, ap, ◌∙◌}
use mathlib.Core.Bool.{Bool, true, false}
use mathlib.Core.Option.{Option}
use mathlib.Core.List.{List, map}
use Rattle.image.specs.declared.kinds.PatKind.{PatKind}
use Rattle.image.specs.declared.rows.PatRow.{PatRow}
use Rattle.image.specs.Rules.{absent, listed}
use Rattle.image.specs.Types.{Shape, ty_of}
use Rattle.image.specs.Tree.{tree?, tree, word?}
use Rattle.cases_spec.specs.Cases.{referent, tuple_fields}
use Rattle.meaning.specs.Typing.{variant_fields, element_type}
use Rattle.meaning.specs.Fit.{record_fields_differ, discriminants_differ, items_fit, rest_fits, row_fits, by_fields_fit, items_all_fit, types_fit, types_fit?}
use Rattle.fit_shapes.specs.Results.{TypeNumber}
use Rattle.fit_shapes.specs.declared.fields.Fields.{Fields}
use Rattle.fit_shapes.specs.Numbers.{type_number, Numbers, FieldsOf}
use Rattle.fit_types.specs.Parts.{fitting_at, parts_fit}
use Rattle.fit_shapes.proofs.Resting.{tree_absent, tree_there}

-- `sub_fits`
module _ (image : List ℕ) (q : ℕ) (place : Option ℕ) where
  pub sub_absent : q ≡ absent → true ≡ types_fit? image (tree? (tree image) q) place
  unfolding types_fit?
  sub_absent e = rw (tree_absent (tree image) q e)

  pub sub_there : (q ≡ absent → ⊥) → types_fit image (tree image q) place ≡ types_fit? image (tree? (tree image) q) place
  unfolding types_fit?
  sub_there h = rw (tree_there (tree image) q h)

module _ (image : List ℕ) (row : PatRow) where
  abbrev shape : Shape
  shape = (ty_of image row.ty).shape

  -- the arguments of a Tuple
  pub tuple_own : {fields : Fields} {r : Bool} → FieldsOf image fields (tuple_fields shape) → r ≡ row_fits (word? row.c) (fitting_at image 1 row.a row.b) (listed image 1 fields.from fields.count)
      → r ≡ parts_fit image PatKind.Tuple row
  unfolding parts_fit
  tuple_own of e = e ∙ ap (row_fits (word? row.c) (fitting_at image 1 row.a row.b)) of.are

  -- a Ref's subpattern
  pub ref_own : {n : TypeNumber} {r : Bool} → Numbers image n (referent shape) → r ≡ types_fit image (tree image row.a) (type_number n) → r ≡ parts_fit image PatKind.Ref row
  unfolding parts_fit
  ref_own number e = e ∙ ap (types_fit image (tree image row.a)) number.is

  -- a TupleStruct: its enum, and its arguments
  module _ {r : Bool} (differ : r ≡ discriminants_differ image shape) where
    pub tuple_struct_enum : r ≡ false → false ≡ parts_fit image PatKind.TupleStruct row
    unfolding parts_fit
    tuple_struct_enum e = rw (sym differ ∙ e)

    pub tuple_struct_own : r ≡ true → {fields : Fields} {s : Bool} → FieldsOf image fields (variant_fields image shape (word? row.d))
        → s ≡ row_fits (word? row.c) (fitting_at image 1 row.a row.b) (listed image 1 fields.from fields.count) → s ≡ parts_fit image PatKind.TupleStruct row
    unfolding parts_fit
    tuple_struct_own e of fits = fits ∙ rw (sym differ ∙ e, of.are)

  -- a Record: its fields' numbers, its enum, and its fields
  module _ {r : Bool} (apart : r ≡ record_fields_differ (map word? (listed image 2 row.a row.b))) where
    pub record_fields_lem : r ≡ false → false ≡ parts_fit image PatKind.Record row
    unfolding parts_fit
    record_fields_lem e = rw (sym apart ∙ e)

    module _ (one : r ≡ true) {s : Bool} (differ : s ≡ discriminants_differ image shape) where
      pub record_enum : s ≡ false → false ≡ parts_fit image PatKind.Record row
      unfolding parts_fit
      record_enum e = rw (sym apart ∙ one, sym differ ∙ e)

      pub record_own : s ≡ true → {fields : Fields} {u : Bool} → FieldsOf image fields (variant_fields image shape (word? row.c))
          → u ≡ by_fields_fit (map word? (listed image 2 row.a row.b)) (fitting_at image 2 (row.a + 1) row.b) (listed image 1 fields.from fields.count)
          → u ≡ parts_fit image PatKind.Record row
      unfolding parts_fit
      record_own e of fits = fits ∙ rw (sym apart ∙ one, sym differ ∙ e, of.are)

  -- a Slice: the count of its items, its rest, its prefix and its suffix
  module _ {r : Bool} (count : r ≡ items_fit shape (tree? (tree image) row.d) (row.b + row.c)) where
    pub slice_count : r ≡ false → false ≡ parts_fit image PatKind.Slice row
    unfolding parts_fit
    slice_count e = rw (sym count ∙ e)

    module _ (one : r ≡ true) {s : Bool} (rest : s ≡ rest_fits (tree? (tree image) row.d)) where
      pub slice_other_rest : s ≡ false → false ≡ parts_fit image PatKind.Slice row
      unfolding parts_fit
      slice_other_rest e = rw (sym count ∙ one, sym rest ∙ e)

      module _ (two : s ≡ true) {n : TypeNumber} (number : Numbers image n (element_type shape)) {u : Bool} (front : u ≡ items_all_fit (fitting_at image 1 row.a row.b) (type_number n)) where
        pub slice_front : u ≡ false → false ≡ parts_fit image PatKind.Slice row
        unfolding parts_fit
        slice_front e = rw (sym count ∙ one, sym rest ∙ two, ← number.is, sym front ∙ e)

        pub slice_own : u ≡ true → {w : Bool} → w ≡ items_all_fit (fitting_at image 1 (row.a + row.b) row.c) (type_number n) → w ≡ parts_fit image PatKind.Slice row
        unfolding parts_fit
        slice_own e last = last ∙ rw (sym count ∙ one, sym rest ∙ two, ← number.is, sym front ∙ e)
