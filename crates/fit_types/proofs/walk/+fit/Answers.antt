use mathlib.Core.Path.{refl, sym, ◌∙◌}
use native.Mathlib.Omega.{arith}
use Rattle.fit_shapes.proofs.Numbering.{number_named}
use Rattle.fit_types.proofs.Stepping.{items_first, types_first, pairs_first, each_stop, each_next, each_end, all_stop, all_next, all_end, by_stop, by_next, by_end}
use Rattle.fit_types.proofs.Rowing.{items_left, types_left, pairs_left}
use Rattle.fit_types.proofs.Holding.{sub_below}
use Rattle.fit_types.proofs.Answering.{sub_absent, sub_there}
use Prim.Native.Nat.{◌+◌, ◌*◌}
use Rattle.std.proofs.Math.Nat.{sub-add-eq, sub-eq-zero_of_le}
use Rattle.fit_shapes.proofs.Fielding.{some_left}
use mathlib.Core.Path.{◌≡◌}
use mathlib.Core.Path.{refl}
use Rattle.image.specs.declared.kinds.PatKind.{PatKind}
use Rattle.fit_types.specs.Parts.{parts_fit}
use Rattle.fit_types.proofs.Defaults.{no_parts_lem}
use Rattle.fit_types.proofs.Holding.{node_is, node_type, node_named, tuple_items, or_items, range_start, range_end_lem, path_holds_lem, lit_holds, bind_below, ref_below}
use Rattle.fit_types.proofs.Asking.{node_at, other_type, own_type}
use Rattle.fit_types.proofs.Answering.{tuple_own, ref_own}
use Rattle.fit_types.proofs.Rowing.{items_take, items_drop, types_take, types_last, row_unequal, row_equal, row_surplus, row_before, row_front, row_behind}
use Rattle.fit_types.proofs.Holding.{node_type, tuple_struct_items, tuple_struct_variant, record_pairs, record_variant, slice_within, slice_prefix, slice_suffix, slice_rest}
use Rattle.fit_types.proofs.Answering.{tuple_struct_enum, tuple_struct_own, record_fields_lem, record_enum, record_own, slice_count, slice_other_rest, slice_front, slice_own}
use Rattle.fit_types.proofs.walk.+fit.Goals as goal

-- The walk over patterns that the list names, and over a subpattern that may be absent. Assumes nothing.
pub each_fits-types_fit-requires : goal.each_fits-types_fit-requires
each_fits-types_fit-requires t c =
    let first = items_first _ _ _ (some_left c.loop-k-test.true) (items_drop _ c.loop-k.k (omega (arith, c.loop-k-test.true)) c.requires.1) c.list_at-q.ensures in
    (omega (arith, c.decreases), (c.requires.0.sound, c.requires.0.whole, omega (arith, c.requires.0.inside), types_first _ _ _ (some_left c.loop-k-test.true) (types_left _ c.requires.2 c.loop-k-test.true) c.list_at-ty.ensures))

pub each_fits-returns-then-not-types_fit : goal.each_fits-returns-then-not-types_fit
each_fits-returns-then-not-types_fit t c = each_stop _ _ _ _ (some_left c.loop-k-test.true) c.list_at-q.ensures c.list_at-ty.ensures c.types_fit.ensures c.if-not-types_fit.true ∙ sym c.loop-k.invariant

pub each_fits-loop-k-preserved : goal.each_fits-loop-k-preserved
each_fits-loop-k-preserved t c =
    let on : c.args.at + (c.loop-k.k + 1) ≡ c.args.at + c.loop-k.k + 1 = omega arith in
    let types-on : c.args.types + (c.loop-k.k + 1) ≡ c.args.types + c.loop-k.k + 1 = omega arith in
    rw (on, types-on, sub-add-eq) (c.loop-k.invariant ∙ each_next _ _ _ _ (some_left c.loop-k-test.true) c.list_at-q.ensures c.list_at-ty.ensures c.types_fit.ensures c.if-not-types_fit.false)

pub each_fits-returns : goal.each_fits-returns
each_fits-returns t c = each_end _ _ _ _ (sub-eq-zero_of_le c.loop-k-test.false) ∙ sym c.loop-k.invariant

pub fields_fit-types_fit-requires : goal.fields_fit-types_fit-requires
fields_fit-types_fit-requires t c =
    let first = pairs_first _ _ _ (some_left c.loop-k-test.true) (pairs_left _ c.requires.1 c.loop-k-test.true) c.list_at-q.ensures in
    (omega (arith, c.decreases), (c.requires.0.sound, c.requires.0.whole, omega (arith, c.requires.0.inside), number_named c.field_type-ty.ensures))

pub fields_fit-returns-then-not-types_fit : goal.fields_fit-returns-then-not-types_fit
fields_fit-returns-then-not-types_fit t c = by_stop _ _ _ _ (some_left c.loop-k-test.true) c.list_at-f.ensures c.list_at-q.ensures c.field_type-ty.ensures c.types_fit.ensures c.if-not-types_fit.true ∙ sym c.loop-k.invariant

pub fields_fit-loop-k-preserved : goal.fields_fit-loop-k-preserved
fields_fit-loop-k-preserved t c =
    let on : c.args.at + 2 * (c.loop-k.k + 1) ≡ c.args.at + 2 * c.loop-k.k + 2 = omega arith in
    rw (on, sub-add-eq) (c.loop-k.invariant ∙ by_next _ _ _ _ (some_left c.loop-k-test.true) c.list_at-f.ensures c.list_at-q.ensures c.field_type-ty.ensures c.types_fit.ensures c.if-not-types_fit.false)

pub fields_fit-returns : goal.fields_fit-returns
fields_fit-returns t c = by_end _ _ _ _ (sub-eq-zero_of_le c.loop-k-test.false) ∙ sym c.loop-k.invariant

pub items_all_fit-types_fit-requires : goal.items_all_fit-types_fit-requires
items_all_fit-types_fit-requires t c =
    let first = items_first _ _ _ (some_left c.loop-i-test.true) (items_left _ c.requires.1 c.loop-i.auto.i c.loop-i-test.true) c.list_at-q.ensures in
    (omega (arith, c.decreases), (c.requires.0.sound, c.requires.0.whole, omega (arith, c.requires.0.inside), c.requires.2))

pub items_all_fit-returns-then-not-types_fit : goal.items_all_fit-returns-then-not-types_fit
items_all_fit-returns-then-not-types_fit t c = all_stop _ _ _ _ (some_left c.loop-i-test.true) c.list_at-q.ensures c.types_fit.ensures c.if-not-types_fit.true ∙ sym c.loop-i.invariant

pub items_all_fit-loop-i-preserved : goal.items_all_fit-loop-i-preserved
items_all_fit-loop-i-preserved t c = rw sub-add-eq (c.loop-i.invariant ∙ all_next _ _ _ _ (some_left c.loop-i-test.true) c.list_at-q.ensures c.types_fit.ensures c.if-not-types_fit.false)

pub items_all_fit-returns : goal.items_all_fit-returns
items_all_fit-returns t c = all_end _ _ _ _ (sub-eq-zero_of_le c.loop-i-test.false) ∙ sym c.loop-i.invariant

-- The walk over a pattern, by its kind. Assumes nothing.
pub parts_fit-tuple_fields-fields-requires : goal.parts_fit-tuple_fields-fields-requires
parts_fit-tuple_fields-fields-requires t c = (c.requires.parent.sound, c.requires.parent.whole, node_type c.requires)

pub parts_fit-row_fits-requires : goal.parts_fit-row_fits-requires
parts_fit-row_fits-requires t c = (omega (arith, c.decreases), (c.requires.parent, tuple_items (node_is PatKind.Tuple c.in-Tuple.is c.requires), c.tuple_fields-fields.ensures.types))

pub parts_fit-items_all_fit-requires : goal.parts_fit-items_all_fit-requires
parts_fit-items_all_fit-requires t c = (omega (arith, c.decreases), (c.requires.parent, or_items (node_is PatKind.Or c.in-Or.is c.requires), node_named c.requires))

pub parts_fit-record_fits-requires : goal.parts_fit-record_fits-requires
parts_fit-record_fits-requires t c = (omega (arith, c.decreases), (node_is PatKind.Record c.in-Record.is c.requires))

pub parts_fit-ends_fit-requires : goal.parts_fit-ends_fit-requires
parts_fit-ends_fit-requires t c = (c.requires.parent.sound, c.requires.parent.whole, node_type c.requires, range_start (node_is PatKind.Range c.in-Range.is c.requires), range_end_lem (node_is PatKind.Range c.in-Range.is c.requires))

pub parts_fit-slice_fits-requires : goal.parts_fit-slice_fits-requires
parts_fit-slice_fits-requires t c = (omega (arith, c.decreases), (node_is PatKind.Slice c.in-Slice.is c.requires))

pub parts_fit-path_fits-requires : goal.parts_fit-path_fits-requires
parts_fit-path_fits-requires t c = (c.requires.parent.sound, c.requires.parent.whole, node_type c.requires, rw c.from.ensures (path_holds_lem (node_is PatKind.Path c.in-Path.is c.requires)))

pub parts_fit-literal_fits-requires : goal.parts_fit-literal_fits-requires
parts_fit-literal_fits-requires t c = (c.requires.parent.sound, c.requires.parent.whole, node_type c.requires, lit_holds (node_is PatKind.Lit c.in-Lit.is c.requires))

pub parts_fit-sub_fits-requires : goal.parts_fit-sub_fits-requires
parts_fit-sub_fits-requires t c = (omega (arith, c.decreases), (c.requires.parent, bind_below (node_is PatKind.Bind c.in-Bind.is c.requires), node_named c.requires))

pub parts_fit-tuple_struct_fits-requires : goal.parts_fit-tuple_struct_fits-requires
parts_fit-tuple_struct_fits-requires t c = (omega (arith, c.decreases), (node_is PatKind.TupleStruct c.in-TupleStruct.is c.requires))

pub parts_fit-referent_of-behind-requires : goal.parts_fit-referent_of-behind-requires
parts_fit-referent_of-behind-requires t c = (c.requires.parent.sound, c.requires.parent.whole, node_type c.requires)

pub parts_fit-types_fit-requires : goal.parts_fit-types_fit-requires
parts_fit-types_fit-requires t c =
    let first = ref_below (node_is PatKind.Ref c.in-Ref.is c.requires) in
    (omega (arith, c.decreases), (c.requires.parent.sound, c.requires.parent.whole, omega (arith, c.requires.parent.inside), number_named c.referent_of-behind.ensures))

pub parts_fit-returns-in-Tuple : goal.parts_fit-returns-in-Tuple
parts_fit-returns-in-Tuple t c = rw c.in-Tuple.is (tuple_own _ _ c.tuple_fields-fields.ensures c.row_fits.ensures)

pub parts_fit-returns-in-Or : goal.parts_fit-returns-in-Or
unfolding parts_fit
parts_fit-returns-in-Or t c = rw c.in-Or.is c.items_all_fit.ensures

pub parts_fit-returns-in-Record : goal.parts_fit-returns-in-Record
parts_fit-returns-in-Record t c = rw c.in-Record.is c.record_fits.ensures

pub parts_fit-returns-in-Range : goal.parts_fit-returns-in-Range
unfolding parts_fit
parts_fit-returns-in-Range t c = rw c.in-Range.is c.ends_fit.ensures

pub parts_fit-returns-in-Slice : goal.parts_fit-returns-in-Slice
parts_fit-returns-in-Slice t c = rw c.in-Slice.is c.slice_fits.ensures

pub parts_fit-returns-in-Path : goal.parts_fit-returns-in-Path
unfolding parts_fit
parts_fit-returns-in-Path t c = rw (c.in-Path.is, ← c.from.ensures) c.path_fits.ensures

pub parts_fit-returns-in-Lit : goal.parts_fit-returns-in-Lit
unfolding parts_fit
parts_fit-returns-in-Lit t c = rw c.in-Lit.is c.literal_fits.ensures

pub parts_fit-returns-in-Bind : goal.parts_fit-returns-in-Bind
unfolding parts_fit
parts_fit-returns-in-Bind t c = rw c.in-Bind.is c.sub_fits.ensures

pub parts_fit-returns-in-TupleStruct : goal.parts_fit-returns-in-TupleStruct
parts_fit-returns-in-TupleStruct t c = rw c.in-TupleStruct.is c.tuple_struct_fits.ensures

pub parts_fit-returns-in-Ref : goal.parts_fit-returns-in-Ref
parts_fit-returns-in-Ref t c = rw c.in-Ref.is (ref_own _ _ c.referent_of-behind.ensures c.types_fit.ensures)

pub parts_fit-returns-in_default : goal.parts_fit-returns-in_default
parts_fit-returns-in_default t c = no_parts_lem _ _ _ c.in_default.in_default-own.keys11

-- The walk over the rows of arguments, and over Record, TupleStruct and Slice. Assumes nothing.
pub record_fits-record_fields_differ-requires : goal.record_fits-record_fields_differ-requires
record_fits-record_fields_differ-requires t c = (c.requires.parent.whole, (record_pairs c.requires).within)

pub record_fits-returns-then-not-record_fields_differ : goal.record_fits-returns-then-not-record_fields_differ
record_fits-returns-then-not-record_fields_differ t c = record_fields_lem _ _ c.record_fields_differ.ensures (c.if-not-record_fields_differ.true)

pub record_fits-discriminants_differ-requires : goal.record_fits-discriminants_differ-requires
record_fits-discriminants_differ-requires t c = (c.requires.parent.sound, c.requires.parent.whole, node_type c.requires)

pub record_fits-returns-then-not-discriminants_differ : goal.record_fits-returns-then-not-discriminants_differ
record_fits-returns-then-not-discriminants_differ t c = record_enum _ _ c.record_fields_differ.ensures (c.if-not-record_fields_differ.false) c.discriminants_differ.ensures (c.if-not-discriminants_differ.true)

pub record_fits-variant_fields-fields-requires : goal.record_fits-variant_fields-fields-requires
record_fits-variant_fields-fields-requires t c = (c.requires.parent.sound, c.requires.parent.whole, node_type c.requires, record_variant c.requires)

pub record_fits-fields_fit-requires : goal.record_fits-fields_fit-requires
record_fits-fields_fit-requires t c = (omega (arith, c.decreases), (c.requires.parent, record_pairs c.requires, c.variant_fields-fields.ensures.types))

pub record_fits-returns : goal.record_fits-returns
record_fits-returns t c = record_own _ _ c.record_fields_differ.ensures (c.if-not-record_fields_differ.false) c.discriminants_differ.ensures (c.if-not-discriminants_differ.false) c.variant_fields-fields.ensures c.fields_fit.ensures

pub row_fits-returns-then-count-fields : goal.row_fits-returns-then-count-fields
row_fits-returns-then-count-fields t c = row_unequal _ _ _ _ _ _ c.if-ellipsis-eq65535.true (λ e. omega (arith, c.if-count-fields.true))

pub row_fits-each_fits-requires : goal.row_fits-each_fits-requires
row_fits-each_fits-requires t c = (omega (arith, c.decreases), (c.requires.0, c.requires.1, types_take _ _ (omega (arith, c.if-count-fields.false)) c.requires.2))

pub row_fits-returns-then-ellipsis-eq65535 : goal.row_fits-returns-then-ellipsis-eq65535
row_fits-returns-then-ellipsis-eq65535 t c = row_equal _ _ _ _ _ _ c.if-ellipsis-eq65535.true (omega (arith, c.if-count-fields.false)) c.each_fits.ensures

pub row_fits-returns-then-fields-count : goal.row_fits-returns-then-fields-count
row_fits-returns-then-fields-count t c = row_surplus _ _ _ _ _ _ c.if-ellipsis-eq65535.false (omega (arith, c.if-fields-count.true))

pub row_fits-each_fits-requires-then-count-ellipsis : goal.row_fits-each_fits-requires-then-count-ellipsis
row_fits-each_fits-requires-then-count-ellipsis t c = (omega (arith, c.decreases), (c.requires.0, c.requires.1, types_take _ _ (omega (arith, c.if-fields-count.false)) c.requires.2))

pub row_fits-returns-then-count-ellipsis : goal.row_fits-returns-then-count-ellipsis
row_fits-returns-then-count-ellipsis t c = row_before _ _ _ _ _ _ c.if-ellipsis-eq65535.false c.if-fields-count.false c.if-count-ellipsis.true c.each_fits-then-count-ellipsis.ensures

pub row_fits-each_fits-requires-2 : goal.row_fits-each_fits-requires-2
row_fits-each_fits-requires-2 t c = (omega (arith, c.decreases), (c.requires.0, items_take _ _ (omega (arith, c.if-count-ellipsis.false)) c.requires.1, types_take _ _ (omega (arith, c.if-fields-count.false, c.if-count-ellipsis.false)) c.requires.2))

pub row_fits-returns-then-not-each_fits : goal.row_fits-returns-then-not-each_fits
row_fits-returns-then-not-each_fits t c = row_front _ _ _ _ _ _ c.if-ellipsis-eq65535.false c.if-fields-count.false c.if-count-ellipsis.false c.each_fits-2.ensures (c.if-not-each_fits.true)

pub row_fits-overflow_add-at : goal.row_fits-overflow_add-at
row_fits-overflow_add-at t c = omega (arith, c.if-count-ellipsis.false, c.requires.1.within, c.requires.0.whole.list_count_lem, c.well_formed.1.0)

pub row_fits-overflow_add-fields : goal.row_fits-overflow_add-fields
row_fits-overflow_add-fields t c = omega (arith, c.if-fields-count.false, c.if-count-ellipsis.false, c.requires.2.within, c.requires.0.whole.list_count_lem, c.well_formed.1.0)

pub row_fits-each_fits-requires-3 : goal.row_fits-each_fits-requires-3
row_fits-each_fits-requires-3 t c = (omega (arith, c.decreases), (c.requires.0, items_drop _ _ (omega (arith, c.if-count-ellipsis.false)) c.requires.1, types_last _ _ (omega (arith, c.if-fields-count.false, c.if-count-ellipsis.false)) c.requires.2))

pub row_fits-returns : goal.row_fits-returns
row_fits-returns t c = row_behind _ _ _ _ _ _ c.if-ellipsis-eq65535.false c.if-fields-count.false c.if-count-ellipsis.false c.each_fits-2.ensures (c.if-not-each_fits.false) c.each_fits-3.ensures

pub slice_fits-overflow_add-row : goal.slice_fits-overflow_add-row
slice_fits-overflow_add-row t c = omega (arith, slice_within c.requires, c.requires.parent.whole.list_count_lem, c.well_formed.1.0)

pub slice_fits-items_fit-requires : goal.slice_fits-items_fit-requires
slice_fits-items_fit-requires t c = (c.requires.parent.sound, c.requires.parent.whole, node_type c.requires)

pub slice_fits-returns-then-not-items_fit : goal.slice_fits-returns-then-not-items_fit
slice_fits-returns-then-not-items_fit t c = slice_count _ _ c.items_fit.ensures (c.if-not-items_fit.true)

pub slice_fits-rest_fits-requires : goal.slice_fits-rest_fits-requires
slice_fits-rest_fits-requires t c = (c.requires.parent.sound, c.requires.parent.whole, slice_rest c.requires)

pub slice_fits-returns-then-not-rest_fits : goal.slice_fits-returns-then-not-rest_fits
slice_fits-returns-then-not-rest_fits t c = slice_other_rest _ _ c.items_fit.ensures (c.if-not-items_fit.false) c.rest_fits.ensures (c.if-not-rest_fits.true)

pub slice_fits-element_type-element-requires : goal.slice_fits-element_type-element-requires
slice_fits-element_type-element-requires t c = (c.requires.parent.sound, c.requires.parent.whole, node_type c.requires)

pub slice_fits-items_all_fit-requires : goal.slice_fits-items_all_fit-requires
slice_fits-items_all_fit-requires t c = (omega (arith, c.decreases), (c.requires.parent, slice_prefix c.requires, number_named c.element_type-element.ensures))

pub slice_fits-returns-then-not-items_all_fit : goal.slice_fits-returns-then-not-items_all_fit
slice_fits-returns-then-not-items_all_fit t c = slice_front _ _ c.items_fit.ensures (c.if-not-items_fit.false) c.rest_fits.ensures (c.if-not-rest_fits.false) c.element_type-element.ensures c.items_all_fit.ensures (c.if-not-items_all_fit.true)

pub slice_fits-overflow_add-row-2 : goal.slice_fits-overflow_add-row-2
slice_fits-overflow_add-row-2 t c = omega (arith, slice_within c.requires, c.requires.parent.whole.list_count_lem, c.well_formed.1.0)

pub slice_fits-items_all_fit-requires-2 : goal.slice_fits-items_all_fit-requires-2
slice_fits-items_all_fit-requires-2 t c = (omega (arith, c.decreases), (c.requires.parent, slice_suffix c.requires, number_named c.element_type-element.ensures))

pub slice_fits-returns : goal.slice_fits-returns
slice_fits-returns t c = slice_own _ _ c.items_fit.ensures (c.if-not-items_fit.false) c.rest_fits.ensures (c.if-not-rest_fits.false) c.element_type-element.ensures c.items_all_fit.ensures (c.if-not-items_all_fit.false) c.items_all_fit-2.ensures

pub sub_fits-returns-then-q-eq65535 : goal.sub_fits-returns-then-q-eq65535
sub_fits-returns-then-q-eq65535 t c = sub_absent _ _ _ c.if-q-eq65535.true

pub sub_fits-types_fit-requires : goal.sub_fits-types_fit-requires
sub_fits-types_fit-requires t c =
    let first = sub_below _ _ c.if-q-eq65535.false c.requires.1 in
    (omega (arith, c.decreases), (c.requires.0.sound, c.requires.0.whole, omega (arith, c.requires.0.inside), c.requires.2))

pub sub_fits-returns : goal.sub_fits-returns
sub_fits-returns t c = c.types_fit.ensures ∙ sub_there _ _ _ c.if-q-eq65535.false

pub tuple_struct_fits-discriminants_differ-requires : goal.tuple_struct_fits-discriminants_differ-requires
tuple_struct_fits-discriminants_differ-requires t c = (c.requires.parent.sound, c.requires.parent.whole, node_type c.requires)

pub tuple_struct_fits-returns-then-not-discriminants_differ : goal.tuple_struct_fits-returns-then-not-discriminants_differ
tuple_struct_fits-returns-then-not-discriminants_differ t c = tuple_struct_enum _ _ c.discriminants_differ.ensures (c.if-not-discriminants_differ.true)

pub tuple_struct_fits-variant_fields-fields-requires : goal.tuple_struct_fits-variant_fields-fields-requires
tuple_struct_fits-variant_fields-fields-requires t c = (c.requires.parent.sound, c.requires.parent.whole, node_type c.requires, tuple_struct_variant c.requires)

pub tuple_struct_fits-row_fits-requires : goal.tuple_struct_fits-row_fits-requires
tuple_struct_fits-row_fits-requires t c = (omega (arith, c.decreases), (c.requires.parent, tuple_struct_items c.requires, c.variant_fields-fields.ensures.types))

pub tuple_struct_fits-returns : goal.tuple_struct_fits-returns
tuple_struct_fits-returns t c = tuple_struct_own _ _ c.discriminants_differ.ensures (c.if-not-discriminants_differ.false) c.variant_fields-fields.ensures c.row_fits.ensures

pub types_fit-returns-then-not-type_is_the_places : goal.types_fit-returns-then-not-type_is_the_places
types_fit-returns-then-not-type_is_the_places t c = other_type (node_at c.requires.0 c.requires.1 c.requires.2 c.pat_at-row.ensures refl) _ c.type_is_the_places.ensures (c.if-not-type_is_the_places.true)

pub types_fit-parts_fit-requires : goal.types_fit-parts_fit-requires
types_fit-parts_fit-requires t c = (omega (arith, c.decreases), (node_at c.requires.0 c.requires.1 c.requires.2 c.pat_at-row.ensures c.from.ensures))

pub types_fit-returns : goal.types_fit-returns
types_fit-returns t c = own_type (node_at c.requires.0 c.requires.1 c.requires.2 c.pat_at-row.ensures c.from.ensures) _ c.type_is_the_places.ensures (c.if-not-type_is_the_places.false) c.parts_fit.ensures
