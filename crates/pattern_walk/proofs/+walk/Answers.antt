use Rattle.refusals.proofs.Passing.{passed_none}
use Rattle.refusals.proofs.Passing.{passed}
use Rattle.std.specs.Prelude.{Ok, Err}
use Rattle.image.specs.Kinds.{pat_kind}
use Prim.Native.Nat.{ℕ}
use mathlib.Core.Path.{sym, ◌∙◌}
use native.Mathlib.Omega.{arith}
use borrow.Author.Rules.{rules}
use Rattle.image.specs.Tree.{tree}
use Rattle.pattern_matching.specs.Patterns.{pattern_match_inner}
use Rattle.pattern_walk_laws.proofs.Asking.{walkable_after, walkable_sure, asks_visit}
use Rattle.pattern_walk_laws.proofs.Trying.{alternative_stops, alternative_tested, alternative_again}
use Rattle.pattern_idle.proofs.Idling.{idle_walks}
use Rattle.pattern_alternatives.proofs.Again.{again_ends}
use Prim.Native.Nat.{◌-◌}
use Rattle.body_tables.specs.Layout.{body_of}
use Rattle.pattern_nodes.proofs.Each.{item_below, item_lies, items_few}
use Rattle.pattern_walk_laws.proofs.Asking.{walkable_after, walkable_sure, walkable_block, asks_word, asks_goto}
use Rattle.pattern_walk_laws.proofs.Alternatives.{alternatives_over, alternatives_stop, alternatives_sure, AlternativesGoing, alternatives_begin, alternatives_again, or_full, or_goes}
use mathlib.Core.Path.{refl, sym, ◌∙◌}
use Prim.Native.Nat.{◌-◌, ◌<◌}
use Rattle.image.specs.Tables.{pattern_count}
use Rattle.pattern_nodes.proofs.Each.{argument_lies, argument_at}
use Rattle.pattern_entering.proofs.Visiting.{project_goes}
use Rattle.pattern_walk_laws.proofs.Asking.{walkable_at, asks_visit}
use Rattle.pattern_walk_laws.proofs.Looking.{projected_reaches}
use Rattle.pattern_walk_laws.proofs.Arguments.{arguments_end, argument_full, argument_stops, no_room, some_room, room_taken, argument_fits, ArgumentsGoing, arguments_begin, arguments_again}
use Rattle.pattern_nodes.proofs.Each.{subpattern_there}
use Rattle.pattern_walk_laws.proofs.Asking.{walkable_after, asks_bind}
use Rattle.pattern_walk_laws.proofs.References.{bind_alone, bind_stops, bind_then}
use mathlib.Core.Path.{sym, ap, ap₂, ◌∙◌}
use borrow.Author.Tests.{not-true, not-false}
use Rattle.pattern_nodes.specs.Leaves.{is_leaf}
use Rattle.pattern_nodes.proofs.Known.{row_typed, row_shape}
use Rattle.pattern_walk_laws.proofs.Asking.{walkable_at, asks_row, asks_type}
use Rattle.pattern_walk_laws.proofs.Descending.{entered_there, entered_walkable, entered_leaf}
use Rattle.pattern_rows.specs.Rows.{compound_kind}
use Rattle.pattern_nodes.proofs.Branches.{tuple_kind, or_kind, slice_kind, bind_kind, ref_kind}
use Rattle.pattern_nodes.proofs.There.{tuple_there, or_there, slice_there, bind_there, ref_there, names_variant}
use Rattle.pattern_nodes.proofs.Each.{variant_there}
use Rattle.pattern_walk_laws.proofs.Entering.{kind_no_tuple, kind_tuple, kind_or, kind_slice, kind_bind, kind_ref, kind_variant}
use Rattle.pattern_walk_laws.proofs.References.{ref_refused, ref_stops, ref_goes}
use Rattle.pattern_walk_laws.proofs.Variants.{variant_none, variant_some}
use Prim.Native.Nat.{ℕ, ◌+◌, ◌*◌, ◌<◌}
use mathlib.Core.Path.{refl}
use Prim.Native.Nat.{◌+◌}
use Rattle.pattern_nodes.proofs.Each.{back_lies, back_few}
use Rattle.pattern_walk_laws.proofs.Asking.{walkable_after, walkable_behind, asks_rest}
use Rattle.pattern_walk_laws.proofs.Slices.{slice_behind_stops, slice_behind_then, slice_behind_none, slice_items_stop, slice_items_then, slice_stops, slice_then}
use Rattle.pattern_nodes.proofs.Each.{items_few, fields_there_lem, last_fields_there}
use Rattle.pattern_walk_laws.proofs.Asking.{walkable_after}
use Rattle.pattern_walk_laws.proofs.Variants.{tuple_like_stops, tuple_like_first, tuple_like_then, tuple_like_none_behind}
use mathlib.Core.Path.{ap, ◌∙◌}
use Rattle.image.specs.declared.rows.VariantRow.{VariantRow}
use Rattle.pattern_parts.proofs.Needed.{variant_count_lem}
use Rattle.pattern_walk_laws.proofs.Asking.{walkable_behind, walkable_at, asks_type, asks_variant}
use Rattle.pattern_walk_laws.proofs.Variants.{variant_refused, variant_struct, variant_enum, enum_refused, enum_full, enum_fields}
use Rattle.pattern_nodes.proofs.Each.{record_fields_lem}
use Rattle.pattern_walk_laws.proofs.Variants.{fields_unit, fields_tuple, fields_absent, fields_record}
use Rattle.pattern_walk.proofs.+walk.Goals as goal

pub adt::pattern_match_adt-loop-i-init : goal.adt::pattern_match_adt-loop-i-init
adt::pattern_match_adt-loop-i-init t c = arguments_begin c.args.row _ _ _ _ _ _ _ _ _ _ _ _ _ _ c.requires.walkable

pub adt::pattern_match_adt-returns-then-place-ge16 : goal.adt::pattern_match_adt-returns-then-place-ge16
adt::pattern_match_adt-returns-then-place-ge16 t c = c.loop-i.invariant.rest (argument_full c.args.row c.args.image.now c.args.bindings.now c.args.p c.args.from c.args.fields c.args.count c.args.mode c.args.place c.loop-i.i _ _ _ _ _ c.loop-i-test.true refl (no_room c.args.place _ c.if-place-ge16.true))

pub adt::pattern_match_adt-argument_pat-q-requires : goal.adt::pattern_match_adt-argument_pat-q-requires
adt::pattern_match_adt-argument_pat-q-requires t c = (c.requires.walkable.image_valid, c.requires.walkable.whole, argument_lies c.args.image.now c.args.p.0 c.args.from c.args.fields c.args.count c.loop-i.i c.loop-i-test.true c.args.row c.requires.p_bound.1)

pub adt::pattern_match_adt-nothing_to_do-requires : goal.adt::pattern_match_adt-nothing_to_do-requires
adt::pattern_match_adt-nothing_to_do-requires t c = (c.requires.walkable.image_valid, c.requires.walkable.whole, omega (arith, c.argument_pat-q.ensures, c.requires.p_bound.0, c.requires.p_bound.1.below c.loop-i.i c.loop-i-test.true))

pub adt::pattern_match_adt-visit-requires : goal.adt::pattern_match_adt-visit-requires
adt::pattern_match_adt-visit-requires t c = (search rules, asks_visit c.loop-i.invariant.walkable (omega (arith, c.argument_pat-q.ensures, c.requires.p_bound.0, c.requires.p_bound.1.below c.loop-i.i c.loop-i-test.true)))

pub adt::pattern_match_adt-loop-i-preserved-then-nothing_to_do : goal.adt::pattern_match_adt-loop-i-preserved-then-nothing_to_do
adt::pattern_match_adt-loop-i-preserved-then-nothing_to_do t c =
    let q = c.argument_pat-q.result in
    let there = some_room c.args.place _ (omega (arith, c.if-place-ge16.false)) in
    let below : c.argument_pat-q.result.0 < pattern_count c.args.image.now = omega (arith, c.argument_pat-q.ensures, c.requires.p_bound.0, c.requires.p_bound.1.below c.loop-i.i c.loop-i-test.true) in
    arguments_again c.loop-i.invariant c.loop-i-test.true refl there q c.argument_pat-q.ensures
    (idle_walks c.args.image.now c.args.bindings.now q c.args.mode _ _ _ _ _ c.requires.walkable.image_valid below c.loop-i.invariant.walkable.begins c.visit.ensures (sym c.nothing_to_do.ensures ∙ c.if-nothing_to_do.true) _)

pub adt::pattern_match_adt-argument_elem-requires : goal.adt::pattern_match_adt-argument_elem-requires
adt::pattern_match_adt-argument_elem-requires t c = (c.requires.walkable.image_valid, c.requires.walkable.whole, argument_at c.args.image.now c.args.p.0 c.args.from c.args.fields c.args.count c.loop-i.i c.loop-i-test.true c.args.row c.requires.p_bound.1)

pub adt::pattern_match_adt-project-onward-requires : goal.adt::pattern_match_adt-project-onward-requires
adt::pattern_match_adt-project-onward-requires t c = argument_fits _ _ _ _ _ c.argument_elem.ensures

pub adt::pattern_match_adt-pattern_match_inner-requires : goal.adt::pattern_match_adt-pattern_match_inner-requires
adt::pattern_match_adt-pattern_match_inner-requires t c =
    let below = c.requires.p_bound.1.below c.loop-i.i c.loop-i-test.true in
    let room = room_taken _ _ c.project-onward.ensures (omega (arith, c.if-place-ge16.false)) in
    (omega (arith, c.decreases, c.argument_pat-q.ensures, below), (walkable_at c.loop-i.invariant.walkable (projected_reaches _ _ c.project-onward.ensures room), omega (arith, c.argument_pat-q.ensures, below, c.requires.p_bound.0)))

pub adt::pattern_match_adt-returns-in_err-c1 : goal.adt::pattern_match_adt-returns-in_err-c1
adt::pattern_match_adt-returns-in_err-c1 t c =
    let there = project_goes _ _ c.project-onward.ensures (room_taken _ _ c.project-onward.ensures (omega (arith, c.if-place-ge16.false))) in
    rw (passed _ _ c.from_residual.ensures.1) (c.loop-i.invariant.rest (argument_stops c.args.row c.args.image.now c.args.bindings.now c.args.p c.args.from c.args.fields c.args.count c.args.mode c.args.place c.loop-i.i c.loop-i.c c.loop-i.here c.loop-i.other _ _ c.loop-i-test.true c.argument_elem.ensures there c.argument_pat-q.result c.argument_pat-q.ensures c.in_err-c1.ensures))

pub adt::pattern_match_adt-loop-i-preserved : goal.adt::pattern_match_adt-loop-i-preserved
adt::pattern_match_adt-loop-i-preserved t c =
    let there = project_goes _ _ c.project-onward.ensures (room_taken _ _ c.project-onward.ensures (omega (arith, c.if-place-ge16.false))) in
    arguments_again c.loop-i.invariant c.loop-i-test.true c.argument_elem.ensures there c.argument_pat-q.result c.argument_pat-q.ensures c.in_ok-c1.ensures

pub adt::pattern_match_adt-returns : goal.adt::pattern_match_adt-returns
adt::pattern_match_adt-returns t c = c.loop-i.invariant.rest (arguments_end c.args.row c.args.image.now c.args.bindings.now c.args.p c.args.from c.args.fields c.args.count c.args.mode c.args.place c.loop-i.i c.loop-i.c c.loop-i.here c.loop-i.other _ _ c.loop-i-test.false c.loop-i.invariant.walkable.begins)

pub adt::pattern_match_tuple_like-ellipsis_at-before-requires : goal.adt::pattern_match_tuple_like-ellipsis_at-before-requires
adt::pattern_match_tuple_like-ellipsis_at-before-requires t c = tt

pub adt::pattern_match_tuple_like-returns-then-count-before : goal.adt::pattern_match_tuple_like-returns-then-count-before
adt::pattern_match_tuple_like-returns-then-count-before t c = tuple_like_stops c.args.image.now c.args.bindings.now c.args.p c.args.mode c.args.counts c.args.current c.args.els c.args.place _ _ c.args.from c.args.count c.args.ellipsis c.args.fields c.ellipsis_at-before.result c.ellipsis_at-before.ensures c.if-count-before.true

pub adt::pattern_match_tuple_like-least-requires : goal.adt::pattern_match_tuple_like-least-requires
adt::pattern_match_tuple_like-least-requires t c = tt

pub adt::pattern_match_tuple_like-pattern_match_adt-requires : goal.adt::pattern_match_tuple_like-pattern_match_adt-requires
adt::pattern_match_tuple_like-pattern_match_adt-requires t c = (omega (arith, c.decreases), (c.requires.walkable, (c.requires.p_bound.0, rw c.least.ensures (fields_there_lem c.args.image.now c.args.p.0 c.args.from c.args.count c.requires.p_bound.1 c.args.fields c.ellipsis_at-before.result c.if-count-before.false))))

pub adt::pattern_match_tuple_like-returns-in_err-c1 : goal.adt::pattern_match_tuple_like-returns-in_err-c1
adt::pattern_match_tuple_like-returns-in_err-c1 t c = rw (passed _ _ c.from_residual.ensures.1) (tuple_like_first c.args.image.now c.args.bindings.now c.args.p c.args.mode c.args.counts c.args.current c.args.els c.args.place _ _ c.args.from c.args.count c.args.ellipsis c.args.fields c.ellipsis_at-before.result c.ellipsis_at-before.ensures c.if-count-before.false c.least.result c.least.ensures c.in_err-c1.ensures)

pub adt::pattern_match_tuple_like-returns-then-count-before-2 : goal.adt::pattern_match_tuple_like-returns-then-count-before-2
adt::pattern_match_tuple_like-returns-then-count-before-2 t c = tuple_like_none_behind c.args.image.now c.args.bindings.now c.args.p c.args.mode c.args.counts c.args.current c.args.els c.args.place _ _ c.args.from c.args.count c.args.ellipsis c.args.fields c.ellipsis_at-before.result c.ellipsis_at-before.ensures c.if-count-before.false c.least.result c.least.ensures c.requires.walkable.ready c.in_ok-c1.ensures c.if-count-before-2.true

pub adt::pattern_match_tuple_like-overflow_add-from : goal.adt::pattern_match_tuple_like-overflow_add-from
adt::pattern_match_tuple_like-overflow_add-from t c = omega (arith, items_few c.args.image.now c.args.p.0 c.args.from c.args.count c.requires.p_bound.1 c.requires.walkable.image_valid)

pub adt::pattern_match_tuple_like-least-requires-2 : goal.adt::pattern_match_tuple_like-least-requires-2
adt::pattern_match_tuple_like-least-requires-2 t c = tt

pub adt::pattern_match_tuple_like-pattern_match_adt-requires-2 : goal.adt::pattern_match_tuple_like-pattern_match_adt-requires-2
adt::pattern_match_tuple_like-pattern_match_adt-requires-2 t c = (omega (arith, c.decreases), (walkable_after c.requires.walkable c.in_ok-c1.ensures, (c.requires.p_bound.0, rw c.least-2.ensures (last_fields_there c.args.image.now c.args.p.0 c.args.from c.args.count c.requires.p_bound.1 c.args.fields c.ellipsis_at-before.result c.if-count-before.false))))

pub adt::pattern_match_tuple_like-returns : goal.adt::pattern_match_tuple_like-returns
adt::pattern_match_tuple_like-returns t c = tuple_like_then c.args.image.now c.args.bindings.now c.args.p c.args.mode c.args.counts c.args.current c.args.els c.args.place _ _ c.args.from c.args.count c.args.ellipsis c.args.fields c.ellipsis_at-before.result c.ellipsis_at-before.ensures c.if-count-before.false c.least.result c.least.ensures c.least-2.result c.requires.walkable.ready c.in_ok-c1.ensures c.least-2.ensures c.pattern_match_adt-2.ensures

pub adt::pattern_matching_variant-variant_at-fields-requires : goal.adt::pattern_matching_variant-variant_at-fields-requires
adt::pattern_matching_variant-variant_at-fields-requires t c = asks_variant c.requires.walkable c.requires.p_bound.1

pub adt::pattern_matching_variant-place_ty-requires : goal.adt::pattern_matching_variant-place_ty-requires
adt::pattern_matching_variant-place_ty-requires t c = let r = asks_type c.requires.walkable in record { image_value = r.0; named = r.1 }

pub adt::pattern_matching_variant-adt_at-requires : goal.adt::pattern_matching_variant-adt_at-requires
adt::pattern_matching_variant-adt_at-requires t c = (c.requires.walkable.image_valid, c.requires.walkable.whole, c.place_ty.ensures.1)

pub adt::pattern_matching_variant-pattern_matching_variant_fields-requires : goal.adt::pattern_matching_variant-pattern_matching_variant_fields-requires
adt::pattern_matching_variant-pattern_matching_variant_fields-requires t c = (omega (arith, c.decreases), (c.requires.walkable, (c.requires.p_bound.0, c.requires.p_bound.2)))

pub adt::pattern_matching_variant-enum_test-requires : goal.adt::pattern_matching_variant-enum_test-requires
adt::pattern_matching_variant-enum_test-requires t c = record { image_value = (c.requires.walkable.image_valid, c.requires.walkable.whole, c.requires.p_bound.1); ready = (c.requires.walkable.ready, c.requires.walkable.begins) }

pub adt::pattern_matching_variant-returns-in_err-c1-in-Ok-Enum : goal.adt::pattern_matching_variant-returns-in_err-c1-in-Ok-Enum
adt::pattern_matching_variant-returns-in_err-c1-in-Ok-Enum t c = rw (passed _ _ c.from_residual.ensures.1) (variant_enum c.args.image.now c.args.bindings.now c.args.p c.args.mode c.args.counts c.args.current c.args.els c.args.place _ _ c.args.v c.args.shape c.requires.walkable.placed c.place_ty.ensures.0 (rw c.in-Ok-Enum.field-0-is at c.in-Ok-Enum.ensures) (enum_refused c.args.image.now c.args.bindings.now c.args.p c.args.mode c.args.counts c.args.current c.args.els c.args.place _ _ c.args.v c.args.shape c.in_err-c1-in-Ok-Enum.ensures))

pub adt::pattern_matching_variant-project-chosen-requires : goal.adt::pattern_matching_variant-project-chosen-requires
adt::pattern_matching_variant-project-chosen-requires t c = tt

pub adt::pattern_matching_variant-returns-then-not-chosen : goal.adt::pattern_matching_variant-returns-then-not-chosen
adt::pattern_matching_variant-returns-then-not-chosen t c = variant_enum c.args.image.now c.args.bindings.now c.args.p c.args.mode c.args.counts c.args.current c.args.els c.args.place _ _ c.args.v c.args.shape c.requires.walkable.placed c.place_ty.ensures.0 (rw c.in-Ok-Enum.field-0-is at c.in-Ok-Enum.ensures) (enum_full c.args.image.now c.args.bindings.now c.args.p c.args.mode c.args.counts c.args.current c.args.els c.args.place _ _ c.args.v c.args.shape c.requires.walkable.ready c.in_ok-c1-in-Ok-Enum.ensures c.project-chosen.result c.project-chosen.ensures ((not-true (_) c.if-not-chosen.true)))

pub adt::pattern_matching_variant-pattern_matching_variant_fields-requires-in-Ok-Enum : goal.adt::pattern_matching_variant-pattern_matching_variant_fields-requires-in-Ok-Enum
adt::pattern_matching_variant-pattern_matching_variant_fields-requires-in-Ok-Enum t c = (omega (arith, c.decreases), (walkable_at (walkable_behind c.requires.walkable c.in_ok-c1-in-Ok-Enum.ensures) (projected_reaches _ _ c.project-chosen.ensures ((not-false (_) c.if-not-chosen.false))), (c.requires.p_bound.0, c.requires.p_bound.2)))

pub adt::pattern_matching_variant-returns-in-Err : goal.adt::pattern_matching_variant-returns-in-Err
adt::pattern_matching_variant-returns-in-Err t c = variant_refused c.args.image.now c.args.bindings.now c.args.p c.args.mode c.args.counts c.args.current c.args.els c.args.place _ _ c.args.v c.args.shape c.requires.walkable.placed c.place_ty.ensures.0 (rw c.in-Err.is at c.adt_at.ensures)

pub adt::pattern_matching_variant-returns-in-Ok-Struct : goal.adt::pattern_matching_variant-returns-in-Ok-Struct
adt::pattern_matching_variant-returns-in-Ok-Struct t c = variant_struct c.args.image.now c.args.bindings.now c.args.p c.args.mode c.args.counts c.args.current c.args.els c.args.place _ _ c.args.v c.args.shape c.requires.walkable.placed c.place_ty.ensures.0 c.variant_at-fields.result.count (rw c.in-Ok-Struct.field-0-is at c.in-Ok-Struct.ensures) (ap (λ (r : VariantRow). r.count) c.variant_at-fields.ensures ∙ variant_count_lem c.args.image.now c.args.v) c.pattern_matching_variant_fields.ensures

pub adt::pattern_matching_variant-returns-else-not-chosen : goal.adt::pattern_matching_variant-returns-else-not-chosen
adt::pattern_matching_variant-returns-else-not-chosen t c = variant_enum c.args.image.now c.args.bindings.now c.args.p c.args.mode c.args.counts c.args.current c.args.els c.args.place _ _ c.args.v c.args.shape c.requires.walkable.placed c.place_ty.ensures.0 (rw c.in-Ok-Enum.field-0-is at c.in-Ok-Enum.ensures) (enum_fields c.args.image.now c.args.bindings.now c.args.p c.args.mode c.args.counts c.args.current c.args.els c.args.place _ _ c.args.v c.args.shape c.requires.walkable.ready c.in_ok-c1-in-Ok-Enum.ensures c.project-chosen.result c.project-chosen.ensures c.variant_at-fields.result.count ((not-false (_) c.if-not-chosen.false)) (ap (λ (r : VariantRow). r.count) c.variant_at-fields.ensures ∙ variant_count_lem c.args.image.now c.args.v) c.pattern_matching_variant_fields-in-Ok-Enum.ensures)

pub pattern_match_inner-enter-entered-requires : goal.pattern_match_inner-enter-entered-requires
pattern_match_inner-enter-entered-requires t c = (c.requires.walkable.image_valid, c.requires.walkable.whole, c.requires.p_bound)

pub pattern_match_inner-returns-then-not-entered : goal.pattern_match_inner-returns-then-not-entered
pattern_match_inner-returns-then-not-entered t c = c.enter-entered.ensures.stops ((not-true (_) c.if-not-entered.true)) c.args.bindings.now c.args.counts c.args.current c.args.els _

pub pattern_match_inner-pat_at-row-requires : goal.pattern_match_inner-pat_at-row-requires
pattern_match_inner-pat_at-row-requires t c = asks_row c.requires.walkable (omega (arith, c.enter-entered.ensures.below, c.requires.p_bound))

pub pattern_match_inner-is_leaf-requires : goal.pattern_match_inner-is_leaf-requires
pattern_match_inner-is_leaf-requires t c = tt

pub pattern_match_inner-pattern_match_leaf-requires : goal.pattern_match_inner-pattern_match_leaf-requires
pattern_match_inner-pattern_match_leaf-requires t c =
    let W = c.requires.walkable in
    let there = entered_there c.enter-entered.ensures c.requires.p_bound in
    record { image_value = (W.image_valid, W.whole, row_typed c.args.image.now _ _ W.image_valid there c.pat_at-row.ensures, row_shape c.args.image.now _ _ W.image_valid there c.pat_at-row.ensures, W.locals_of_bindings); ready = (W.ready, W.begins) }

pub pattern_match_inner-returns-then-is_leaf : goal.pattern_match_inner-returns-then-is_leaf
pattern_match_inner-returns-then-is_leaf t c = entered_leaf c.enter-entered.ensures ((not-false (_) c.if-not-entered.false)) c.pat_at-row.result c.pat_at-row.ensures c.args.bindings.now c.args.counts c.args.current c.args.els _ (sym (c.is_leaf.ensures ∙ ap₂ is_leaf c.from.ensures c.from-2.ensures) ∙ c.if-is_leaf.true) c.pattern_match_leaf.ensures

pub pattern_match_inner-compound_kind-requires : goal.pattern_match_inner-compound_kind-requires
pattern_match_inner-compound_kind-requires t c = tt

pub pattern_match_inner-place_ty-requires : goal.pattern_match_inner-place_ty-requires
pattern_match_inner-place_ty-requires t c = let r = asks_type (entered_walkable c.enter-entered.ensures ((not-false (_) c.if-not-entered.false)) c.requires.walkable) in record { image_value = r.0; named = r.1 }

pub pattern_match_inner-tuple_at-requires : goal.pattern_match_inner-tuple_at-requires
pattern_match_inner-tuple_at-requires t c = ((entered_walkable c.enter-entered.ensures ((not-false (_) c.if-not-entered.false)) c.requires.walkable).image_valid, (entered_walkable c.enter-entered.ensures ((not-false (_) c.if-not-entered.false)) c.requires.walkable).whole, c.place_ty.ensures.1)

pub pattern_match_inner-pattern_match_tuple_like-requires : goal.pattern_match_inner-pattern_match_tuple_like-requires
pattern_match_inner-pattern_match_tuple_like-requires t c = (omega (arith, c.decreases, c.enter-entered.ensures.below), ((entered_walkable c.enter-entered.ensures ((not-false (_) c.if-not-entered.false)) c.requires.walkable), (((entered_there c.enter-entered.ensures c.requires.p_bound)), tuple_there c.args.image.now c.enter-entered.result.p.0 c.pat_at-row.result (entered_walkable c.enter-entered.ensures ((not-false (_) c.if-not-entered.false)) c.requires.walkable).image_valid ((entered_there c.enter-entered.ensures c.requires.p_bound)) c.pat_at-row.ensures (tuple_kind (pat_kind c.pat_at-row.result.kind) (sym (c.compound_kind.ensures ∙ ap compound_kind c.from-3.ensures) ∙ c.in-Tuple.is)))))

pub pattern_match_inner-alts-requires : goal.pattern_match_inner-alts-requires
pattern_match_inner-alts-requires t c = (omega (arith, c.decreases, c.enter-entered.ensures.below), ((entered_walkable c.enter-entered.ensures ((not-false (_) c.if-not-entered.false)) c.requires.walkable), (((entered_there c.enter-entered.ensures c.requires.p_bound)), or_there c.args.image.now c.enter-entered.result.p.0 c.pat_at-row.result (entered_walkable c.enter-entered.ensures ((not-false (_) c.if-not-entered.false)) c.requires.walkable).image_valid ((entered_there c.enter-entered.ensures c.requires.p_bound)) c.pat_at-row.ensures (or_kind (pat_kind c.pat_at-row.result.kind) (sym (c.compound_kind.ensures ∙ ap compound_kind c.from-3.ensures) ∙ c.in-Or.is)))))

pub pattern_match_inner-slice-requires : goal.pattern_match_inner-slice-requires
pattern_match_inner-slice-requires t c = (omega (arith, c.decreases, c.enter-entered.ensures.below), ((entered_walkable c.enter-entered.ensures ((not-false (_) c.if-not-entered.false)) c.requires.walkable), (((entered_there c.enter-entered.ensures c.requires.p_bound)), row_typed c.args.image.now c.enter-entered.result.p.0 c.pat_at-row.result (entered_walkable c.enter-entered.ensures ((not-false (_) c.if-not-entered.false)) c.requires.walkable).image_valid ((entered_there c.enter-entered.ensures c.requires.p_bound)) c.pat_at-row.ensures, slice_there c.args.image.now c.enter-entered.result.p.0 c.pat_at-row.result (entered_walkable c.enter-entered.ensures ((not-false (_) c.if-not-entered.false)) c.requires.walkable).image_valid ((entered_there c.enter-entered.ensures c.requires.p_bound)) c.pat_at-row.ensures (slice_kind (pat_kind c.pat_at-row.result.kind) (sym (c.compound_kind.ensures ∙ ap compound_kind c.from-3.ensures) ∙ c.in-Slice.is)))))

pub pattern_match_inner-bound-requires : goal.pattern_match_inner-bound-requires
pattern_match_inner-bound-requires t c =
    let b = bind_there c.args.image.now c.enter-entered.result.p.0 c.pat_at-row.result (entered_walkable c.enter-entered.ensures ((not-false (_) c.if-not-entered.false)) c.requires.walkable).image_valid ((entered_there c.enter-entered.ensures c.requires.p_bound)) c.pat_at-row.ensures (bind_kind (pat_kind c.pat_at-row.result.kind) (sym (c.compound_kind.ensures ∙ ap compound_kind c.from-3.ensures) ∙ c.in-Bind.is)) in
    (omega (arith, c.decreases, c.enter-entered.ensures.below), ((entered_walkable c.enter-entered.ensures ((not-false (_) c.if-not-entered.false)) c.requires.walkable), (((entered_there c.enter-entered.ensures c.requires.p_bound)), b.0, b.1)))

pub pattern_match_inner-place_ty-requires-in-Ref : goal.pattern_match_inner-place_ty-requires-in-Ref
pattern_match_inner-place_ty-requires-in-Ref t c = let r = asks_type (entered_walkable c.enter-entered.ensures ((not-false (_) c.if-not-entered.false)) c.requires.walkable) in record { image_value = r.0; named = r.1 }

pub pattern_match_inner-reference_at-requires : goal.pattern_match_inner-reference_at-requires
pattern_match_inner-reference_at-requires t c = ((entered_walkable c.enter-entered.ensures ((not-false (_) c.if-not-entered.false)) c.requires.walkable).image_valid, (entered_walkable c.enter-entered.ensures ((not-false (_) c.if-not-entered.false)) c.requires.walkable).whole, c.place_ty-in-Ref.ensures.1)

pub pattern_match_inner-project-referent-requires : goal.pattern_match_inner-project-referent-requires
pattern_match_inner-project-referent-requires t c = tt

pub pattern_match_inner-returns-then-not-referent : goal.pattern_match_inner-returns-then-not-referent
pattern_match_inner-returns-then-not-referent t c = c.enter-entered.ensures.goes ((not-false (_) c.if-not-entered.false)) c.pat_at-row.result c.pat_at-row.ensures c.args.bindings.now c.args.counts c.args.current c.args.els _ (kind_ref c.args.image.now c.args.bindings.now c.enter-entered.result.p c.pat_at-row.result c.args.mode c.args.counts c.args.current c.args.els c.enter-entered.result.place _ _ (sym (c.compound_kind.ensures ∙ ap compound_kind c.from-3.ensures) ∙ c.in-Ref.is) (ref_stops c.args.image.now c.enter-entered.result.p (pattern_match_inner c.args.image.now c.args.bindings.now (tree c.args.image.now c.pat_at-row.result.a)) c.args.mode c.args.counts c.args.current c.args.els c.enter-entered.result.place _ _ (entered_walkable c.enter-entered.ensures ((not-false (_) c.if-not-entered.false)) c.requires.walkable).placed c.place_ty-in-Ref.ensures.0 (rw c.in-Ok-reference_at.is at c.reference_at.ensures) c.project-referent.ensures ((not-true (_) c.if-not-referent.true))))

pub pattern_match_inner-pattern_match_inner-requires : goal.pattern_match_inner-pattern_match_inner-requires
pattern_match_inner-pattern_match_inner-requires t c =
    let b = ref_there c.args.image.now c.enter-entered.result.p.0 c.pat_at-row.result (entered_walkable c.enter-entered.ensures ((not-false (_) c.if-not-entered.false)) c.requires.walkable).image_valid ((entered_there c.enter-entered.ensures c.requires.p_bound)) c.pat_at-row.ensures (ref_kind (pat_kind c.pat_at-row.result.kind) (sym (c.compound_kind.ensures ∙ ap compound_kind c.from-3.ensures) ∙ c.in-Ref.is)) in
    (omega (arith, c.decreases, c.enter-entered.ensures.below, b), (walkable_at (entered_walkable c.enter-entered.ensures ((not-false (_) c.if-not-entered.false)) c.requires.walkable) (projected_reaches _ _ c.project-referent.ensures ((not-false (_) c.if-not-referent.false))), omega (arith, ((entered_there c.enter-entered.ensures c.requires.p_bound)), b)))

pub pattern_match_inner-variant_word-v-requires : goal.pattern_match_inner-variant_word-v-requires
pattern_match_inner-variant_word-v-requires t c = tt

pub pattern_match_inner-returns-then-v : goal.pattern_match_inner-returns-then-v
pattern_match_inner-returns-then-v t c = c.enter-entered.ensures.goes ((not-false (_) c.if-not-entered.false)) c.pat_at-row.result c.pat_at-row.ensures c.args.bindings.now c.args.counts c.args.current c.args.els _ (kind_variant c.args.image.now c.args.bindings.now c.enter-entered.result.p c.pat_at-row.result c.args.mode c.args.counts c.args.current c.args.els c.enter-entered.result.place _ _ (entered_walkable c.enter-entered.ensures ((not-false (_) c.if-not-entered.false)) c.requires.walkable).image_valid ((entered_there c.enter-entered.ensures c.requires.p_bound)) c.pat_at-row.ensures ((sym (c.is_leaf.ensures ∙ ap₂ is_leaf c.from.ensures c.from-2.ensures) ∙ c.if-is_leaf.false)) (sym (c.compound_kind.ensures ∙ ap compound_kind c.from-3.ensures) ∙ c.in-Variant.is) (variant_none c.args.image.now c.args.bindings.now c.enter-entered.result.p c.args.mode c.args.counts c.args.current c.args.els c.enter-entered.result.place _ _ _ _ (sym c.variant_word-v.ensures ∙ c.if-v.true)))

pub pattern_match_inner-variant_shape-requires : goal.pattern_match_inner-variant_shape-requires
pattern_match_inner-variant_shape-requires t c = tt

pub pattern_match_inner-pattern_matching_variant-requires : goal.pattern_match_inner-pattern_matching_variant-requires
pattern_match_inner-pattern_matching_variant-requires t c =
    let n = names_variant c.args.image.now c.enter-entered.result.p.0 c.pat_at-row.result (entered_walkable c.enter-entered.ensures ((not-false (_) c.if-not-entered.false)) c.requires.walkable).image_valid ((entered_there c.enter-entered.ensures c.requires.p_bound)) c.pat_at-row.ensures ((sym (c.is_leaf.ensures ∙ ap₂ is_leaf c.from.ensures c.from-2.ensures) ∙ c.if-is_leaf.false)) (sym (c.compound_kind.ensures ∙ ap compound_kind c.from-3.ensures) ∙ c.in-Variant.is) in
    (omega (arith, c.decreases, c.enter-entered.ensures.below), ((entered_walkable c.enter-entered.ensures ((not-false (_) c.if-not-entered.false)) c.requires.walkable), (((entered_there c.enter-entered.ensures c.requires.p_bound)), rw c.variant_word-v.ensures (variant_there c.args.image.now _ _ n (λ q. c.if-v.false (c.variant_word-v.ensures ∙ q))), rw c.variant_shape.ensures n.shape)))

pub pattern_match_inner-returns-in-Err : goal.pattern_match_inner-returns-in-Err
pattern_match_inner-returns-in-Err t c = c.enter-entered.ensures.goes ((not-false (_) c.if-not-entered.false)) c.pat_at-row.result c.pat_at-row.ensures c.args.bindings.now c.args.counts c.args.current c.args.els _ (kind_no_tuple c.args.image.now c.args.bindings.now c.enter-entered.result.p c.pat_at-row.result c.args.mode c.args.counts c.args.current c.args.els c.enter-entered.result.place _ _ (sym (c.compound_kind.ensures ∙ ap compound_kind c.from-3.ensures) ∙ c.in-Tuple.is) (entered_walkable c.enter-entered.ensures ((not-false (_) c.if-not-entered.false)) c.requires.walkable).placed c.place_ty.ensures.0 (rw c.in-Err.is at c.tuple_at.ensures))

pub pattern_match_inner-returns-in-Ok : goal.pattern_match_inner-returns-in-Ok
pattern_match_inner-returns-in-Ok t c = c.enter-entered.ensures.goes ((not-false (_) c.if-not-entered.false)) c.pat_at-row.result c.pat_at-row.ensures c.args.bindings.now c.args.counts c.args.current c.args.els _ (kind_tuple c.args.image.now c.args.bindings.now c.enter-entered.result.p c.pat_at-row.result c.args.mode c.args.counts c.args.current c.args.els c.enter-entered.result.place _ _ (sym (c.compound_kind.ensures ∙ ap compound_kind c.from-3.ensures) ∙ c.in-Tuple.is) (entered_walkable c.enter-entered.ensures ((not-false (_) c.if-not-entered.false)) c.requires.walkable).placed c.place_ty.ensures.0 (rw c.in-Ok.is at c.tuple_at.ensures) c.pattern_match_tuple_like.ensures)

pub pattern_match_inner-returns-in-Or : goal.pattern_match_inner-returns-in-Or
pattern_match_inner-returns-in-Or t c = c.enter-entered.ensures.goes ((not-false (_) c.if-not-entered.false)) c.pat_at-row.result c.pat_at-row.ensures c.args.bindings.now c.args.counts c.args.current c.args.els _ (kind_or c.args.image.now c.args.bindings.now c.enter-entered.result.p c.pat_at-row.result c.args.mode c.args.counts c.args.current c.args.els c.enter-entered.result.place _ _ (sym (c.compound_kind.ensures ∙ ap compound_kind c.from-3.ensures) ∙ c.in-Or.is) c.alts.ensures)

pub pattern_match_inner-returns-in-Slice : goal.pattern_match_inner-returns-in-Slice
pattern_match_inner-returns-in-Slice t c = c.enter-entered.ensures.goes ((not-false (_) c.if-not-entered.false)) c.pat_at-row.result c.pat_at-row.ensures c.args.bindings.now c.args.counts c.args.current c.args.els _ (kind_slice c.args.image.now c.args.bindings.now c.enter-entered.result.p c.pat_at-row.result c.args.mode c.args.counts c.args.current c.args.els c.enter-entered.result.place _ _ (sym (c.compound_kind.ensures ∙ ap compound_kind c.from-3.ensures) ∙ c.in-Slice.is) c.slice.ensures)

pub pattern_match_inner-returns-in-Bind : goal.pattern_match_inner-returns-in-Bind
pattern_match_inner-returns-in-Bind t c = c.enter-entered.ensures.goes ((not-false (_) c.if-not-entered.false)) c.pat_at-row.result c.pat_at-row.ensures c.args.bindings.now c.args.counts c.args.current c.args.els _ (kind_bind c.args.image.now c.args.bindings.now c.enter-entered.result.p c.pat_at-row.result c.args.mode c.args.counts c.args.current c.args.els c.enter-entered.result.place _ _ (sym (c.compound_kind.ensures ∙ ap compound_kind c.from-3.ensures) ∙ c.in-Bind.is) c.bound.ensures)

pub pattern_match_inner-returns-in-Err-reference_at : goal.pattern_match_inner-returns-in-Err-reference_at
pattern_match_inner-returns-in-Err-reference_at t c = c.enter-entered.ensures.goes ((not-false (_) c.if-not-entered.false)) c.pat_at-row.result c.pat_at-row.ensures c.args.bindings.now c.args.counts c.args.current c.args.els _ (kind_ref c.args.image.now c.args.bindings.now c.enter-entered.result.p c.pat_at-row.result c.args.mode c.args.counts c.args.current c.args.els c.enter-entered.result.place _ _ (sym (c.compound_kind.ensures ∙ ap compound_kind c.from-3.ensures) ∙ c.in-Ref.is) (ref_refused c.args.image.now c.enter-entered.result.p (pattern_match_inner c.args.image.now c.args.bindings.now (tree c.args.image.now c.pat_at-row.result.a)) c.args.mode c.args.counts c.args.current c.args.els c.enter-entered.result.place _ _ (entered_walkable c.enter-entered.ensures ((not-false (_) c.if-not-entered.false)) c.requires.walkable).placed c.place_ty-in-Ref.ensures.0 (rw c.in-Err-reference_at.is at c.reference_at.ensures)))

pub pattern_match_inner-returns-else-not-referent : goal.pattern_match_inner-returns-else-not-referent
pattern_match_inner-returns-else-not-referent t c = c.enter-entered.ensures.goes ((not-false (_) c.if-not-entered.false)) c.pat_at-row.result c.pat_at-row.ensures c.args.bindings.now c.args.counts c.args.current c.args.els _ (kind_ref c.args.image.now c.args.bindings.now c.enter-entered.result.p c.pat_at-row.result c.args.mode c.args.counts c.args.current c.args.els c.enter-entered.result.place _ _ (sym (c.compound_kind.ensures ∙ ap compound_kind c.from-3.ensures) ∙ c.in-Ref.is) (ref_goes c.args.image.now c.enter-entered.result.p (pattern_match_inner c.args.image.now c.args.bindings.now (tree c.args.image.now c.pat_at-row.result.a)) c.args.mode c.args.counts c.args.current c.args.els c.enter-entered.result.place _ _ (entered_walkable c.enter-entered.ensures ((not-false (_) c.if-not-entered.false)) c.requires.walkable).placed c.place_ty-in-Ref.ensures.0 (rw c.in-Ok-reference_at.is at c.reference_at.ensures) c.project-referent.ensures ((not-false (_) c.if-not-referent.false)) c.pattern_match_inner.ensures))

pub pattern_match_inner-returns-else-v : goal.pattern_match_inner-returns-else-v
pattern_match_inner-returns-else-v t c = c.enter-entered.ensures.goes ((not-false (_) c.if-not-entered.false)) c.pat_at-row.result c.pat_at-row.ensures c.args.bindings.now c.args.counts c.args.current c.args.els _ (kind_variant c.args.image.now c.args.bindings.now c.enter-entered.result.p c.pat_at-row.result c.args.mode c.args.counts c.args.current c.args.els c.enter-entered.result.place _ _ (entered_walkable c.enter-entered.ensures ((not-false (_) c.if-not-entered.false)) c.requires.walkable).image_valid ((entered_there c.enter-entered.ensures c.requires.p_bound)) c.pat_at-row.ensures ((sym (c.is_leaf.ensures ∙ ap₂ is_leaf c.from.ensures c.from-2.ensures) ∙ c.if-is_leaf.false)) (sym (c.compound_kind.ensures ∙ ap compound_kind c.from-3.ensures) ∙ c.in-Variant.is) (variant_some c.args.image.now c.args.bindings.now c.enter-entered.result.p c.args.mode c.args.counts c.args.current c.args.els c.enter-entered.result.place _ _ _ _ (λ q. c.if-v.false (c.variant_word-v.ensures ∙ q)) (rw (c.variant_word-v.ensures, c.variant_shape.ensures) at c.pattern_matching_variant.ensures)))

pub pattern_matching_variant_fields-pattern_match_tuple_like-requires : goal.pattern_matching_variant_fields-pattern_match_tuple_like-requires
pattern_matching_variant_fields-pattern_match_tuple_like-requires t c = (omega (arith, c.decreases), (c.requires.walkable, (c.requires.p_bound.0, rw c.in-Tuple.is at c.requires.p_bound.1)))

pub pattern_matching_variant_fields-fields_there-requires : goal.pattern_matching_variant_fields-fields_there-requires
pattern_matching_variant_fields-fields_there-requires t c = (c.requires.walkable.image_valid, c.requires.walkable.whole, (rw c.in-Record.is at c.requires.p_bound.1).lies)

pub pattern_matching_variant_fields-returns-then-not-fields_there : goal.pattern_matching_variant_fields-returns-then-not-fields_there
pattern_matching_variant_fields-returns-then-not-fields_there t c = rw c.in-Record.is (fields_absent c.args.image.now c.args.bindings.now c.args.p c.args.mode c.args.counts c.args.current c.args.els c.args.place _ _ c.args.fields _ _ (sym c.fields_there.ensures ∙ c.if-not-fields_there.true))

pub pattern_matching_variant_fields-pattern_match_adt-requires : goal.pattern_matching_variant_fields-pattern_match_adt-requires
pattern_matching_variant_fields-pattern_match_adt-requires t c = (omega (arith, c.decreases), (c.requires.walkable, (c.requires.p_bound.0, record_fields_lem _ _ _ _ (rw c.in-Record.is at c.requires.p_bound.1) c.args.fields)))

pub pattern_matching_variant_fields-returns-in-Unit : goal.pattern_matching_variant_fields-returns-in-Unit
pattern_matching_variant_fields-returns-in-Unit t c = rw c.in-Unit.is (fields_unit c.args.image.now c.args.bindings.now c.args.p c.args.mode c.args.counts c.args.current c.args.els c.args.place _ _ c.args.fields c.requires.walkable.begins)

pub pattern_matching_variant_fields-returns-in-Tuple : goal.pattern_matching_variant_fields-returns-in-Tuple
pattern_matching_variant_fields-returns-in-Tuple t c = rw c.in-Tuple.is (fields_tuple c.args.image.now c.args.bindings.now c.args.p c.args.mode c.args.counts c.args.current c.args.els c.args.place _ _ c.args.fields _ _ _ c.pattern_match_tuple_like.ensures)

pub pattern_matching_variant_fields-returns-else-not-fields_there : goal.pattern_matching_variant_fields-returns-else-not-fields_there
pattern_matching_variant_fields-returns-else-not-fields_there t c = rw c.in-Record.is (fields_record c.args.image.now c.args.bindings.now c.args.p c.args.mode c.args.counts c.args.current c.args.els c.args.place _ _ c.args.fields _ _ (omega (arith, c.ranges.fields)) (sym c.fields_there.ensures ∙ c.if-not-fields_there.false) c.pattern_match_adt.ensures)

pub sub::alt-pattern_match_inner-requires : goal.sub::alt-pattern_match_inner-requires
sub::alt-pattern_match_inner-requires t c = (omega (arith, c.decreases), (c.requires.walkable, c.requires.q_bound))

pub sub::alt-returns-in_err-c1 : goal.sub::alt-returns-in_err-c1
sub::alt-returns-in_err-c1 t c = rw (passed _ _ c.from_residual.ensures.1) (alternative_stops (pattern_match_inner c.args.image.now c.args.bindings.now (tree c.args.image.now c.args.q.0)) c.args.mode c.args.counts c.args.current c.args.place _ _ c.in_err-c1.ensures)

pub sub::alt-is_check-requires : goal.sub::alt-is_check-requires
sub::alt-is_check-requires t c = tt

pub sub::alt-returns-then-is_check : goal.sub::alt-returns-then-is_check
sub::alt-returns-then-is_check t c = alternative_tested (pattern_match_inner c.args.image.now c.args.bindings.now (tree c.args.image.now c.args.q.0)) c.args.mode c.args.counts c.args.current c.args.place _ _ c.requires.walkable.ready c.in_ok-c1.ensures (sym c.is_check.ensures ∙ c.if-is_check.true)

pub sub::alt-nothing_to_do-requires : goal.sub::alt-nothing_to_do-requires
sub::alt-nothing_to_do-requires t c = (c.requires.walkable.image_valid, c.requires.walkable.whole, c.requires.q_bound)

pub sub::alt-visit-requires : goal.sub::alt-visit-requires
sub::alt-visit-requires t c = (search rules, asks_visit (walkable_sure (walkable_after c.requires.walkable c.in_ok-c1.ensures)) c.requires.q_bound)

pub sub::alt-returns-then-nothing_to_do : goal.sub::alt-returns-then-nothing_to_do
sub::alt-returns-then-nothing_to_do t c =
    alternative_again (pattern_match_inner c.args.image.now c.args.bindings.now (tree c.args.image.now c.args.q.0)) c.args.mode c.args.counts c.args.current c.args.place _ _ c.requires.walkable.ready c.in_ok-c1.ensures (sym c.is_check.ensures ∙ c.if-is_check.false)
    (idle_walks c.args.image.now c.args.bindings.now c.args.q c.args.mode _ _ _ _ _ c.requires.walkable.image_valid c.requires.q_bound (walkable_sure (walkable_after c.requires.walkable c.in_ok-c1.ensures)).begins c.visit.ensures (sym c.nothing_to_do.ensures ∙ c.if-nothing_to_do.true) _)

pub sub::alt-pattern_match_inner-again-requires : goal.sub::alt-pattern_match_inner-again-requires
sub::alt-pattern_match_inner-again-requires t c = (omega (arith, c.decreases), ((walkable_sure (walkable_after c.requires.walkable c.in_ok-c1.ensures)), c.requires.q_bound))

pub sub::alt-with_else-requires : goal.sub::alt-with_else-requires
sub::alt-with_else-requires t c = tt

pub sub::alt-returns : goal.sub::alt-returns
sub::alt-returns t c = again_ends (pattern_match_inner c.args.image.now c.args.bindings.now (tree c.args.image.now c.args.q.0)) c.args.mode c.args.counts c.args.current c.args.place _ _ c.requires.walkable.ready c.in_ok-c1.ensures (sym c.is_check.ensures ∙ c.if-is_check.false) c.pattern_match_inner-again.ensures c.with_else.ensures

pub sub::alts-new_basic_block-requires : goal.sub::alts-new_basic_block-requires
sub::alts-new_basic_block-requires t c = tt

pub sub::alts-returns-in_err-made : goal.sub::alts-returns-in_err-made
sub::alts-returns-in_err-made t c = rw (passed_none _ _ _ _ c.from_residual.ensures.1 c.in_err-made.ensures.ok_part c.in_err-made.ensures.value) (or_full c.args.image.now c.args.bindings.now c.args.p c.args.from c.args.count c.args.mode c.args.counts c.args.current c.args.els c.args.place _ _ (rw c.in_err-made.ensures.ok_part at c.new_basic_block.ensures))

pub sub::alts-loop-i-init : goal.sub::alts-loop-i-init
sub::alts-loop-i-init t c =
    let k = walkable_block c.requires.walkable (rw c.in_ok-made.ensures.ok_part at c.new_basic_block.ensures) in
    alternatives_begin c.args.image.now _ _ _ _ _ _ _ _ _ _ _ _ _ k.0 k.1

pub sub::alts-overflow_add-from : goal.sub::alts-overflow_add-from
sub::alts-overflow_add-from t c = omega (arith, items_few c.args.image.now c.args.p.0 c.args.from c.args.count c.requires.p_bound.1 c.requires.walkable.image_valid, c.loop-i-test.true)

pub sub::alts-list_at-requires : goal.sub::alts-list_at-requires
sub::alts-list_at-requires t c = asks_word c.requires.walkable (item_lies c.args.image.now c.args.p.0 c.args.from c.args.count c.requires.p_bound.1 c.loop-i.i c.loop-i-test.true)

pub sub::alts-alt-requires : goal.sub::alts-alt-requires
sub::alts-alt-requires t c = (omega (arith, c.decreases, c.list_at.ensures, item_below c.args.image.now c.args.p.0 c.args.from c.args.count c.requires.p_bound.1 c.loop-i.i c.loop-i-test.true), (walkable_sure c.loop-i.invariant.walkable, omega (arith, c.list_at.ensures, item_below c.args.image.now c.args.p.0 c.args.from c.args.count c.requires.p_bound.1 c.loop-i.i c.loop-i-test.true, c.requires.p_bound.0)))

pub sub::alts-returns-in_err-c1 : goal.sub::alts-returns-in_err-c1
sub::alts-returns-in_err-c1 t c = rw (passed _ _ c.from_residual-in_err-c1.ensures.1) (or_goes c.args.image.now c.args.bindings.now c.args.p c.args.from c.args.count c.args.mode c.args.counts c.args.current c.args.els c.args.place _ _ c.requires.walkable.begins (rw c.in_ok-made.ensures.ok_part at c.new_basic_block.ensures) (c.loop-i.invariant.rest (alternatives_stop c.args.image.now c.args.bindings.now c.args.p c.args.from c.args.count c.args.mode _ c.args.els c.args.place c.loop-i.i c.loop-i.c c.loop-i.here _ _ c.loop-i-test.true (record { 0 = c.list_at.result }) c.list_at.ensures c.in_err-c1.ensures)))

pub sub::alts-set_goto-requires : goal.sub::alts-set_goto-requires
sub::alts-set_goto-requires t c = (search rules, asks_goto (walkable_after (walkable_sure c.loop-i.invariant.walkable) c.in_ok-c1.ensures))

pub sub::alts-returns-in_default : goal.sub::alts-returns-in_default
sub::alts-returns-in_default t c = or_goes c.args.image.now c.args.bindings.now c.args.p c.args.from c.args.count c.args.mode c.args.counts c.args.current c.args.els c.args.place _ _ c.requires.walkable.begins (rw c.in_ok-made.ensures.ok_part at c.new_basic_block.ensures) (c.loop-i.invariant.rest (alternatives_sure c.args.image.now c.args.bindings.now c.args.p c.args.from c.args.count c.args.mode _ c.args.els c.args.place c.loop-i.i c.loop-i.c c.loop-i.here _ _ c.loop-i-test.true (record { 0 = c.list_at.result }) c.list_at.ensures c.loop-i.invariant.walkable.begins c.loop-i.invariant.inside c.loop-i.invariant.walkable.ready (rw (c.in_ok-c1.was, c.in_default.is) at c.alt.ensures) c.set_goto.ensures))

pub sub::alts-loop-i-preserved : goal.sub::alts-loop-i-preserved
sub::alts-loop-i-preserved t c = alternatives_again c.loop-i.invariant c.loop-i-test.true (record { 0 = c.list_at.result }) c.list_at.ensures (rw (c.in_ok-c1.was, c.in-Some.is) at c.alt.ensures) c.set_goto.ensures

pub sub::alts-alternatives_end-requires : goal.sub::alts-alternatives_end-requires
sub::alts-alternatives_end-requires t c = (c.loop-i.invariant.walkable.ready.block_count_lem, c.loop-i.invariant.walkable.begins, c.loop-i.invariant.inside)

pub sub::alts-returns : goal.sub::alts-returns
sub::alts-returns t c = or_goes c.args.image.now c.args.bindings.now c.args.p c.args.from c.args.count c.args.mode c.args.counts c.args.current c.args.els c.args.place _ _ c.requires.walkable.begins (rw c.in_ok-made.ensures.ok_part at c.new_basic_block.ensures) (c.loop-i.invariant.rest (alternatives_over c.args.image.now c.args.bindings.now c.args.p c.args.from c.args.count c.args.mode _ c.args.els c.args.place c.loop-i.i c.loop-i.c c.loop-i.here _ _ c.loop-i-test.false c.alternatives_end.ensures))

pub sub::bound-bind-requires : goal.sub::bound-bind-requires
sub::bound-bind-requires t c = asks_bind c.requires.walkable c.requires.p_bound.1

pub sub::bound-returns-then-row-eq65535 : goal.sub::bound-returns-then-row-eq65535
sub::bound-returns-then-row-eq65535 t c = bind_alone c.args.image.now c.args.bindings.now c.args.p c.args.row.a c.args.row.b _ c.args.mode c.args.counts c.args.current c.args.els c.args.place c.if-row-eq65535.true (rw c.from-how.ensures at c.bind.ensures)

pub sub::bound-pattern_match_inner-requires : goal.sub::bound-pattern_match_inner-requires
sub::bound-pattern_match_inner-requires t c = (omega (arith, c.decreases, subpattern_there _ _ c.requires.p_bound.2 c.if-row-eq65535.false), (c.requires.walkable, omega (arith, subpattern_there _ _ c.requires.p_bound.2 c.if-row-eq65535.false, c.requires.p_bound.0)))

pub sub::bound-returns-in_err-c1 : goal.sub::bound-returns-in_err-c1
sub::bound-returns-in_err-c1 t c = rw (passed _ _ c.from_residual.ensures.1) (bind_stops c.args.image.now c.args.bindings.now c.args.p c.args.row.a c.args.row.b _ c.args.mode c.args.counts c.args.current c.args.els c.args.place c.if-row-eq65535.false c.in_err-c1.ensures)

pub sub::bound-bind-requires-2 : goal.sub::bound-bind-requires-2
sub::bound-bind-requires-2 t c = asks_bind (walkable_after c.requires.walkable c.in_ok-c1.ensures) c.requires.p_bound.1

pub sub::bound-returns : goal.sub::bound-returns
sub::bound-returns t c = bind_then c.args.image.now c.args.bindings.now c.args.p c.args.row.a c.args.row.b _ c.args.mode c.args.counts c.args.current c.args.els c.args.place c.if-row-eq65535.false c.requires.walkable.ready c.in_ok-c1.ensures (rw c.from-how.ensures at c.bind-2.ensures)

pub sub::slice-overflow_add-row : goal.sub::slice-overflow_add-row
sub::slice-overflow_add-row t c = omega (arith, back_few c.args.image.now c.args.p.0 c.args.row.d c.args.row.a c.args.row.b c.args.row.c c.requires.p_bound.2 c.requires.walkable.image_valid)

pub sub::slice-slice_test-requires : goal.sub::slice-slice_test-requires
sub::slice-slice_test-requires t c = record { whole = (c.requires.walkable.whole, c.requires.p_bound.1); ready = (c.requires.walkable.ready, c.requires.walkable.begins) }

pub sub::slice-returns-in_err-c1 : goal.sub::slice-returns-in_err-c1
sub::slice-returns-in_err-c1 t c = rw (passed _ _ c.from_residual.ensures.1) (slice_stops c.args.image.now c.args.bindings.now c.args.p c.args.row.d c.args.row.a c.args.row.b c.args.row.c c.args.mode c.args.counts c.args.current c.args.els c.args.place c.args.row.ty _ refl c.in_err-c1.ensures)

pub sub::slice-pattern_match_adt-requires : goal.sub::slice-pattern_match_adt-requires
sub::slice-pattern_match_adt-requires t c = (omega (arith, c.decreases), (walkable_behind c.requires.walkable c.in_ok-c1.ensures, (c.requires.p_bound.0, c.requires.p_bound.2.in_front)))

pub sub::slice-returns-in_err-c2 : goal.sub::slice-returns-in_err-c2
sub::slice-returns-in_err-c2 t c = rw (passed _ _ c.from_residual-in_err-c2.ensures.1) (slice_then c.args.image.now c.args.bindings.now c.args.p c.args.row.d c.args.row.a c.args.row.b c.args.row.c c.args.mode c.args.counts c.args.current c.args.els c.args.place c.args.row.ty _ refl c.requires.walkable.ready c.in_ok-c1.ensures (slice_items_stop c.args.image.now c.args.bindings.now c.args.p c.args.row.d c.args.row.a c.args.row.b c.args.row.c c.args.mode _ _ _ c.args.place c.in_err-c2.ensures))

pub sub::slice-rest_bound-requires : goal.sub::slice-rest_bound-requires
sub::slice-rest_bound-requires t c =
    let k = walkable_behind c.requires.walkable c.in_ok-c1.ensures in
    let l = walkable_after k c.in_ok-c2.ensures in
    let r = asks_rest l c.args.row.d c.requires.p_bound.2.rests (omega (arith, back_lies c.args.image.now c.args.p.0 c.args.row.d c.args.row.a c.args.row.b c.args.row.c c.requires.p_bound.2)) in record { image_value = r.0; ready = r.1 }

pub sub::slice-returns-in_err-c3 : goal.sub::slice-returns-in_err-c3
sub::slice-returns-in_err-c3 t c =
    let k = walkable_behind c.requires.walkable c.in_ok-c1.ensures in
    let l = walkable_after k c.in_ok-c2.ensures in
    rw (passed _ _ c.from_residual-in_err-c3.ensures.1) (slice_then c.args.image.now c.args.bindings.now c.args.p c.args.row.d c.args.row.a c.args.row.b c.args.row.c c.args.mode c.args.counts c.args.current c.args.els c.args.place c.args.row.ty _ refl c.requires.walkable.ready c.in_ok-c1.ensures (slice_items_then c.args.image.now c.args.bindings.now c.args.p c.args.row.d c.args.row.a c.args.row.b c.args.row.c c.args.mode _ _ _ c.args.place k.ready c.in_ok-c2.ensures (slice_behind_stops c.args.image.now c.args.bindings.now c.args.p c.args.row.d (c.args.row.a + c.args.row.b) c.args.row.b c.args.row.c c.args.mode _ _ _ c.args.place l.ready c.in_err-c3.ensures)))

pub sub::slice-returns-then-row-eq0 : goal.sub::slice-returns-then-row-eq0
sub::slice-returns-then-row-eq0 t c =
    let k = walkable_behind c.requires.walkable c.in_ok-c1.ensures in
    let l = walkable_after k c.in_ok-c2.ensures in
    slice_then c.args.image.now c.args.bindings.now c.args.p c.args.row.d c.args.row.a c.args.row.b c.args.row.c c.args.mode c.args.counts c.args.current c.args.els c.args.place c.args.row.ty _ refl c.requires.walkable.ready c.in_ok-c1.ensures (slice_items_then c.args.image.now c.args.bindings.now c.args.p c.args.row.d c.args.row.a c.args.row.b c.args.row.c c.args.mode _ _ _ c.args.place k.ready c.in_ok-c2.ensures (slice_behind_none c.args.image.now c.args.bindings.now c.args.p c.args.row.d (c.args.row.a + c.args.row.b) c.args.row.b c.args.row.c c.args.mode _ _ _ c.args.place l.ready c.in_ok-c3.ensures c.if-row-eq0.true))

pub sub::slice-overflow_add-row-2 : goal.sub::slice-overflow_add-row-2
sub::slice-overflow_add-row-2 t c = omega (arith, back_few c.args.image.now c.args.p.0 c.args.row.d c.args.row.a c.args.row.b c.args.row.c c.requires.p_bound.2 c.requires.walkable.image_valid)

pub sub::slice-pattern_match_adt-requires-2 : goal.sub::slice-pattern_match_adt-requires-2
sub::slice-pattern_match_adt-requires-2 t c =
    let k = walkable_behind c.requires.walkable c.in_ok-c1.ensures in
    let l = walkable_after k c.in_ok-c2.ensures in
    (omega (arith, c.decreases), (walkable_behind l c.in_ok-c3.ensures, (c.requires.p_bound.0, c.requires.p_bound.2.at_end_lem)))

pub sub::slice-returns : goal.sub::slice-returns
sub::slice-returns t c =
    let k = walkable_behind c.requires.walkable c.in_ok-c1.ensures in
    let l = walkable_after k c.in_ok-c2.ensures in
    slice_then c.args.image.now c.args.bindings.now c.args.p c.args.row.d c.args.row.a c.args.row.b c.args.row.c c.args.mode c.args.counts c.args.current c.args.els c.args.place c.args.row.ty _ refl c.requires.walkable.ready c.in_ok-c1.ensures (slice_items_then c.args.image.now c.args.bindings.now c.args.p c.args.row.d c.args.row.a c.args.row.b c.args.row.c c.args.mode _ _ _ c.args.place k.ready c.in_ok-c2.ensures (slice_behind_then c.args.image.now c.args.bindings.now c.args.p c.args.row.d (c.args.row.a + c.args.row.b) c.args.row.b c.args.row.c c.args.mode _ _ _ c.args.place l.ready c.in_ok-c3.ensures c.pattern_match_adt-2.ensures))
