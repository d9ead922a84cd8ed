-- Entries computed from the images' bytes: a live mark records its local in the last scope unless an open scope already holds it. Assumes nothing.
use Prim.Native.Nat.{ℕ}
use mathlib.Core.Path.{◌≡◌, refl}
use mathlib.Core.Option.{none, some}
use mathlib.Core.List.{List, [], ◌∷◌, map}
use Rattle.row_tables.specs.Rows.{zeros}
use Rattle.image.specs.Bytes.{word_at, little_endian}
use Rattle.image.specs.Tables.{tables_of}
use Rattle.image.specs.Rows.{type_at, variant_at, pat_at, binding_at, list_at, operand_at, operand_bytes}
use Rattle.image.specs.Lists.{member, up_from}
use Rattle.image.specs.Rules.{listed}
use Rattle.image.specs.Types.{shape_by, ty_of, variant_of, binding_of, operand_of}
use Rattle.image.specs.Tree.{word?, operand?, trees, tree?, target, node_by, node, tree_of, tree}
use Rattle.place.specs.Elems.{elem_of, word_of}
use Rattle.place.specs.Places.{projection_of}
use Rattle.place.specs.PlaceTypes.{field_of, deref_ty, adt_field_ty, field_ty, element_ty, subslice_ty, adt_downcast_ty, downcast_ty, ty_projection, variant_projection, part_projection, projection_ty, multi_projection_ty}
use Rattle.mir.specs.Blocks.{term_row}
use Rattle.mir.specs.Statements.{halves, place_words}
use Rattle.mir.specs.Locals.{local_ty}
use Rattle.mir.specs.Rvalues.{constant_words, left_words, place_rvalue_kind, binary_kind, live_row, dead_row, place_rvalue_row, constant_row, binary_row}
use Rattle.state.specs.Steps.{new_block, set_terminator, push_statement, new_local, push_scope, push_entry, try_block, try_statement, try_local, try_scope, try_entry}
use Rattle.literals.specs.Literals.{constant_of, string_constant, integer_constant, literal_by, lower_literal_to_operand, lower_const_to_operand, literal_or_const_by, lower_literal_or_const_to_operand}
use Rattle.lower_spec.specs.Temps.{is_slice, is_held, mark_live, temp, binding_local}
use Rattle.views.specs.Views.{terminator_of, elems_at, path_of, constant_at, left_of, line_of, mir_of}
use Rattle.refusals.specs.Refusals.{number_of, reason_of, refusal_at}
use Rattle.pattern_matching.specs.Walking.{visited, project, local_place, else_state, else_block, derefed, entered}
use Rattle.pattern_matching.specs.Tests.{compare, pattern_match_const, literal, lit_by, constant_path, range_end, range_end?, binding_rvalue, pattern_match_binding, local_path}
use Rattle.pattern_matching.specs.Variants.{place_ty, shape_of, pattern_match_adt, pattern_match_tuple_like, ellipsis_at, tuple_on, tuple_pattern, ref_on, ref_pattern, resolved, record_fields, variant_fields, discriminant_test, variant_on, adt_on, pattern_matching_variant, variant_pattern}
use Rattle.pattern_matching.specs.Slices.{length_constant, length_compared, length_test, rest_bound, slice_items, slice_on}
use Rattle.pattern_matching.specs.Patterns.{alternatives, alternatives_end, or_pattern, end_op, range_pattern, path_pattern, bind_pattern, rest_by, rest_of, pattern_match_inner, lowerings, lowering?, pattern_match}
use Rattle.audit.specs.Call.{lowering}
use Rattle.audit.specs.Started.{start_state, start}
use Rattle.audit.specs.Entries.{EntriesRow, scoped_start, entries_by}

-- `(x, 1) | (2, x)`: two alternatives that bind one name, local 1; each test makes a temporary, from local 2 on
abbrev two_alternatives : List ℕ
two_alternatives = 0 ∷ 0 ∷ 0 ∷ 195 ∷ 1 ∷ 0 ∷ 2 ∷ 0 ∷ 0 ∷ 0 ∷ 7 ∷ 0 ∷ 1 ∷ 0 ∷ 14 ∷ 0 ∷ 32 ∷ 0 ∷ 1 ∷ 0 ∷ 1 ∷ 0 ∷ 0 ∷ 0 ∷ 0 ∷ 0 ∷ 1 ∷ 0 ∷ 5 ∷ 0 ∷ 0 ∷ 0 ∷ 2 ∷ 0 ∷ 0 ∷ 0 ∷ 1 ∷ 0 ∷ 11 ∷ 0 ∷ 0 ∷ 0 ∷ 0 ∷ 0 ∷ 0 ∷ 255 ∷ 255 ∷ 0 ∷ 0 ∷ 0 ∷ 0 ∷ 0 ∷ 10 ∷ 0 ∷ 0 ∷ 0 ∷ 0 ∷ 0 ∷ 2 ∷ 0 ∷ 0 ∷ 0 ∷ 0 ∷ 0 ∷ 0 ∷ 0 ∷ 4 ∷ 0 ∷ 1 ∷ 0 ∷ 0 ∷ 0 ∷ 5 ∷ 0 ∷ 2 ∷ 255 ∷ 255 ∷ 0 ∷ 0 ∷ 0 ∷ 11 ∷ 0 ∷ 0 ∷ 0 ∷ 0 ∷ 0 ∷ 0 ∷ 255 ∷ 255 ∷ 0 ∷ 0 ∷ 0 ∷ 0 ∷ 0 ∷ 10 ∷ 0 ∷ 0 ∷ 0 ∷ 0 ∷ 0 ∷ 7 ∷ 0 ∷ 0 ∷ 0 ∷ 0 ∷ 0 ∷ 0 ∷ 0 ∷ 4 ∷ 0 ∷ 1 ∷ 0 ∷ 0 ∷ 0 ∷ 10 ∷ 0 ∷ 2 ∷ 255 ∷ 255 ∷ 0 ∷ 0 ∷ 0 ∷ 5 ∷ 0 ∷ 1 ∷ 0 ∷ 0 ∷ 0 ∷ 12 ∷ 0 ∷ 2 ∷ 0 ∷ 0 ∷ 0 ∷ 0 ∷ 0 ∷ 0 ∷ 0 ∷ 1 ∷ 0 ∷ 0 ∷ 0 ∷ 0 ∷ 0 ∷ 1 ∷ 0 ∷ 0 ∷ 0 ∷ 16 ∷ 0 ∷ 0 ∷ 0 ∷ 1 ∷ 0 ∷ 1 ∷ 0 ∷ 16 ∷ 0 ∷ 16 ∷ 0 ∷ 4 ∷ 0 ∷ 3 ∷ 0 ∷ 2 ∷ 0 ∷ 5 ∷ 1 ∷ 0 ∷ 0 ∷ 0 ∷ 0 ∷ 0 ∷ 0 ∷ 0 ∷ 0 ∷ 0 ∷ 0 ∷ 0 ∷ 0 ∷ 0 ∷ 0 ∷ 0 ∷ 2 ∷ 0 ∷ 0 ∷ 0 ∷ 0 ∷ 0 ∷ 0 ∷ 0 ∷ 0 ∷ 0 ∷ 0 ∷ 0 ∷ 0 ∷ 0 ∷ 0 ∷ 0 ∷ []

-- `x`, local 1
abbrev plain_name : List ℕ
plain_name = 0 ∷ 0 ∷ 0 ∷ 41 ∷ 1 ∷ 0 ∷ 1 ∷ 0 ∷ 0 ∷ 0 ∷ 1 ∷ 0 ∷ 1 ∷ 0 ∷ 0 ∷ 0 ∷ 0 ∷ 0 ∷ 1 ∷ 0 ∷ 1 ∷ 0 ∷ 0 ∷ 0 ∷ 0 ∷ 0 ∷ 1 ∷ 0 ∷ 11 ∷ 0 ∷ 0 ∷ 0 ∷ 0 ∷ 0 ∷ 0 ∷ 255 ∷ 255 ∷ 0 ∷ 0 ∷ 0 ∷ 0 ∷ 0 ∷ 0 ∷ 0 ∷ 1 ∷ []

abbrev pub rows : List EntriesRow
rows =
    -- the name is recorded once, where the first alternative binds it
    record { image = two_alternatives; ty = 1; scopes = 0 ∷ []; entries = []; wanted = some (2 ∷ 3 ∷ 4 ∷ 1 ∷ 5 ∷ []) }
    -- an outer scope holds it: it is not recorded in the last one
    ∷ record { image = two_alternatives; ty = 1; scopes = 0 ∷ 1 ∷ []; entries = 1 ∷ []; wanted = some (1 ∷ 2 ∷ 3 ∷ 4 ∷ 5 ∷ []) }
    -- handed in twice, it is left so
    ∷ record { image = two_alternatives; ty = 1; scopes = 0 ∷ []; entries = 1 ∷ 0 ∷ 1 ∷ []; wanted = some (1 ∷ 0 ∷ 1 ∷ 2 ∷ 3 ∷ 4 ∷ 5 ∷ []) }
    -- no scope open is refused
    ∷ record { image = plain_name; ty = 0; scopes = []; entries = []; wanted = none }
    -- a name that no scope holds is recorded behind the others
    ∷ record { image = plain_name; ty = 0; scopes = 0 ∷ 1 ∷ []; entries = 0 ∷ 0 ∷ []; wanted = some (0 ∷ 0 ∷ 1 ∷ []) }
    -- a full table of entries refuses a name, unless a scope holds it
    ∷ record { image = plain_name; ty = 0; scopes = 0 ∷ []; entries = zeros 1024; wanted = none }
    ∷ record { image = plain_name; ty = 0; scopes = 0 ∷ []; entries = 1 ∷ zeros 1023; wanted = some (1 ∷ zeros 1023) }
    ∷ []

-- each row's pattern comes to the entries that are wanted
pub as_wanted : map (entries_by lowering) rows ≡ map (λ (row : EntriesRow). row.wanted) rows
unfolding word_at little_endian tables_of type_at variant_at pat_at binding_at list_at operand_at operand_bytes member up_from listed shape_by ty_of variant_of binding_of operand_of word? operand? trees tree? target node_by node tree_of tree elem_of word_of projection_of field_of deref_ty adt_field_ty field_ty element_ty subslice_ty adt_downcast_ty downcast_ty ty_projection variant_projection part_projection projection_ty multi_projection_ty term_row halves place_words local_ty constant_words left_words place_rvalue_kind binary_kind live_row dead_row place_rvalue_row constant_row binary_row new_block set_terminator push_statement new_local push_scope push_entry try_block try_statement try_local try_scope try_entry constant_of string_constant integer_constant literal_by lower_literal_to_operand lower_const_to_operand literal_or_const_by lower_literal_or_const_to_operand is_slice is_held mark_live temp binding_local terminator_of elems_at path_of constant_at left_of line_of mir_of number_of reason_of refusal_at visited project local_place else_state else_block derefed entered compare pattern_match_const literal lit_by constant_path range_end range_end? binding_rvalue pattern_match_binding local_path place_ty shape_of pattern_match_adt pattern_match_tuple_like ellipsis_at tuple_on tuple_pattern ref_on ref_pattern resolved record_fields variant_fields discriminant_test variant_on adt_on pattern_matching_variant variant_pattern length_constant length_compared length_test rest_bound slice_items slice_on alternatives alternatives_end or_pattern end_op range_pattern path_pattern bind_pattern rest_by rest_of pattern_match_inner lowerings lowering? pattern_match start_state start scoped_start entries_by
as_wanted = refl
