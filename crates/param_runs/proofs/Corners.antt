-- The corners of document 01 on parameters, lowered by computation from the images' bytes: each row has an image, self, the parameters, and the answer with the
-- whole content of its listing and the visits. The rows are written out by samples/corner_theorems.py. Assumes nothing.
use Prim.Native.Nat.{ℕ}
use mathlib.Core.Path.{◌≡◌, refl}
use mathlib.Core.List.{List, [], ◌∷◌, map}
use mathlib.Core.Bool.{true, false}
use lib.IntN.{pos}
use Rattle.std.specs.Prelude.{Some, None}
use Rattle.meaning.specs.Values.{Value, Int, Tuple, Adt, no_more, more}
use Rattle.place.specs.declared.elems.ProjectionElem.{ProjectionElem}
use Rattle.mir.specs.declared.blocks.Terminator.{Terminator}
use Rattle.mir.specs.declared.rvalues.BinOp.{BinOp}
use Rattle.mir.specs.declared.rvalues.Left.{Left}
use Rattle.mir.specs.declared.rvalues.PlaceRvalue.{PlaceRvalue}
use Rattle.views.specs.Views.{Rvalue, of_place, of_constant, binary, Statement, live, dead, set}
use Rattle.image.specs.Bytes.{word_at, little_endian}
use Rattle.image.specs.Tables.{tables_of}
use Rattle.image.specs.Rows.{type_at, variant_at, pat_at, binding_at, list_at, operand_at, operand_bytes}
use Rattle.image.specs.Lists.{all_below, all_in, all_true, member, distinct, up_from, gather}
use Rattle.image.specs.Operands.{is_scalar_value, operand_value_holds, operand_holds}
use Rattle.image.specs.Rules.{counts_what_follows, version_is_one, tables_fill_the_rest, listed, types_listed, is_integer_size, adt_may_have, type_shape_holds, type_holds, variants_by, adts_share_no_variant, variant_holds, binding_holds, within_limits}
use Rattle.image.specs.Subpatterns.{if_present, subpatterns_by}
use Rattle.image.specs.Patterns.{path_holds, pattern_shape_holds, pattern_holds, subpatterns_below, used_once}
use Rattle.image.specs.Valid.{valid}
use Rattle.image.specs.Types.{shape_by, ty_of, variant_of, binding_of, operand_of}
use Rattle.image.specs.Tree.{word?, operand?, trees, tree?, target, node_by, node, tree_of, tree}
use Rattle.place.specs.Elems.{elem_of, word_of}
use Rattle.place.specs.Places.{projection_of}
use Rattle.place.specs.PlaceTypes.{field_of, deref_ty, adt_field_ty, field_ty, element_ty, subslice_ty, adt_downcast_ty, downcast_ty, ty_projection, variant_projection, part_projection, projection_ty, multi_projection_ty}
use Rattle.mir.specs.Blocks.{term_row}
use Rattle.mir.specs.Statements.{halves, place_words}
use Rattle.mir.specs.Locals.{local_ty}
use Rattle.mir.specs.Rvalues.{constant_words, left_words, place_rvalue_kind, binary_kind, live_row, dead_row, place_rvalue_row, constant_row, binary_row}
use Rattle.state.specs.Steps.{new_block, set_terminator, push_statement, new_local, push_scope, push_entry, try_block, try_statement, try_local, try_scope, try_entry}
use Rattle.literals.specs.Literals.{constant_of, string_constant, integer_constant, literal_by, lower_literal_to_operand, lower_const_to_operand, literal_or_const_by, lower_literal_or_const_to_operand}
use Rattle.lower_spec.specs.Temps.{is_slice, is_held, mark_live, temp, binding_local}
use Rattle.views.specs.Views.{terminator_of, elems_at, path_of, constant_at, left_of, line_of, mir_of}
use Rattle.refusals.specs.Refusals.{number_of, reason_of, refusal_at}
use Rattle.pattern_matching.specs.Walking.{visited, project, local_place, else_state, else_block, derefed, entered}
use Rattle.pattern_matching.specs.Tests.{compare, pattern_match_const, literal, lit_by, constant_path, range_end, range_end?, binding_rvalue, pattern_match_binding, local_path}
use Rattle.pattern_matching.specs.Variants.{place_ty, shape_of, pattern_match_adt, pattern_match_tuple_like, ellipsis_at, tuple_on, tuple_pattern, ref_on, ref_pattern, resolved, record_fields, variant_fields, discriminant_test, variant_on, adt_on, pattern_matching_variant, variant_pattern}
use Rattle.pattern_matching.specs.Slices.{length_constant, length_compared, length_test, rest_bound, slice_items, slice_on}
use Rattle.pattern_matching.specs.Patterns.{alternatives, alternatives_end, or_pattern, end_op, range_pattern, path_pattern, bind_pattern, rest_by, rest_of, pattern_match_inner, lowerings, lowering?, pattern_match}
use Rattle.params_spec.specs.Params.{param_local, by_value, plain_bind, plain_binding, bound_to, declare_self, declare_param, declare_params, declare_binding, declare_bindings, declare, shut_else, shut, unless_bound, unless_own, lower_param, lower_params, self_count, lower_all, lower_params_and_bindings}
use Rattle.params_spec.specs.Calls.{binds_receiver, none_binds_receiver, receiver_apart}
use Rattle.image.specs.Integers.{least_value, greatest_value, in_range, integer_value}
use Rattle.cases_spec.specs.Cases.{kind_number, tuple_fields, referent}
use Rattle.meaning.specs.Values.{items, parts_of, int_fits, has_variant, value_fits}
use Rattle.meaning.specs.Typing.{adt_variants}
use Rattle.meaning.specs.Fit.{behind, type_is_the_places, arguments_fit, discriminants_differ, integer_fits, literal_fits, path_fits, row_fits, each_fits, types_fit, bound_in, bindings_fit, path_taken, nothing_refused, present, locals_differ, fits}
use Rattle.meaning.specs.Matching.{crossed, created, match_all, match_row, is_variant, path_matches, matches}
use Rattle.meaning.specs.Running.{scalar_of, bytes_of, same_value}
use Rattle.param_runs.specs.Returned.{own_local}
use Rattle.param_runs.specs.Through.{plain, pattern_fits, param_fits, params_fit, all_fit, params_bound}
use Rattle.param_runs.specs.Corner.{params_start, unbound, corner_answer, ParamsAnswer, accepted_params, refused_params, ParamsRow, corner_fits}

abbrev plain_row : ParamsRow
plain_row = record { image = 0 ∷ 0 ∷ 0 ∷ 41 ∷ 1 ∷ 0 ∷ 1 ∷ 0 ∷ 0 ∷ 0 ∷ 1 ∷ 0 ∷ 1 ∷ 0 ∷ 0 ∷ 0 ∷ 0 ∷ 0 ∷ 1 ∷ 0 ∷ 1 ∷ 0 ∷ 0 ∷ 0 ∷ 0 ∷ 0 ∷ 1 ∷ 0 ∷ 11 ∷ 0 ∷ 0 ∷ 0 ∷ 0 ∷ 0 ∷ 0 ∷ 255 ∷ 255 ∷ 0 ∷ 0 ∷ 0 ∷ 0 ∷ 0 ∷ 0 ∷ 0 ∷ 1 ∷ []; self = None; params = (record { pattern = 0; ty = 0 } ∷ []); wanted = accepted_params (record { 0 = 0 }) (0 ∷ []) (record { terminators = (Terminator.Open ∷ []); lines = ([]); locals = (0 ∷ []) }) (0 ∷ []); values = (Int (pos 5) ∷ []); fit = true }

abbrev mutable_row : ParamsRow
mutable_row = record { image = 0 ∷ 0 ∷ 0 ∷ 41 ∷ 1 ∷ 0 ∷ 1 ∷ 0 ∷ 0 ∷ 0 ∷ 1 ∷ 0 ∷ 1 ∷ 0 ∷ 0 ∷ 0 ∷ 0 ∷ 0 ∷ 1 ∷ 0 ∷ 1 ∷ 0 ∷ 0 ∷ 0 ∷ 0 ∷ 0 ∷ 1 ∷ 0 ∷ 11 ∷ 0 ∷ 0 ∷ 0 ∷ 0 ∷ 0 ∷ 0 ∷ 255 ∷ 255 ∷ 0 ∷ 0 ∷ 0 ∷ 1 ∷ 0 ∷ 0 ∷ 0 ∷ 1 ∷ []; self = None; params = (record { pattern = 0; ty = 0 } ∷ []); wanted = accepted_params (record { 0 = 0 }) (0 ∷ []) (record { terminators = (Terminator.Open ∷ []); lines = ([]); locals = (0 ∷ []) }) (0 ∷ []); values = (Int (pos 5) ∷ []); fit = true }

abbrev bound_some_row : ParamsRow
bound_some_row = record { image = 0 ∷ 0 ∷ 0 ∷ 127 ∷ 1 ∷ 0 ∷ 2 ∷ 0 ∷ 2 ∷ 0 ∷ 3 ∷ 0 ∷ 1 ∷ 0 ∷ 2 ∷ 0 ∷ 32 ∷ 0 ∷ 1 ∷ 0 ∷ 1 ∷ 0 ∷ 0 ∷ 0 ∷ 0 ∷ 0 ∷ 1 ∷ 0 ∷ 6 ∷ 0 ∷ 0 ∷ 0 ∷ 2 ∷ 0 ∷ 1 ∷ 0 ∷ 0 ∷ 0 ∷ 0 ∷ 0 ∷ 1 ∷ 0 ∷ 0 ∷ 0 ∷ 1 ∷ 0 ∷ 0 ∷ 0 ∷ 16 ∷ 0 ∷ 3 ∷ 0 ∷ 0 ∷ 0 ∷ 0 ∷ 0 ∷ 0 ∷ 0 ∷ 0 ∷ 0 ∷ 0 ∷ 0 ∷ 0 ∷ 0 ∷ 12 ∷ 0 ∷ 1 ∷ 0 ∷ 0 ∷ 0 ∷ 1 ∷ 0 ∷ 1 ∷ 255 ∷ 255 ∷ 0 ∷ 0 ∷ 0 ∷ 11 ∷ 0 ∷ 1 ∷ 0 ∷ 0 ∷ 0 ∷ 0 ∷ 0 ∷ 1 ∷ 0 ∷ 0 ∷ 0 ∷ 0 ∷ 0 ∷ 1 ∷ 0 ∷ 1 ∷ 0 ∷ 0 ∷ 0 ∷ 0 ∷ 1 ∷ 0 ∷ 0 ∷ 0 ∷ 0 ∷ 0 ∷ 0 ∷ 0 ∷ 0 ∷ 0 ∷ 0 ∷ 0 ∷ 0 ∷ 0 ∷ 0 ∷ 0 ∷ 0 ∷ 0 ∷ 0 ∷ 0 ∷ 0 ∷ 0 ∷ 0 ∷ 0 ∷ 0 ∷ 0 ∷ 0 ∷ 0 ∷ 0 ∷ 0 ∷ 0 ∷ 0 ∷ []; self = None; params = (record { pattern = 2; ty = 1 } ∷ []); wanted = accepted_params (record { 0 = 1 }) (1 ∷ []) (record { terminators = (Terminator.Switch (record { 0 = 2 }) 1 0 (record { 0 = 1 }) (record { 0 = 2 }) ∷ Terminator.Open ∷ Terminator.Unreachable ∷ []); lines = (record { block = 0; statement = live 2 } ∷ record { block = 0; statement = set 2 (of_place PlaceRvalue.Discr (record { local = 0; elems = ([]) })) } ∷ record { block = 1; statement = live 1 } ∷ record { block = 1; statement = set 1 (of_place PlaceRvalue.Copy (record { local = 0; elems = ([]) })) } ∷ []); locals = (1 ∷ 1 ∷ 258 ∷ []) }) (2 ∷ 2 ∷ 2 ∷ []); values = (Adt 0 (more (Int (pos 5)) no_more) ∷ []); fit = true }

abbrev by_reference_row : ParamsRow
by_reference_row = record { image = 0 ∷ 0 ∷ 0 ∷ 51 ∷ 1 ∷ 0 ∷ 2 ∷ 0 ∷ 0 ∷ 0 ∷ 1 ∷ 0 ∷ 1 ∷ 0 ∷ 0 ∷ 0 ∷ 0 ∷ 0 ∷ 1 ∷ 0 ∷ 1 ∷ 0 ∷ 0 ∷ 0 ∷ 0 ∷ 0 ∷ 1 ∷ 0 ∷ 7 ∷ 0 ∷ 0 ∷ 0 ∷ 0 ∷ 0 ∷ 0 ∷ 0 ∷ 1 ∷ 0 ∷ 11 ∷ 0 ∷ 0 ∷ 0 ∷ 0 ∷ 0 ∷ 0 ∷ 255 ∷ 255 ∷ 0 ∷ 1 ∷ 0 ∷ 2 ∷ 0 ∷ 1 ∷ 0 ∷ 1 ∷ []; self = None; params = (record { pattern = 0; ty = 0 } ∷ []); wanted = accepted_params (record { 0 = 0 }) (1 ∷ []) (record { terminators = (Terminator.Open ∷ []); lines = (record { block = 0; statement = live 1 } ∷ record { block = 0; statement = set 1 (of_place PlaceRvalue.Ref (record { local = 0; elems = ([]) })) } ∷ []); locals = (0 ∷ 1 ∷ []) }) (2 ∷ []); values = (Int (pos 5) ∷ []); fit = true }

abbrev refutable_row : ParamsRow
refutable_row = record { image = 0 ∷ 0 ∷ 0 ∷ 59 ∷ 1 ∷ 0 ∷ 1 ∷ 0 ∷ 0 ∷ 0 ∷ 1 ∷ 0 ∷ 0 ∷ 0 ∷ 3 ∷ 0 ∷ 16 ∷ 0 ∷ 1 ∷ 0 ∷ 1 ∷ 0 ∷ 0 ∷ 0 ∷ 0 ∷ 0 ∷ 1 ∷ 0 ∷ 10 ∷ 0 ∷ 0 ∷ 0 ∷ 0 ∷ 0 ∷ 0 ∷ 0 ∷ 0 ∷ 0 ∷ 0 ∷ 0 ∷ 0 ∷ 0 ∷ 1 ∷ 0 ∷ 0 ∷ 0 ∷ 16 ∷ 7 ∷ 0 ∷ 0 ∷ 0 ∷ 0 ∷ 0 ∷ 0 ∷ 0 ∷ 0 ∷ 0 ∷ 0 ∷ 0 ∷ 0 ∷ 0 ∷ 0 ∷ 0 ∷ []; self = None; params = (record { pattern = 0; ty = 0 } ∷ []); wanted = accepted_params (record { 0 = 1 }) ([]) (record { terminators = (Terminator.Switch (record { 0 = 1 }) 1 0 (record { 0 = 1 }) (record { 0 = 2 }) ∷ Terminator.Open ∷ Terminator.Unreachable ∷ []); lines = (record { block = 0; statement = live 1 } ∷ record { block = 0; statement = set 1 (binary BinOp.Eq (Left.Constant (record { count = 1; ty = 0; offset = 0; low = 7; high = 0 })) (record { local = 0; elems = ([]) })) } ∷ []); locals = (0 ∷ 256 ∷ []) }) (2 ∷ []); values = (Int (pos 7) ∷ []); fit = true }

abbrev two_enums_row : ParamsRow
two_enums_row = record { image = 0 ∷ 0 ∷ 0 ∷ 123 ∷ 1 ∷ 0 ∷ 2 ∷ 0 ∷ 2 ∷ 0 ∷ 3 ∷ 0 ∷ 0 ∷ 0 ∷ 2 ∷ 0 ∷ 32 ∷ 0 ∷ 1 ∷ 0 ∷ 1 ∷ 0 ∷ 0 ∷ 0 ∷ 0 ∷ 0 ∷ 1 ∷ 0 ∷ 6 ∷ 0 ∷ 0 ∷ 0 ∷ 2 ∷ 0 ∷ 1 ∷ 0 ∷ 0 ∷ 0 ∷ 0 ∷ 0 ∷ 1 ∷ 0 ∷ 0 ∷ 0 ∷ 1 ∷ 0 ∷ 0 ∷ 0 ∷ 16 ∷ 0 ∷ 3 ∷ 0 ∷ 0 ∷ 0 ∷ 0 ∷ 0 ∷ 0 ∷ 0 ∷ 0 ∷ 0 ∷ 0 ∷ 0 ∷ 0 ∷ 0 ∷ 12 ∷ 0 ∷ 1 ∷ 0 ∷ 0 ∷ 0 ∷ 1 ∷ 0 ∷ 1 ∷ 255 ∷ 255 ∷ 0 ∷ 0 ∷ 0 ∷ 9 ∷ 0 ∷ 1 ∷ 0 ∷ 0 ∷ 0 ∷ 1 ∷ 0 ∷ 1 ∷ 0 ∷ 0 ∷ 0 ∷ 0 ∷ 0 ∷ 0 ∷ 0 ∷ 0 ∷ 1 ∷ 0 ∷ 0 ∷ 0 ∷ 0 ∷ 0 ∷ 0 ∷ 0 ∷ 0 ∷ 0 ∷ 0 ∷ 0 ∷ 0 ∷ 0 ∷ 0 ∷ 0 ∷ 0 ∷ 0 ∷ 0 ∷ 0 ∷ 0 ∷ 0 ∷ 0 ∷ 0 ∷ 0 ∷ 0 ∷ 0 ∷ 0 ∷ 0 ∷ 0 ∷ 0 ∷ 0 ∷ []; self = None; params = (record { pattern = 1; ty = 1 } ∷ record { pattern = 2; ty = 1 } ∷ []); wanted = accepted_params (record { 0 = 3 }) ([]) (record { terminators = (Terminator.Switch (record { 0 = 2 }) 1 0 (record { 0 = 1 }) (record { 0 = 2 }) ∷ Terminator.Switch (record { 0 = 3 }) 0 0 (record { 0 = 3 }) (record { 0 = 4 }) ∷ Terminator.Unreachable ∷ Terminator.Open ∷ Terminator.Unreachable ∷ []); lines = (record { block = 0; statement = live 2 } ∷ record { block = 0; statement = set 2 (of_place PlaceRvalue.Discr (record { local = 0; elems = ([]) })) } ∷ record { block = 1; statement = live 3 } ∷ record { block = 1; statement = set 3 (of_place PlaceRvalue.Discr (record { local = 1; elems = ([]) })) } ∷ []); locals = (1 ∷ 1 ∷ 258 ∷ 258 ∷ []) }) (2 ∷ 2 ∷ 2 ∷ []); values = (Adt 0 (more (Int (pos 5)) no_more) ∷ Adt 1 no_more ∷ []); fit = true }

abbrev receiver_and_pair_row : ParamsRow
receiver_and_pair_row = record { image = 0 ∷ 0 ∷ 0 ∷ 109 ∷ 1 ∷ 0 ∷ 2 ∷ 0 ∷ 0 ∷ 0 ∷ 4 ∷ 0 ∷ 3 ∷ 0 ∷ 4 ∷ 0 ∷ 0 ∷ 0 ∷ 1 ∷ 0 ∷ 1 ∷ 0 ∷ 0 ∷ 0 ∷ 0 ∷ 0 ∷ 1 ∷ 0 ∷ 5 ∷ 0 ∷ 0 ∷ 0 ∷ 2 ∷ 0 ∷ 0 ∷ 0 ∷ 1 ∷ 0 ∷ 11 ∷ 0 ∷ 0 ∷ 0 ∷ 0 ∷ 0 ∷ 1 ∷ 255 ∷ 255 ∷ 0 ∷ 0 ∷ 0 ∷ 0 ∷ 0 ∷ 3 ∷ 0 ∷ 0 ∷ 0 ∷ 0 ∷ 0 ∷ 0 ∷ 0 ∷ 0 ∷ 0 ∷ 0 ∷ 0 ∷ 0 ∷ 0 ∷ 4 ∷ 0 ∷ 1 ∷ 0 ∷ 0 ∷ 0 ∷ 2 ∷ 0 ∷ 2 ∷ 255 ∷ 255 ∷ 0 ∷ 0 ∷ 0 ∷ 11 ∷ 0 ∷ 0 ∷ 0 ∷ 0 ∷ 0 ∷ 2 ∷ 255 ∷ 255 ∷ 0 ∷ 0 ∷ 0 ∷ 0 ∷ 0 ∷ 0 ∷ 0 ∷ 1 ∷ 0 ∷ 0 ∷ 0 ∷ 1 ∷ 0 ∷ 0 ∷ 0 ∷ 1 ∷ 0 ∷ 0 ∷ 0 ∷ 0 ∷ 0 ∷ 0 ∷ 0 ∷ 1 ∷ []; self = Some (record { 0 = 0 }, 0); params = (record { pattern = 2; ty = 1 } ∷ record { pattern = 3; ty = 0 } ∷ []); wanted = accepted_params (record { 0 = 0 }) (0 ∷ 3 ∷ 2 ∷ []) (record { terminators = (Terminator.Open ∷ []); lines = (record { block = 0; statement = live 3 } ∷ record { block = 0; statement = set 3 (of_place PlaceRvalue.Copy (record { local = 1; elems = ((ProjectionElem.Field 0) ∷ []) })) } ∷ []); locals = (0 ∷ 1 ∷ 0 ∷ 0 ∷ []) }) (2 ∷ 2 ∷ 2 ∷ 0 ∷ []); values = (Int (pos 9) ∷ Tuple (more (Int (pos 2)) (more (Int (pos 3)) no_more)) ∷ Int (pos 4) ∷ []); fit = true }

abbrev bound_twice_row : ParamsRow
bound_twice_row = record { image = 0 ∷ 0 ∷ 0 ∷ 41 ∷ 1 ∷ 0 ∷ 1 ∷ 0 ∷ 0 ∷ 0 ∷ 1 ∷ 0 ∷ 1 ∷ 0 ∷ 0 ∷ 0 ∷ 0 ∷ 0 ∷ 1 ∷ 0 ∷ 1 ∷ 0 ∷ 0 ∷ 0 ∷ 0 ∷ 0 ∷ 1 ∷ 0 ∷ 11 ∷ 0 ∷ 0 ∷ 0 ∷ 0 ∷ 0 ∷ 0 ∷ 255 ∷ 255 ∷ 0 ∷ 0 ∷ 0 ∷ 0 ∷ 0 ∷ 0 ∷ 0 ∷ 1 ∷ []; self = Some (record { 0 = 0 }, 0); params = (record { pattern = 0; ty = 0 } ∷ []); wanted = refused_params (record { number = 1; pattern = 65535; reason = 0 }); values = (Int (pos 9) ∷ Int (pos 4) ∷ []); fit = false }

abbrev bound_first_row : ParamsRow
bound_first_row = record { image = 0 ∷ 0 ∷ 0 ∷ 55 ∷ 1 ∷ 0 ∷ 1 ∷ 0 ∷ 0 ∷ 0 ∷ 2 ∷ 0 ∷ 1 ∷ 0 ∷ 0 ∷ 0 ∷ 0 ∷ 0 ∷ 1 ∷ 0 ∷ 1 ∷ 0 ∷ 0 ∷ 0 ∷ 0 ∷ 0 ∷ 1 ∷ 0 ∷ 11 ∷ 0 ∷ 0 ∷ 0 ∷ 0 ∷ 0 ∷ 0 ∷ 255 ∷ 255 ∷ 0 ∷ 0 ∷ 0 ∷ 0 ∷ 0 ∷ 3 ∷ 0 ∷ 0 ∷ 0 ∷ 0 ∷ 0 ∷ 0 ∷ 0 ∷ 0 ∷ 0 ∷ 0 ∷ 0 ∷ 0 ∷ 0 ∷ 0 ∷ 0 ∷ 1 ∷ []; self = Some (record { 0 = 0 }, 0); params = (record { pattern = 0; ty = 0 } ∷ record { pattern = 1; ty = 0 } ∷ []); wanted = refused_params (record { number = 1; pattern = 65535; reason = 0 }); values = (Int (pos 9) ∷ Int (pos 4) ∷ Int (pos 4) ∷ []); fit = false }

abbrev bound_last_row : ParamsRow
bound_last_row = record { image = 0 ∷ 0 ∷ 0 ∷ 55 ∷ 1 ∷ 0 ∷ 1 ∷ 0 ∷ 0 ∷ 0 ∷ 2 ∷ 0 ∷ 1 ∷ 0 ∷ 0 ∷ 0 ∷ 0 ∷ 0 ∷ 1 ∷ 0 ∷ 1 ∷ 0 ∷ 0 ∷ 0 ∷ 0 ∷ 0 ∷ 1 ∷ 0 ∷ 3 ∷ 0 ∷ 0 ∷ 0 ∷ 0 ∷ 0 ∷ 0 ∷ 0 ∷ 0 ∷ 0 ∷ 0 ∷ 0 ∷ 0 ∷ 0 ∷ 11 ∷ 0 ∷ 0 ∷ 0 ∷ 0 ∷ 0 ∷ 0 ∷ 255 ∷ 255 ∷ 0 ∷ 0 ∷ 0 ∷ 1 ∷ 0 ∷ 0 ∷ 0 ∷ 1 ∷ []; self = Some (record { 0 = 0 }, 0); params = (record { pattern = 0; ty = 0 } ∷ record { pattern = 1; ty = 0 } ∷ []); wanted = refused_params (record { number = 1; pattern = 65535; reason = 0 }); values = (Int (pos 9) ∷ Int (pos 4) ∷ Int (pos 4) ∷ []); fit = false }

abbrev bound_by_mode_row : ParamsRow
bound_by_mode_row = record { image = 0 ∷ 0 ∷ 0 ∷ 41 ∷ 1 ∷ 0 ∷ 1 ∷ 0 ∷ 0 ∷ 0 ∷ 1 ∷ 0 ∷ 1 ∷ 0 ∷ 0 ∷ 0 ∷ 0 ∷ 0 ∷ 1 ∷ 0 ∷ 1 ∷ 0 ∷ 0 ∷ 0 ∷ 0 ∷ 0 ∷ 1 ∷ 0 ∷ 11 ∷ 0 ∷ 0 ∷ 0 ∷ 0 ∷ 0 ∷ 0 ∷ 255 ∷ 255 ∷ 0 ∷ 1 ∷ 0 ∷ 0 ∷ 0 ∷ 0 ∷ 0 ∷ 1 ∷ []; self = Some (record { 0 = 0 }, 0); params = (record { pattern = 0; ty = 0 } ∷ []); wanted = refused_params (record { number = 1; pattern = 65535; reason = 0 }); values = (Int (pos 9) ∷ Int (pos 4) ∷ []); fit = false }

abbrev bound_behind_row : ParamsRow
bound_behind_row = record { image = 0 ∷ 0 ∷ 0 ∷ 51 ∷ 1 ∷ 0 ∷ 2 ∷ 0 ∷ 0 ∷ 0 ∷ 1 ∷ 0 ∷ 1 ∷ 0 ∷ 0 ∷ 0 ∷ 0 ∷ 0 ∷ 1 ∷ 0 ∷ 1 ∷ 0 ∷ 0 ∷ 0 ∷ 0 ∷ 0 ∷ 1 ∷ 0 ∷ 7 ∷ 0 ∷ 0 ∷ 0 ∷ 0 ∷ 0 ∷ 0 ∷ 0 ∷ 1 ∷ 0 ∷ 11 ∷ 0 ∷ 0 ∷ 0 ∷ 1 ∷ 0 ∷ 0 ∷ 255 ∷ 255 ∷ 0 ∷ 1 ∷ 0 ∷ 0 ∷ 0 ∷ 1 ∷ 0 ∷ 1 ∷ []; self = Some (record { 0 = 0 }, 1); params = (record { pattern = 0; ty = 1 } ∷ []); wanted = refused_params (record { number = 1; pattern = 65535; reason = 0 }); values = (Int (pos 9) ∷ Int (pos 4) ∷ []); fit = false }

abbrev bound_annotated_row : ParamsRow
bound_annotated_row = record { image = 0 ∷ 0 ∷ 0 ∷ 41 ∷ 1 ∷ 0 ∷ 1 ∷ 0 ∷ 0 ∷ 0 ∷ 1 ∷ 0 ∷ 1 ∷ 0 ∷ 0 ∷ 0 ∷ 0 ∷ 0 ∷ 1 ∷ 0 ∷ 1 ∷ 0 ∷ 0 ∷ 0 ∷ 0 ∷ 0 ∷ 1 ∷ 0 ∷ 11 ∷ 0 ∷ 0 ∷ 0 ∷ 0 ∷ 0 ∷ 0 ∷ 255 ∷ 255 ∷ 0 ∷ 1 ∷ 0 ∷ 2 ∷ 0 ∷ 0 ∷ 0 ∷ 1 ∷ []; self = Some (record { 0 = 0 }, 0); params = (record { pattern = 0; ty = 0 } ∷ []); wanted = accepted_params (record { 0 = 0 }) (0 ∷ []) (record { terminators = (Terminator.Open ∷ []); lines = (record { block = 0; statement = live 0 } ∷ record { block = 0; statement = set 0 (of_place PlaceRvalue.Ref (record { local = 1; elems = ([]) })) } ∷ []); locals = (0 ∷ 0 ∷ []) }) (2 ∷ []); values = (Int (pos 9) ∷ Int (pos 4) ∷ []); fit = false }

abbrev bound_at_row : ParamsRow
bound_at_row = record { image = 0 ∷ 0 ∷ 0 ∷ 55 ∷ 1 ∷ 0 ∷ 1 ∷ 0 ∷ 0 ∷ 0 ∷ 2 ∷ 0 ∷ 1 ∷ 0 ∷ 0 ∷ 0 ∷ 0 ∷ 0 ∷ 1 ∷ 0 ∷ 1 ∷ 0 ∷ 0 ∷ 0 ∷ 0 ∷ 0 ∷ 1 ∷ 0 ∷ 3 ∷ 0 ∷ 0 ∷ 0 ∷ 0 ∷ 0 ∷ 0 ∷ 0 ∷ 0 ∷ 0 ∷ 0 ∷ 0 ∷ 0 ∷ 0 ∷ 11 ∷ 0 ∷ 0 ∷ 0 ∷ 0 ∷ 0 ∷ 0 ∷ 0 ∷ 0 ∷ 0 ∷ 0 ∷ 0 ∷ 0 ∷ 0 ∷ 0 ∷ 0 ∷ 1 ∷ []; self = Some (record { 0 = 0 }, 0); params = (record { pattern = 1; ty = 0 } ∷ []); wanted = accepted_params (record { 0 = 0 }) (0 ∷ []) (record { terminators = (Terminator.Open ∷ []); lines = (record { block = 0; statement = live 0 } ∷ record { block = 0; statement = set 0 (of_place PlaceRvalue.Copy (record { local = 1; elems = ([]) })) } ∷ []); locals = (0 ∷ 0 ∷ []) }) (2 ∷ 2 ∷ []); values = (Int (pos 9) ∷ Int (pos 4) ∷ []); fit = false }

abbrev bound_below_row : ParamsRow
bound_below_row = record { image = 0 ∷ 0 ∷ 0 ∷ 87 ∷ 1 ∷ 0 ∷ 2 ∷ 0 ∷ 0 ∷ 0 ∷ 3 ∷ 0 ∷ 1 ∷ 0 ∷ 4 ∷ 0 ∷ 0 ∷ 0 ∷ 1 ∷ 0 ∷ 1 ∷ 0 ∷ 0 ∷ 0 ∷ 0 ∷ 0 ∷ 1 ∷ 0 ∷ 5 ∷ 0 ∷ 0 ∷ 0 ∷ 2 ∷ 0 ∷ 0 ∷ 0 ∷ 1 ∷ 0 ∷ 11 ∷ 0 ∷ 0 ∷ 0 ∷ 0 ∷ 0 ∷ 0 ∷ 255 ∷ 255 ∷ 0 ∷ 0 ∷ 0 ∷ 0 ∷ 0 ∷ 3 ∷ 0 ∷ 0 ∷ 0 ∷ 0 ∷ 0 ∷ 0 ∷ 0 ∷ 0 ∷ 0 ∷ 0 ∷ 0 ∷ 0 ∷ 0 ∷ 4 ∷ 0 ∷ 1 ∷ 0 ∷ 0 ∷ 0 ∷ 2 ∷ 0 ∷ 2 ∷ 255 ∷ 255 ∷ 0 ∷ 0 ∷ 0 ∷ 0 ∷ 0 ∷ 1 ∷ 0 ∷ 0 ∷ 0 ∷ 0 ∷ 0 ∷ 0 ∷ 0 ∷ 1 ∷ []; self = Some (record { 0 = 0 }, 0); params = (record { pattern = 2; ty = 1 } ∷ []); wanted = accepted_params (record { 0 = 0 }) (0 ∷ []) (record { terminators = (Terminator.Open ∷ []); lines = (record { block = 0; statement = live 0 } ∷ record { block = 0; statement = set 0 (of_place PlaceRvalue.Copy (record { local = 1; elems = ((ProjectionElem.Field 0) ∷ []) })) } ∷ []); locals = (0 ∷ 1 ∷ []) }) (2 ∷ 2 ∷ 2 ∷ []); values = (Int (pos 9) ∷ Tuple (more (Int (pos 2)) (more (Int (pos 3)) no_more)) ∷ []); fit = false }

abbrev bound_without_self_row : ParamsRow
bound_without_self_row = record { image = 0 ∷ 0 ∷ 0 ∷ 55 ∷ 1 ∷ 0 ∷ 1 ∷ 0 ∷ 0 ∷ 0 ∷ 2 ∷ 0 ∷ 1 ∷ 0 ∷ 0 ∷ 0 ∷ 0 ∷ 0 ∷ 1 ∷ 0 ∷ 1 ∷ 0 ∷ 0 ∷ 0 ∷ 0 ∷ 0 ∷ 1 ∷ 0 ∷ 11 ∷ 0 ∷ 0 ∷ 0 ∷ 0 ∷ 0 ∷ 0 ∷ 255 ∷ 255 ∷ 0 ∷ 0 ∷ 0 ∷ 0 ∷ 0 ∷ 11 ∷ 0 ∷ 0 ∷ 0 ∷ 0 ∷ 0 ∷ 0 ∷ 255 ∷ 255 ∷ 0 ∷ 0 ∷ 0 ∷ 0 ∷ 0 ∷ 0 ∷ 0 ∷ 1 ∷ []; self = None; params = (record { pattern = 0; ty = 0 } ∷ record { pattern = 1; ty = 0 } ∷ []); wanted = accepted_params (record { 0 = 0 }) (1 ∷ []) (record { terminators = (Terminator.Open ∷ []); lines = (record { block = 0; statement = live 1 } ∷ record { block = 0; statement = set 1 (of_place PlaceRvalue.Copy (record { local = 0; elems = ([]) })) } ∷ []); locals = (0 ∷ 0 ∷ []) }) (2 ∷ 0 ∷ []); values = (Int (pos 4) ∷ Int (pos 4) ∷ []); fit = false }

abbrev pub rows : List ParamsRow
rows = plain_row ∷ mutable_row ∷ bound_some_row ∷ by_reference_row ∷ refutable_row ∷ two_enums_row ∷ receiver_and_pair_row ∷ bound_twice_row ∷ bound_first_row ∷ bound_last_row ∷ bound_by_mode_row ∷ bound_behind_row ∷ bound_annotated_row ∷ bound_at_row ∷ bound_below_row ∷ bound_without_self_row ∷ []

-- each row's image comes to the answer that is wanted
pub as_wanted : map (λ (row : ParamsRow). corner_answer row.image row.self row.params) rows ≡ map (λ (row : ParamsRow). row.wanted) rows
unfolding word_at little_endian tables_of type_at variant_at pat_at binding_at list_at operand_at operand_bytes all_below all_in all_true member distinct up_from gather is_scalar_value operand_value_holds operand_holds counts_what_follows version_is_one tables_fill_the_rest listed types_listed is_integer_size adt_may_have type_shape_holds type_holds variants_by adts_share_no_variant variant_holds binding_holds within_limits if_present subpatterns_by path_holds pattern_shape_holds pattern_holds subpatterns_below used_once valid shape_by ty_of variant_of binding_of operand_of word? operand? trees tree? target node_by node tree_of tree elem_of word_of projection_of field_of deref_ty adt_field_ty field_ty element_ty subslice_ty adt_downcast_ty downcast_ty ty_projection variant_projection part_projection projection_ty multi_projection_ty term_row halves place_words local_ty constant_words left_words place_rvalue_kind binary_kind live_row dead_row place_rvalue_row constant_row binary_row new_block set_terminator push_statement new_local push_scope push_entry try_block try_statement try_local try_scope try_entry constant_of string_constant integer_constant literal_by lower_literal_to_operand lower_const_to_operand literal_or_const_by lower_literal_or_const_to_operand is_slice is_held mark_live temp binding_local terminator_of elems_at path_of constant_at left_of line_of mir_of number_of reason_of refusal_at visited project local_place else_state else_block derefed entered compare pattern_match_const literal lit_by constant_path range_end range_end? binding_rvalue pattern_match_binding local_path place_ty shape_of pattern_match_adt pattern_match_tuple_like ellipsis_at tuple_on tuple_pattern ref_on ref_pattern resolved record_fields variant_fields discriminant_test variant_on adt_on pattern_matching_variant variant_pattern length_constant length_compared length_test rest_bound slice_items slice_on alternatives alternatives_end or_pattern end_op range_pattern path_pattern bind_pattern rest_by rest_of pattern_match_inner lowerings lowering? pattern_match param_local by_value plain_bind plain_binding bound_to declare_self declare_param declare_params declare_binding declare_bindings declare shut_else shut unless_bound unless_own lower_param lower_params self_count lower_all lower_params_and_bindings binds_receiver none_binds_receiver receiver_apart params_start unbound corner_answer
as_wanted = refl

-- whether the parameters fit the values beside them, as the theorem on runs asks
pub fit_as_said : map corner_fits rows ≡ map (λ (row : ParamsRow). row.fit) rows
unfolding word_at little_endian tables_of type_at variant_at pat_at binding_at list_at operand_at operand_bytes all_below all_in all_true member distinct up_from gather is_scalar_value operand_value_holds operand_holds counts_what_follows version_is_one tables_fill_the_rest listed types_listed is_integer_size adt_may_have type_shape_holds type_holds variants_by adts_share_no_variant variant_holds binding_holds within_limits if_present subpatterns_by path_holds pattern_shape_holds pattern_holds subpatterns_below used_once valid shape_by ty_of variant_of binding_of operand_of word? operand? trees tree? target node_by node tree_of tree least_value greatest_value in_range integer_value kind_number tuple_fields referent items parts_of int_fits has_variant value_fits adt_variants behind type_is_the_places arguments_fit discriminants_differ integer_fits literal_fits path_fits row_fits each_fits types_fit bound_in bindings_fit path_taken nothing_refused present locals_differ fits crossed created match_all match_row is_variant path_matches matches scalar_of bytes_of same_value Rattle.meaning.specs.Typing.variant_fields own_local plain pattern_fits param_fits params_fit all_fit params_bound corner_fits
fit_as_said = refl
