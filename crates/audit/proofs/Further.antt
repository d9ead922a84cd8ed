-- Further corners, lowered by computation from the images' bytes: each row has an image, the type of local 0, and the answer with the
-- whole content of its listing and the visits. The rows are written out by samples/corner_theorems.py. Assumes nothing.
use Prim.Native.Nat.{ℕ}
use mathlib.Core.Path.{◌≡◌, refl}
use mathlib.Core.List.{List, [], ◌∷◌, map}
use Rattle.std.specs.Prelude.{Some, None}
use Rattle.place.specs.declared.elems.ProjectionElem.{ProjectionElem}
use Rattle.mir.specs.declared.blocks.Terminator.{Terminator}
use Rattle.mir.specs.declared.rvalues.BinOp.{BinOp}
use Rattle.mir.specs.declared.rvalues.Left.{Left}
use Rattle.mir.specs.declared.rvalues.PlaceRvalue.{PlaceRvalue}
use Rattle.views.specs.Views.{Rvalue, of_place, of_constant, binary, Statement, live, dead, set}
use Rattle.image.specs.Bytes.{word_at, little_endian}
use Rattle.image.specs.Tables.{tables_of}
use Rattle.image.specs.Rows.{type_at, variant_at, pat_at, binding_at, list_at, operand_at, operand_bytes}
use Rattle.image.specs.Lists.{all_below, all_in, all_true, member, distinct, up_from, gather}
use Rattle.image.specs.Operands.{is_scalar_value, operand_value_holds, operand_holds}
use Rattle.image.specs.Rules.{counts_what_follows, version_is_one, tables_fill_the_rest, listed, types_listed, is_integer_size, adt_may_have, type_shape_holds, type_holds, variants_by, adts_share_no_variant, variant_holds, binding_holds, within_limits}
use Rattle.image.specs.Subpatterns.{if_present, subpatterns_by}
use Rattle.image.specs.Patterns.{path_holds, pattern_shape_holds, pattern_holds, subpatterns_below, used_once}
use Rattle.image.specs.Valid.{valid}
use Rattle.image.specs.Types.{shape_by, ty_of, variant_of, binding_of, operand_of}
use Rattle.image.specs.Tree.{word?, operand?, trees, tree?, target, node_by, node, tree_of, tree}
use Rattle.place.specs.Elems.{elem_of, word_of}
use Rattle.place.specs.Places.{projection_of}
use Rattle.place.specs.PlaceTypes.{field_of, deref_ty, adt_field_ty, field_ty, element_ty, subslice_ty, adt_downcast_ty, downcast_ty, ty_projection, variant_projection, part_projection, projection_ty, multi_projection_ty}
use Rattle.mir.specs.Blocks.{term_row}
use Rattle.mir.specs.Statements.{halves, place_words}
use Rattle.mir.specs.Locals.{local_ty}
use Rattle.mir.specs.Rvalues.{constant_words, left_words, place_rvalue_kind, binary_kind, live_row, dead_row, place_rvalue_row, constant_row, binary_row}
use Rattle.state.specs.Steps.{new_block, set_terminator, push_statement, new_local, push_scope, push_entry, try_block, try_statement, try_local, try_scope, try_entry}
use Rattle.literals.specs.Literals.{constant_of, string_constant, integer_constant, literal_by, lower_literal_to_operand, lower_const_to_operand, literal_or_const_by, lower_literal_or_const_to_operand}
use Rattle.lower_spec.specs.Temps.{is_slice, is_held, mark_live, temp, binding_local}
use Rattle.views.specs.Views.{terminator_of, elems_at, path_of, constant_at, left_of, line_of, mir_of}
use Rattle.refusals.specs.Refusals.{number_of, reason_of, refusal_at}
use Rattle.pattern_matching.specs.Walking.{visited, project, local_place, else_state, else_block, derefed, entered}
use Rattle.pattern_matching.specs.Tests.{compare, pattern_match_const, literal, lit_by, constant_path, range_end, range_end?, binding_rvalue, pattern_match_binding, local_path}
use Rattle.pattern_matching.specs.Variants.{place_ty, shape_of, pattern_match_adt, pattern_match_tuple_like, ellipsis_at, tuple_on, tuple_pattern, ref_on, ref_pattern, resolved, record_fields, variant_fields, discriminant_test, variant_on, adt_on, pattern_matching_variant, variant_pattern}
use Rattle.pattern_matching.specs.Slices.{length_constant, length_compared, length_test, rest_bound, slice_items, slice_on}
use Rattle.pattern_matching.specs.Patterns.{alternatives, alternatives_end, or_pattern, end_op, range_pattern, path_pattern, bind_pattern, rest_by, rest_of, pattern_match_inner, lowerings, lowering?, pattern_match}
use Rattle.audit.specs.Call.{lowering}
use Rattle.audit.specs.Started.{start_state, start, answer_by, Answer, lowers_to, refusal, Row}

abbrev surplus_row : Row
surplus_row = record { image = 0 ∷ 0 ∷ 0 ∷ 143 ∷ 1 ∷ 0 ∷ 2 ∷ 0 ∷ 0 ∷ 0 ∷ 4 ∷ 0 ∷ 0 ∷ 0 ∷ 11 ∷ 0 ∷ 32 ∷ 0 ∷ 1 ∷ 0 ∷ 1 ∷ 0 ∷ 0 ∷ 0 ∷ 0 ∷ 0 ∷ 1 ∷ 0 ∷ 5 ∷ 0 ∷ 0 ∷ 0 ∷ 2 ∷ 0 ∷ 0 ∷ 0 ∷ 1 ∷ 0 ∷ 3 ∷ 0 ∷ 0 ∷ 0 ∷ 0 ∷ 0 ∷ 0 ∷ 0 ∷ 0 ∷ 0 ∷ 0 ∷ 0 ∷ 0 ∷ 0 ∷ 10 ∷ 0 ∷ 0 ∷ 0 ∷ 0 ∷ 0 ∷ 2 ∷ 0 ∷ 0 ∷ 0 ∷ 0 ∷ 0 ∷ 0 ∷ 0 ∷ 10 ∷ 0 ∷ 0 ∷ 0 ∷ 0 ∷ 0 ∷ 5 ∷ 0 ∷ 0 ∷ 0 ∷ 0 ∷ 0 ∷ 0 ∷ 0 ∷ 4 ∷ 0 ∷ 1 ∷ 0 ∷ 0 ∷ 0 ∷ 8 ∷ 0 ∷ 3 ∷ 255 ∷ 255 ∷ 0 ∷ 0 ∷ 0 ∷ 0 ∷ 0 ∷ 0 ∷ 0 ∷ 1 ∷ 0 ∷ 0 ∷ 0 ∷ 16 ∷ 0 ∷ 1 ∷ 0 ∷ 16 ∷ 0 ∷ 16 ∷ 0 ∷ 0 ∷ 0 ∷ 1 ∷ 0 ∷ 2 ∷ 1 ∷ 0 ∷ 0 ∷ 0 ∷ 0 ∷ 0 ∷ 0 ∷ 0 ∷ 0 ∷ 0 ∷ 0 ∷ 0 ∷ 0 ∷ 0 ∷ 0 ∷ 0 ∷ 2 ∷ 0 ∷ 0 ∷ 0 ∷ 0 ∷ 0 ∷ 0 ∷ 0 ∷ 0 ∷ 0 ∷ 0 ∷ 0 ∷ 0 ∷ 0 ∷ 0 ∷ 0 ∷ []; ty = 1; wanted = lowers_to (record { 0 = 1 }) (Some (record { 0 = 2 })) (record { terminators = (Terminator.Switch (record { 0 = 1 }) 1 0 (record { 0 = 1 }) (record { 0 = 2 }) ∷ Terminator.Open ∷ Terminator.Open ∷ []); lines = (record { block = 0; statement = live 1 } ∷ record { block = 0; statement = set 1 (binary BinOp.Eq (Left.Constant (record { count = 1; ty = 0; offset = 0; low = 1; high = 0 })) (record { local = 0; elems = ((ProjectionElem.Field 1) ∷ []) })) } ∷ []); locals = (1 ∷ 256 ∷ []) }) (2 ∷ 2 ∷ 0 ∷ 2 ∷ []) }

abbrev enum_twice_row : Row
enum_twice_row = record { image = 0 ∷ 0 ∷ 0 ∷ 141 ∷ 1 ∷ 0 ∷ 2 ∷ 0 ∷ 2 ∷ 0 ∷ 4 ∷ 0 ∷ 0 ∷ 0 ∷ 4 ∷ 0 ∷ 32 ∷ 0 ∷ 1 ∷ 0 ∷ 1 ∷ 0 ∷ 0 ∷ 0 ∷ 0 ∷ 0 ∷ 1 ∷ 0 ∷ 6 ∷ 0 ∷ 0 ∷ 0 ∷ 2 ∷ 0 ∷ 1 ∷ 0 ∷ 0 ∷ 0 ∷ 0 ∷ 0 ∷ 1 ∷ 0 ∷ 0 ∷ 0 ∷ 1 ∷ 0 ∷ 0 ∷ 0 ∷ 16 ∷ 0 ∷ 3 ∷ 0 ∷ 0 ∷ 0 ∷ 0 ∷ 0 ∷ 0 ∷ 0 ∷ 0 ∷ 0 ∷ 0 ∷ 0 ∷ 0 ∷ 0 ∷ 12 ∷ 0 ∷ 1 ∷ 0 ∷ 0 ∷ 0 ∷ 1 ∷ 0 ∷ 1 ∷ 255 ∷ 255 ∷ 0 ∷ 0 ∷ 0 ∷ 9 ∷ 0 ∷ 1 ∷ 0 ∷ 0 ∷ 0 ∷ 1 ∷ 0 ∷ 1 ∷ 0 ∷ 0 ∷ 0 ∷ 0 ∷ 0 ∷ 5 ∷ 0 ∷ 1 ∷ 0 ∷ 0 ∷ 0 ∷ 2 ∷ 0 ∷ 2 ∷ 0 ∷ 0 ∷ 0 ∷ 0 ∷ 0 ∷ 0 ∷ 0 ∷ 0 ∷ 0 ∷ 1 ∷ 0 ∷ 2 ∷ 1 ∷ 0 ∷ 0 ∷ 0 ∷ 0 ∷ 0 ∷ 0 ∷ 0 ∷ 0 ∷ 0 ∷ 0 ∷ 0 ∷ 0 ∷ 0 ∷ 0 ∷ 0 ∷ 0 ∷ 0 ∷ 0 ∷ 0 ∷ 0 ∷ 0 ∷ 0 ∷ 0 ∷ 0 ∷ 0 ∷ 0 ∷ 0 ∷ 0 ∷ 0 ∷ 0 ∷ 0 ∷ []; ty = 1; wanted = lowers_to (record { 0 = 7 }) (Some (record { 0 = 6 })) (record { terminators = (Terminator.Switch (record { 0 = 1 }) 1 0 (record { 0 = 2 }) (record { 0 = 3 }) ∷ Terminator.Switch (record { 0 = 3 }) 1 0 (record { 0 = 8 }) (record { 0 = 9 }) ∷ Terminator.Goto (record { 0 = 1 }) ∷ Terminator.Switch (record { 0 = 2 }) 0 0 (record { 0 = 4 }) (record { 0 = 5 }) ∷ Terminator.Goto (record { 0 = 1 }) ∷ Terminator.Goto (record { 0 = 6 }) ∷ Terminator.Open ∷ Terminator.Open ∷ Terminator.Goto (record { 0 = 7 }) ∷ Terminator.Switch (record { 0 = 4 }) 0 0 (record { 0 = 10 }) (record { 0 = 11 }) ∷ Terminator.Goto (record { 0 = 7 }) ∷ Terminator.Unreachable ∷ []); lines = (record { block = 0; statement = live 1 } ∷ record { block = 0; statement = set 1 (of_place PlaceRvalue.Discr (record { local = 0; elems = ([]) })) } ∷ record { block = 3; statement = live 2 } ∷ record { block = 3; statement = set 2 (of_place PlaceRvalue.Discr (record { local = 0; elems = ([]) })) } ∷ record { block = 1; statement = live 3 } ∷ record { block = 1; statement = set 3 (of_place PlaceRvalue.Discr (record { local = 0; elems = ([]) })) } ∷ record { block = 9; statement = live 4 } ∷ record { block = 9; statement = set 4 (of_place PlaceRvalue.Discr (record { local = 0; elems = ([]) })) } ∷ []); locals = (1 ∷ 258 ∷ 258 ∷ 258 ∷ 258 ∷ []) }) (3 ∷ 3 ∷ 3 ∷ 2 ∷ []) }

abbrev bind_some_row : Row
bind_some_row = record { image = 0 ∷ 0 ∷ 0 ∷ 127 ∷ 1 ∷ 0 ∷ 2 ∷ 0 ∷ 2 ∷ 0 ∷ 3 ∷ 0 ∷ 1 ∷ 0 ∷ 2 ∷ 0 ∷ 32 ∷ 0 ∷ 1 ∷ 0 ∷ 1 ∷ 0 ∷ 0 ∷ 0 ∷ 0 ∷ 0 ∷ 1 ∷ 0 ∷ 6 ∷ 0 ∷ 0 ∷ 0 ∷ 2 ∷ 0 ∷ 1 ∷ 0 ∷ 0 ∷ 0 ∷ 0 ∷ 0 ∷ 1 ∷ 0 ∷ 0 ∷ 0 ∷ 1 ∷ 0 ∷ 0 ∷ 0 ∷ 16 ∷ 0 ∷ 3 ∷ 0 ∷ 0 ∷ 0 ∷ 0 ∷ 0 ∷ 0 ∷ 0 ∷ 0 ∷ 0 ∷ 0 ∷ 0 ∷ 0 ∷ 0 ∷ 12 ∷ 0 ∷ 1 ∷ 0 ∷ 0 ∷ 0 ∷ 1 ∷ 0 ∷ 1 ∷ 255 ∷ 255 ∷ 0 ∷ 0 ∷ 0 ∷ 11 ∷ 0 ∷ 1 ∷ 0 ∷ 0 ∷ 0 ∷ 0 ∷ 0 ∷ 1 ∷ 0 ∷ 0 ∷ 0 ∷ 0 ∷ 0 ∷ 1 ∷ 0 ∷ 1 ∷ 0 ∷ 0 ∷ 0 ∷ 0 ∷ 1 ∷ 0 ∷ 0 ∷ 0 ∷ 0 ∷ 0 ∷ 0 ∷ 0 ∷ 0 ∷ 0 ∷ 0 ∷ 0 ∷ 0 ∷ 0 ∷ 0 ∷ 0 ∷ 0 ∷ 0 ∷ 0 ∷ 0 ∷ 0 ∷ 0 ∷ 0 ∷ 0 ∷ 0 ∷ 0 ∷ 0 ∷ 0 ∷ 0 ∷ 0 ∷ 0 ∷ 0 ∷ []; ty = 1; wanted = lowers_to (record { 0 = 1 }) (Some (record { 0 = 2 })) (record { terminators = (Terminator.Switch (record { 0 = 2 }) 1 0 (record { 0 = 1 }) (record { 0 = 2 }) ∷ Terminator.Open ∷ Terminator.Open ∷ []); lines = (record { block = 0; statement = live 2 } ∷ record { block = 0; statement = set 2 (of_place PlaceRvalue.Discr (record { local = 0; elems = ([]) })) } ∷ record { block = 1; statement = live 1 } ∷ record { block = 1; statement = set 1 (of_place PlaceRvalue.Copy (record { local = 0; elems = ([]) })) } ∷ []); locals = (1 ∷ 1 ∷ 258 ∷ []) }) (2 ∷ 2 ∷ 2 ∷ []) }

abbrev nested_or_row : Row
nested_or_row = record { image = 0 ∷ 0 ∷ 0 ∷ 185 ∷ 1 ∷ 0 ∷ 1 ∷ 0 ∷ 0 ∷ 0 ∷ 6 ∷ 0 ∷ 1 ∷ 0 ∷ 13 ∷ 0 ∷ 48 ∷ 0 ∷ 1 ∷ 0 ∷ 1 ∷ 0 ∷ 0 ∷ 0 ∷ 0 ∷ 0 ∷ 1 ∷ 0 ∷ 10 ∷ 0 ∷ 0 ∷ 0 ∷ 0 ∷ 0 ∷ 0 ∷ 0 ∷ 0 ∷ 0 ∷ 0 ∷ 0 ∷ 0 ∷ 0 ∷ 10 ∷ 0 ∷ 0 ∷ 0 ∷ 0 ∷ 0 ∷ 3 ∷ 0 ∷ 0 ∷ 0 ∷ 0 ∷ 0 ∷ 0 ∷ 0 ∷ 10 ∷ 0 ∷ 0 ∷ 0 ∷ 0 ∷ 0 ∷ 6 ∷ 0 ∷ 0 ∷ 0 ∷ 0 ∷ 0 ∷ 0 ∷ 0 ∷ 5 ∷ 0 ∷ 0 ∷ 0 ∷ 0 ∷ 0 ∷ 9 ∷ 0 ∷ 2 ∷ 0 ∷ 0 ∷ 0 ∷ 0 ∷ 0 ∷ 5 ∷ 0 ∷ 0 ∷ 0 ∷ 0 ∷ 0 ∷ 11 ∷ 0 ∷ 2 ∷ 0 ∷ 0 ∷ 0 ∷ 0 ∷ 0 ∷ 11 ∷ 0 ∷ 0 ∷ 0 ∷ 0 ∷ 0 ∷ 0 ∷ 0 ∷ 4 ∷ 0 ∷ 0 ∷ 0 ∷ 0 ∷ 0 ∷ 0 ∷ 0 ∷ 1 ∷ 0 ∷ 1 ∷ 0 ∷ 0 ∷ 0 ∷ 16 ∷ 0 ∷ 1 ∷ 0 ∷ 16 ∷ 0 ∷ 16 ∷ 0 ∷ 1 ∷ 0 ∷ 32 ∷ 0 ∷ 16 ∷ 0 ∷ 1 ∷ 0 ∷ 2 ∷ 0 ∷ 0 ∷ 0 ∷ 3 ∷ 1 ∷ 0 ∷ 0 ∷ 0 ∷ 0 ∷ 0 ∷ 0 ∷ 0 ∷ 0 ∷ 0 ∷ 0 ∷ 0 ∷ 0 ∷ 0 ∷ 0 ∷ 0 ∷ 2 ∷ 0 ∷ 0 ∷ 0 ∷ 0 ∷ 0 ∷ 0 ∷ 0 ∷ 0 ∷ 0 ∷ 0 ∷ 0 ∷ 0 ∷ 0 ∷ 0 ∷ 0 ∷ 3 ∷ 0 ∷ 0 ∷ 0 ∷ 0 ∷ 0 ∷ 0 ∷ 0 ∷ 0 ∷ 0 ∷ 0 ∷ 0 ∷ 0 ∷ 0 ∷ 0 ∷ 0 ∷ []; ty = 0; wanted = lowers_to (record { 0 = 11 }) (Some (record { 0 = 10 })) (record { terminators = (Terminator.Switch (record { 0 = 2 }) 1 0 (record { 0 = 2 }) (record { 0 = 3 }) ∷ Terminator.Switch (record { 0 = 5 }) 1 0 (record { 0 = 12 }) (record { 0 = 13 }) ∷ Terminator.Goto (record { 0 = 1 }) ∷ Terminator.Switch (record { 0 = 3 }) 1 0 (record { 0 = 5 }) (record { 0 = 6 }) ∷ Terminator.Goto (record { 0 = 1 }) ∷ Terminator.Goto (record { 0 = 4 }) ∷ Terminator.Switch (record { 0 = 4 }) 1 0 (record { 0 = 7 }) (record { 0 = 8 }) ∷ Terminator.Goto (record { 0 = 4 }) ∷ Terminator.Goto (record { 0 = 9 }) ∷ Terminator.Goto (record { 0 = 10 }) ∷ Terminator.Open ∷ Terminator.Open ∷ Terminator.Goto (record { 0 = 11 }) ∷ Terminator.Switch (record { 0 = 6 }) 1 0 (record { 0 = 15 }) (record { 0 = 16 }) ∷ Terminator.Switch (record { 0 = 8 }) 1 0 (record { 0 = 21 }) (record { 0 = 22 }) ∷ Terminator.Goto (record { 0 = 14 }) ∷ Terminator.Switch (record { 0 = 7 }) 1 0 (record { 0 = 17 }) (record { 0 = 18 }) ∷ Terminator.Goto (record { 0 = 14 }) ∷ Terminator.Goto (record { 0 = 19 }) ∷ Terminator.Unreachable ∷ Terminator.Goto (record { 0 = 11 }) ∷ Terminator.Goto (record { 0 = 20 }) ∷ Terminator.Switch (record { 0 = 9 }) 1 0 (record { 0 = 23 }) (record { 0 = 24 }) ∷ Terminator.Goto (record { 0 = 20 }) ∷ Terminator.Unreachable ∷ []); lines = (record { block = 0; statement = live 2 } ∷ record { block = 0; statement = set 2 (binary BinOp.Eq (Left.Constant (record { count = 1; ty = 0; offset = 0; low = 1; high = 0 })) (record { local = 0; elems = ([]) })) } ∷ record { block = 3; statement = live 3 } ∷ record { block = 3; statement = set 3 (binary BinOp.Eq (Left.Constant (record { count = 1; ty = 0; offset = 0; low = 2; high = 0 })) (record { local = 0; elems = ([]) })) } ∷ record { block = 6; statement = live 4 } ∷ record { block = 6; statement = set 4 (binary BinOp.Eq (Left.Constant (record { count = 1; ty = 0; offset = 0; low = 3; high = 0 })) (record { local = 0; elems = ([]) })) } ∷ record { block = 1; statement = live 5 } ∷ record { block = 1; statement = set 5 (binary BinOp.Eq (Left.Constant (record { count = 1; ty = 0; offset = 0; low = 1; high = 0 })) (record { local = 0; elems = ([]) })) } ∷ record { block = 13; statement = live 6 } ∷ record { block = 13; statement = set 6 (binary BinOp.Eq (Left.Constant (record { count = 1; ty = 0; offset = 0; low = 2; high = 0 })) (record { local = 0; elems = ([]) })) } ∷ record { block = 16; statement = live 7 } ∷ record { block = 16; statement = set 7 (binary BinOp.Eq (Left.Constant (record { count = 1; ty = 0; offset = 0; low = 3; high = 0 })) (record { local = 0; elems = ([]) })) } ∷ record { block = 14; statement = live 8 } ∷ record { block = 14; statement = set 8 (binary BinOp.Eq (Left.Constant (record { count = 1; ty = 0; offset = 0; low = 2; high = 0 })) (record { local = 0; elems = ([]) })) } ∷ record { block = 22; statement = live 9 } ∷ record { block = 22; statement = set 9 (binary BinOp.Eq (Left.Constant (record { count = 1; ty = 0; offset = 0; low = 3; high = 0 })) (record { local = 0; elems = ([]) })) } ∷ record { block = 11; statement = live 1 } ∷ record { block = 11; statement = set 1 (of_place PlaceRvalue.Copy (record { local = 0; elems = ([]) })) } ∷ []); locals = (0 ∷ 0 ∷ 256 ∷ 256 ∷ 256 ∷ 256 ∷ 256 ∷ 256 ∷ 256 ∷ 256 ∷ []) }) (3 ∷ 4 ∷ 4 ∷ 3 ∷ 2 ∷ 2 ∷ []) }

abbrev or_of_binds_row : Row
or_of_binds_row = record { image = 0 ∷ 0 ∷ 0 ∷ 195 ∷ 1 ∷ 0 ∷ 2 ∷ 0 ∷ 0 ∷ 0 ∷ 7 ∷ 0 ∷ 1 ∷ 0 ∷ 14 ∷ 0 ∷ 32 ∷ 0 ∷ 1 ∷ 0 ∷ 1 ∷ 0 ∷ 0 ∷ 0 ∷ 0 ∷ 0 ∷ 1 ∷ 0 ∷ 5 ∷ 0 ∷ 0 ∷ 0 ∷ 2 ∷ 0 ∷ 0 ∷ 0 ∷ 1 ∷ 0 ∷ 11 ∷ 0 ∷ 0 ∷ 0 ∷ 0 ∷ 0 ∷ 0 ∷ 255 ∷ 255 ∷ 0 ∷ 0 ∷ 0 ∷ 0 ∷ 0 ∷ 10 ∷ 0 ∷ 0 ∷ 0 ∷ 0 ∷ 0 ∷ 2 ∷ 0 ∷ 0 ∷ 0 ∷ 0 ∷ 0 ∷ 0 ∷ 0 ∷ 4 ∷ 0 ∷ 1 ∷ 0 ∷ 0 ∷ 0 ∷ 5 ∷ 0 ∷ 2 ∷ 255 ∷ 255 ∷ 0 ∷ 0 ∷ 0 ∷ 11 ∷ 0 ∷ 0 ∷ 0 ∷ 0 ∷ 0 ∷ 0 ∷ 255 ∷ 255 ∷ 0 ∷ 0 ∷ 0 ∷ 0 ∷ 0 ∷ 10 ∷ 0 ∷ 0 ∷ 0 ∷ 0 ∷ 0 ∷ 7 ∷ 0 ∷ 0 ∷ 0 ∷ 0 ∷ 0 ∷ 0 ∷ 0 ∷ 4 ∷ 0 ∷ 1 ∷ 0 ∷ 0 ∷ 0 ∷ 10 ∷ 0 ∷ 2 ∷ 255 ∷ 255 ∷ 0 ∷ 0 ∷ 0 ∷ 5 ∷ 0 ∷ 1 ∷ 0 ∷ 0 ∷ 0 ∷ 12 ∷ 0 ∷ 2 ∷ 0 ∷ 0 ∷ 0 ∷ 0 ∷ 0 ∷ 0 ∷ 0 ∷ 1 ∷ 0 ∷ 0 ∷ 0 ∷ 0 ∷ 0 ∷ 1 ∷ 0 ∷ 0 ∷ 0 ∷ 16 ∷ 0 ∷ 0 ∷ 0 ∷ 1 ∷ 0 ∷ 1 ∷ 0 ∷ 16 ∷ 0 ∷ 16 ∷ 0 ∷ 4 ∷ 0 ∷ 3 ∷ 0 ∷ 2 ∷ 0 ∷ 5 ∷ 1 ∷ 0 ∷ 0 ∷ 0 ∷ 0 ∷ 0 ∷ 0 ∷ 0 ∷ 0 ∷ 0 ∷ 0 ∷ 0 ∷ 0 ∷ 0 ∷ 0 ∷ 0 ∷ 2 ∷ 0 ∷ 0 ∷ 0 ∷ 0 ∷ 0 ∷ 0 ∷ 0 ∷ 0 ∷ 0 ∷ 0 ∷ 0 ∷ 0 ∷ 0 ∷ 0 ∷ 0 ∷ []; ty = 1; wanted = lowers_to (record { 0 = 7 }) (Some (record { 0 = 6 })) (record { terminators = (Terminator.Switch (record { 0 = 2 }) 1 0 (record { 0 = 2 }) (record { 0 = 3 }) ∷ Terminator.Switch (record { 0 = 4 }) 1 0 (record { 0 = 8 }) (record { 0 = 9 }) ∷ Terminator.Goto (record { 0 = 1 }) ∷ Terminator.Switch (record { 0 = 3 }) 1 0 (record { 0 = 4 }) (record { 0 = 5 }) ∷ Terminator.Goto (record { 0 = 1 }) ∷ Terminator.Goto (record { 0 = 6 }) ∷ Terminator.Open ∷ Terminator.Open ∷ Terminator.Goto (record { 0 = 7 }) ∷ Terminator.Switch (record { 0 = 5 }) 1 0 (record { 0 = 10 }) (record { 0 = 11 }) ∷ Terminator.Goto (record { 0 = 7 }) ∷ Terminator.Unreachable ∷ []); lines = (record { block = 0; statement = live 2 } ∷ record { block = 0; statement = set 2 (binary BinOp.Eq (Left.Constant (record { count = 1; ty = 0; offset = 0; low = 1; high = 0 })) (record { local = 0; elems = ((ProjectionElem.Field 1) ∷ []) })) } ∷ record { block = 3; statement = live 3 } ∷ record { block = 3; statement = set 3 (binary BinOp.Eq (Left.Constant (record { count = 1; ty = 0; offset = 0; low = 2; high = 0 })) (record { local = 0; elems = ((ProjectionElem.Field 0) ∷ []) })) } ∷ record { block = 1; statement = live 4 } ∷ record { block = 1; statement = set 4 (binary BinOp.Eq (Left.Constant (record { count = 1; ty = 0; offset = 0; low = 1; high = 0 })) (record { local = 0; elems = ((ProjectionElem.Field 1) ∷ []) })) } ∷ record { block = 8; statement = live 1 } ∷ record { block = 8; statement = set 1 (of_place PlaceRvalue.Copy (record { local = 0; elems = ((ProjectionElem.Field 0) ∷ []) })) } ∷ record { block = 9; statement = live 5 } ∷ record { block = 9; statement = set 5 (binary BinOp.Eq (Left.Constant (record { count = 1; ty = 0; offset = 0; low = 2; high = 0 })) (record { local = 0; elems = ((ProjectionElem.Field 0) ∷ []) })) } ∷ record { block = 10; statement = live 1 } ∷ record { block = 10; statement = set 1 (of_place PlaceRvalue.Copy (record { local = 0; elems = ((ProjectionElem.Field 1) ∷ []) })) } ∷ []); locals = (1 ∷ 0 ∷ 256 ∷ 256 ∷ 256 ∷ 256 ∷ []) }) (3 ∷ 3 ∷ 3 ∷ 3 ∷ 3 ∷ 3 ∷ 2 ∷ []) }

abbrev record_row : Row
record_row = record { image = 0 ∷ 0 ∷ 0 ∷ 135 ∷ 1 ∷ 0 ∷ 2 ∷ 0 ∷ 1 ∷ 0 ∷ 3 ∷ 0 ∷ 1 ∷ 0 ∷ 9 ∷ 0 ∷ 32 ∷ 0 ∷ 1 ∷ 0 ∷ 1 ∷ 0 ∷ 0 ∷ 0 ∷ 0 ∷ 0 ∷ 1 ∷ 0 ∷ 6 ∷ 0 ∷ 0 ∷ 0 ∷ 1 ∷ 0 ∷ 0 ∷ 0 ∷ 0 ∷ 0 ∷ 0 ∷ 0 ∷ 2 ∷ 0 ∷ 0 ∷ 0 ∷ 11 ∷ 0 ∷ 0 ∷ 0 ∷ 0 ∷ 0 ∷ 0 ∷ 255 ∷ 255 ∷ 0 ∷ 2 ∷ 0 ∷ 0 ∷ 0 ∷ 10 ∷ 0 ∷ 0 ∷ 0 ∷ 0 ∷ 0 ∷ 2 ∷ 0 ∷ 0 ∷ 0 ∷ 0 ∷ 0 ∷ 0 ∷ 0 ∷ 6 ∷ 0 ∷ 1 ∷ 0 ∷ 0 ∷ 0 ∷ 5 ∷ 0 ∷ 2 ∷ 0 ∷ 0 ∷ 0 ∷ 0 ∷ 0 ∷ 0 ∷ 0 ∷ 1 ∷ 0 ∷ 0 ∷ 0 ∷ 0 ∷ 0 ∷ 1 ∷ 0 ∷ 16 ∷ 0 ∷ 16 ∷ 0 ∷ 1 ∷ 0 ∷ 0 ∷ 0 ∷ 0 ∷ 0 ∷ 1 ∷ 0 ∷ 0 ∷ 0 ∷ 0 ∷ 0 ∷ 0 ∷ 0 ∷ 0 ∷ 0 ∷ 0 ∷ 0 ∷ 0 ∷ 0 ∷ 0 ∷ 0 ∷ 0 ∷ 7 ∷ 0 ∷ 0 ∷ 0 ∷ 0 ∷ 0 ∷ 0 ∷ 0 ∷ 0 ∷ 0 ∷ 0 ∷ 0 ∷ 0 ∷ 0 ∷ 0 ∷ 0 ∷ []; ty = 1; wanted = lowers_to (record { 0 = 1 }) (Some (record { 0 = 2 })) (record { terminators = (Terminator.Switch (record { 0 = 2 }) 1 0 (record { 0 = 1 }) (record { 0 = 2 }) ∷ Terminator.Open ∷ Terminator.Open ∷ []); lines = (record { block = 0; statement = live 2 } ∷ record { block = 0; statement = set 2 (binary BinOp.Eq (Left.Constant (record { count = 1; ty = 0; offset = 0; low = 7; high = 0 })) (record { local = 0; elems = ((ProjectionElem.Field 0) ∷ []) })) } ∷ record { block = 1; statement = live 1 } ∷ record { block = 1; statement = set 1 (of_place PlaceRvalue.Mut (record { local = 0; elems = ((ProjectionElem.Field 1) ∷ []) })) } ∷ []); locals = (1 ∷ 0 ∷ 256 ∷ []) }) (2 ∷ 2 ∷ 2 ∷ []) }

abbrev struct_ellipsis_row : Row
struct_ellipsis_row = record { image = 0 ∷ 0 ∷ 0 ∷ 133 ∷ 1 ∷ 0 ∷ 2 ∷ 0 ∷ 1 ∷ 0 ∷ 3 ∷ 0 ∷ 1 ∷ 0 ∷ 8 ∷ 0 ∷ 32 ∷ 0 ∷ 1 ∷ 0 ∷ 1 ∷ 0 ∷ 0 ∷ 0 ∷ 0 ∷ 0 ∷ 1 ∷ 0 ∷ 6 ∷ 0 ∷ 0 ∷ 0 ∷ 1 ∷ 0 ∷ 1 ∷ 0 ∷ 0 ∷ 0 ∷ 0 ∷ 0 ∷ 3 ∷ 0 ∷ 0 ∷ 0 ∷ 10 ∷ 0 ∷ 0 ∷ 0 ∷ 0 ∷ 0 ∷ 3 ∷ 0 ∷ 0 ∷ 0 ∷ 0 ∷ 0 ∷ 0 ∷ 0 ∷ 11 ∷ 0 ∷ 0 ∷ 0 ∷ 0 ∷ 0 ∷ 0 ∷ 255 ∷ 255 ∷ 0 ∷ 1 ∷ 0 ∷ 0 ∷ 0 ∷ 12 ∷ 0 ∷ 1 ∷ 0 ∷ 0 ∷ 0 ∷ 6 ∷ 0 ∷ 2 ∷ 0 ∷ 1 ∷ 0 ∷ 0 ∷ 0 ∷ 0 ∷ 0 ∷ 1 ∷ 0 ∷ 0 ∷ 0 ∷ 0 ∷ 0 ∷ 0 ∷ 0 ∷ 1 ∷ 0 ∷ 16 ∷ 0 ∷ 16 ∷ 0 ∷ 0 ∷ 0 ∷ 1 ∷ 255 ∷ 255 ∷ 255 ∷ 255 ∷ 255 ∷ 255 ∷ 255 ∷ 255 ∷ 255 ∷ 255 ∷ 255 ∷ 255 ∷ 255 ∷ 255 ∷ 255 ∷ 255 ∷ 1 ∷ 0 ∷ 0 ∷ 0 ∷ 0 ∷ 0 ∷ 0 ∷ 0 ∷ 0 ∷ 0 ∷ 0 ∷ 0 ∷ 0 ∷ 0 ∷ 0 ∷ 0 ∷ []; ty = 1; wanted = lowers_to (record { 0 = 3 }) (Some (record { 0 = 2 })) (record { terminators = (Terminator.Switch (record { 0 = 2 }) 18446744073709551615 18446744073709551615 (record { 0 = 1 }) (record { 0 = 2 }) ∷ Terminator.Switch (record { 0 = 3 }) 1 0 (record { 0 = 3 }) (record { 0 = 2 }) ∷ Terminator.Open ∷ Terminator.Open ∷ []); lines = (record { block = 0; statement = live 2 } ∷ record { block = 0; statement = set 2 (of_place PlaceRvalue.Discr (record { local = 0; elems = ([]) })) } ∷ record { block = 1; statement = live 3 } ∷ record { block = 1; statement = set 3 (binary BinOp.Eq (Left.Constant (record { count = 1; ty = 0; offset = 0; low = 1; high = 0 })) (record { local = 0; elems = ((ProjectionElem.Downcast 0) ∷ (ProjectionElem.Field 0) ∷ []) })) } ∷ record { block = 3; statement = live 1 } ∷ record { block = 3; statement = set 1 (of_place PlaceRvalue.Ref (record { local = 0; elems = ((ProjectionElem.Downcast 0) ∷ (ProjectionElem.Field 2) ∷ []) })) } ∷ []); locals = (1 ∷ 0 ∷ 258 ∷ 256 ∷ []) }) (2 ∷ 2 ∷ 2 ∷ []) }

abbrev string_row : Row
string_row = record { image = 0 ∷ 0 ∷ 0 ∷ 56 ∷ 1 ∷ 0 ∷ 2 ∷ 0 ∷ 0 ∷ 0 ∷ 1 ∷ 0 ∷ 0 ∷ 0 ∷ 3 ∷ 0 ∷ 3 ∷ 0 ∷ 4 ∷ 0 ∷ 0 ∷ 0 ∷ 0 ∷ 0 ∷ 0 ∷ 0 ∷ 0 ∷ 0 ∷ 7 ∷ 0 ∷ 0 ∷ 0 ∷ 0 ∷ 0 ∷ 0 ∷ 0 ∷ 1 ∷ 0 ∷ 10 ∷ 0 ∷ 1 ∷ 0 ∷ 0 ∷ 0 ∷ 0 ∷ 0 ∷ 0 ∷ 0 ∷ 0 ∷ 0 ∷ 0 ∷ 0 ∷ 5 ∷ 0 ∷ 0 ∷ 0 ∷ 3 ∷ 82 ∷ 69 ∷ 84 ∷ []; ty = 1; wanted = lowers_to (record { 0 = 1 }) (Some (record { 0 = 2 })) (record { terminators = (Terminator.Switch (record { 0 = 1 }) 1 0 (record { 0 = 1 }) (record { 0 = 2 }) ∷ Terminator.Open ∷ Terminator.Open ∷ []); lines = (record { block = 0; statement = live 1 } ∷ record { block = 0; statement = set 1 (binary BinOp.Eq (Left.Constant (record { count = 16; ty = 1; offset = 0; low = 0; high = 3 })) (record { local = 0; elems = ([]) })) } ∷ []); locals = (1 ∷ 256 ∷ []) }) (2 ∷ []) }

abbrev c_string_row : Row
c_string_row = record { image = 0 ∷ 0 ∷ 0 ∷ 55 ∷ 1 ∷ 0 ∷ 2 ∷ 0 ∷ 0 ∷ 0 ∷ 1 ∷ 0 ∷ 0 ∷ 0 ∷ 3 ∷ 0 ∷ 2 ∷ 0 ∷ 4 ∷ 0 ∷ 0 ∷ 0 ∷ 0 ∷ 0 ∷ 0 ∷ 0 ∷ 0 ∷ 0 ∷ 7 ∷ 0 ∷ 0 ∷ 0 ∷ 0 ∷ 0 ∷ 0 ∷ 0 ∷ 1 ∷ 0 ∷ 10 ∷ 0 ∷ 1 ∷ 0 ∷ 0 ∷ 0 ∷ 0 ∷ 0 ∷ 0 ∷ 0 ∷ 0 ∷ 0 ∷ 0 ∷ 0 ∷ 6 ∷ 0 ∷ 0 ∷ 0 ∷ 2 ∷ 79 ∷ 75 ∷ []; ty = 1; wanted = lowers_to (record { 0 = 1 }) (Some (record { 0 = 2 })) (record { terminators = (Terminator.Switch (record { 0 = 1 }) 1 0 (record { 0 = 1 }) (record { 0 = 2 }) ∷ Terminator.Open ∷ Terminator.Open ∷ []); lines = (record { block = 0; statement = live 1 } ∷ record { block = 0; statement = set 1 (binary BinOp.Eq (Left.Constant (record { count = 16; ty = 1; offset = 0; low = 0; high = 3 })) (record { local = 0; elems = ([]) })) } ∷ []); locals = (1 ∷ 256 ∷ []) }) (2 ∷ []) }

abbrev the_constant_row : Row
the_constant_row = record { image = 0 ∷ 0 ∷ 0 ∷ 44 ∷ 1 ∷ 0 ∷ 1 ∷ 0 ∷ 0 ∷ 0 ∷ 1 ∷ 0 ∷ 0 ∷ 0 ∷ 3 ∷ 0 ∷ 1 ∷ 0 ∷ 1 ∷ 0 ∷ 1 ∷ 0 ∷ 0 ∷ 0 ∷ 0 ∷ 0 ∷ 1 ∷ 0 ∷ 9 ∷ 0 ∷ 0 ∷ 0 ∷ 0 ∷ 0 ∷ 3 ∷ 0 ∷ 0 ∷ 0 ∷ 0 ∷ 0 ∷ 0 ∷ 0 ∷ 8 ∷ 0 ∷ 0 ∷ 0 ∷ 1 ∷ 5 ∷ []; ty = 0; wanted = lowers_to (record { 0 = 1 }) (Some (record { 0 = 2 })) (record { terminators = (Terminator.Switch (record { 0 = 2 }) 1 0 (record { 0 = 1 }) (record { 0 = 2 }) ∷ Terminator.Open ∷ Terminator.Open ∷ []); lines = (record { block = 0; statement = live 1 } ∷ record { block = 0; statement = set 1 (of_constant (record { count = 1; ty = 0; offset = 0; low = 5; high = 0 })) } ∷ record { block = 0; statement = live 2 } ∷ record { block = 0; statement = set 2 (binary BinOp.Eq (Left.Local (record { 0 = 1 })) (record { local = 0; elems = ([]) })) } ∷ []); locals = (0 ∷ 0 ∷ 256 ∷ []) }) (2 ∷ []) }

abbrev half_open_row : Row
half_open_row = record { image = 0 ∷ 0 ∷ 0 ∷ 59 ∷ 1 ∷ 0 ∷ 1 ∷ 0 ∷ 0 ∷ 0 ∷ 1 ∷ 0 ∷ 0 ∷ 0 ∷ 3 ∷ 0 ∷ 16 ∷ 0 ∷ 1 ∷ 0 ∷ 1 ∷ 0 ∷ 0 ∷ 0 ∷ 0 ∷ 0 ∷ 1 ∷ 0 ∷ 7 ∷ 0 ∷ 0 ∷ 0 ∷ 0 ∷ 0 ∷ 0 ∷ 255 ∷ 255 ∷ 0 ∷ 1 ∷ 0 ∷ 0 ∷ 0 ∷ 1 ∷ 0 ∷ 0 ∷ 0 ∷ 16 ∷ 1 ∷ 0 ∷ 0 ∷ 0 ∷ 0 ∷ 0 ∷ 0 ∷ 0 ∷ 0 ∷ 0 ∷ 0 ∷ 0 ∷ 0 ∷ 0 ∷ 0 ∷ 0 ∷ []; ty = 0; wanted = lowers_to (record { 0 = 2 }) (Some (record { 0 = 1 })) (record { terminators = (Terminator.Switch (record { 0 = 1 }) 1 0 (record { 0 = 2 }) (record { 0 = 1 }) ∷ Terminator.Open ∷ Terminator.Open ∷ []); lines = (record { block = 0; statement = live 1 } ∷ record { block = 0; statement = set 1 (binary BinOp.Le (Left.Constant (record { count = 1; ty = 0; offset = 0; low = 1; high = 0 })) (record { local = 0; elems = ([]) })) } ∷ []); locals = (0 ∷ 256 ∷ []) }) (2 ∷ []) }

abbrev half_open_end_row : Row
half_open_end_row = record { image = 0 ∷ 0 ∷ 0 ∷ 66 ∷ 1 ∷ 0 ∷ 1 ∷ 0 ∷ 0 ∷ 0 ∷ 1 ∷ 0 ∷ 0 ∷ 0 ∷ 6 ∷ 0 ∷ 17 ∷ 0 ∷ 1 ∷ 0 ∷ 1 ∷ 0 ∷ 0 ∷ 0 ∷ 0 ∷ 0 ∷ 1 ∷ 0 ∷ 7 ∷ 0 ∷ 0 ∷ 0 ∷ 0 ∷ 0 ∷ 3 ∷ 0 ∷ 0 ∷ 0 ∷ 1 ∷ 0 ∷ 0 ∷ 0 ∷ 8 ∷ 0 ∷ 0 ∷ 0 ∷ 1 ∷ 0 ∷ 1 ∷ 0 ∷ 1 ∷ 0 ∷ 16 ∷ 3 ∷ 1 ∷ 0 ∷ 0 ∷ 0 ∷ 0 ∷ 0 ∷ 0 ∷ 0 ∷ 0 ∷ 0 ∷ 0 ∷ 0 ∷ 0 ∷ 0 ∷ 0 ∷ 0 ∷ []; ty = 0; wanted = lowers_to (record { 0 = 3 }) (Some (record { 0 = 1 })) (record { terminators = (Terminator.Switch (record { 0 = 1 }) 1 0 (record { 0 = 2 }) (record { 0 = 1 }) ∷ Terminator.Open ∷ Terminator.Switch (record { 0 = 2 }) 1 0 (record { 0 = 3 }) (record { 0 = 1 }) ∷ Terminator.Open ∷ []); lines = (record { block = 0; statement = live 1 } ∷ record { block = 0; statement = set 1 (binary BinOp.Le (Left.Constant (record { count = 1; ty = 0; offset = 0; low = 1; high = 0 })) (record { local = 0; elems = ([]) })) } ∷ record { block = 2; statement = live 2 } ∷ record { block = 2; statement = set 2 (binary BinOp.Gt (Left.Constant (record { count = 1; ty = 0; offset = 0; low = 3; high = 0 })) (record { local = 0; elems = ([]) })) } ∷ []); locals = (0 ∷ 256 ∷ 256 ∷ []) }) (2 ∷ []) }

abbrev first_three_row : Row
first_three_row = record { image = 0 ∷ 0 ∷ 0 ∷ 81 ∷ 1 ∷ 0 ∷ 1 ∷ 0 ∷ 0 ∷ 0 ∷ 1 ∷ 0 ∷ 0 ∷ 0 ∷ 6 ∷ 0 ∷ 32 ∷ 0 ∷ 1 ∷ 0 ∷ 1 ∷ 0 ∷ 0 ∷ 0 ∷ 0 ∷ 0 ∷ 1 ∷ 0 ∷ 7 ∷ 0 ∷ 0 ∷ 0 ∷ 0 ∷ 0 ∷ 0 ∷ 0 ∷ 3 ∷ 0 ∷ 1 ∷ 0 ∷ 0 ∷ 0 ∷ 1 ∷ 0 ∷ 0 ∷ 0 ∷ 16 ∷ 0 ∷ 1 ∷ 0 ∷ 16 ∷ 0 ∷ 16 ∷ 1 ∷ 0 ∷ 0 ∷ 0 ∷ 0 ∷ 0 ∷ 0 ∷ 0 ∷ 0 ∷ 0 ∷ 0 ∷ 0 ∷ 0 ∷ 0 ∷ 0 ∷ 0 ∷ 4 ∷ 0 ∷ 0 ∷ 0 ∷ 0 ∷ 0 ∷ 0 ∷ 0 ∷ 0 ∷ 0 ∷ 0 ∷ 0 ∷ 0 ∷ 0 ∷ 0 ∷ 0 ∷ []; ty = 0; wanted = lowers_to (record { 0 = 3 }) (Some (record { 0 = 1 })) (record { terminators = (Terminator.Switch (record { 0 = 1 }) 1 0 (record { 0 = 2 }) (record { 0 = 1 }) ∷ Terminator.Open ∷ Terminator.Switch (record { 0 = 2 }) 1 0 (record { 0 = 3 }) (record { 0 = 1 }) ∷ Terminator.Open ∷ []); lines = (record { block = 0; statement = live 1 } ∷ record { block = 0; statement = set 1 (binary BinOp.Le (Left.Constant (record { count = 1; ty = 0; offset = 0; low = 1; high = 0 })) (record { local = 0; elems = ([]) })) } ∷ record { block = 2; statement = live 2 } ∷ record { block = 2; statement = set 2 (binary BinOp.Gt (Left.Constant (record { count = 1; ty = 0; offset = 0; low = 4; high = 0 })) (record { local = 0; elems = ([]) })) } ∷ []); locals = (0 ∷ 256 ∷ 256 ∷ []) }) (2 ∷ []) }

abbrev half_open_to_row : Row
half_open_to_row = record { image = 0 ∷ 0 ∷ 0 ∷ 59 ∷ 1 ∷ 0 ∷ 1 ∷ 0 ∷ 0 ∷ 0 ∷ 1 ∷ 0 ∷ 0 ∷ 0 ∷ 3 ∷ 0 ∷ 16 ∷ 0 ∷ 1 ∷ 0 ∷ 1 ∷ 0 ∷ 1 ∷ 0 ∷ 0 ∷ 0 ∷ 1 ∷ 0 ∷ 7 ∷ 0 ∷ 0 ∷ 0 ∷ 0 ∷ 255 ∷ 255 ∷ 0 ∷ 0 ∷ 0 ∷ 1 ∷ 0 ∷ 0 ∷ 0 ∷ 1 ∷ 0 ∷ 0 ∷ 0 ∷ 16 ∷ 255 ∷ 255 ∷ 255 ∷ 255 ∷ 255 ∷ 255 ∷ 255 ∷ 255 ∷ 255 ∷ 255 ∷ 255 ∷ 255 ∷ 255 ∷ 255 ∷ 255 ∷ 255 ∷ []; ty = 0; wanted = lowers_to (record { 0 = 2 }) (Some (record { 0 = 1 })) (record { terminators = (Terminator.Switch (record { 0 = 1 }) 1 0 (record { 0 = 2 }) (record { 0 = 1 }) ∷ Terminator.Open ∷ Terminator.Open ∷ []); lines = (record { block = 0; statement = live 1 } ∷ record { block = 0; statement = set 1 (binary BinOp.Gt (Left.Constant (record { count = 1; ty = 0; offset = 0; low = 255; high = 0 })) (record { local = 0; elems = ([]) })) } ∷ []); locals = (0 ∷ 256 ∷ []) }) (2 ∷ []) }

abbrev half_open_char_row : Row
half_open_char_row = record { image = 0 ∷ 0 ∷ 0 ∷ 57 ∷ 1 ∷ 0 ∷ 1 ∷ 0 ∷ 0 ∷ 0 ∷ 1 ∷ 0 ∷ 0 ∷ 0 ∷ 6 ∷ 0 ∷ 8 ∷ 0 ∷ 3 ∷ 0 ∷ 0 ∷ 0 ∷ 0 ∷ 0 ∷ 0 ∷ 0 ∷ 1 ∷ 0 ∷ 7 ∷ 0 ∷ 0 ∷ 0 ∷ 0 ∷ 0 ∷ 0 ∷ 0 ∷ 3 ∷ 0 ∷ 1 ∷ 0 ∷ 0 ∷ 0 ∷ 3 ∷ 0 ∷ 0 ∷ 0 ∷ 4 ∷ 0 ∷ 3 ∷ 0 ∷ 4 ∷ 0 ∷ 4 ∷ 97 ∷ 0 ∷ 0 ∷ 0 ∷ 100 ∷ 0 ∷ 0 ∷ 0 ∷ []; ty = 0; wanted = lowers_to (record { 0 = 3 }) (Some (record { 0 = 1 })) (record { terminators = (Terminator.Switch (record { 0 = 1 }) 1 0 (record { 0 = 2 }) (record { 0 = 1 }) ∷ Terminator.Open ∷ Terminator.Switch (record { 0 = 2 }) 1 0 (record { 0 = 3 }) (record { 0 = 1 }) ∷ Terminator.Open ∷ []); lines = (record { block = 0; statement = live 1 } ∷ record { block = 0; statement = set 1 (binary BinOp.Le (Left.Constant (record { count = 4; ty = 0; offset = 0; low = 97; high = 0 })) (record { local = 0; elems = ([]) })) } ∷ record { block = 2; statement = live 2 } ∷ record { block = 2; statement = set 2 (binary BinOp.Gt (Left.Constant (record { count = 4; ty = 0; offset = 0; low = 100; high = 0 })) (record { local = 0; elems = ([]) })) } ∷ []); locals = (0 ∷ 256 ∷ 256 ∷ []) }) (2 ∷ []) }

abbrev half_open_nothing_row : Row
half_open_nothing_row = record { image = 0 ∷ 0 ∷ 0 ∷ 59 ∷ 1 ∷ 0 ∷ 1 ∷ 0 ∷ 0 ∷ 0 ∷ 1 ∷ 0 ∷ 0 ∷ 0 ∷ 3 ∷ 0 ∷ 16 ∷ 0 ∷ 1 ∷ 0 ∷ 1 ∷ 0 ∷ 0 ∷ 0 ∷ 0 ∷ 0 ∷ 1 ∷ 0 ∷ 7 ∷ 0 ∷ 0 ∷ 0 ∷ 0 ∷ 0 ∷ 0 ∷ 0 ∷ 0 ∷ 0 ∷ 1 ∷ 0 ∷ 0 ∷ 0 ∷ 1 ∷ 0 ∷ 0 ∷ 0 ∷ 16 ∷ 3 ∷ 0 ∷ 0 ∷ 0 ∷ 0 ∷ 0 ∷ 0 ∷ 0 ∷ 0 ∷ 0 ∷ 0 ∷ 0 ∷ 0 ∷ 0 ∷ 0 ∷ 0 ∷ []; ty = 0; wanted = lowers_to (record { 0 = 3 }) (Some (record { 0 = 1 })) (record { terminators = (Terminator.Switch (record { 0 = 1 }) 1 0 (record { 0 = 2 }) (record { 0 = 1 }) ∷ Terminator.Open ∷ Terminator.Switch (record { 0 = 2 }) 1 0 (record { 0 = 3 }) (record { 0 = 1 }) ∷ Terminator.Open ∷ []); lines = (record { block = 0; statement = live 1 } ∷ record { block = 0; statement = set 1 (binary BinOp.Le (Left.Constant (record { count = 1; ty = 0; offset = 0; low = 3; high = 0 })) (record { local = 0; elems = ([]) })) } ∷ record { block = 2; statement = live 2 } ∷ record { block = 2; statement = set 2 (binary BinOp.Gt (Left.Constant (record { count = 1; ty = 0; offset = 0; low = 3; high = 0 })) (record { local = 0; elems = ([]) })) } ∷ []); locals = (0 ∷ 256 ∷ 256 ∷ []) }) (2 ∷ []) }

abbrev flag_2_row : Row
flag_2_row = record { image = 0 ∷ 0 ∷ 0 ∷ 81 ∷ 1 ∷ 0 ∷ 1 ∷ 0 ∷ 0 ∷ 0 ∷ 1 ∷ 0 ∷ 0 ∷ 0 ∷ 6 ∷ 0 ∷ 32 ∷ 0 ∷ 1 ∷ 0 ∷ 1 ∷ 0 ∷ 0 ∷ 0 ∷ 0 ∷ 0 ∷ 1 ∷ 0 ∷ 7 ∷ 0 ∷ 0 ∷ 0 ∷ 0 ∷ 0 ∷ 0 ∷ 0 ∷ 3 ∷ 0 ∷ 2 ∷ 0 ∷ 0 ∷ 0 ∷ 1 ∷ 0 ∷ 0 ∷ 0 ∷ 16 ∷ 0 ∷ 1 ∷ 0 ∷ 16 ∷ 0 ∷ 16 ∷ 1 ∷ 0 ∷ 0 ∷ 0 ∷ 0 ∷ 0 ∷ 0 ∷ 0 ∷ 0 ∷ 0 ∷ 0 ∷ 0 ∷ 0 ∷ 0 ∷ 0 ∷ 0 ∷ 3 ∷ 0 ∷ 0 ∷ 0 ∷ 0 ∷ 0 ∷ 0 ∷ 0 ∷ 0 ∷ 0 ∷ 0 ∷ 0 ∷ 0 ∷ 0 ∷ 0 ∷ 0 ∷ []; ty = 0; wanted = lowers_to (record { 0 = 3 }) (Some (record { 0 = 1 })) (record { terminators = (Terminator.Switch (record { 0 = 1 }) 1 0 (record { 0 = 2 }) (record { 0 = 1 }) ∷ Terminator.Open ∷ Terminator.Switch (record { 0 = 2 }) 1 0 (record { 0 = 3 }) (record { 0 = 1 }) ∷ Terminator.Open ∷ []); lines = (record { block = 0; statement = live 1 } ∷ record { block = 0; statement = set 1 (binary BinOp.Le (Left.Constant (record { count = 1; ty = 0; offset = 0; low = 1; high = 0 })) (record { local = 0; elems = ([]) })) } ∷ record { block = 2; statement = live 2 } ∷ record { block = 2; statement = set 2 (binary BinOp.Ge (Left.Constant (record { count = 1; ty = 0; offset = 0; low = 3; high = 0 })) (record { local = 0; elems = ([]) })) } ∷ []); locals = (0 ∷ 256 ∷ 256 ∷ []) }) (2 ∷ []) }

abbrev range_no_ends_row : Row
range_no_ends_row = record { image = 0 ∷ 0 ∷ 0 ∷ 37 ∷ 1 ∷ 0 ∷ 1 ∷ 0 ∷ 0 ∷ 0 ∷ 1 ∷ 0 ∷ 0 ∷ 0 ∷ 0 ∷ 0 ∷ 0 ∷ 0 ∷ 1 ∷ 0 ∷ 1 ∷ 0 ∷ 0 ∷ 0 ∷ 0 ∷ 0 ∷ 1 ∷ 0 ∷ 7 ∷ 0 ∷ 0 ∷ 0 ∷ 0 ∷ 255 ∷ 255 ∷ 255 ∷ 255 ∷ 0 ∷ 0 ∷ 0 ∷ 0 ∷ []; ty = 0; wanted = lowers_to (record { 0 = 0 }) None (record { terminators = (Terminator.Open ∷ []); lines = ([]); locals = (0 ∷ []) }) (2 ∷ []) }

abbrev slice_rest_binding_row : Row
slice_rest_binding_row = record { image = 0 ∷ 0 ∷ 0 ∷ 135 ∷ 1 ∷ 0 ∷ 2 ∷ 0 ∷ 0 ∷ 0 ∷ 6 ∷ 0 ∷ 3 ∷ 0 ∷ 3 ∷ 0 ∷ 0 ∷ 0 ∷ 1 ∷ 0 ∷ 1 ∷ 0 ∷ 0 ∷ 0 ∷ 0 ∷ 0 ∷ 1 ∷ 0 ∷ 9 ∷ 0 ∷ 0 ∷ 0 ∷ 0 ∷ 0 ∷ 0 ∷ 0 ∷ 0 ∷ 0 ∷ 1 ∷ 0 ∷ 1 ∷ 0 ∷ 0 ∷ 0 ∷ 0 ∷ 0 ∷ 0 ∷ 0 ∷ 0 ∷ 0 ∷ 0 ∷ 0 ∷ 11 ∷ 0 ∷ 1 ∷ 0 ∷ 0 ∷ 0 ∷ 0 ∷ 0 ∷ 0 ∷ 0 ∷ 1 ∷ 0 ∷ 0 ∷ 0 ∷ 3 ∷ 0 ∷ 0 ∷ 0 ∷ 0 ∷ 0 ∷ 0 ∷ 0 ∷ 0 ∷ 0 ∷ 0 ∷ 0 ∷ 0 ∷ 0 ∷ 11 ∷ 0 ∷ 0 ∷ 0 ∷ 0 ∷ 0 ∷ 1 ∷ 255 ∷ 255 ∷ 0 ∷ 0 ∷ 0 ∷ 0 ∷ 0 ∷ 11 ∷ 0 ∷ 0 ∷ 0 ∷ 0 ∷ 0 ∷ 2 ∷ 255 ∷ 255 ∷ 0 ∷ 0 ∷ 0 ∷ 0 ∷ 0 ∷ 8 ∷ 0 ∷ 1 ∷ 0 ∷ 0 ∷ 0 ∷ 0 ∷ 0 ∷ 1 ∷ 0 ∷ 2 ∷ 0 ∷ 1 ∷ 0 ∷ 1 ∷ 0 ∷ 1 ∷ 0 ∷ 0 ∷ 0 ∷ 1 ∷ 0 ∷ 0 ∷ 0 ∷ 1 ∷ 0 ∷ 2 ∷ 0 ∷ 3 ∷ 0 ∷ 4 ∷ []; ty = 1; wanted = lowers_to (record { 0 = 2 }) (Some (record { 0 = 1 })) (record { terminators = (Terminator.Switch (record { 0 = 5 }) 1 0 (record { 0 = 2 }) (record { 0 = 1 }) ∷ Terminator.Open ∷ Terminator.Open ∷ []); lines = (record { block = 0; statement = live 4 } ∷ record { block = 0; statement = set 4 (of_place PlaceRvalue.Len (record { local = 0; elems = ([]) })) } ∷ record { block = 0; statement = live 5 } ∷ record { block = 0; statement = set 5 (binary BinOp.Le (Left.Constant (record { count = 8; ty = 257; offset = 0; low = 3; high = 0 })) (record { local = 4; elems = ([]) })) } ∷ record { block = 2; statement = live 1 } ∷ record { block = 2; statement = set 1 (of_place PlaceRvalue.Ref (record { local = 0; elems = ((ProjectionElem.Subslice 1 2) ∷ []) })) } ∷ record { block = 2; statement = live 2 } ∷ record { block = 2; statement = set 2 (of_place PlaceRvalue.Copy (record { local = 0; elems = ((ProjectionElem.IndexFromEnd 1) ∷ []) })) } ∷ record { block = 2; statement = live 3 } ∷ record { block = 2; statement = set 3 (of_place PlaceRvalue.Copy (record { local = 0; elems = ((ProjectionElem.IndexFromEnd 0) ∷ []) })) } ∷ []); locals = (1 ∷ 1 ∷ 0 ∷ 0 ∷ 257 ∷ 256 ∷ []) }) (0 ∷ 0 ∷ 2 ∷ 2 ∷ 2 ∷ 2 ∷ []) }

abbrev array_rest_binding_row : Row
array_rest_binding_row = record { image = 0 ∷ 0 ∷ 0 ∷ 135 ∷ 1 ∷ 0 ∷ 2 ∷ 0 ∷ 0 ∷ 0 ∷ 6 ∷ 0 ∷ 3 ∷ 0 ∷ 3 ∷ 0 ∷ 0 ∷ 0 ∷ 1 ∷ 0 ∷ 1 ∷ 0 ∷ 0 ∷ 0 ∷ 0 ∷ 0 ∷ 1 ∷ 0 ∷ 8 ∷ 0 ∷ 0 ∷ 0 ∷ 5 ∷ 0 ∷ 0 ∷ 0 ∷ 0 ∷ 0 ∷ 1 ∷ 0 ∷ 1 ∷ 0 ∷ 0 ∷ 0 ∷ 0 ∷ 0 ∷ 0 ∷ 0 ∷ 0 ∷ 0 ∷ 0 ∷ 0 ∷ 11 ∷ 0 ∷ 1 ∷ 0 ∷ 0 ∷ 0 ∷ 0 ∷ 0 ∷ 0 ∷ 0 ∷ 1 ∷ 0 ∷ 0 ∷ 0 ∷ 3 ∷ 0 ∷ 0 ∷ 0 ∷ 0 ∷ 0 ∷ 0 ∷ 0 ∷ 0 ∷ 0 ∷ 0 ∷ 0 ∷ 0 ∷ 0 ∷ 11 ∷ 0 ∷ 0 ∷ 0 ∷ 0 ∷ 0 ∷ 1 ∷ 255 ∷ 255 ∷ 0 ∷ 0 ∷ 0 ∷ 0 ∷ 0 ∷ 11 ∷ 0 ∷ 0 ∷ 0 ∷ 0 ∷ 0 ∷ 2 ∷ 255 ∷ 255 ∷ 0 ∷ 0 ∷ 0 ∷ 0 ∷ 0 ∷ 8 ∷ 0 ∷ 1 ∷ 0 ∷ 0 ∷ 0 ∷ 0 ∷ 0 ∷ 1 ∷ 0 ∷ 2 ∷ 0 ∷ 1 ∷ 0 ∷ 1 ∷ 0 ∷ 1 ∷ 0 ∷ 0 ∷ 0 ∷ 1 ∷ 0 ∷ 0 ∷ 0 ∷ 1 ∷ 0 ∷ 2 ∷ 0 ∷ 3 ∷ 0 ∷ 4 ∷ []; ty = 1; wanted = lowers_to (record { 0 = 0 }) None (record { terminators = (Terminator.Open ∷ []); lines = (record { block = 0; statement = live 1 } ∷ record { block = 0; statement = set 1 (of_place PlaceRvalue.Ref (record { local = 0; elems = ((ProjectionElem.Subslice 1 2) ∷ []) })) } ∷ record { block = 0; statement = live 2 } ∷ record { block = 0; statement = set 2 (of_place PlaceRvalue.Copy (record { local = 0; elems = ((ProjectionElem.IndexFromEnd 1) ∷ []) })) } ∷ record { block = 0; statement = live 3 } ∷ record { block = 0; statement = set 3 (of_place PlaceRvalue.Copy (record { local = 0; elems = ((ProjectionElem.IndexFromEnd 0) ∷ []) })) } ∷ []); locals = (1 ∷ 1 ∷ 0 ∷ 0 ∷ []) }) (0 ∷ 0 ∷ 2 ∷ 2 ∷ 2 ∷ 2 ∷ []) }

abbrev last_two_row : Row
last_two_row = record { image = 0 ∷ 0 ∷ 0 ∷ 101 ∷ 1 ∷ 0 ∷ 2 ∷ 0 ∷ 0 ∷ 0 ∷ 4 ∷ 0 ∷ 2 ∷ 0 ∷ 2 ∷ 0 ∷ 0 ∷ 0 ∷ 1 ∷ 0 ∷ 1 ∷ 0 ∷ 0 ∷ 0 ∷ 0 ∷ 0 ∷ 1 ∷ 0 ∷ 9 ∷ 0 ∷ 0 ∷ 0 ∷ 0 ∷ 0 ∷ 0 ∷ 0 ∷ 0 ∷ 0 ∷ 11 ∷ 0 ∷ 0 ∷ 0 ∷ 0 ∷ 0 ∷ 0 ∷ 255 ∷ 255 ∷ 0 ∷ 0 ∷ 0 ∷ 0 ∷ 0 ∷ 11 ∷ 0 ∷ 0 ∷ 0 ∷ 0 ∷ 0 ∷ 1 ∷ 255 ∷ 255 ∷ 0 ∷ 0 ∷ 0 ∷ 0 ∷ 0 ∷ 1 ∷ 0 ∷ 1 ∷ 0 ∷ 0 ∷ 0 ∷ 0 ∷ 0 ∷ 0 ∷ 0 ∷ 0 ∷ 0 ∷ 0 ∷ 0 ∷ 8 ∷ 0 ∷ 1 ∷ 0 ∷ 0 ∷ 0 ∷ 0 ∷ 0 ∷ 0 ∷ 0 ∷ 2 ∷ 0 ∷ 2 ∷ 0 ∷ 0 ∷ 0 ∷ 1 ∷ 0 ∷ 0 ∷ 0 ∷ 1 ∷ 0 ∷ 0 ∷ 0 ∷ 1 ∷ []; ty = 1; wanted = lowers_to (record { 0 = 2 }) (Some (record { 0 = 1 })) (record { terminators = (Terminator.Switch (record { 0 = 4 }) 1 0 (record { 0 = 2 }) (record { 0 = 1 }) ∷ Terminator.Open ∷ Terminator.Open ∷ []); lines = (record { block = 0; statement = live 3 } ∷ record { block = 0; statement = set 3 (of_place PlaceRvalue.Len (record { local = 0; elems = ([]) })) } ∷ record { block = 0; statement = live 4 } ∷ record { block = 0; statement = set 4 (binary BinOp.Le (Left.Constant (record { count = 8; ty = 257; offset = 0; low = 2; high = 0 })) (record { local = 3; elems = ([]) })) } ∷ record { block = 2; statement = live 1 } ∷ record { block = 2; statement = set 1 (of_place PlaceRvalue.Copy (record { local = 0; elems = ((ProjectionElem.IndexFromEnd 1) ∷ []) })) } ∷ record { block = 2; statement = live 2 } ∷ record { block = 2; statement = set 2 (of_place PlaceRvalue.Copy (record { local = 0; elems = ((ProjectionElem.IndexFromEnd 0) ∷ []) })) } ∷ []); locals = (1 ∷ 0 ∷ 0 ∷ 257 ∷ 256 ∷ []) }) (2 ∷ 2 ∷ 0 ∷ 2 ∷ []) }

abbrev suffix_three_row : Row
suffix_three_row = record { image = 0 ∷ 0 ∷ 0 ∷ 217 ∷ 1 ∷ 0 ∷ 2 ∷ 0 ∷ 0 ∷ 0 ∷ 6 ∷ 0 ∷ 1 ∷ 0 ∷ 16 ∷ 0 ∷ 64 ∷ 0 ∷ 1 ∷ 0 ∷ 1 ∷ 0 ∷ 0 ∷ 0 ∷ 0 ∷ 0 ∷ 1 ∷ 0 ∷ 9 ∷ 0 ∷ 0 ∷ 0 ∷ 0 ∷ 0 ∷ 0 ∷ 0 ∷ 0 ∷ 0 ∷ 10 ∷ 0 ∷ 0 ∷ 0 ∷ 0 ∷ 0 ∷ 0 ∷ 0 ∷ 0 ∷ 0 ∷ 0 ∷ 0 ∷ 0 ∷ 0 ∷ 10 ∷ 0 ∷ 0 ∷ 0 ∷ 0 ∷ 0 ∷ 3 ∷ 0 ∷ 0 ∷ 0 ∷ 0 ∷ 0 ∷ 0 ∷ 0 ∷ 11 ∷ 0 ∷ 0 ∷ 0 ∷ 0 ∷ 0 ∷ 0 ∷ 255 ∷ 255 ∷ 0 ∷ 0 ∷ 0 ∷ 0 ∷ 0 ∷ 7 ∷ 0 ∷ 0 ∷ 0 ∷ 0 ∷ 0 ∷ 6 ∷ 0 ∷ 9 ∷ 0 ∷ 1 ∷ 0 ∷ 0 ∷ 0 ∷ 1 ∷ 0 ∷ 1 ∷ 0 ∷ 0 ∷ 0 ∷ 0 ∷ 0 ∷ 0 ∷ 0 ∷ 0 ∷ 0 ∷ 0 ∷ 0 ∷ 8 ∷ 0 ∷ 1 ∷ 0 ∷ 0 ∷ 0 ∷ 12 ∷ 0 ∷ 1 ∷ 0 ∷ 3 ∷ 0 ∷ 4 ∷ 0 ∷ 0 ∷ 0 ∷ 1 ∷ 0 ∷ 1 ∷ 0 ∷ 0 ∷ 0 ∷ 16 ∷ 0 ∷ 1 ∷ 0 ∷ 16 ∷ 0 ∷ 16 ∷ 0 ∷ 1 ∷ 0 ∷ 32 ∷ 0 ∷ 16 ∷ 0 ∷ 1 ∷ 0 ∷ 48 ∷ 0 ∷ 16 ∷ 0 ∷ 0 ∷ 0 ∷ 1 ∷ 0 ∷ 2 ∷ 0 ∷ 3 ∷ 1 ∷ 0 ∷ 0 ∷ 0 ∷ 0 ∷ 0 ∷ 0 ∷ 0 ∷ 0 ∷ 0 ∷ 0 ∷ 0 ∷ 0 ∷ 0 ∷ 0 ∷ 0 ∷ 2 ∷ 0 ∷ 0 ∷ 0 ∷ 0 ∷ 0 ∷ 0 ∷ 0 ∷ 0 ∷ 0 ∷ 0 ∷ 0 ∷ 0 ∷ 0 ∷ 0 ∷ 0 ∷ 3 ∷ 0 ∷ 0 ∷ 0 ∷ 0 ∷ 0 ∷ 0 ∷ 0 ∷ 0 ∷ 0 ∷ 0 ∷ 0 ∷ 0 ∷ 0 ∷ 0 ∷ 0 ∷ 5 ∷ 0 ∷ 0 ∷ 0 ∷ 0 ∷ 0 ∷ 0 ∷ 0 ∷ 0 ∷ 0 ∷ 0 ∷ 0 ∷ 0 ∷ 0 ∷ 0 ∷ 0 ∷ []; ty = 1; wanted = lowers_to (record { 0 = 6 }) (Some (record { 0 = 1 })) (record { terminators = (Terminator.Switch (record { 0 = 3 }) 1 0 (record { 0 = 2 }) (record { 0 = 1 }) ∷ Terminator.Open ∷ Terminator.Switch (record { 0 = 4 }) 1 0 (record { 0 = 3 }) (record { 0 = 1 }) ∷ Terminator.Switch (record { 0 = 5 }) 1 0 (record { 0 = 4 }) (record { 0 = 1 }) ∷ Terminator.Switch (record { 0 = 6 }) 1 0 (record { 0 = 5 }) (record { 0 = 1 }) ∷ Terminator.Switch (record { 0 = 7 }) 1 0 (record { 0 = 6 }) (record { 0 = 1 }) ∷ Terminator.Open ∷ []); lines = (record { block = 0; statement = live 2 } ∷ record { block = 0; statement = set 2 (of_place PlaceRvalue.Len (record { local = 0; elems = ([]) })) } ∷ record { block = 0; statement = live 3 } ∷ record { block = 0; statement = set 3 (binary BinOp.Le (Left.Constant (record { count = 8; ty = 257; offset = 0; low = 4; high = 0 })) (record { local = 2; elems = ([]) })) } ∷ record { block = 2; statement = live 4 } ∷ record { block = 2; statement = set 4 (binary BinOp.Eq (Left.Constant (record { count = 1; ty = 0; offset = 0; low = 1; high = 0 })) (record { local = 0; elems = ((ProjectionElem.Index 0) ∷ []) })) } ∷ record { block = 3; statement = live 5 } ∷ record { block = 3; statement = set 5 (binary BinOp.Eq (Left.Constant (record { count = 1; ty = 0; offset = 0; low = 2; high = 0 })) (record { local = 0; elems = ((ProjectionElem.IndexFromEnd 2) ∷ []) })) } ∷ record { block = 4; statement = live 6 } ∷ record { block = 4; statement = set 6 (binary BinOp.Le (Left.Constant (record { count = 1; ty = 0; offset = 0; low = 3; high = 0 })) (record { local = 0; elems = ((ProjectionElem.IndexFromEnd 0) ∷ []) })) } ∷ record { block = 5; statement = live 7 } ∷ record { block = 5; statement = set 7 (binary BinOp.Gt (Left.Constant (record { count = 1; ty = 0; offset = 0; low = 5; high = 0 })) (record { local = 0; elems = ((ProjectionElem.IndexFromEnd 0) ∷ []) })) } ∷ record { block = 6; statement = live 1 } ∷ record { block = 6; statement = set 1 (of_place PlaceRvalue.Copy (record { local = 0; elems = ((ProjectionElem.IndexFromEnd 1) ∷ []) })) } ∷ []); locals = (1 ∷ 0 ∷ 257 ∷ 256 ∷ 256 ∷ 256 ∷ 256 ∷ 256 ∷ []) }) (2 ∷ 2 ∷ 2 ∷ 2 ∷ 0 ∷ 2 ∷ []) }

abbrev suffix_in_suffix_row : Row
suffix_in_suffix_row = record { image = 0 ∷ 0 ∷ 0 ∷ 195 ∷ 1 ∷ 0 ∷ 3 ∷ 0 ∷ 0 ∷ 0 ∷ 8 ∷ 0 ∷ 2 ∷ 0 ∷ 8 ∷ 0 ∷ 16 ∷ 0 ∷ 1 ∷ 0 ∷ 1 ∷ 0 ∷ 0 ∷ 0 ∷ 0 ∷ 0 ∷ 1 ∷ 0 ∷ 8 ∷ 0 ∷ 0 ∷ 0 ∷ 4 ∷ 0 ∷ 0 ∷ 0 ∷ 1 ∷ 0 ∷ 8 ∷ 0 ∷ 1 ∷ 0 ∷ 3 ∷ 0 ∷ 0 ∷ 0 ∷ 1 ∷ 0 ∷ 11 ∷ 0 ∷ 0 ∷ 0 ∷ 0 ∷ 0 ∷ 0 ∷ 255 ∷ 255 ∷ 0 ∷ 0 ∷ 0 ∷ 0 ∷ 0 ∷ 10 ∷ 0 ∷ 0 ∷ 0 ∷ 0 ∷ 0 ∷ 0 ∷ 0 ∷ 0 ∷ 0 ∷ 0 ∷ 0 ∷ 0 ∷ 0 ∷ 11 ∷ 0 ∷ 0 ∷ 0 ∷ 0 ∷ 0 ∷ 1 ∷ 255 ∷ 255 ∷ 0 ∷ 0 ∷ 0 ∷ 0 ∷ 0 ∷ 1 ∷ 0 ∷ 1 ∷ 0 ∷ 0 ∷ 0 ∷ 0 ∷ 0 ∷ 0 ∷ 0 ∷ 0 ∷ 0 ∷ 0 ∷ 0 ∷ 8 ∷ 0 ∷ 1 ∷ 0 ∷ 0 ∷ 0 ∷ 3 ∷ 0 ∷ 0 ∷ 0 ∷ 3 ∷ 0 ∷ 3 ∷ 0 ∷ 3 ∷ 0 ∷ 1 ∷ 0 ∷ 0 ∷ 0 ∷ 0 ∷ 0 ∷ 0 ∷ 0 ∷ 0 ∷ 0 ∷ 0 ∷ 0 ∷ 1 ∷ 0 ∷ 2 ∷ 0 ∷ 0 ∷ 0 ∷ 0 ∷ 0 ∷ 0 ∷ 0 ∷ 0 ∷ 0 ∷ 0 ∷ 0 ∷ 8 ∷ 0 ∷ 2 ∷ 0 ∷ 0 ∷ 0 ∷ 6 ∷ 0 ∷ 0 ∷ 0 ∷ 2 ∷ 0 ∷ 6 ∷ 0 ∷ 0 ∷ 0 ∷ 1 ∷ 0 ∷ 0 ∷ 0 ∷ 1 ∷ 0 ∷ 1 ∷ 0 ∷ 0 ∷ 0 ∷ 16 ∷ 0 ∷ 0 ∷ 0 ∷ 1 ∷ 0 ∷ 2 ∷ 0 ∷ 4 ∷ 0 ∷ 5 ∷ 7 ∷ 0 ∷ 0 ∷ 0 ∷ 0 ∷ 0 ∷ 0 ∷ 0 ∷ 0 ∷ 0 ∷ 0 ∷ 0 ∷ 0 ∷ 0 ∷ 0 ∷ 0 ∷ []; ty = 2; wanted = lowers_to (record { 0 = 1 }) (Some (record { 0 = 2 })) (record { terminators = (Terminator.Switch (record { 0 = 3 }) 1 0 (record { 0 = 1 }) (record { 0 = 2 }) ∷ Terminator.Open ∷ Terminator.Open ∷ []); lines = (record { block = 0; statement = live 3 } ∷ record { block = 0; statement = set 3 (binary BinOp.Eq (Left.Constant (record { count = 1; ty = 0; offset = 0; low = 7; high = 0 })) (record { local = 0; elems = ((ProjectionElem.IndexFromEnd 1) ∷ (ProjectionElem.IndexFromEnd 1) ∷ []) })) } ∷ record { block = 1; statement = live 1 } ∷ record { block = 1; statement = set 1 (of_place PlaceRvalue.Copy (record { local = 0; elems = ((ProjectionElem.IndexFromEnd 1) ∷ (ProjectionElem.IndexFromEnd 2) ∷ []) })) } ∷ record { block = 1; statement = live 2 } ∷ record { block = 1; statement = set 2 (of_place PlaceRvalue.Copy (record { local = 0; elems = ((ProjectionElem.IndexFromEnd 1) ∷ (ProjectionElem.IndexFromEnd 0) ∷ []) })) } ∷ []); locals = (2 ∷ 0 ∷ 0 ∷ 256 ∷ []) }) (2 ∷ 2 ∷ 2 ∷ 0 ∷ 2 ∷ 2 ∷ 0 ∷ 2 ∷ []) }

abbrev reference_row : Row
reference_row = record { image = 0 ∷ 0 ∷ 0 ∷ 65 ∷ 1 ∷ 0 ∷ 2 ∷ 0 ∷ 0 ∷ 0 ∷ 2 ∷ 0 ∷ 1 ∷ 0 ∷ 0 ∷ 0 ∷ 0 ∷ 0 ∷ 1 ∷ 0 ∷ 1 ∷ 0 ∷ 0 ∷ 0 ∷ 0 ∷ 0 ∷ 1 ∷ 0 ∷ 7 ∷ 0 ∷ 0 ∷ 0 ∷ 0 ∷ 0 ∷ 0 ∷ 0 ∷ 1 ∷ 0 ∷ 11 ∷ 0 ∷ 0 ∷ 0 ∷ 0 ∷ 0 ∷ 0 ∷ 255 ∷ 255 ∷ 0 ∷ 0 ∷ 0 ∷ 0 ∷ 0 ∷ 13 ∷ 0 ∷ 1 ∷ 0 ∷ 0 ∷ 0 ∷ 0 ∷ 0 ∷ 0 ∷ 0 ∷ 0 ∷ 0 ∷ 0 ∷ 0 ∷ 0 ∷ 0 ∷ 1 ∷ []; ty = 1; wanted = lowers_to (record { 0 = 0 }) None (record { terminators = (Terminator.Open ∷ []); lines = (record { block = 0; statement = live 1 } ∷ record { block = 0; statement = set 1 (of_place PlaceRvalue.Copy (record { local = 0; elems = (ProjectionElem.Deref ∷ []) })) } ∷ []); locals = (1 ∷ 0 ∷ []) }) (2 ∷ 2 ∷ []) }

abbrev deref_1_row : Row
deref_1_row = record { image = 0 ∷ 0 ∷ 0 ∷ 69 ∷ 1 ∷ 0 ∷ 2 ∷ 0 ∷ 0 ∷ 0 ∷ 1 ∷ 0 ∷ 0 ∷ 0 ∷ 3 ∷ 0 ∷ 16 ∷ 0 ∷ 1 ∷ 0 ∷ 1 ∷ 0 ∷ 0 ∷ 0 ∷ 0 ∷ 0 ∷ 1 ∷ 0 ∷ 7 ∷ 0 ∷ 0 ∷ 0 ∷ 0 ∷ 0 ∷ 0 ∷ 0 ∷ 1 ∷ 0 ∷ 10 ∷ 0 ∷ 0 ∷ 0 ∷ 1 ∷ 0 ∷ 0 ∷ 0 ∷ 0 ∷ 0 ∷ 0 ∷ 0 ∷ 0 ∷ 0 ∷ 1 ∷ 0 ∷ 0 ∷ 0 ∷ 16 ∷ 1 ∷ 0 ∷ 0 ∷ 0 ∷ 0 ∷ 0 ∷ 0 ∷ 0 ∷ 0 ∷ 0 ∷ 0 ∷ 0 ∷ 0 ∷ 0 ∷ 0 ∷ 0 ∷ []; ty = 1; wanted = lowers_to (record { 0 = 1 }) (Some (record { 0 = 2 })) (record { terminators = (Terminator.Switch (record { 0 = 1 }) 1 0 (record { 0 = 1 }) (record { 0 = 2 }) ∷ Terminator.Open ∷ Terminator.Open ∷ []); lines = (record { block = 0; statement = live 1 } ∷ record { block = 0; statement = set 1 (binary BinOp.Eq (Left.Constant (record { count = 1; ty = 0; offset = 0; low = 1; high = 0 })) (record { local = 0; elems = (ProjectionElem.Deref ∷ []) })) } ∷ []); locals = (1 ∷ 256 ∷ []) }) (2 ∷ []) }

abbrev deref_lowest_row : Row
deref_lowest_row = record { image = 0 ∷ 0 ∷ 0 ∷ 67 ∷ 1 ∷ 0 ∷ 4 ∷ 0 ∷ 0 ∷ 0 ∷ 1 ∷ 0 ∷ 0 ∷ 0 ∷ 0 ∷ 0 ∷ 0 ∷ 0 ∷ 1 ∷ 0 ∷ 1 ∷ 0 ∷ 0 ∷ 0 ∷ 0 ∷ 0 ∷ 1 ∷ 0 ∷ 7 ∷ 0 ∷ 0 ∷ 0 ∷ 0 ∷ 0 ∷ 0 ∷ 0 ∷ 1 ∷ 0 ∷ 7 ∷ 0 ∷ 1 ∷ 0 ∷ 0 ∷ 0 ∷ 0 ∷ 0 ∷ 1 ∷ 0 ∷ 7 ∷ 0 ∷ 1 ∷ 0 ∷ 0 ∷ 0 ∷ 0 ∷ 0 ∷ 1 ∷ 0 ∷ 3 ∷ 0 ∷ 0 ∷ 0 ∷ 2 ∷ 0 ∷ 0 ∷ 0 ∷ 0 ∷ 0 ∷ 0 ∷ 0 ∷ 0 ∷ []; ty = 2; wanted = lowers_to (record { 0 = 0 }) None (record { terminators = (Terminator.Open ∷ []); lines = ([]); locals = (2 ∷ []) }) (2 ∷ []) }

abbrev derefs_16_row : Row
derefs_16_row = record { image = 0 ∷ 0 ∷ 0 ∷ 211 ∷ 1 ∷ 0 ∷ 17 ∷ 0 ∷ 0 ∷ 0 ∷ 2 ∷ 0 ∷ 0 ∷ 0 ∷ 0 ∷ 0 ∷ 0 ∷ 0 ∷ 1 ∷ 0 ∷ 1 ∷ 0 ∷ 0 ∷ 0 ∷ 0 ∷ 0 ∷ 1 ∷ 0 ∷ 7 ∷ 0 ∷ 0 ∷ 0 ∷ 0 ∷ 0 ∷ 0 ∷ 0 ∷ 1 ∷ 0 ∷ 7 ∷ 0 ∷ 1 ∷ 0 ∷ 0 ∷ 0 ∷ 0 ∷ 0 ∷ 1 ∷ 0 ∷ 7 ∷ 0 ∷ 2 ∷ 0 ∷ 0 ∷ 0 ∷ 0 ∷ 0 ∷ 1 ∷ 0 ∷ 7 ∷ 0 ∷ 3 ∷ 0 ∷ 0 ∷ 0 ∷ 0 ∷ 0 ∷ 1 ∷ 0 ∷ 7 ∷ 0 ∷ 4 ∷ 0 ∷ 0 ∷ 0 ∷ 0 ∷ 0 ∷ 1 ∷ 0 ∷ 7 ∷ 0 ∷ 5 ∷ 0 ∷ 0 ∷ 0 ∷ 0 ∷ 0 ∷ 1 ∷ 0 ∷ 7 ∷ 0 ∷ 6 ∷ 0 ∷ 0 ∷ 0 ∷ 0 ∷ 0 ∷ 1 ∷ 0 ∷ 7 ∷ 0 ∷ 7 ∷ 0 ∷ 0 ∷ 0 ∷ 0 ∷ 0 ∷ 1 ∷ 0 ∷ 7 ∷ 0 ∷ 8 ∷ 0 ∷ 0 ∷ 0 ∷ 0 ∷ 0 ∷ 1 ∷ 0 ∷ 7 ∷ 0 ∷ 9 ∷ 0 ∷ 0 ∷ 0 ∷ 0 ∷ 0 ∷ 1 ∷ 0 ∷ 7 ∷ 0 ∷ 10 ∷ 0 ∷ 0 ∷ 0 ∷ 0 ∷ 0 ∷ 1 ∷ 0 ∷ 7 ∷ 0 ∷ 11 ∷ 0 ∷ 0 ∷ 0 ∷ 0 ∷ 0 ∷ 1 ∷ 0 ∷ 7 ∷ 0 ∷ 12 ∷ 0 ∷ 0 ∷ 0 ∷ 0 ∷ 0 ∷ 1 ∷ 0 ∷ 7 ∷ 0 ∷ 13 ∷ 0 ∷ 0 ∷ 0 ∷ 0 ∷ 0 ∷ 1 ∷ 0 ∷ 7 ∷ 0 ∷ 14 ∷ 0 ∷ 0 ∷ 0 ∷ 0 ∷ 0 ∷ 1 ∷ 0 ∷ 7 ∷ 0 ∷ 15 ∷ 0 ∷ 0 ∷ 0 ∷ 0 ∷ 0 ∷ 1 ∷ 0 ∷ 3 ∷ 0 ∷ 0 ∷ 0 ∷ 0 ∷ 0 ∷ 0 ∷ 0 ∷ 0 ∷ 0 ∷ 0 ∷ 0 ∷ 0 ∷ 0 ∷ 13 ∷ 0 ∷ 1 ∷ 0 ∷ 15 ∷ 0 ∷ 0 ∷ 0 ∷ 0 ∷ 0 ∷ 0 ∷ 0 ∷ 0 ∷ []; ty = 16; wanted = lowers_to (record { 0 = 0 }) None (record { terminators = (Terminator.Open ∷ []); lines = ([]); locals = (16 ∷ []) }) (2 ∷ 2 ∷ []) }

abbrev missing_row : Row
missing_row = record { image = 0 ∷ 0 ∷ 0 ∷ 69 ∷ 1 ∷ 0 ∷ 2 ∷ 0 ∷ 0 ∷ 0 ∷ 2 ∷ 0 ∷ 1 ∷ 0 ∷ 2 ∷ 0 ∷ 0 ∷ 0 ∷ 1 ∷ 0 ∷ 1 ∷ 0 ∷ 0 ∷ 0 ∷ 0 ∷ 0 ∷ 1 ∷ 0 ∷ 5 ∷ 0 ∷ 0 ∷ 0 ∷ 1 ∷ 0 ∷ 0 ∷ 0 ∷ 1 ∷ 0 ∷ 0 ∷ 0 ∷ 0 ∷ 0 ∷ 0 ∷ 0 ∷ 0 ∷ 0 ∷ 0 ∷ 0 ∷ 0 ∷ 0 ∷ 0 ∷ 0 ∷ 4 ∷ 0 ∷ 1 ∷ 0 ∷ 0 ∷ 0 ∷ 1 ∷ 0 ∷ 1 ∷ 255 ∷ 255 ∷ 0 ∷ 0 ∷ 0 ∷ 0 ∷ 0 ∷ 1 ∷ 0 ∷ 0 ∷ 0 ∷ 0 ∷ []; ty = 1; wanted = refusal (record { number = 3; pattern = 0; reason = 0 }) }

abbrev rest_row : Row
rest_row = record { image = 0 ∷ 0 ∷ 0 ∷ 69 ∷ 1 ∷ 0 ∷ 2 ∷ 0 ∷ 0 ∷ 0 ∷ 2 ∷ 0 ∷ 1 ∷ 0 ∷ 2 ∷ 0 ∷ 0 ∷ 0 ∷ 1 ∷ 0 ∷ 1 ∷ 0 ∷ 0 ∷ 0 ∷ 0 ∷ 0 ∷ 1 ∷ 0 ∷ 5 ∷ 0 ∷ 0 ∷ 0 ∷ 1 ∷ 0 ∷ 0 ∷ 0 ∷ 1 ∷ 0 ∷ 1 ∷ 0 ∷ 0 ∷ 0 ∷ 0 ∷ 0 ∷ 0 ∷ 0 ∷ 0 ∷ 0 ∷ 0 ∷ 0 ∷ 0 ∷ 0 ∷ 4 ∷ 0 ∷ 1 ∷ 0 ∷ 0 ∷ 0 ∷ 1 ∷ 0 ∷ 1 ∷ 255 ∷ 255 ∷ 0 ∷ 0 ∷ 0 ∷ 0 ∷ 0 ∷ 1 ∷ 0 ∷ 0 ∷ 0 ∷ 0 ∷ []; ty = 1; wanted = refusal (record { number = 3; pattern = 0; reason = 0 }) }

abbrev not_null_row : Row
not_null_row = record { image = 0 ∷ 0 ∷ 0 ∷ 69 ∷ 1 ∷ 0 ∷ 2 ∷ 0 ∷ 0 ∷ 0 ∷ 2 ∷ 0 ∷ 1 ∷ 0 ∷ 2 ∷ 0 ∷ 0 ∷ 0 ∷ 1 ∷ 0 ∷ 1 ∷ 0 ∷ 0 ∷ 0 ∷ 0 ∷ 0 ∷ 1 ∷ 0 ∷ 5 ∷ 0 ∷ 0 ∷ 0 ∷ 1 ∷ 0 ∷ 0 ∷ 0 ∷ 1 ∷ 0 ∷ 2 ∷ 0 ∷ 0 ∷ 0 ∷ 0 ∷ 0 ∷ 0 ∷ 0 ∷ 0 ∷ 0 ∷ 0 ∷ 0 ∷ 0 ∷ 0 ∷ 4 ∷ 0 ∷ 1 ∷ 0 ∷ 0 ∷ 0 ∷ 1 ∷ 0 ∷ 1 ∷ 255 ∷ 255 ∷ 0 ∷ 0 ∷ 0 ∷ 0 ∷ 0 ∷ 1 ∷ 0 ∷ 0 ∷ 0 ∷ 0 ∷ []; ty = 1; wanted = refusal (record { number = 3; pattern = 0; reason = 0 }) }

abbrev no_tuple_row : Row
no_tuple_row = record { image = 0 ∷ 0 ∷ 0 ∷ 69 ∷ 1 ∷ 0 ∷ 2 ∷ 0 ∷ 0 ∷ 0 ∷ 2 ∷ 0 ∷ 1 ∷ 0 ∷ 2 ∷ 0 ∷ 0 ∷ 0 ∷ 1 ∷ 0 ∷ 1 ∷ 0 ∷ 0 ∷ 0 ∷ 0 ∷ 0 ∷ 1 ∷ 0 ∷ 5 ∷ 0 ∷ 0 ∷ 0 ∷ 1 ∷ 0 ∷ 0 ∷ 0 ∷ 1 ∷ 0 ∷ 4 ∷ 0 ∷ 0 ∷ 0 ∷ 0 ∷ 0 ∷ 0 ∷ 0 ∷ 0 ∷ 255 ∷ 255 ∷ 0 ∷ 0 ∷ 0 ∷ 4 ∷ 0 ∷ 1 ∷ 0 ∷ 0 ∷ 0 ∷ 1 ∷ 0 ∷ 1 ∷ 255 ∷ 255 ∷ 0 ∷ 0 ∷ 0 ∷ 0 ∷ 0 ∷ 1 ∷ 0 ∷ 0 ∷ 0 ∷ 0 ∷ []; ty = 1; wanted = refusal (record { number = 4; pattern = 0; reason = 1 }) }

abbrev no_slice_row : Row
no_slice_row = record { image = 0 ∷ 0 ∷ 0 ∷ 69 ∷ 1 ∷ 0 ∷ 2 ∷ 0 ∷ 0 ∷ 0 ∷ 2 ∷ 0 ∷ 1 ∷ 0 ∷ 2 ∷ 0 ∷ 0 ∷ 0 ∷ 1 ∷ 0 ∷ 1 ∷ 0 ∷ 0 ∷ 0 ∷ 0 ∷ 0 ∷ 1 ∷ 0 ∷ 5 ∷ 0 ∷ 0 ∷ 0 ∷ 1 ∷ 0 ∷ 0 ∷ 0 ∷ 1 ∷ 0 ∷ 8 ∷ 0 ∷ 0 ∷ 0 ∷ 0 ∷ 0 ∷ 0 ∷ 0 ∷ 0 ∷ 0 ∷ 0 ∷ 255 ∷ 255 ∷ 0 ∷ 4 ∷ 0 ∷ 1 ∷ 0 ∷ 0 ∷ 0 ∷ 1 ∷ 0 ∷ 1 ∷ 255 ∷ 255 ∷ 0 ∷ 0 ∷ 0 ∷ 0 ∷ 0 ∷ 1 ∷ 0 ∷ 0 ∷ 0 ∷ 0 ∷ []; ty = 1; wanted = refusal (record { number = 4; pattern = 0; reason = 2 }) }

abbrev no_reference_row : Row
no_reference_row = record { image = 0 ∷ 0 ∷ 0 ∷ 51 ∷ 1 ∷ 0 ∷ 1 ∷ 0 ∷ 0 ∷ 0 ∷ 2 ∷ 0 ∷ 0 ∷ 0 ∷ 0 ∷ 0 ∷ 0 ∷ 0 ∷ 1 ∷ 0 ∷ 1 ∷ 0 ∷ 0 ∷ 0 ∷ 0 ∷ 0 ∷ 1 ∷ 0 ∷ 3 ∷ 0 ∷ 0 ∷ 0 ∷ 0 ∷ 0 ∷ 0 ∷ 0 ∷ 0 ∷ 0 ∷ 0 ∷ 0 ∷ 0 ∷ 0 ∷ 13 ∷ 0 ∷ 0 ∷ 0 ∷ 0 ∷ 0 ∷ 0 ∷ 0 ∷ 0 ∷ 0 ∷ 0 ∷ 0 ∷ 0 ∷ []; ty = 0; wanted = refusal (record { number = 4; pattern = 1; reason = 3 }) }

abbrev no_adt_row : Row
no_adt_row = record { image = 0 ∷ 0 ∷ 0 ∷ 69 ∷ 1 ∷ 0 ∷ 2 ∷ 0 ∷ 1 ∷ 0 ∷ 1 ∷ 0 ∷ 0 ∷ 0 ∷ 0 ∷ 0 ∷ 16 ∷ 0 ∷ 1 ∷ 0 ∷ 1 ∷ 0 ∷ 0 ∷ 0 ∷ 0 ∷ 0 ∷ 1 ∷ 0 ∷ 6 ∷ 0 ∷ 0 ∷ 0 ∷ 1 ∷ 0 ∷ 0 ∷ 0 ∷ 0 ∷ 0 ∷ 0 ∷ 0 ∷ 0 ∷ 0 ∷ 0 ∷ 0 ∷ 9 ∷ 0 ∷ 0 ∷ 0 ∷ 0 ∷ 0 ∷ 1 ∷ 0 ∷ 0 ∷ 0 ∷ 0 ∷ 0 ∷ 0 ∷ 0 ∷ 0 ∷ 0 ∷ 0 ∷ 0 ∷ 0 ∷ 0 ∷ 0 ∷ 0 ∷ 0 ∷ 0 ∷ 0 ∷ 0 ∷ 0 ∷ 0 ∷ 0 ∷ []; ty = 0; wanted = refusal (record { number = 4; pattern = 0; reason = 4 }) }

abbrev another_adt_row : Row
another_adt_row = record { image = 0 ∷ 0 ∷ 0 ∷ 125 ∷ 1 ∷ 0 ∷ 3 ∷ 0 ∷ 3 ∷ 0 ∷ 1 ∷ 0 ∷ 0 ∷ 0 ∷ 1 ∷ 0 ∷ 48 ∷ 0 ∷ 1 ∷ 0 ∷ 1 ∷ 0 ∷ 0 ∷ 0 ∷ 0 ∷ 0 ∷ 1 ∷ 0 ∷ 6 ∷ 0 ∷ 0 ∷ 0 ∷ 2 ∷ 0 ∷ 1 ∷ 0 ∷ 0 ∷ 0 ∷ 6 ∷ 0 ∷ 2 ∷ 0 ∷ 1 ∷ 0 ∷ 1 ∷ 0 ∷ 0 ∷ 0 ∷ 0 ∷ 0 ∷ 1 ∷ 0 ∷ 0 ∷ 0 ∷ 1 ∷ 0 ∷ 0 ∷ 0 ∷ 16 ∷ 0 ∷ 1 ∷ 0 ∷ 0 ∷ 0 ∷ 32 ∷ 0 ∷ 9 ∷ 0 ∷ 1 ∷ 0 ∷ 0 ∷ 0 ∷ 1 ∷ 0 ∷ 2 ∷ 0 ∷ 0 ∷ 0 ∷ 0 ∷ 0 ∷ 0 ∷ 1 ∷ 0 ∷ 0 ∷ 0 ∷ 0 ∷ 0 ∷ 0 ∷ 0 ∷ 0 ∷ 0 ∷ 0 ∷ 0 ∷ 0 ∷ 0 ∷ 0 ∷ 0 ∷ 0 ∷ 0 ∷ 0 ∷ 0 ∷ 0 ∷ 0 ∷ 0 ∷ 0 ∷ 0 ∷ 0 ∷ 0 ∷ 0 ∷ 0 ∷ 0 ∷ 0 ∷ 0 ∷ 0 ∷ 0 ∷ 0 ∷ 0 ∷ 0 ∷ 0 ∷ 0 ∷ 0 ∷ 0 ∷ 0 ∷ 0 ∷ 0 ∷ 0 ∷ 0 ∷ 0 ∷ 0 ∷ []; ty = 1; wanted = refusal (record { number = 4; pattern = 0; reason = 5 }) }

abbrev no_adts_variant_row : Row
no_adts_variant_row = record { image = 0 ∷ 0 ∷ 0 ∷ 115 ∷ 1 ∷ 0 ∷ 2 ∷ 0 ∷ 3 ∷ 0 ∷ 1 ∷ 0 ∷ 0 ∷ 0 ∷ 1 ∷ 0 ∷ 48 ∷ 0 ∷ 1 ∷ 0 ∷ 1 ∷ 0 ∷ 0 ∷ 0 ∷ 0 ∷ 0 ∷ 1 ∷ 0 ∷ 6 ∷ 0 ∷ 0 ∷ 0 ∷ 2 ∷ 0 ∷ 1 ∷ 0 ∷ 0 ∷ 0 ∷ 0 ∷ 0 ∷ 1 ∷ 0 ∷ 0 ∷ 0 ∷ 1 ∷ 0 ∷ 0 ∷ 0 ∷ 16 ∷ 0 ∷ 1 ∷ 0 ∷ 0 ∷ 0 ∷ 32 ∷ 0 ∷ 12 ∷ 0 ∷ 1 ∷ 0 ∷ 0 ∷ 0 ∷ 0 ∷ 0 ∷ 0 ∷ 255 ∷ 255 ∷ 0 ∷ 2 ∷ 0 ∷ 0 ∷ 1 ∷ 0 ∷ 0 ∷ 0 ∷ 0 ∷ 0 ∷ 0 ∷ 0 ∷ 0 ∷ 0 ∷ 0 ∷ 0 ∷ 0 ∷ 0 ∷ 0 ∷ 0 ∷ 0 ∷ 0 ∷ 0 ∷ 0 ∷ 0 ∷ 0 ∷ 0 ∷ 0 ∷ 0 ∷ 0 ∷ 0 ∷ 0 ∷ 0 ∷ 0 ∷ 0 ∷ 0 ∷ 0 ∷ 0 ∷ 0 ∷ 0 ∷ 0 ∷ 0 ∷ 0 ∷ 0 ∷ 0 ∷ 0 ∷ 0 ∷ 0 ∷ 0 ∷ 0 ∷ 0 ∷ 0 ∷ []; ty = 1; wanted = refusal (record { number = 4; pattern = 0; reason = 5 }) }

abbrev union_row : Row
union_row = record { image = 0 ∷ 0 ∷ 0 ∷ 89 ∷ 1 ∷ 0 ∷ 2 ∷ 0 ∷ 1 ∷ 0 ∷ 2 ∷ 0 ∷ 0 ∷ 0 ∷ 3 ∷ 0 ∷ 16 ∷ 0 ∷ 1 ∷ 0 ∷ 1 ∷ 0 ∷ 0 ∷ 0 ∷ 0 ∷ 0 ∷ 1 ∷ 0 ∷ 6 ∷ 0 ∷ 0 ∷ 0 ∷ 1 ∷ 0 ∷ 2 ∷ 0 ∷ 0 ∷ 0 ∷ 0 ∷ 0 ∷ 1 ∷ 0 ∷ 0 ∷ 0 ∷ 3 ∷ 0 ∷ 0 ∷ 0 ∷ 0 ∷ 0 ∷ 0 ∷ 0 ∷ 0 ∷ 0 ∷ 0 ∷ 0 ∷ 0 ∷ 0 ∷ 6 ∷ 0 ∷ 1 ∷ 0 ∷ 0 ∷ 0 ∷ 1 ∷ 0 ∷ 1 ∷ 0 ∷ 0 ∷ 0 ∷ 0 ∷ 0 ∷ 0 ∷ 0 ∷ 9 ∷ 0 ∷ 0 ∷ 0 ∷ 0 ∷ 0 ∷ 0 ∷ 0 ∷ 0 ∷ 0 ∷ 0 ∷ 0 ∷ 0 ∷ 0 ∷ 0 ∷ 0 ∷ 0 ∷ 0 ∷ 0 ∷ []; ty = 1; wanted = refusal (record { number = 4; pattern = 1; reason = 6 }) }

abbrev field_absent_row : Row
field_absent_row = record { image = 0 ∷ 0 ∷ 0 ∷ 129 ∷ 1 ∷ 0 ∷ 2 ∷ 0 ∷ 2 ∷ 0 ∷ 3 ∷ 0 ∷ 0 ∷ 0 ∷ 5 ∷ 0 ∷ 32 ∷ 0 ∷ 1 ∷ 0 ∷ 1 ∷ 0 ∷ 0 ∷ 0 ∷ 0 ∷ 0 ∷ 1 ∷ 0 ∷ 6 ∷ 0 ∷ 0 ∷ 0 ∷ 2 ∷ 0 ∷ 1 ∷ 0 ∷ 0 ∷ 0 ∷ 0 ∷ 0 ∷ 1 ∷ 0 ∷ 0 ∷ 0 ∷ 1 ∷ 0 ∷ 0 ∷ 0 ∷ 16 ∷ 0 ∷ 0 ∷ 0 ∷ 0 ∷ 0 ∷ 0 ∷ 0 ∷ 0 ∷ 0 ∷ 0 ∷ 0 ∷ 0 ∷ 0 ∷ 0 ∷ 0 ∷ 3 ∷ 0 ∷ 0 ∷ 0 ∷ 0 ∷ 0 ∷ 0 ∷ 0 ∷ 0 ∷ 0 ∷ 0 ∷ 0 ∷ 0 ∷ 0 ∷ 6 ∷ 0 ∷ 1 ∷ 0 ∷ 0 ∷ 0 ∷ 1 ∷ 0 ∷ 2 ∷ 0 ∷ 0 ∷ 0 ∷ 0 ∷ 0 ∷ 0 ∷ 0 ∷ 0 ∷ 0 ∷ 0 ∷ 255 ∷ 255 ∷ 0 ∷ 1 ∷ 1 ∷ 0 ∷ 0 ∷ 0 ∷ 0 ∷ 0 ∷ 0 ∷ 0 ∷ 0 ∷ 0 ∷ 0 ∷ 0 ∷ 0 ∷ 0 ∷ 0 ∷ 0 ∷ 0 ∷ 0 ∷ 0 ∷ 0 ∷ 0 ∷ 0 ∷ 0 ∷ 0 ∷ 0 ∷ 0 ∷ 0 ∷ 0 ∷ 0 ∷ 0 ∷ 0 ∷ 0 ∷ []; ty = 1; wanted = refusal (record { number = 5; pattern = 2; reason = 0 }) }

abbrev field_past_row : Row
field_past_row = record { image = 0 ∷ 0 ∷ 0 ∷ 129 ∷ 1 ∷ 0 ∷ 2 ∷ 0 ∷ 2 ∷ 0 ∷ 3 ∷ 0 ∷ 0 ∷ 0 ∷ 5 ∷ 0 ∷ 32 ∷ 0 ∷ 1 ∷ 0 ∷ 1 ∷ 0 ∷ 0 ∷ 0 ∷ 0 ∷ 0 ∷ 1 ∷ 0 ∷ 6 ∷ 0 ∷ 0 ∷ 0 ∷ 2 ∷ 0 ∷ 1 ∷ 0 ∷ 0 ∷ 0 ∷ 0 ∷ 0 ∷ 1 ∷ 0 ∷ 0 ∷ 0 ∷ 1 ∷ 0 ∷ 0 ∷ 0 ∷ 16 ∷ 0 ∷ 0 ∷ 0 ∷ 0 ∷ 0 ∷ 0 ∷ 0 ∷ 0 ∷ 0 ∷ 0 ∷ 0 ∷ 0 ∷ 0 ∷ 0 ∷ 0 ∷ 3 ∷ 0 ∷ 0 ∷ 0 ∷ 0 ∷ 0 ∷ 0 ∷ 0 ∷ 0 ∷ 0 ∷ 0 ∷ 0 ∷ 0 ∷ 0 ∷ 6 ∷ 0 ∷ 1 ∷ 0 ∷ 0 ∷ 0 ∷ 1 ∷ 0 ∷ 2 ∷ 0 ∷ 0 ∷ 0 ∷ 0 ∷ 0 ∷ 0 ∷ 0 ∷ 0 ∷ 0 ∷ 0 ∷ 0 ∷ 1 ∷ 0 ∷ 1 ∷ 1 ∷ 0 ∷ 0 ∷ 0 ∷ 0 ∷ 0 ∷ 0 ∷ 0 ∷ 0 ∷ 0 ∷ 0 ∷ 0 ∷ 0 ∷ 0 ∷ 0 ∷ 0 ∷ 0 ∷ 0 ∷ 0 ∷ 0 ∷ 0 ∷ 0 ∷ 0 ∷ 0 ∷ 0 ∷ 0 ∷ 0 ∷ 0 ∷ 0 ∷ 0 ∷ 0 ∷ 0 ∷ []; ty = 1; wanted = refusal (record { number = 5; pattern = 2; reason = 0 }) }

abbrev record_variant_absent_row : Row
record_variant_absent_row = record { image = 0 ∷ 0 ∷ 0 ∷ 69 ∷ 1 ∷ 0 ∷ 2 ∷ 0 ∷ 0 ∷ 0 ∷ 2 ∷ 0 ∷ 1 ∷ 0 ∷ 2 ∷ 0 ∷ 0 ∷ 0 ∷ 1 ∷ 0 ∷ 1 ∷ 0 ∷ 0 ∷ 0 ∷ 0 ∷ 0 ∷ 1 ∷ 0 ∷ 5 ∷ 0 ∷ 0 ∷ 0 ∷ 1 ∷ 0 ∷ 0 ∷ 0 ∷ 1 ∷ 0 ∷ 6 ∷ 0 ∷ 0 ∷ 0 ∷ 0 ∷ 0 ∷ 0 ∷ 0 ∷ 0 ∷ 255 ∷ 255 ∷ 0 ∷ 0 ∷ 0 ∷ 4 ∷ 0 ∷ 1 ∷ 0 ∷ 0 ∷ 0 ∷ 1 ∷ 0 ∷ 1 ∷ 255 ∷ 255 ∷ 0 ∷ 0 ∷ 0 ∷ 0 ∷ 0 ∷ 1 ∷ 0 ∷ 0 ∷ 0 ∷ 0 ∷ []; ty = 1; wanted = refusal (record { number = 6; pattern = 0; reason = 0 }) }

abbrev struct_variant_absent_row : Row
struct_variant_absent_row = record { image = 0 ∷ 0 ∷ 0 ∷ 69 ∷ 1 ∷ 0 ∷ 2 ∷ 0 ∷ 0 ∷ 0 ∷ 2 ∷ 0 ∷ 1 ∷ 0 ∷ 2 ∷ 0 ∷ 0 ∷ 0 ∷ 1 ∷ 0 ∷ 1 ∷ 0 ∷ 0 ∷ 0 ∷ 0 ∷ 0 ∷ 1 ∷ 0 ∷ 5 ∷ 0 ∷ 0 ∷ 0 ∷ 1 ∷ 0 ∷ 0 ∷ 0 ∷ 1 ∷ 0 ∷ 12 ∷ 0 ∷ 0 ∷ 0 ∷ 0 ∷ 0 ∷ 0 ∷ 0 ∷ 0 ∷ 0 ∷ 9 ∷ 255 ∷ 255 ∷ 0 ∷ 4 ∷ 0 ∷ 1 ∷ 0 ∷ 0 ∷ 0 ∷ 1 ∷ 0 ∷ 1 ∷ 255 ∷ 255 ∷ 0 ∷ 0 ∷ 0 ∷ 0 ∷ 0 ∷ 1 ∷ 0 ∷ 0 ∷ 0 ∷ 0 ∷ []; ty = 1; wanted = refusal (record { number = 6; pattern = 0; reason = 0 }) }

abbrev path_binding_row : Row
path_binding_row = record { image = 0 ∷ 0 ∷ 0 ∷ 69 ∷ 1 ∷ 0 ∷ 2 ∷ 0 ∷ 0 ∷ 0 ∷ 2 ∷ 0 ∷ 1 ∷ 0 ∷ 2 ∷ 0 ∷ 0 ∷ 0 ∷ 1 ∷ 0 ∷ 1 ∷ 0 ∷ 0 ∷ 0 ∷ 0 ∷ 0 ∷ 1 ∷ 0 ∷ 5 ∷ 0 ∷ 0 ∷ 0 ∷ 1 ∷ 0 ∷ 0 ∷ 0 ∷ 1 ∷ 0 ∷ 9 ∷ 0 ∷ 0 ∷ 0 ∷ 0 ∷ 0 ∷ 2 ∷ 0 ∷ 0 ∷ 0 ∷ 0 ∷ 0 ∷ 0 ∷ 0 ∷ 4 ∷ 0 ∷ 1 ∷ 0 ∷ 0 ∷ 0 ∷ 1 ∷ 0 ∷ 1 ∷ 255 ∷ 255 ∷ 0 ∷ 0 ∷ 0 ∷ 0 ∷ 0 ∷ 1 ∷ 0 ∷ 0 ∷ 0 ∷ 0 ∷ []; ty = 1; wanted = refusal (record { number = 6; pattern = 0; reason = 0 }) }

abbrev path_other_row : Row
path_other_row = record { image = 0 ∷ 0 ∷ 0 ∷ 69 ∷ 1 ∷ 0 ∷ 2 ∷ 0 ∷ 0 ∷ 0 ∷ 2 ∷ 0 ∷ 1 ∷ 0 ∷ 2 ∷ 0 ∷ 0 ∷ 0 ∷ 1 ∷ 0 ∷ 1 ∷ 0 ∷ 0 ∷ 0 ∷ 0 ∷ 0 ∷ 1 ∷ 0 ∷ 5 ∷ 0 ∷ 0 ∷ 0 ∷ 1 ∷ 0 ∷ 0 ∷ 0 ∷ 1 ∷ 0 ∷ 9 ∷ 0 ∷ 0 ∷ 0 ∷ 0 ∷ 0 ∷ 4 ∷ 0 ∷ 0 ∷ 0 ∷ 0 ∷ 0 ∷ 0 ∷ 0 ∷ 4 ∷ 0 ∷ 1 ∷ 0 ∷ 0 ∷ 0 ∷ 1 ∷ 0 ∷ 1 ∷ 255 ∷ 255 ∷ 0 ∷ 0 ∷ 0 ∷ 0 ∷ 0 ∷ 1 ∷ 0 ∷ 0 ∷ 0 ∷ 0 ∷ []; ty = 1; wanted = refusal (record { number = 6; pattern = 0; reason = 0 }) }

abbrev box_row : Row
box_row = record { image = 0 ∷ 0 ∷ 0 ∷ 69 ∷ 1 ∷ 0 ∷ 2 ∷ 0 ∷ 0 ∷ 0 ∷ 2 ∷ 0 ∷ 1 ∷ 0 ∷ 2 ∷ 0 ∷ 0 ∷ 0 ∷ 1 ∷ 0 ∷ 1 ∷ 0 ∷ 0 ∷ 0 ∷ 0 ∷ 0 ∷ 1 ∷ 0 ∷ 5 ∷ 0 ∷ 0 ∷ 0 ∷ 1 ∷ 0 ∷ 0 ∷ 0 ∷ 1 ∷ 0 ∷ 15 ∷ 0 ∷ 0 ∷ 0 ∷ 0 ∷ 0 ∷ 0 ∷ 0 ∷ 0 ∷ 0 ∷ 0 ∷ 0 ∷ 0 ∷ 0 ∷ 4 ∷ 0 ∷ 1 ∷ 0 ∷ 0 ∷ 0 ∷ 1 ∷ 0 ∷ 1 ∷ 255 ∷ 255 ∷ 0 ∷ 0 ∷ 0 ∷ 0 ∷ 0 ∷ 1 ∷ 0 ∷ 0 ∷ 0 ∷ 0 ∷ []; ty = 1; wanted = refusal (record { number = 6; pattern = 0; reason = 0 }) }

abbrev deref_row : Row
deref_row = record { image = 0 ∷ 0 ∷ 0 ∷ 69 ∷ 1 ∷ 0 ∷ 2 ∷ 0 ∷ 0 ∷ 0 ∷ 2 ∷ 0 ∷ 1 ∷ 0 ∷ 2 ∷ 0 ∷ 0 ∷ 0 ∷ 1 ∷ 0 ∷ 1 ∷ 0 ∷ 0 ∷ 0 ∷ 0 ∷ 0 ∷ 1 ∷ 0 ∷ 5 ∷ 0 ∷ 0 ∷ 0 ∷ 1 ∷ 0 ∷ 0 ∷ 0 ∷ 1 ∷ 0 ∷ 16 ∷ 0 ∷ 0 ∷ 0 ∷ 0 ∷ 0 ∷ 0 ∷ 0 ∷ 0 ∷ 0 ∷ 0 ∷ 0 ∷ 0 ∷ 0 ∷ 4 ∷ 0 ∷ 1 ∷ 0 ∷ 0 ∷ 0 ∷ 1 ∷ 0 ∷ 1 ∷ 255 ∷ 255 ∷ 0 ∷ 0 ∷ 0 ∷ 0 ∷ 0 ∷ 1 ∷ 0 ∷ 0 ∷ 0 ∷ 0 ∷ []; ty = 1; wanted = refusal (record { number = 6; pattern = 0; reason = 0 }) }

abbrev lit_constant_row : Row
lit_constant_row = record { image = 0 ∷ 0 ∷ 0 ∷ 44 ∷ 1 ∷ 0 ∷ 1 ∷ 0 ∷ 0 ∷ 0 ∷ 1 ∷ 0 ∷ 0 ∷ 0 ∷ 3 ∷ 0 ∷ 1 ∷ 0 ∷ 1 ∷ 0 ∷ 1 ∷ 0 ∷ 0 ∷ 0 ∷ 0 ∷ 0 ∷ 1 ∷ 0 ∷ 10 ∷ 0 ∷ 0 ∷ 0 ∷ 0 ∷ 0 ∷ 0 ∷ 0 ∷ 0 ∷ 0 ∷ 0 ∷ 0 ∷ 0 ∷ 0 ∷ 8 ∷ 0 ∷ 0 ∷ 0 ∷ 1 ∷ 7 ∷ []; ty = 0; wanted = refusal (record { number = 6; pattern = 0; reason = 0 }) }

abbrev lit_other_row : Row
lit_other_row = record { image = 0 ∷ 0 ∷ 0 ∷ 43 ∷ 1 ∷ 0 ∷ 1 ∷ 0 ∷ 0 ∷ 0 ∷ 1 ∷ 0 ∷ 0 ∷ 0 ∷ 3 ∷ 0 ∷ 0 ∷ 0 ∷ 1 ∷ 0 ∷ 1 ∷ 0 ∷ 0 ∷ 0 ∷ 0 ∷ 0 ∷ 1 ∷ 0 ∷ 10 ∷ 0 ∷ 0 ∷ 0 ∷ 0 ∷ 0 ∷ 0 ∷ 0 ∷ 0 ∷ 0 ∷ 0 ∷ 0 ∷ 0 ∷ 0 ∷ 10 ∷ 0 ∷ 0 ∷ 0 ∷ 0 ∷ []; ty = 0; wanted = refusal (record { number = 6; pattern = 0; reason = 0 }) }

abbrev lit_float_row : Row
lit_float_row = record { image = 0 ∷ 0 ∷ 0 ∷ 47 ∷ 1 ∷ 0 ∷ 1 ∷ 0 ∷ 0 ∷ 0 ∷ 1 ∷ 0 ∷ 0 ∷ 0 ∷ 3 ∷ 0 ∷ 4 ∷ 0 ∷ 1 ∷ 0 ∷ 1 ∷ 0 ∷ 0 ∷ 0 ∷ 0 ∷ 0 ∷ 1 ∷ 0 ∷ 10 ∷ 0 ∷ 0 ∷ 0 ∷ 0 ∷ 0 ∷ 0 ∷ 0 ∷ 0 ∷ 0 ∷ 0 ∷ 0 ∷ 0 ∷ 0 ∷ 9 ∷ 0 ∷ 0 ∷ 0 ∷ 4 ∷ 0 ∷ 0 ∷ 0 ∷ 0 ∷ []; ty = 0; wanted = refusal (record { number = 6; pattern = 0; reason = 0 }) }

abbrev lit_on_bool_row : Row
lit_on_bool_row = record { image = 0 ∷ 0 ∷ 0 ∷ 59 ∷ 1 ∷ 0 ∷ 1 ∷ 0 ∷ 0 ∷ 0 ∷ 1 ∷ 0 ∷ 0 ∷ 0 ∷ 3 ∷ 0 ∷ 16 ∷ 0 ∷ 2 ∷ 0 ∷ 1 ∷ 0 ∷ 0 ∷ 0 ∷ 0 ∷ 0 ∷ 1 ∷ 0 ∷ 10 ∷ 0 ∷ 0 ∷ 0 ∷ 0 ∷ 0 ∷ 0 ∷ 0 ∷ 0 ∷ 0 ∷ 0 ∷ 0 ∷ 0 ∷ 0 ∷ 1 ∷ 0 ∷ 0 ∷ 0 ∷ 16 ∷ 1 ∷ 0 ∷ 0 ∷ 0 ∷ 0 ∷ 0 ∷ 0 ∷ 0 ∷ 0 ∷ 0 ∷ 0 ∷ 0 ∷ 0 ∷ 0 ∷ 0 ∷ 0 ∷ []; ty = 0; wanted = refusal (record { number = 6; pattern = 0; reason = 0 }) }

abbrev end_other_row : Row
end_other_row = record { image = 0 ∷ 0 ∷ 0 ∷ 65 ∷ 1 ∷ 0 ∷ 1 ∷ 0 ∷ 0 ∷ 0 ∷ 1 ∷ 0 ∷ 0 ∷ 0 ∷ 6 ∷ 0 ∷ 16 ∷ 0 ∷ 1 ∷ 0 ∷ 1 ∷ 0 ∷ 0 ∷ 0 ∷ 0 ∷ 0 ∷ 1 ∷ 0 ∷ 7 ∷ 0 ∷ 0 ∷ 0 ∷ 0 ∷ 0 ∷ 0 ∷ 0 ∷ 3 ∷ 0 ∷ 0 ∷ 0 ∷ 0 ∷ 0 ∷ 1 ∷ 0 ∷ 0 ∷ 0 ∷ 16 ∷ 0 ∷ 10 ∷ 0 ∷ 16 ∷ 0 ∷ 0 ∷ 1 ∷ 0 ∷ 0 ∷ 0 ∷ 0 ∷ 0 ∷ 0 ∷ 0 ∷ 0 ∷ 0 ∷ 0 ∷ 0 ∷ 0 ∷ 0 ∷ 0 ∷ 0 ∷ []; ty = 0; wanted = refusal (record { number = 6; pattern = 0; reason = 0 }) }

abbrev end_float_row : Row
end_float_row = record { image = 0 ∷ 0 ∷ 0 ∷ 69 ∷ 1 ∷ 0 ∷ 1 ∷ 0 ∷ 0 ∷ 0 ∷ 1 ∷ 0 ∷ 0 ∷ 0 ∷ 6 ∷ 0 ∷ 20 ∷ 0 ∷ 1 ∷ 0 ∷ 1 ∷ 0 ∷ 0 ∷ 0 ∷ 0 ∷ 0 ∷ 1 ∷ 0 ∷ 7 ∷ 0 ∷ 0 ∷ 0 ∷ 0 ∷ 0 ∷ 0 ∷ 0 ∷ 3 ∷ 0 ∷ 0 ∷ 0 ∷ 0 ∷ 0 ∷ 1 ∷ 0 ∷ 0 ∷ 0 ∷ 16 ∷ 0 ∷ 9 ∷ 0 ∷ 16 ∷ 0 ∷ 4 ∷ 1 ∷ 0 ∷ 0 ∷ 0 ∷ 0 ∷ 0 ∷ 0 ∷ 0 ∷ 0 ∷ 0 ∷ 0 ∷ 0 ∷ 0 ∷ 0 ∷ 0 ∷ 0 ∷ 0 ∷ 0 ∷ 0 ∷ 0 ∷ []; ty = 0; wanted = refusal (record { number = 6; pattern = 0; reason = 0 }) }

abbrev end_on_char_row : Row
end_on_char_row = record { image = 0 ∷ 0 ∷ 0 ∷ 59 ∷ 1 ∷ 0 ∷ 1 ∷ 0 ∷ 0 ∷ 0 ∷ 1 ∷ 0 ∷ 0 ∷ 0 ∷ 3 ∷ 0 ∷ 16 ∷ 0 ∷ 3 ∷ 0 ∷ 4 ∷ 0 ∷ 0 ∷ 0 ∷ 0 ∷ 0 ∷ 1 ∷ 0 ∷ 7 ∷ 0 ∷ 0 ∷ 0 ∷ 0 ∷ 0 ∷ 0 ∷ 255 ∷ 255 ∷ 0 ∷ 0 ∷ 0 ∷ 0 ∷ 0 ∷ 1 ∷ 0 ∷ 0 ∷ 0 ∷ 16 ∷ 65 ∷ 0 ∷ 0 ∷ 0 ∷ 0 ∷ 0 ∷ 0 ∷ 0 ∷ 0 ∷ 0 ∷ 0 ∷ 0 ∷ 0 ∷ 0 ∷ 0 ∷ 0 ∷ []; ty = 0; wanted = refusal (record { number = 6; pattern = 0; reason = 0 }) }

abbrev struct_ellipsis_1_row : Row
struct_ellipsis_1_row = record { image = 0 ∷ 0 ∷ 0 ∷ 93 ∷ 1 ∷ 0 ∷ 2 ∷ 0 ∷ 2 ∷ 0 ∷ 1 ∷ 0 ∷ 0 ∷ 0 ∷ 1 ∷ 0 ∷ 32 ∷ 0 ∷ 1 ∷ 0 ∷ 1 ∷ 0 ∷ 0 ∷ 0 ∷ 0 ∷ 0 ∷ 1 ∷ 0 ∷ 6 ∷ 0 ∷ 0 ∷ 0 ∷ 2 ∷ 0 ∷ 1 ∷ 0 ∷ 0 ∷ 0 ∷ 0 ∷ 0 ∷ 1 ∷ 0 ∷ 0 ∷ 0 ∷ 1 ∷ 0 ∷ 0 ∷ 0 ∷ 16 ∷ 0 ∷ 12 ∷ 0 ∷ 1 ∷ 0 ∷ 0 ∷ 0 ∷ 0 ∷ 0 ∷ 0 ∷ 0 ∷ 1 ∷ 0 ∷ 1 ∷ 0 ∷ 0 ∷ 1 ∷ 0 ∷ 0 ∷ 0 ∷ 0 ∷ 0 ∷ 0 ∷ 0 ∷ 0 ∷ 0 ∷ 0 ∷ 0 ∷ 0 ∷ 0 ∷ 0 ∷ 0 ∷ 0 ∷ 0 ∷ 0 ∷ 0 ∷ 0 ∷ 0 ∷ 0 ∷ 0 ∷ 0 ∷ 0 ∷ 0 ∷ 0 ∷ 0 ∷ 0 ∷ 0 ∷ 0 ∷ []; ty = 1; wanted = refusal (record { number = 7; pattern = 0; reason = 0 }) }

abbrev slice_constant_row : Row
slice_constant_row = record { image = 0 ∷ 0 ∷ 0 ∷ 54 ∷ 1 ∷ 0 ∷ 2 ∷ 0 ∷ 0 ∷ 0 ∷ 1 ∷ 0 ∷ 0 ∷ 0 ∷ 3 ∷ 0 ∷ 1 ∷ 0 ∷ 1 ∷ 0 ∷ 1 ∷ 0 ∷ 0 ∷ 0 ∷ 0 ∷ 0 ∷ 1 ∷ 0 ∷ 9 ∷ 0 ∷ 0 ∷ 0 ∷ 0 ∷ 0 ∷ 0 ∷ 0 ∷ 0 ∷ 0 ∷ 9 ∷ 0 ∷ 1 ∷ 0 ∷ 0 ∷ 0 ∷ 3 ∷ 0 ∷ 0 ∷ 0 ∷ 0 ∷ 0 ∷ 0 ∷ 0 ∷ 8 ∷ 0 ∷ 0 ∷ 0 ∷ 1 ∷ 7 ∷ []; ty = 1; wanted = refusal (record { number = 8; pattern = 0; reason = 0 }) }

abbrev expr_row : Row
expr_row = record { image = 0 ∷ 0 ∷ 0 ∷ 69 ∷ 1 ∷ 0 ∷ 2 ∷ 0 ∷ 0 ∷ 0 ∷ 2 ∷ 0 ∷ 1 ∷ 0 ∷ 2 ∷ 0 ∷ 0 ∷ 0 ∷ 1 ∷ 0 ∷ 1 ∷ 0 ∷ 0 ∷ 0 ∷ 0 ∷ 0 ∷ 1 ∷ 0 ∷ 5 ∷ 0 ∷ 0 ∷ 0 ∷ 1 ∷ 0 ∷ 0 ∷ 0 ∷ 1 ∷ 0 ∷ 14 ∷ 0 ∷ 0 ∷ 0 ∷ 0 ∷ 0 ∷ 0 ∷ 0 ∷ 0 ∷ 0 ∷ 0 ∷ 0 ∷ 0 ∷ 0 ∷ 4 ∷ 0 ∷ 1 ∷ 0 ∷ 0 ∷ 0 ∷ 1 ∷ 0 ∷ 1 ∷ 255 ∷ 255 ∷ 0 ∷ 0 ∷ 0 ∷ 0 ∷ 0 ∷ 1 ∷ 0 ∷ 0 ∷ 0 ∷ 0 ∷ []; ty = 1; wanted = refusal (record { number = 10; pattern = 0; reason = 0 }) }

abbrev place_17_row : Row
place_17_row = record { image = 0 ∷ 0 ∷ 0 ∷ 225 ∷ 1 ∷ 0 ∷ 18 ∷ 0 ∷ 0 ∷ 0 ∷ 2 ∷ 0 ∷ 1 ∷ 0 ∷ 0 ∷ 0 ∷ 0 ∷ 0 ∷ 1 ∷ 0 ∷ 1 ∷ 0 ∷ 0 ∷ 0 ∷ 0 ∷ 0 ∷ 1 ∷ 0 ∷ 7 ∷ 0 ∷ 0 ∷ 0 ∷ 0 ∷ 0 ∷ 0 ∷ 0 ∷ 1 ∷ 0 ∷ 7 ∷ 0 ∷ 1 ∷ 0 ∷ 0 ∷ 0 ∷ 0 ∷ 0 ∷ 1 ∷ 0 ∷ 7 ∷ 0 ∷ 2 ∷ 0 ∷ 0 ∷ 0 ∷ 0 ∷ 0 ∷ 1 ∷ 0 ∷ 7 ∷ 0 ∷ 3 ∷ 0 ∷ 0 ∷ 0 ∷ 0 ∷ 0 ∷ 1 ∷ 0 ∷ 7 ∷ 0 ∷ 4 ∷ 0 ∷ 0 ∷ 0 ∷ 0 ∷ 0 ∷ 1 ∷ 0 ∷ 7 ∷ 0 ∷ 5 ∷ 0 ∷ 0 ∷ 0 ∷ 0 ∷ 0 ∷ 1 ∷ 0 ∷ 7 ∷ 0 ∷ 6 ∷ 0 ∷ 0 ∷ 0 ∷ 0 ∷ 0 ∷ 1 ∷ 0 ∷ 7 ∷ 0 ∷ 7 ∷ 0 ∷ 0 ∷ 0 ∷ 0 ∷ 0 ∷ 1 ∷ 0 ∷ 7 ∷ 0 ∷ 8 ∷ 0 ∷ 0 ∷ 0 ∷ 0 ∷ 0 ∷ 1 ∷ 0 ∷ 7 ∷ 0 ∷ 9 ∷ 0 ∷ 0 ∷ 0 ∷ 0 ∷ 0 ∷ 1 ∷ 0 ∷ 7 ∷ 0 ∷ 10 ∷ 0 ∷ 0 ∷ 0 ∷ 0 ∷ 0 ∷ 1 ∷ 0 ∷ 7 ∷ 0 ∷ 11 ∷ 0 ∷ 0 ∷ 0 ∷ 0 ∷ 0 ∷ 1 ∷ 0 ∷ 7 ∷ 0 ∷ 12 ∷ 0 ∷ 0 ∷ 0 ∷ 0 ∷ 0 ∷ 1 ∷ 0 ∷ 7 ∷ 0 ∷ 13 ∷ 0 ∷ 0 ∷ 0 ∷ 0 ∷ 0 ∷ 1 ∷ 0 ∷ 7 ∷ 0 ∷ 14 ∷ 0 ∷ 0 ∷ 0 ∷ 0 ∷ 0 ∷ 1 ∷ 0 ∷ 7 ∷ 0 ∷ 15 ∷ 0 ∷ 0 ∷ 0 ∷ 0 ∷ 0 ∷ 1 ∷ 0 ∷ 7 ∷ 0 ∷ 16 ∷ 0 ∷ 0 ∷ 0 ∷ 0 ∷ 0 ∷ 1 ∷ 0 ∷ 3 ∷ 0 ∷ 0 ∷ 0 ∷ 1 ∷ 0 ∷ 0 ∷ 0 ∷ 0 ∷ 0 ∷ 0 ∷ 0 ∷ 0 ∷ 0 ∷ 11 ∷ 0 ∷ 1 ∷ 0 ∷ 16 ∷ 0 ∷ 0 ∷ 0 ∷ 0 ∷ 0 ∷ 0 ∷ 0 ∷ 0 ∷ 0 ∷ 0 ∷ 0 ∷ 1 ∷ []; ty = 17; wanted = refusal (record { number = 11; pattern = 0; reason = 0 }) }

abbrev unit_17_row : Row
unit_17_row = record { image = 0 ∷ 0 ∷ 0 ∷ 253 ∷ 1 ∷ 0 ∷ 18 ∷ 0 ∷ 2 ∷ 0 ∷ 1 ∷ 0 ∷ 0 ∷ 0 ∷ 1 ∷ 0 ∷ 32 ∷ 0 ∷ 1 ∷ 0 ∷ 1 ∷ 0 ∷ 0 ∷ 0 ∷ 0 ∷ 0 ∷ 1 ∷ 0 ∷ 6 ∷ 0 ∷ 0 ∷ 0 ∷ 2 ∷ 0 ∷ 1 ∷ 0 ∷ 0 ∷ 0 ∷ 7 ∷ 0 ∷ 1 ∷ 0 ∷ 0 ∷ 0 ∷ 0 ∷ 0 ∷ 1 ∷ 0 ∷ 7 ∷ 0 ∷ 2 ∷ 0 ∷ 0 ∷ 0 ∷ 0 ∷ 0 ∷ 1 ∷ 0 ∷ 7 ∷ 0 ∷ 3 ∷ 0 ∷ 0 ∷ 0 ∷ 0 ∷ 0 ∷ 1 ∷ 0 ∷ 7 ∷ 0 ∷ 4 ∷ 0 ∷ 0 ∷ 0 ∷ 0 ∷ 0 ∷ 1 ∷ 0 ∷ 7 ∷ 0 ∷ 5 ∷ 0 ∷ 0 ∷ 0 ∷ 0 ∷ 0 ∷ 1 ∷ 0 ∷ 7 ∷ 0 ∷ 6 ∷ 0 ∷ 0 ∷ 0 ∷ 0 ∷ 0 ∷ 1 ∷ 0 ∷ 7 ∷ 0 ∷ 7 ∷ 0 ∷ 0 ∷ 0 ∷ 0 ∷ 0 ∷ 1 ∷ 0 ∷ 7 ∷ 0 ∷ 8 ∷ 0 ∷ 0 ∷ 0 ∷ 0 ∷ 0 ∷ 1 ∷ 0 ∷ 7 ∷ 0 ∷ 9 ∷ 0 ∷ 0 ∷ 0 ∷ 0 ∷ 0 ∷ 1 ∷ 0 ∷ 7 ∷ 0 ∷ 10 ∷ 0 ∷ 0 ∷ 0 ∷ 0 ∷ 0 ∷ 1 ∷ 0 ∷ 7 ∷ 0 ∷ 11 ∷ 0 ∷ 0 ∷ 0 ∷ 0 ∷ 0 ∷ 1 ∷ 0 ∷ 7 ∷ 0 ∷ 12 ∷ 0 ∷ 0 ∷ 0 ∷ 0 ∷ 0 ∷ 1 ∷ 0 ∷ 7 ∷ 0 ∷ 13 ∷ 0 ∷ 0 ∷ 0 ∷ 0 ∷ 0 ∷ 1 ∷ 0 ∷ 7 ∷ 0 ∷ 14 ∷ 0 ∷ 0 ∷ 0 ∷ 0 ∷ 0 ∷ 1 ∷ 0 ∷ 7 ∷ 0 ∷ 15 ∷ 0 ∷ 0 ∷ 0 ∷ 0 ∷ 0 ∷ 1 ∷ 0 ∷ 7 ∷ 0 ∷ 16 ∷ 0 ∷ 0 ∷ 0 ∷ 0 ∷ 0 ∷ 1 ∷ 0 ∷ 0 ∷ 0 ∷ 1 ∷ 0 ∷ 0 ∷ 0 ∷ 1 ∷ 0 ∷ 0 ∷ 0 ∷ 16 ∷ 0 ∷ 9 ∷ 0 ∷ 1 ∷ 0 ∷ 16 ∷ 0 ∷ 1 ∷ 0 ∷ 1 ∷ 0 ∷ 0 ∷ 0 ∷ 0 ∷ 0 ∷ 0 ∷ 1 ∷ 0 ∷ 0 ∷ 0 ∷ 0 ∷ 0 ∷ 0 ∷ 0 ∷ 0 ∷ 0 ∷ 0 ∷ 0 ∷ 0 ∷ 0 ∷ 0 ∷ 0 ∷ 0 ∷ 0 ∷ 0 ∷ 0 ∷ 0 ∷ 0 ∷ 0 ∷ 0 ∷ 0 ∷ 0 ∷ 0 ∷ 0 ∷ 0 ∷ 0 ∷ 0 ∷ 0 ∷ []; ty = 17; wanted = refusal (record { number = 11; pattern = 0; reason = 0 }) }

abbrev missing_17_row : Row
missing_17_row = record { image = 0 ∷ 0 ∷ 0 ∷ 221 ∷ 1 ∷ 0 ∷ 18 ∷ 0 ∷ 0 ∷ 0 ∷ 2 ∷ 0 ∷ 0 ∷ 0 ∷ 0 ∷ 0 ∷ 0 ∷ 0 ∷ 1 ∷ 0 ∷ 1 ∷ 0 ∷ 0 ∷ 0 ∷ 0 ∷ 0 ∷ 1 ∷ 0 ∷ 7 ∷ 0 ∷ 0 ∷ 0 ∷ 0 ∷ 0 ∷ 0 ∷ 0 ∷ 1 ∷ 0 ∷ 7 ∷ 0 ∷ 1 ∷ 0 ∷ 0 ∷ 0 ∷ 0 ∷ 0 ∷ 1 ∷ 0 ∷ 7 ∷ 0 ∷ 2 ∷ 0 ∷ 0 ∷ 0 ∷ 0 ∷ 0 ∷ 1 ∷ 0 ∷ 7 ∷ 0 ∷ 3 ∷ 0 ∷ 0 ∷ 0 ∷ 0 ∷ 0 ∷ 1 ∷ 0 ∷ 7 ∷ 0 ∷ 4 ∷ 0 ∷ 0 ∷ 0 ∷ 0 ∷ 0 ∷ 1 ∷ 0 ∷ 7 ∷ 0 ∷ 5 ∷ 0 ∷ 0 ∷ 0 ∷ 0 ∷ 0 ∷ 1 ∷ 0 ∷ 7 ∷ 0 ∷ 6 ∷ 0 ∷ 0 ∷ 0 ∷ 0 ∷ 0 ∷ 1 ∷ 0 ∷ 7 ∷ 0 ∷ 7 ∷ 0 ∷ 0 ∷ 0 ∷ 0 ∷ 0 ∷ 1 ∷ 0 ∷ 7 ∷ 0 ∷ 8 ∷ 0 ∷ 0 ∷ 0 ∷ 0 ∷ 0 ∷ 1 ∷ 0 ∷ 7 ∷ 0 ∷ 9 ∷ 0 ∷ 0 ∷ 0 ∷ 0 ∷ 0 ∷ 1 ∷ 0 ∷ 7 ∷ 0 ∷ 10 ∷ 0 ∷ 0 ∷ 0 ∷ 0 ∷ 0 ∷ 1 ∷ 0 ∷ 7 ∷ 0 ∷ 11 ∷ 0 ∷ 0 ∷ 0 ∷ 0 ∷ 0 ∷ 1 ∷ 0 ∷ 7 ∷ 0 ∷ 12 ∷ 0 ∷ 0 ∷ 0 ∷ 0 ∷ 0 ∷ 1 ∷ 0 ∷ 7 ∷ 0 ∷ 13 ∷ 0 ∷ 0 ∷ 0 ∷ 0 ∷ 0 ∷ 1 ∷ 0 ∷ 7 ∷ 0 ∷ 14 ∷ 0 ∷ 0 ∷ 0 ∷ 0 ∷ 0 ∷ 1 ∷ 0 ∷ 7 ∷ 0 ∷ 15 ∷ 0 ∷ 0 ∷ 0 ∷ 0 ∷ 0 ∷ 1 ∷ 0 ∷ 7 ∷ 0 ∷ 16 ∷ 0 ∷ 0 ∷ 0 ∷ 0 ∷ 0 ∷ 1 ∷ 0 ∷ 0 ∷ 0 ∷ 0 ∷ 0 ∷ 1 ∷ 0 ∷ 0 ∷ 0 ∷ 0 ∷ 0 ∷ 0 ∷ 0 ∷ 0 ∷ 0 ∷ 13 ∷ 0 ∷ 2 ∷ 0 ∷ 15 ∷ 0 ∷ 0 ∷ 0 ∷ 0 ∷ 0 ∷ 0 ∷ 0 ∷ 0 ∷ []; ty = 17; wanted = refusal (record { number = 11; pattern = 0; reason = 0 }) }

abbrev tuple_no_place_row : Row
tuple_no_place_row = record { image = 0 ∷ 0 ∷ 0 ∷ 69 ∷ 1 ∷ 0 ∷ 2 ∷ 0 ∷ 0 ∷ 0 ∷ 2 ∷ 0 ∷ 1 ∷ 0 ∷ 2 ∷ 0 ∷ 0 ∷ 0 ∷ 1 ∷ 0 ∷ 1 ∷ 0 ∷ 0 ∷ 0 ∷ 0 ∷ 0 ∷ 1 ∷ 0 ∷ 5 ∷ 0 ∷ 0 ∷ 0 ∷ 1 ∷ 0 ∷ 0 ∷ 0 ∷ 1 ∷ 0 ∷ 4 ∷ 0 ∷ 0 ∷ 0 ∷ 1 ∷ 0 ∷ 0 ∷ 0 ∷ 0 ∷ 255 ∷ 255 ∷ 0 ∷ 0 ∷ 0 ∷ 4 ∷ 0 ∷ 1 ∷ 0 ∷ 0 ∷ 0 ∷ 1 ∷ 0 ∷ 1 ∷ 255 ∷ 255 ∷ 0 ∷ 0 ∷ 0 ∷ 0 ∷ 0 ∷ 1 ∷ 0 ∷ 0 ∷ 0 ∷ 0 ∷ []; ty = 1; wanted = refusal (record { number = 12; pattern = 0; reason = 0 }) }

abbrev adt_no_place_row : Row
adt_no_place_row = record { image = 0 ∷ 0 ∷ 0 ∷ 101 ∷ 1 ∷ 0 ∷ 3 ∷ 0 ∷ 1 ∷ 0 ∷ 2 ∷ 0 ∷ 1 ∷ 0 ∷ 2 ∷ 0 ∷ 16 ∷ 0 ∷ 1 ∷ 0 ∷ 1 ∷ 0 ∷ 0 ∷ 0 ∷ 0 ∷ 0 ∷ 1 ∷ 0 ∷ 5 ∷ 0 ∷ 0 ∷ 0 ∷ 1 ∷ 0 ∷ 0 ∷ 0 ∷ 1 ∷ 0 ∷ 6 ∷ 0 ∷ 0 ∷ 0 ∷ 1 ∷ 0 ∷ 0 ∷ 0 ∷ 0 ∷ 0 ∷ 2 ∷ 0 ∷ 0 ∷ 0 ∷ 0 ∷ 0 ∷ 9 ∷ 0 ∷ 0 ∷ 0 ∷ 1 ∷ 0 ∷ 1 ∷ 0 ∷ 0 ∷ 0 ∷ 0 ∷ 0 ∷ 0 ∷ 0 ∷ 4 ∷ 0 ∷ 1 ∷ 0 ∷ 0 ∷ 0 ∷ 1 ∷ 0 ∷ 1 ∷ 255 ∷ 255 ∷ 0 ∷ 0 ∷ 0 ∷ 0 ∷ 0 ∷ 1 ∷ 0 ∷ 0 ∷ 0 ∷ 0 ∷ 0 ∷ 0 ∷ 0 ∷ 0 ∷ 0 ∷ 0 ∷ 0 ∷ 0 ∷ 0 ∷ 0 ∷ 0 ∷ 0 ∷ 0 ∷ 0 ∷ 0 ∷ 0 ∷ []; ty = 1; wanted = refusal (record { number = 12; pattern = 0; reason = 0 }) }

abbrev ref_no_place_row : Row
ref_no_place_row = record { image = 0 ∷ 0 ∷ 0 ∷ 79 ∷ 1 ∷ 0 ∷ 2 ∷ 0 ∷ 0 ∷ 0 ∷ 3 ∷ 0 ∷ 0 ∷ 0 ∷ 2 ∷ 0 ∷ 0 ∷ 0 ∷ 1 ∷ 0 ∷ 1 ∷ 0 ∷ 0 ∷ 0 ∷ 0 ∷ 0 ∷ 1 ∷ 0 ∷ 5 ∷ 0 ∷ 0 ∷ 0 ∷ 1 ∷ 0 ∷ 0 ∷ 0 ∷ 1 ∷ 0 ∷ 3 ∷ 0 ∷ 0 ∷ 0 ∷ 0 ∷ 0 ∷ 0 ∷ 0 ∷ 0 ∷ 0 ∷ 0 ∷ 0 ∷ 0 ∷ 0 ∷ 13 ∷ 0 ∷ 0 ∷ 0 ∷ 1 ∷ 0 ∷ 0 ∷ 0 ∷ 0 ∷ 0 ∷ 0 ∷ 0 ∷ 0 ∷ 0 ∷ 4 ∷ 0 ∷ 1 ∷ 0 ∷ 0 ∷ 0 ∷ 1 ∷ 0 ∷ 1 ∷ 255 ∷ 255 ∷ 0 ∷ 0 ∷ 0 ∷ 0 ∷ 0 ∷ 1 ∷ []; ty = 1; wanted = refusal (record { number = 12; pattern = 1; reason = 0 }) }

abbrev unresolved_row : Row
unresolved_row = record { image = 0 ∷ 0 ∷ 0 ∷ 69 ∷ 1 ∷ 0 ∷ 2 ∷ 0 ∷ 0 ∷ 0 ∷ 2 ∷ 0 ∷ 1 ∷ 0 ∷ 2 ∷ 0 ∷ 0 ∷ 0 ∷ 1 ∷ 0 ∷ 1 ∷ 0 ∷ 0 ∷ 0 ∷ 0 ∷ 0 ∷ 1 ∷ 0 ∷ 5 ∷ 0 ∷ 0 ∷ 0 ∷ 1 ∷ 0 ∷ 0 ∷ 0 ∷ 1 ∷ 0 ∷ 9 ∷ 0 ∷ 0 ∷ 0 ∷ 0 ∷ 0 ∷ 0 ∷ 0 ∷ 0 ∷ 0 ∷ 0 ∷ 0 ∷ 0 ∷ 0 ∷ 4 ∷ 0 ∷ 1 ∷ 0 ∷ 0 ∷ 0 ∷ 1 ∷ 0 ∷ 1 ∷ 255 ∷ 255 ∷ 0 ∷ 0 ∷ 0 ∷ 0 ∷ 0 ∷ 1 ∷ 0 ∷ 0 ∷ 0 ∷ 0 ∷ []; ty = 1; wanted = refusal (record { number = 13; pattern = 0; reason = 0 }) }

abbrev pub rows : List Row
rows = surplus_row ∷ enum_twice_row ∷ bind_some_row ∷ nested_or_row ∷ or_of_binds_row ∷ record_row ∷ struct_ellipsis_row ∷ string_row ∷ c_string_row ∷ the_constant_row ∷ half_open_row ∷ half_open_end_row ∷ first_three_row ∷ half_open_to_row ∷ half_open_char_row ∷ half_open_nothing_row ∷ flag_2_row ∷ range_no_ends_row ∷ slice_rest_binding_row ∷ array_rest_binding_row ∷ last_two_row ∷ suffix_three_row ∷ suffix_in_suffix_row ∷ reference_row ∷ deref_1_row ∷ deref_lowest_row ∷ derefs_16_row ∷ missing_row ∷ rest_row ∷ not_null_row ∷ no_tuple_row ∷ no_slice_row ∷ no_reference_row ∷ no_adt_row ∷ another_adt_row ∷ no_adts_variant_row ∷ union_row ∷ field_absent_row ∷ field_past_row ∷ record_variant_absent_row ∷ struct_variant_absent_row ∷ path_binding_row ∷ path_other_row ∷ box_row ∷ deref_row ∷ lit_constant_row ∷ lit_other_row ∷ lit_float_row ∷ lit_on_bool_row ∷ end_other_row ∷ end_float_row ∷ end_on_char_row ∷ struct_ellipsis_1_row ∷ slice_constant_row ∷ expr_row ∷ place_17_row ∷ unit_17_row ∷ missing_17_row ∷ tuple_no_place_row ∷ adt_no_place_row ∷ ref_no_place_row ∷ unresolved_row ∷ []

-- each row's image comes to the answer that is wanted
pub as_wanted : map (λ (row : Row). answer_by lowering row.image row.ty) rows ≡ map (λ (row : Row). row.wanted) rows
unfolding word_at little_endian tables_of type_at variant_at pat_at binding_at list_at operand_at operand_bytes all_below all_in all_true member distinct up_from gather is_scalar_value operand_value_holds operand_holds counts_what_follows version_is_one tables_fill_the_rest listed types_listed is_integer_size adt_may_have type_shape_holds type_holds variants_by adts_share_no_variant variant_holds binding_holds within_limits if_present subpatterns_by path_holds pattern_shape_holds pattern_holds subpatterns_below used_once valid shape_by ty_of variant_of binding_of operand_of word? operand? trees tree? target node_by node tree_of tree elem_of word_of projection_of field_of deref_ty adt_field_ty field_ty element_ty subslice_ty adt_downcast_ty downcast_ty ty_projection variant_projection part_projection projection_ty multi_projection_ty term_row halves place_words local_ty constant_words left_words place_rvalue_kind binary_kind live_row dead_row place_rvalue_row constant_row binary_row new_block set_terminator push_statement new_local push_scope push_entry try_block try_statement try_local try_scope try_entry constant_of string_constant integer_constant literal_by lower_literal_to_operand lower_const_to_operand literal_or_const_by lower_literal_or_const_to_operand is_slice is_held mark_live temp binding_local terminator_of elems_at path_of constant_at left_of line_of mir_of number_of reason_of refusal_at visited project local_place else_state else_block derefed entered compare pattern_match_const literal lit_by constant_path range_end range_end? binding_rvalue pattern_match_binding local_path place_ty shape_of pattern_match_adt pattern_match_tuple_like ellipsis_at tuple_on tuple_pattern ref_on ref_pattern resolved record_fields variant_fields discriminant_test variant_on adt_on pattern_matching_variant variant_pattern length_constant length_compared length_test rest_bound slice_items slice_on alternatives alternatives_end or_pattern end_op range_pattern path_pattern bind_pattern rest_by rest_of pattern_match_inner lowerings lowering? pattern_match start_state start answer_by
as_wanted = refl
