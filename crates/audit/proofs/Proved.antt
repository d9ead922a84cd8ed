-- The corners of pattern_matching.rs that document 01 marks [P], lowered by computation from the images' bytes: each row has an image, the type of local 0, and the answer with the
-- whole content of its listing and the visits. The rows are written out by samples/corner_theorems.py. Assumes nothing.
use Prim.Native.Nat.{ℕ}
use mathlib.Core.Path.{◌≡◌, refl}
use mathlib.Core.List.{List, [], ◌∷◌, map}
use Rattle.std.specs.Prelude.{Some, None}
use Rattle.place.specs.declared.elems.ProjectionElem.{ProjectionElem}
use Rattle.mir.specs.declared.blocks.Terminator.{Terminator}
use Rattle.mir.specs.declared.rvalues.BinOp.{BinOp}
use Rattle.mir.specs.declared.rvalues.Left.{Left}
use Rattle.mir.specs.declared.rvalues.PlaceRvalue.{PlaceRvalue}
use Rattle.views.specs.Views.{Rvalue, of_place, of_constant, binary, Statement, live, dead, set}
use Rattle.image.specs.Bytes.{word_at, little_endian}
use Rattle.image.specs.Tables.{tables_of}
use Rattle.image.specs.Rows.{type_at, variant_at, pat_at, binding_at, list_at, operand_at, operand_bytes}
use Rattle.image.specs.Lists.{all_below, all_in, all_true, member, distinct, up_from, gather}
use Rattle.image.specs.Operands.{is_scalar_value, operand_value_holds, operand_holds}
use Rattle.image.specs.Rules.{counts_what_follows, version_is_one, tables_fill_the_rest, listed, types_listed, is_integer_size, adt_may_have, type_shape_holds, type_holds, variants_by, adts_share_no_variant, variant_holds, binding_holds, within_limits}
use Rattle.image.specs.Subpatterns.{if_present, subpatterns_by}
use Rattle.image.specs.Patterns.{path_holds, pattern_shape_holds, pattern_holds, subpatterns_below, used_once}
use Rattle.image.specs.Valid.{valid}
use Rattle.image.specs.Types.{shape_by, ty_of, variant_of, binding_of, operand_of}
use Rattle.image.specs.Tree.{word?, operand?, trees, tree?, target, node_by, node, tree_of, tree}
use Rattle.place.specs.Elems.{elem_of, word_of}
use Rattle.place.specs.Places.{projection_of}
use Rattle.place.specs.PlaceTypes.{field_of, deref_ty, adt_field_ty, field_ty, element_ty, subslice_ty, adt_downcast_ty, downcast_ty, ty_projection, variant_projection, part_projection, projection_ty, multi_projection_ty}
use Rattle.mir.specs.Blocks.{term_row}
use Rattle.mir.specs.Statements.{halves, place_words}
use Rattle.mir.specs.Locals.{local_ty}
use Rattle.mir.specs.Rvalues.{constant_words, left_words, place_rvalue_kind, binary_kind, live_row, dead_row, place_rvalue_row, constant_row, binary_row}
use Rattle.state.specs.Steps.{new_block, set_terminator, push_statement, new_local, push_scope, push_entry, try_block, try_statement, try_local, try_scope, try_entry}
use Rattle.literals.specs.Literals.{constant_of, string_constant, integer_constant, literal_by, lower_literal_to_operand, lower_const_to_operand, literal_or_const_by, lower_literal_or_const_to_operand}
use Rattle.lower_spec.specs.Temps.{is_slice, is_held, mark_live, temp, binding_local}
use Rattle.views.specs.Views.{terminator_of, elems_at, path_of, constant_at, left_of, line_of, mir_of}
use Rattle.refusals.specs.Refusals.{number_of, reason_of, refusal_at}
use Rattle.pattern_matching.specs.Walking.{visited, project, local_place, else_state, else_block, derefed, entered}
use Rattle.pattern_matching.specs.Tests.{compare, pattern_match_const, literal, lit_by, constant_path, range_end, range_end?, binding_rvalue, pattern_match_binding, local_path}
use Rattle.pattern_matching.specs.Variants.{place_ty, shape_of, pattern_match_adt, pattern_match_tuple_like, ellipsis_at, tuple_on, tuple_pattern, ref_on, ref_pattern, resolved, record_fields, variant_fields, discriminant_test, variant_on, adt_on, pattern_matching_variant, variant_pattern}
use Rattle.pattern_matching.specs.Slices.{length_constant, length_compared, length_test, rest_bound, slice_items, slice_on}
use Rattle.pattern_matching.specs.Patterns.{alternatives, alternatives_end, or_pattern, end_op, range_pattern, path_pattern, bind_pattern, rest_by, rest_of, pattern_match_inner, lowerings, lowering?, pattern_match}
use Rattle.audit.specs.Call.{lowering}
use Rattle.audit.specs.Started.{start_state, start, answer_by, Answer, lowers_to, refusal, Row}

abbrev wild_row : Row
wild_row = record { image = 0 ∷ 0 ∷ 0 ∷ 37 ∷ 1 ∷ 0 ∷ 1 ∷ 0 ∷ 0 ∷ 0 ∷ 1 ∷ 0 ∷ 0 ∷ 0 ∷ 0 ∷ 0 ∷ 0 ∷ 0 ∷ 1 ∷ 0 ∷ 1 ∷ 0 ∷ 0 ∷ 0 ∷ 0 ∷ 0 ∷ 1 ∷ 0 ∷ 3 ∷ 0 ∷ 0 ∷ 0 ∷ 0 ∷ 0 ∷ 0 ∷ 0 ∷ 0 ∷ 0 ∷ 0 ∷ 0 ∷ 0 ∷ []; ty = 0; wanted = lowers_to (record { 0 = 0 }) None (record { terminators = (Terminator.Open ∷ []); lines = ([]); locals = (0 ∷ []) }) (2 ∷ []) }

abbrev literal7_row : Row
literal7_row = record { image = 0 ∷ 0 ∷ 0 ∷ 59 ∷ 1 ∷ 0 ∷ 1 ∷ 0 ∷ 0 ∷ 0 ∷ 1 ∷ 0 ∷ 0 ∷ 0 ∷ 3 ∷ 0 ∷ 16 ∷ 0 ∷ 1 ∷ 0 ∷ 1 ∷ 0 ∷ 0 ∷ 0 ∷ 0 ∷ 0 ∷ 1 ∷ 0 ∷ 10 ∷ 0 ∷ 0 ∷ 0 ∷ 0 ∷ 0 ∷ 0 ∷ 0 ∷ 0 ∷ 0 ∷ 0 ∷ 0 ∷ 0 ∷ 0 ∷ 1 ∷ 0 ∷ 0 ∷ 0 ∷ 16 ∷ 7 ∷ 0 ∷ 0 ∷ 0 ∷ 0 ∷ 0 ∷ 0 ∷ 0 ∷ 0 ∷ 0 ∷ 0 ∷ 0 ∷ 0 ∷ 0 ∷ 0 ∷ 0 ∷ []; ty = 0; wanted = lowers_to (record { 0 = 1 }) (Some (record { 0 = 2 })) (record { terminators = (Terminator.Switch (record { 0 = 1 }) 1 0 (record { 0 = 1 }) (record { 0 = 2 }) ∷ Terminator.Open ∷ Terminator.Open ∷ []); lines = (record { block = 0; statement = live 1 } ∷ record { block = 0; statement = set 1 (binary BinOp.Eq (Left.Constant (record { count = 1; ty = 0; offset = 0; low = 7; high = 0 })) (record { local = 0; elems = ([]) })) } ∷ []); locals = (0 ∷ 256 ∷ []) }) (2 ∷ []) }

abbrev range_row : Row
range_row = record { image = 0 ∷ 0 ∷ 0 ∷ 81 ∷ 1 ∷ 0 ∷ 1 ∷ 0 ∷ 0 ∷ 0 ∷ 1 ∷ 0 ∷ 0 ∷ 0 ∷ 6 ∷ 0 ∷ 32 ∷ 0 ∷ 1 ∷ 0 ∷ 1 ∷ 0 ∷ 0 ∷ 0 ∷ 0 ∷ 0 ∷ 1 ∷ 0 ∷ 7 ∷ 0 ∷ 0 ∷ 0 ∷ 0 ∷ 0 ∷ 0 ∷ 0 ∷ 3 ∷ 0 ∷ 0 ∷ 0 ∷ 0 ∷ 0 ∷ 2 ∷ 0 ∷ 0 ∷ 0 ∷ 16 ∷ 0 ∷ 2 ∷ 0 ∷ 16 ∷ 0 ∷ 16 ∷ 1 ∷ 0 ∷ 0 ∷ 0 ∷ 0 ∷ 0 ∷ 0 ∷ 0 ∷ 0 ∷ 0 ∷ 0 ∷ 0 ∷ 0 ∷ 0 ∷ 0 ∷ 0 ∷ 3 ∷ 0 ∷ 0 ∷ 0 ∷ 0 ∷ 0 ∷ 0 ∷ 0 ∷ 0 ∷ 0 ∷ 0 ∷ 0 ∷ 0 ∷ 0 ∷ 0 ∷ 0 ∷ []; ty = 0; wanted = lowers_to (record { 0 = 3 }) (Some (record { 0 = 1 })) (record { terminators = (Terminator.Switch (record { 0 = 1 }) 1 0 (record { 0 = 2 }) (record { 0 = 1 }) ∷ Terminator.Open ∷ Terminator.Switch (record { 0 = 2 }) 1 0 (record { 0 = 3 }) (record { 0 = 1 }) ∷ Terminator.Open ∷ []); lines = (record { block = 0; statement = live 1 } ∷ record { block = 0; statement = set 1 (binary BinOp.Le (Left.Constant (record { count = 1; ty = 0; offset = 0; low = 1; high = 0 })) (record { local = 0; elems = ([]) })) } ∷ record { block = 2; statement = live 2 } ∷ record { block = 2; statement = set 2 (binary BinOp.Ge (Left.Constant (record { count = 1; ty = 0; offset = 0; low = 3; high = 0 })) (record { local = 0; elems = ([]) })) } ∷ []); locals = (0 ∷ 256 ∷ 256 ∷ []) }) (2 ∷ []) }

abbrev or_1_2_row : Row
or_1_2_row = record { image = 0 ∷ 0 ∷ 0 ∷ 113 ∷ 1 ∷ 0 ∷ 1 ∷ 0 ∷ 0 ∷ 0 ∷ 3 ∷ 0 ∷ 0 ∷ 0 ∷ 8 ∷ 0 ∷ 32 ∷ 0 ∷ 1 ∷ 0 ∷ 1 ∷ 0 ∷ 0 ∷ 0 ∷ 0 ∷ 0 ∷ 1 ∷ 0 ∷ 10 ∷ 0 ∷ 0 ∷ 0 ∷ 0 ∷ 0 ∷ 0 ∷ 0 ∷ 0 ∷ 0 ∷ 0 ∷ 0 ∷ 0 ∷ 0 ∷ 10 ∷ 0 ∷ 0 ∷ 0 ∷ 0 ∷ 0 ∷ 3 ∷ 0 ∷ 0 ∷ 0 ∷ 0 ∷ 0 ∷ 0 ∷ 0 ∷ 5 ∷ 0 ∷ 0 ∷ 0 ∷ 0 ∷ 0 ∷ 6 ∷ 0 ∷ 2 ∷ 0 ∷ 0 ∷ 0 ∷ 0 ∷ 0 ∷ 1 ∷ 0 ∷ 0 ∷ 0 ∷ 16 ∷ 0 ∷ 1 ∷ 0 ∷ 16 ∷ 0 ∷ 16 ∷ 0 ∷ 0 ∷ 0 ∷ 1 ∷ 1 ∷ 0 ∷ 0 ∷ 0 ∷ 0 ∷ 0 ∷ 0 ∷ 0 ∷ 0 ∷ 0 ∷ 0 ∷ 0 ∷ 0 ∷ 0 ∷ 0 ∷ 0 ∷ 2 ∷ 0 ∷ 0 ∷ 0 ∷ 0 ∷ 0 ∷ 0 ∷ 0 ∷ 0 ∷ 0 ∷ 0 ∷ 0 ∷ 0 ∷ 0 ∷ 0 ∷ 0 ∷ []; ty = 0; wanted = lowers_to (record { 0 = 7 }) (Some (record { 0 = 6 })) (record { terminators = (Terminator.Switch (record { 0 = 1 }) 1 0 (record { 0 = 2 }) (record { 0 = 3 }) ∷ Terminator.Switch (record { 0 = 3 }) 1 0 (record { 0 = 8 }) (record { 0 = 9 }) ∷ Terminator.Goto (record { 0 = 1 }) ∷ Terminator.Switch (record { 0 = 2 }) 1 0 (record { 0 = 4 }) (record { 0 = 5 }) ∷ Terminator.Goto (record { 0 = 1 }) ∷ Terminator.Goto (record { 0 = 6 }) ∷ Terminator.Open ∷ Terminator.Open ∷ Terminator.Goto (record { 0 = 7 }) ∷ Terminator.Switch (record { 0 = 4 }) 1 0 (record { 0 = 10 }) (record { 0 = 11 }) ∷ Terminator.Goto (record { 0 = 7 }) ∷ Terminator.Unreachable ∷ []); lines = (record { block = 0; statement = live 1 } ∷ record { block = 0; statement = set 1 (binary BinOp.Eq (Left.Constant (record { count = 1; ty = 0; offset = 0; low = 1; high = 0 })) (record { local = 0; elems = ([]) })) } ∷ record { block = 3; statement = live 2 } ∷ record { block = 3; statement = set 2 (binary BinOp.Eq (Left.Constant (record { count = 1; ty = 0; offset = 0; low = 2; high = 0 })) (record { local = 0; elems = ([]) })) } ∷ record { block = 1; statement = live 3 } ∷ record { block = 1; statement = set 3 (binary BinOp.Eq (Left.Constant (record { count = 1; ty = 0; offset = 0; low = 1; high = 0 })) (record { local = 0; elems = ([]) })) } ∷ record { block = 9; statement = live 4 } ∷ record { block = 9; statement = set 4 (binary BinOp.Eq (Left.Constant (record { count = 1; ty = 0; offset = 0; low = 2; high = 0 })) (record { local = 0; elems = ([]) })) } ∷ []); locals = (0 ∷ 256 ∷ 256 ∷ 256 ∷ 256 ∷ []) }) (3 ∷ 3 ∷ 2 ∷ []) }

abbrev wild_or_2_row : Row
wild_or_2_row = record { image = 0 ∷ 0 ∷ 0 ∷ 91 ∷ 1 ∷ 0 ∷ 1 ∷ 0 ∷ 0 ∷ 0 ∷ 3 ∷ 0 ∷ 0 ∷ 0 ∷ 5 ∷ 0 ∷ 16 ∷ 0 ∷ 1 ∷ 0 ∷ 1 ∷ 0 ∷ 0 ∷ 0 ∷ 0 ∷ 0 ∷ 1 ∷ 0 ∷ 3 ∷ 0 ∷ 0 ∷ 0 ∷ 0 ∷ 0 ∷ 0 ∷ 0 ∷ 0 ∷ 0 ∷ 0 ∷ 0 ∷ 0 ∷ 0 ∷ 10 ∷ 0 ∷ 0 ∷ 0 ∷ 0 ∷ 0 ∷ 0 ∷ 0 ∷ 0 ∷ 0 ∷ 0 ∷ 0 ∷ 0 ∷ 0 ∷ 5 ∷ 0 ∷ 0 ∷ 0 ∷ 0 ∷ 0 ∷ 3 ∷ 0 ∷ 2 ∷ 0 ∷ 0 ∷ 0 ∷ 0 ∷ 0 ∷ 1 ∷ 0 ∷ 0 ∷ 0 ∷ 16 ∷ 0 ∷ 0 ∷ 0 ∷ 1 ∷ 2 ∷ 0 ∷ 0 ∷ 0 ∷ 0 ∷ 0 ∷ 0 ∷ 0 ∷ 0 ∷ 0 ∷ 0 ∷ 0 ∷ 0 ∷ 0 ∷ 0 ∷ 0 ∷ []; ty = 0; wanted = lowers_to (record { 0 = 2 }) None (record { terminators = (Terminator.Goto (record { 0 = 1 }) ∷ Terminator.Goto (record { 0 = 2 }) ∷ Terminator.Open ∷ []); lines = ([]); locals = (0 ∷ []) }) (3 ∷ 0 ∷ 2 ∷ []) }

abbrev or_none_row : Row
or_none_row = record { image = 0 ∷ 0 ∷ 0 ∷ 37 ∷ 1 ∷ 0 ∷ 1 ∷ 0 ∷ 0 ∷ 0 ∷ 1 ∷ 0 ∷ 0 ∷ 0 ∷ 0 ∷ 0 ∷ 0 ∷ 0 ∷ 1 ∷ 0 ∷ 1 ∷ 0 ∷ 0 ∷ 0 ∷ 0 ∷ 0 ∷ 1 ∷ 0 ∷ 5 ∷ 0 ∷ 0 ∷ 0 ∷ 0 ∷ 0 ∷ 0 ∷ 0 ∷ 0 ∷ 0 ∷ 0 ∷ 0 ∷ 0 ∷ []; ty = 0; wanted = lowers_to (record { 0 = 3 }) (Some (record { 0 = 2 })) (record { terminators = (Terminator.Goto (record { 0 = 2 }) ∷ Terminator.Unreachable ∷ Terminator.Open ∷ Terminator.Open ∷ []); lines = ([]); locals = (0 ∷ []) }) (2 ∷ []) }

abbrev slice_two_row : Row
slice_two_row = record { image = 0 ∷ 0 ∷ 0 ∷ 83 ∷ 1 ∷ 0 ∷ 2 ∷ 0 ∷ 0 ∷ 0 ∷ 3 ∷ 0 ∷ 1 ∷ 0 ∷ 2 ∷ 0 ∷ 0 ∷ 0 ∷ 1 ∷ 0 ∷ 1 ∷ 0 ∷ 0 ∷ 0 ∷ 0 ∷ 0 ∷ 1 ∷ 0 ∷ 9 ∷ 0 ∷ 0 ∷ 0 ∷ 0 ∷ 0 ∷ 0 ∷ 0 ∷ 0 ∷ 0 ∷ 11 ∷ 0 ∷ 0 ∷ 0 ∷ 0 ∷ 0 ∷ 0 ∷ 255 ∷ 255 ∷ 0 ∷ 0 ∷ 0 ∷ 0 ∷ 0 ∷ 3 ∷ 0 ∷ 0 ∷ 0 ∷ 0 ∷ 0 ∷ 0 ∷ 0 ∷ 0 ∷ 0 ∷ 0 ∷ 0 ∷ 0 ∷ 0 ∷ 8 ∷ 0 ∷ 1 ∷ 0 ∷ 0 ∷ 0 ∷ 0 ∷ 0 ∷ 2 ∷ 0 ∷ 0 ∷ 255 ∷ 255 ∷ 0 ∷ 0 ∷ 0 ∷ 1 ∷ 0 ∷ 0 ∷ 0 ∷ 1 ∷ []; ty = 1; wanted = lowers_to (record { 0 = 2 }) (Some (record { 0 = 1 })) (record { terminators = (Terminator.Switch (record { 0 = 2 }) 2 0 (record { 0 = 2 }) (record { 0 = 1 }) ∷ Terminator.Open ∷ Terminator.Open ∷ []); lines = (record { block = 0; statement = live 2 } ∷ record { block = 0; statement = set 2 (of_place PlaceRvalue.Len (record { local = 0; elems = ([]) })) } ∷ record { block = 2; statement = live 1 } ∷ record { block = 2; statement = set 1 (of_place PlaceRvalue.Copy (record { local = 0; elems = ((ProjectionElem.Index 0) ∷ []) })) } ∷ []); locals = (1 ∷ 0 ∷ 257 ∷ []) }) (2 ∷ 2 ∷ 2 ∷ []) }

abbrev array_row : Row
array_row = record { image = 0 ∷ 0 ∷ 0 ∷ 83 ∷ 1 ∷ 0 ∷ 2 ∷ 0 ∷ 0 ∷ 0 ∷ 3 ∷ 0 ∷ 1 ∷ 0 ∷ 2 ∷ 0 ∷ 0 ∷ 0 ∷ 1 ∷ 0 ∷ 1 ∷ 0 ∷ 0 ∷ 0 ∷ 0 ∷ 0 ∷ 1 ∷ 0 ∷ 8 ∷ 0 ∷ 0 ∷ 0 ∷ 2 ∷ 0 ∷ 0 ∷ 0 ∷ 1 ∷ 0 ∷ 11 ∷ 0 ∷ 0 ∷ 0 ∷ 0 ∷ 0 ∷ 0 ∷ 255 ∷ 255 ∷ 0 ∷ 0 ∷ 0 ∷ 0 ∷ 0 ∷ 3 ∷ 0 ∷ 0 ∷ 0 ∷ 0 ∷ 0 ∷ 0 ∷ 0 ∷ 0 ∷ 0 ∷ 0 ∷ 0 ∷ 0 ∷ 0 ∷ 8 ∷ 0 ∷ 1 ∷ 0 ∷ 0 ∷ 0 ∷ 0 ∷ 0 ∷ 2 ∷ 0 ∷ 0 ∷ 255 ∷ 255 ∷ 0 ∷ 0 ∷ 0 ∷ 1 ∷ 0 ∷ 0 ∷ 0 ∷ 1 ∷ []; ty = 1; wanted = lowers_to (record { 0 = 0 }) None (record { terminators = (Terminator.Open ∷ []); lines = (record { block = 0; statement = live 1 } ∷ record { block = 0; statement = set 1 (of_place PlaceRvalue.Copy (record { local = 0; elems = ((ProjectionElem.Index 0) ∷ []) })) } ∷ []); locals = (1 ∷ 0 ∷ []) }) (2 ∷ 2 ∷ 2 ∷ []) }

abbrev slice_any_row : Row
slice_any_row = record { image = 0 ∷ 0 ∷ 0 ∷ 61 ∷ 1 ∷ 0 ∷ 2 ∷ 0 ∷ 0 ∷ 0 ∷ 2 ∷ 0 ∷ 0 ∷ 0 ∷ 0 ∷ 0 ∷ 0 ∷ 0 ∷ 1 ∷ 0 ∷ 1 ∷ 0 ∷ 0 ∷ 0 ∷ 0 ∷ 0 ∷ 1 ∷ 0 ∷ 9 ∷ 0 ∷ 0 ∷ 0 ∷ 0 ∷ 0 ∷ 0 ∷ 0 ∷ 0 ∷ 0 ∷ 1 ∷ 0 ∷ 1 ∷ 0 ∷ 0 ∷ 0 ∷ 0 ∷ 0 ∷ 0 ∷ 0 ∷ 0 ∷ 0 ∷ 0 ∷ 0 ∷ 8 ∷ 0 ∷ 1 ∷ 0 ∷ 0 ∷ 0 ∷ 0 ∷ 0 ∷ 0 ∷ 0 ∷ 0 ∷ 0 ∷ 0 ∷ []; ty = 1; wanted = lowers_to (record { 0 = 2 }) (Some (record { 0 = 1 })) (record { terminators = (Terminator.Switch (record { 0 = 2 }) 1 0 (record { 0 = 2 }) (record { 0 = 1 }) ∷ Terminator.Open ∷ Terminator.Open ∷ []); lines = (record { block = 0; statement = live 1 } ∷ record { block = 0; statement = set 1 (of_place PlaceRvalue.Len (record { local = 0; elems = ([]) })) } ∷ record { block = 0; statement = live 2 } ∷ record { block = 0; statement = set 2 (binary BinOp.Le (Left.Constant (record { count = 8; ty = 257; offset = 0; low = 0; high = 0 })) (record { local = 1; elems = ([]) })) } ∷ []); locals = (1 ∷ 257 ∷ 256 ∷ []) }) (0 ∷ 2 ∷ []) }

abbrev tuple_ellipsis_row : Row
tuple_ellipsis_row = record { image = 0 ∷ 0 ∷ 0 ∷ 115 ∷ 1 ∷ 0 ∷ 2 ∷ 0 ∷ 0 ∷ 0 ∷ 4 ∷ 0 ∷ 3 ∷ 0 ∷ 7 ∷ 0 ∷ 0 ∷ 0 ∷ 1 ∷ 0 ∷ 1 ∷ 0 ∷ 0 ∷ 0 ∷ 0 ∷ 0 ∷ 1 ∷ 0 ∷ 5 ∷ 0 ∷ 0 ∷ 0 ∷ 4 ∷ 0 ∷ 0 ∷ 0 ∷ 1 ∷ 0 ∷ 11 ∷ 0 ∷ 0 ∷ 0 ∷ 0 ∷ 0 ∷ 0 ∷ 255 ∷ 255 ∷ 0 ∷ 0 ∷ 0 ∷ 0 ∷ 0 ∷ 11 ∷ 0 ∷ 0 ∷ 0 ∷ 0 ∷ 0 ∷ 1 ∷ 255 ∷ 255 ∷ 0 ∷ 0 ∷ 0 ∷ 0 ∷ 0 ∷ 11 ∷ 0 ∷ 0 ∷ 0 ∷ 0 ∷ 0 ∷ 2 ∷ 255 ∷ 255 ∷ 0 ∷ 0 ∷ 0 ∷ 0 ∷ 0 ∷ 4 ∷ 0 ∷ 1 ∷ 0 ∷ 0 ∷ 0 ∷ 4 ∷ 0 ∷ 3 ∷ 0 ∷ 1 ∷ 0 ∷ 0 ∷ 0 ∷ 0 ∷ 0 ∷ 1 ∷ 0 ∷ 0 ∷ 0 ∷ 1 ∷ 0 ∷ 0 ∷ 0 ∷ 1 ∷ 0 ∷ 0 ∷ 0 ∷ 0 ∷ 0 ∷ 0 ∷ 0 ∷ 0 ∷ 0 ∷ 0 ∷ 0 ∷ 1 ∷ 0 ∷ 2 ∷ []; ty = 1; wanted = lowers_to (record { 0 = 0 }) None (record { terminators = (Terminator.Open ∷ []); lines = (record { block = 0; statement = live 1 } ∷ record { block = 0; statement = set 1 (of_place PlaceRvalue.Copy (record { local = 0; elems = ((ProjectionElem.Field 0) ∷ []) })) } ∷ record { block = 0; statement = live 3 } ∷ record { block = 0; statement = set 3 (of_place PlaceRvalue.Copy (record { local = 0; elems = ((ProjectionElem.Field 3) ∷ []) })) } ∷ record { block = 0; statement = live 2 } ∷ record { block = 0; statement = set 2 (of_place PlaceRvalue.Copy (record { local = 0; elems = ((ProjectionElem.Field 2) ∷ []) })) } ∷ []); locals = (1 ∷ 0 ∷ 0 ∷ 0 ∷ []) }) (2 ∷ 2 ∷ 2 ∷ 2 ∷ []) }

abbrev ellipsis_2_row : Row
ellipsis_2_row = record { image = 0 ∷ 0 ∷ 0 ∷ 87 ∷ 1 ∷ 0 ∷ 2 ∷ 0 ∷ 0 ∷ 0 ∷ 3 ∷ 0 ∷ 0 ∷ 0 ∷ 6 ∷ 0 ∷ 0 ∷ 0 ∷ 1 ∷ 0 ∷ 1 ∷ 0 ∷ 0 ∷ 0 ∷ 0 ∷ 0 ∷ 1 ∷ 0 ∷ 5 ∷ 0 ∷ 0 ∷ 0 ∷ 4 ∷ 0 ∷ 0 ∷ 0 ∷ 1 ∷ 0 ∷ 3 ∷ 0 ∷ 0 ∷ 0 ∷ 0 ∷ 0 ∷ 0 ∷ 0 ∷ 0 ∷ 0 ∷ 0 ∷ 0 ∷ 0 ∷ 0 ∷ 3 ∷ 0 ∷ 0 ∷ 0 ∷ 0 ∷ 0 ∷ 0 ∷ 0 ∷ 0 ∷ 0 ∷ 0 ∷ 0 ∷ 0 ∷ 0 ∷ 4 ∷ 0 ∷ 1 ∷ 0 ∷ 0 ∷ 0 ∷ 4 ∷ 0 ∷ 2 ∷ 0 ∷ 2 ∷ 0 ∷ 0 ∷ 0 ∷ 0 ∷ 0 ∷ 0 ∷ 0 ∷ 0 ∷ 0 ∷ 0 ∷ 0 ∷ 0 ∷ 0 ∷ 1 ∷ []; ty = 1; wanted = lowers_to (record { 0 = 0 }) None (record { terminators = (Terminator.Open ∷ []); lines = ([]); locals = (1 ∷ []) }) (2 ∷ 2 ∷ 2 ∷ []) }

abbrev ellipsis_3_row : Row
ellipsis_3_row = record { image = 0 ∷ 0 ∷ 0 ∷ 87 ∷ 1 ∷ 0 ∷ 2 ∷ 0 ∷ 0 ∷ 0 ∷ 3 ∷ 0 ∷ 0 ∷ 0 ∷ 6 ∷ 0 ∷ 0 ∷ 0 ∷ 1 ∷ 0 ∷ 1 ∷ 0 ∷ 0 ∷ 0 ∷ 0 ∷ 0 ∷ 1 ∷ 0 ∷ 5 ∷ 0 ∷ 0 ∷ 0 ∷ 4 ∷ 0 ∷ 0 ∷ 0 ∷ 1 ∷ 0 ∷ 3 ∷ 0 ∷ 0 ∷ 0 ∷ 0 ∷ 0 ∷ 0 ∷ 0 ∷ 0 ∷ 0 ∷ 0 ∷ 0 ∷ 0 ∷ 0 ∷ 0 ∷ 0 ∷ 0 ∷ 0 ∷ 0 ∷ 0 ∷ 0 ∷ 0 ∷ 0 ∷ 0 ∷ 0 ∷ 0 ∷ 0 ∷ 0 ∷ 4 ∷ 0 ∷ 1 ∷ 0 ∷ 0 ∷ 0 ∷ 4 ∷ 0 ∷ 2 ∷ 0 ∷ 3 ∷ 0 ∷ 0 ∷ 0 ∷ 0 ∷ 0 ∷ 0 ∷ 0 ∷ 0 ∷ 0 ∷ 0 ∷ 0 ∷ 0 ∷ 0 ∷ 1 ∷ []; ty = 1; wanted = refusal (record { number = 7; pattern = 2; reason = 0 }) }

abbrev pub rows : List Row
rows = wild_row ∷ literal7_row ∷ range_row ∷ or_1_2_row ∷ wild_or_2_row ∷ or_none_row ∷ slice_two_row ∷ array_row ∷ slice_any_row ∷ tuple_ellipsis_row ∷ ellipsis_2_row ∷ ellipsis_3_row ∷ []

-- each row's image comes to the answer that is wanted
pub as_wanted : map (λ (row : Row). answer_by lowering row.image row.ty) rows ≡ map (λ (row : Row). row.wanted) rows
unfolding word_at little_endian tables_of type_at variant_at pat_at binding_at list_at operand_at operand_bytes all_below all_in all_true member distinct up_from gather is_scalar_value operand_value_holds operand_holds counts_what_follows version_is_one tables_fill_the_rest listed types_listed is_integer_size adt_may_have type_shape_holds type_holds variants_by adts_share_no_variant variant_holds binding_holds within_limits if_present subpatterns_by path_holds pattern_shape_holds pattern_holds subpatterns_below used_once valid shape_by ty_of variant_of binding_of operand_of word? operand? trees tree? target node_by node tree_of tree elem_of word_of projection_of field_of deref_ty adt_field_ty field_ty element_ty subslice_ty adt_downcast_ty downcast_ty ty_projection variant_projection part_projection projection_ty multi_projection_ty term_row halves place_words local_ty constant_words left_words place_rvalue_kind binary_kind live_row dead_row place_rvalue_row constant_row binary_row new_block set_terminator push_statement new_local push_scope push_entry try_block try_statement try_local try_scope try_entry constant_of string_constant integer_constant literal_by lower_literal_to_operand lower_const_to_operand literal_or_const_by lower_literal_or_const_to_operand is_slice is_held mark_live temp binding_local terminator_of elems_at path_of constant_at left_of line_of mir_of number_of reason_of refusal_at visited project local_place else_state else_block derefed entered compare pattern_match_const literal lit_by constant_path range_end range_end? binding_rvalue pattern_match_binding local_path place_ty shape_of pattern_match_adt pattern_match_tuple_like ellipsis_at tuple_on tuple_pattern ref_on ref_pattern resolved record_fields variant_fields discriminant_test variant_on adt_on pattern_matching_variant variant_pattern length_constant length_compared length_test rest_bound slice_items slice_on alternatives alternatives_end or_pattern end_op range_pattern path_pattern bind_pattern rest_by rest_of pattern_match_inner lowerings lowering? pattern_match start_state start answer_by
as_wanted = refl
