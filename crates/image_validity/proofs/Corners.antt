-- Why a sheet's numbers must be bytes: an array of 65,536 elements, which no two bytes say, leaves a rest of 65,535, which means absent. Each
-- other thing that is asked holds here. Assumes nothing.
use Prim.Native.Nat.{ℕ}
use mathlib.Core.Path.{◌≡◌, refl}
use mathlib.Core.Bool.{Bool, true, false}
use mathlib.Core.Option.{Option, none, some}
use mathlib.Core.List.{List, [], ◌∷◌, map}
use lib.Dec.{ltb}
use Rattle.image.specs.Tables.{type_count}
use Rattle.image.specs.Valid.{valid}
use Rattle.type_sheets.specs.Sheets.{sheet_holds}
use Rattle.name_tables.specs.Names.{names_hold}
use Rattle.pattern_syntax.specs.Written.{wildcard_node, rest_node, ident_node, slice_node, Written, written, no_parts, more, only}
use Rattle.pattern_syntax.specs.Formed.{in_pattern, formed}
use Rattle.pattern_typing.specs.Crossing.{by_value}
use Rattle.pattern_typing.specs.Contexts.{typed}
use Rattle.pattern_typing.specs.Failing.{refused_in}
use Rattle.pattern_images.specs.Imaging.{image_with, within_image_limits}
use Rattle.pattern_reading.specs.Reads.{draft_of}

-- type 0 is an array of type 1, a bool, whose length's bytes are these
abbrev array_of : ℕ → ℕ → List ℕ
array_of high low =
    0 ∷ 0 ∷ 0 ∷ 33 ∷ 1 ∷ 0 ∷ 2 ∷ 0 ∷ 0 ∷ 0 ∷ 0 ∷ 0 ∷ 0 ∷ 0 ∷ 0 ∷ 0 ∷ 0
    ∷ 0 ∷ 8 ∷ 0 ∷ 1 ∷ high ∷ low ∷ 0 ∷ 0 ∷ 0 ∷ 0
    ∷ 0 ∷ 2 ∷ 0 ∷ 0 ∷ 0 ∷ 0 ∷ 0 ∷ 0 ∷ 0 ∷ 1 ∷ []

abbrev no_names : List ℕ
no_names = 0 ∷ 0 ∷ 0 ∷ 5 ∷ 1 ∷ 0 ∷ 0 ∷ 0 ∷ 0 ∷ []

-- `[_, x @ ..]`
abbrev rest_behind_one : Written
rest_behind_one =
    written 0 (slice_node (some 1))
    (more (only (written 1 wildcard_node no_parts)) (written 4 (ident_node false false (record { at = 4; bytes = 120 ∷ [] })) (only (written 8 rest_node no_parts))))

abbrev is_none : Option ℕ → Bool
is_none none = true
is_none (some at) = false

-- what is asked of a sheet, a name table and a tree that are read at type 0, and whether the image is valid
abbrev tests : List ℕ → List Bool
tests sheet =
    sheet_holds sheet
    ∷ names_hold sheet no_names
    ∷ ltb 0 (type_count sheet)
    ∷ formed rest_behind_one in_pattern
    ∷ is_none (refused_in sheet no_names rest_behind_one (typed 0 by_value))
    ∷ within_image_limits sheet (draft_of sheet no_names 0 rest_behind_one)
    ∷ valid (image_with sheet (draft_of sheet no_names 0 rest_behind_one))
    ∷ []

-- a length that is no word, and the longest that two bytes say
pub lengths : map tests (array_of 256 0 ∷ array_of 255 254 ∷ []) ≡ (true ∷ true ∷ true ∷ true ∷ true ∷ true ∷ false ∷ []) ∷ (true ∷ true ∷ true ∷ true ∷ true ∷ true ∷ true ∷ []) ∷ []
unfolding Rattle.image.specs.Bytes.word_at Rattle.image.specs.Bytes.little_endian Rattle.image.specs.Rows.type_at Rattle.image.specs.Rows.variant_at Rattle.image.specs.Rows.pat_at Rattle.image.specs.Rows.binding_at Rattle.image.specs.Rows.list_at Rattle.image.specs.Rows.operand_at Rattle.image.specs.Rows.operand_bytes Rattle.image.specs.Lists.all_below Rattle.image.specs.Lists.all_in Rattle.image.specs.Lists.all_true Rattle.image.specs.Lists.member Rattle.image.specs.Lists.distinct Rattle.image.specs.Lists.up_from Rattle.image.specs.Lists.gather Rattle.image.specs.Operands.is_scalar_value Rattle.image.specs.Operands.operand_value_holds Rattle.image.specs.Operands.operand_holds Rattle.image.specs.Rules.counts_what_follows Rattle.image.specs.Rules.version_is_one Rattle.image.specs.Rules.tables_fill_the_rest Rattle.image.specs.Rules.listed Rattle.image.specs.Rules.types_listed Rattle.image.specs.Rules.is_integer_size Rattle.image.specs.Rules.adt_may_have Rattle.image.specs.Rules.type_shape_holds Rattle.image.specs.Rules.type_holds Rattle.image.specs.Rules.variants_by Rattle.image.specs.Rules.adts_share_no_variant Rattle.image.specs.Rules.variant_holds Rattle.image.specs.Rules.binding_holds Rattle.image.specs.Rules.within_limits Rattle.image.specs.Subpatterns.if_present Rattle.image.specs.Subpatterns.subpatterns_by Rattle.image.specs.Patterns.path_holds Rattle.image.specs.Patterns.pattern_shape_holds Rattle.image.specs.Patterns.pattern_holds Rattle.image.specs.Patterns.subpatterns_below Rattle.image.specs.Patterns.used_once Rattle.pattern_words.specs.Words.is_between Rattle.pattern_words.specs.Words.is_digit Rattle.pattern_words.specs.Words.is_letter Rattle.pattern_words.specs.Words.begins_word Rattle.pattern_words.specs.Words.in_word Rattle.pattern_words.specs.Words.same_word Rattle.pattern_words.specs.Words.is_one_of Rattle.pattern_words.specs.Words.keywords Rattle.pattern_words.specs.Words.never_raw Rattle.pattern_words.specs.Words.word_of Rattle.pattern_words.specs.Words.ends_prefix Rattle.pattern_words.specs.Words.is_raw Rattle.pattern_words.specs.Words.raw_piece Rattle.pattern_words.specs.Words.plain_piece Rattle.pattern_words.specs.Words.word_piece Rattle.pattern_syntax.specs.Written.part_count Rattle.pattern_syntax.specs.Written.beginning Rattle.pattern_syntax.specs.Written.begun_at Rattle.pattern_syntax.specs.Reduced.bytes_from Rattle.pattern_syntax.specs.Reduced.ident_bytes Rattle.pattern_syntax.specs.Reduced.path_bytes Rattle.pattern_syntax.specs.Reduced.key_name Rattle.pattern_syntax.specs.Reduced.literal_value Rattle.pattern_syntax.specs.Reduced.bound_in Rattle.pattern_syntax.specs.Reduced.dots_at Rattle.pattern_syntax.specs.Reduced.is_exclusive Rattle.pattern_syntax.specs.Reduced.is_there Rattle.pattern_syntax.specs.Reduced.first_place Rattle.pattern_syntax.specs.Reduced.bound_name_at Rattle.pattern_syntax.specs.Reduced.written_ident Rattle.pattern_syntax.specs.Reduced.written_reference Rattle.pattern_syntax.specs.Reduced.head_at Rattle.pattern_syntax.specs.Reduced.list_node Rattle.pattern_syntax.specs.Reduced.item_count Rattle.pattern_syntax.specs.Reduced.or_else Rattle.pattern_syntax.specs.Reduced.before_rest Rattle.pattern_syntax.specs.Reduced.is_part Rattle.pattern_syntax.specs.Reduced.is_group Rattle.pattern_syntax.specs.Reduced.first_beginning Rattle.pattern_syntax.specs.Reduced.one_of Rattle.pattern_syntax.specs.Reduced.alternatives Rattle.pattern_syntax.specs.Reduced.written_alt Rattle.pattern_syntax.specs.Reduced.written_plain Rattle.pattern_syntax.specs.Reduced.written_items Rattle.pattern_syntax.specs.Reduced.written_fields Rattle.pattern_syntax.specs.Reduced.written_field_of Rattle.pattern_syntax.specs.Reduced.reduced Rattle.name_tables.specs.Names.name_row_at Rattle.name_tables.specs.Names.row_name Rattle.name_tables.specs.Names.name_frame_holds Rattle.name_tables.specs.Names.names_something Rattle.name_tables.specs.Names.name_row_holds Rattle.name_tables.specs.Names.names_hold Rattle.name_tables.specs.Names.first_from Rattle.name_tables.specs.Names.serves Rattle.name_tables.specs.Names.is_named Rattle.name_tables.specs.Names.row_for Rattle.type_sheets.specs.Sheets.within_sheet_limits Rattle.type_sheets.specs.Sheets.sheet_holds Rattle.pattern_typing.specs.Crossing.is_written_as Rattle.pattern_typing.specs.Crossing.behind_reference Rattle.pattern_typing.specs.Crossing.cross_one Rattle.pattern_typing.specs.Crossing.cross_up_to Rattle.pattern_typing.specs.Crossing.crossed Rattle.pattern_typing.specs.Crossing.tuple_fields Rattle.pattern_typing.specs.Crossing.has_variant_of Rattle.pattern_typing.specs.Crossing.variant_fields_of Rattle.pattern_typing.specs.Contexts.field_context Rattle.pattern_typing.specs.Contexts.stands_before Rattle.pattern_typing.specs.Contexts.argument_context Rattle.pattern_typing.specs.Contexts.is_rest_item Rattle.pattern_typing.specs.Contexts.item_context Rattle.pattern_typing.specs.Contexts.target_context Rattle.pattern_typing.specs.Contexts.part_context Rattle.pattern_typing.specs.Making.or_absent Rattle.pattern_typing.specs.Resolving.where_named Rattle.pattern_typing.specs.Resolving.path_made Rattle.pattern_typing.specs.Resolving.resolved_path Rattle.pattern_typing.specs.Resolving.mode_of Rattle.pattern_typing.specs.Resolving.annotation_of Rattle.pattern_typing.specs.Resolving.resolved_ident Rattle.pattern_typing.specs.Resolving.rest_bound_at Rattle.pattern_typing.specs.Resolving.rest_holds Rattle.pattern_typing.specs.Resolving.resolved_bound_rest Rattle.pattern_typing.specs.Resolving.resolved_rest Rattle.pattern_typing.specs.Resolving.binds_in Rattle.pattern_typing.specs.Resolving.field_name Rattle.pattern_typing.specs.Resolving.tuple_struct_as Rattle.pattern_typing.specs.Resolving.record_as Rattle.pattern_typing.specs.Resolving.resolved_node Rattle.pattern_typing.specs.Resolving.resolved_field Rattle.pattern_typing.specs.Resolving.resolved Rattle.pattern_typing.specs.Failing.lower Rattle.pattern_typing.specs.Failing.earlier Rattle.pattern_typing.specs.Failing.refused_in Rattle.pattern_typing.specs.Failing.refused_among Rattle.pattern_images.specs.Drafts.add_type Rattle.pattern_images.specs.Drafts.add_pattern Rattle.pattern_images.specs.Drafts.add_binding Rattle.pattern_images.specs.Drafts.add_words Rattle.pattern_images.specs.Drafts.add_bytes Rattle.pattern_images.specs.Drafts.little_endian_bytes Rattle.pattern_images.specs.Drafts.operand_kind_of Rattle.pattern_images.specs.Drafts.literal_bytes Rattle.pattern_images.specs.Drafts.add_operand Rattle.pattern_images.specs.Drafts.type_in Rattle.pattern_images.specs.Drafts.alike Rattle.pattern_images.specs.Drafts.like_in Rattle.pattern_images.specs.Drafts.add_unless Rattle.pattern_images.specs.Drafts.number_or Rattle.pattern_images.specs.Drafts.binding_for Rattle.pattern_images.specs.Emitting.list_from Rattle.pattern_images.specs.Emitting.with_bound_at Rattle.pattern_images.specs.Emitting.bound_type Rattle.pattern_images.specs.Emitting.with_mode Rattle.pattern_images.specs.Emitting.mode_type Rattle.pattern_images.specs.Emitting.new_binding Rattle.pattern_images.specs.Emitting.with_binding Rattle.pattern_images.specs.Emitting.binding_number Rattle.pattern_images.specs.Emitting.item_words Rattle.pattern_images.specs.Emitting.prefix_count Rattle.pattern_images.specs.Emitting.suffix_count Rattle.pattern_images.specs.Emitting.rest_word Rattle.pattern_images.specs.Emitting.emit_node Rattle.pattern_images.specs.Emitting.emitted Rattle.pattern_images.specs.Emitting.emitted_parts Rattle.pattern_images.specs.Imaging.word_bytes Rattle.pattern_images.specs.Imaging.words_bytes Rattle.pattern_images.specs.Imaging.long_bytes Rattle.pattern_images.specs.Imaging.type_bytes Rattle.pattern_images.specs.Imaging.pattern_bytes Rattle.pattern_images.specs.Imaging.binding_bytes Rattle.pattern_images.specs.Imaging.tables_with Rattle.pattern_images.specs.Imaging.behind_length Rattle.pattern_images.specs.Imaging.image_with Rattle.pattern_images.specs.Imaging.derefs_within Rattle.pattern_images.specs.Imaging.within_image_limits Rattle.pattern_reading.specs.Reads.outcome Rattle.pattern_reading.specs.Reads.imaged Rattle.pattern_reading.specs.Reads.unless_refused Rattle.pattern_reading.specs.Reads.read_tree Rattle.pattern_reading.specs.Reads.after_parsing Rattle.pattern_reading.specs.Reads.read_pattern Rattle.pattern_syntax.specs.Formed.formed Rattle.pattern_syntax.specs.Formed.parts_formed Rattle.pattern_syntax.specs.Formed.may_stand Rattle.pattern_syntax.specs.Formed.node_formed Rattle.pattern_syntax.specs.Formed.rest_place Rattle.pattern_syntax.specs.Formed.rest_part_formed Rattle.pattern_syntax.specs.Formed.stands_in Rattle.pattern_syntax.specs.Formed.rest_within Rattle.pattern_syntax.specs.Formed.may_be_rest Rattle.pattern_syntax.specs.Formed.node_in Rattle.image.specs.Valid.valid
lengths = refl
