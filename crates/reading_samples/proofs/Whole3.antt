-- Texts read over sheets and name tables: the definitions, computed. Assumes nothing.
use Prim.Native.Nat.{ℕ, ◌+◌, ◌*◌, ◌%◌}
use mathlib.Core.Path.{◌≡◌, refl}
use mathlib.Core.List.{List, [], ◌∷◌, map}
use Rattle.text_chars.specs.Bytes.{ascii}
use Rattle.reading_samples.proofs.Tables.{Row, row, given_whole, wants, total, told, types_told, patterns_told, bindings_told, draft_told, drafted, answered, names16, names21, names22, names23, names24, names25, names26, names27, names28, names29, names30, names31, names32, names33, names34, names35, names36, names37, names38, names39, names40, names7, sheet10, sheet11, sheet12, sheet13, sheet14, sheet15, sheet17, sheet18, sheet19, sheet20, sheet6, sheet8, sheet9}

unfoldable pub rows_whole3 : List Row
rows_whole3 =
    row (ascii "P { x, }") sheet6 names7 0 (0 ∷ 20 ∷ 0 ∷ [])
    ∷ row (ascii "A()") sheet6 names7 0 (1 ∷ 238 ∷ 737254528527235011 ∷ [])
    ∷ row (ascii "A(..,)") sheet6 names7 0 (1 ∷ 238 ∷ 606043641749962563 ∷ [])
    ∷ row (ascii "[..,]") sheet6 names7 0 (1 ∷ 252 ∷ 1186559188767639329 ∷ [])
    ∷ row (ascii "|x|y") sheet6 names7 0 (1 ∷ 278 ∷ 1250499072334106718 ∷ [])
    ∷ row (ascii "x /**/") sheet6 names7 0 (1 ∷ 242 ∷ 1250041525011908158 ∷ [])
    ∷ row (ascii "x // a") sheet6 names7 0 (1 ∷ 242 ∷ 1250041525011908158 ∷ [])
    ∷ row (ascii "x //// a") sheet6 names7 0 (1 ∷ 242 ∷ 1250041525011908158 ∷ [])
    ∷ row (ascii "x /*** a */") sheet6 names7 0 (1 ∷ 242 ∷ 1250041525011908158 ∷ [])
    ∷ row (55 ∷ 32 ∷ 47 ∷ 42 ∷ 32 ∷ 195 ∷ 169 ∷ 32 ∷ 42 ∷ 47 ∷ []) sheet6 names7 0 (1 ∷ 260 ∷ 1796717758956340290 ∷ [])
    ∷ row (ascii "(") sheet8 sheet8 65535 (0 ∷ 19 ∷ 1 ∷ [])
    ∷ row (ascii "_") sheet8 sheet8 65535 (0 ∷ 1 ∷ 65535 ∷ [])
    ∷ row (ascii "E::C") sheet9 names7 0 (0 ∷ 1 ∷ 65535 ∷ [])
    ∷ row (ascii "E::C") sheet6 names7 10 (0 ∷ 2 ∷ 65535 ∷ [])
    ∷ row (ascii "E::C") sheet6 sheet8 0 (0 ∷ 2 ∷ 65535 ∷ [])
    ∷ row (ascii "_") sheet6 names7 65535 (0 ∷ 2 ∷ 65535 ∷ [])
    ∷ row (ascii "x") sheet8 names7 0 (0 ∷ 1 ∷ 65535 ∷ [])
    ∷ row (ascii "x") sheet10 names7 0 (0 ∷ 1 ∷ 65535 ∷ [])
    ∷ row (ascii "x") sheet9 names7 0 (0 ∷ 1 ∷ 65535 ∷ [])
    ∷ row (ascii "x") sheet11 names7 0 (0 ∷ 1 ∷ 65535 ∷ [])
    ∷ row (ascii "x") sheet12 names7 0 (0 ∷ 1 ∷ 65535 ∷ [])
    ∷ row (ascii "x") sheet13 names7 0 (0 ∷ 1 ∷ 65535 ∷ [])
    ∷ row (ascii "x") sheet14 names7 0 (0 ∷ 1 ∷ 65535 ∷ [])
    ∷ row (ascii "_") sheet15 names16 0 (0 ∷ 2 ∷ 65535 ∷ [])
    ∷ row (ascii "x") sheet17 names7 0 (1 ∷ 246 ∷ 752025695443179658 ∷ [])
    ∷ row (ascii "(2.., ref x)") sheet18 names7 3 (1 ∷ 422 ∷ 1361928214549092336 ∷ [])
    ∷ row (ascii "(y, x)") sheet19 names7 3 (1 ∷ 476 ∷ 1423203470522660919 ∷ [])
    ∷ row (ascii "[_, ..]") sheet20 names7 6 (1 ∷ 296 ∷ 597131316816805068 ∷ [])
    ∷ row (ascii "x") sheet6 sheet8 0 (0 ∷ 2 ∷ 65535 ∷ [])
    ∷ row (ascii "x") sheet6 names21 0 (0 ∷ 2 ∷ 65535 ∷ [])
    ∷ row (ascii "x") sheet6 names22 0 (0 ∷ 2 ∷ 65535 ∷ [])
    ∷ row (ascii "x") sheet6 names23 0 (0 ∷ 2 ∷ 65535 ∷ [])
    ∷ row (ascii "x") sheet6 names24 0 (0 ∷ 2 ∷ 65535 ∷ [])
    ∷ row (ascii "x") sheet6 names25 0 (0 ∷ 2 ∷ 65535 ∷ [])
    ∷ row (ascii "x") sheet6 names26 0 (0 ∷ 2 ∷ 65535 ∷ [])
    ∷ row (ascii "x") sheet6 names27 0 (0 ∷ 2 ∷ 65535 ∷ [])
    ∷ row (ascii "x") sheet6 names28 0 (0 ∷ 2 ∷ 65535 ∷ [])
    ∷ row (ascii "x") sheet6 names29 0 (0 ∷ 2 ∷ 65535 ∷ [])
    ∷ row (ascii "x") sheet6 names30 0 (0 ∷ 2 ∷ 65535 ∷ [])
    ∷ row (ascii "x") sheet6 names31 0 (0 ∷ 2 ∷ 65535 ∷ [])
    ∷ row (ascii "x") sheet6 names32 0 (0 ∷ 2 ∷ 65535 ∷ [])
    ∷ row (ascii "A") sheet6 names33 5 (1 ∷ 238 ∷ 2272538304559127091 ∷ [])
    ∷ row (ascii "X") sheet6 names34 5 (1 ∷ 238 ∷ 1373513505486670109 ∷ [])
    ∷ row (ascii "X") sheet6 names35 5 (1 ∷ 238 ∷ 2272538304559127091 ∷ [])
    ∷ row (ascii "X()") sheet6 names34 5 (1 ∷ 238 ∷ 2182804660163435623 ∷ [])
    ∷ row (ascii "X..") sheet6 names35 5 (1 ∷ 238 ∷ 2074765489930260599 ∷ [])
    ∷ row (ascii "X..") sheet6 names36 5 (0 ∷ 20 ∷ 0 ∷ [])
    ∷ row (ascii "X()") sheet6 names37 5 (0 ∷ 20 ∷ 0 ∷ [])
    ∷ row (ascii "E::A") sheet6 names38 5 (0 ∷ 20 ∷ 0 ∷ [])
    ∷ row (ascii "r#if") sheet6 names39 5 (1 ∷ 238 ∷ 2272538304559127091 ∷ [])
    ∷ row (ascii "_") sheet6 names40 5 (1 ∷ 238 ∷ 1142633107293347408 ∷ [])
    ∷ row (ascii "S") sheet6 names7 5 (1 ∷ 238 ∷ 1101514833841031331 ∷ [])
    ∷ row (ascii "E") sheet6 names7 5 (1 ∷ 242 ∷ 838423955293443500 ∷ [])
    ∷ row (ascii "S { a, b }") sheet6 names7 4 (1 ∷ 282 ∷ 820956172411602411 ∷ [])
    ∷ row (ascii "S { ref a, mut b, }") sheet6 names7 4 (1 ∷ 282 ∷ 771259071749463659 ∷ [])
    ∷ row (ascii "S { r#a: r#b, .. }") sheet6 names7 4 (1 ∷ 260 ∷ 1936065849010576299 ∷ [])
    ∷ row (ascii "S { c: _ }") sheet6 names7 4 (0 ∷ 20 ∷ 4 ∷ [])
    ∷ row (ascii "S { ref c }") sheet6 names7 4 (0 ∷ 20 ∷ 8 ∷ [])
    ∷ row (ascii "S { a: _, ref r#c }") sheet6 names7 4 (0 ∷ 20 ∷ 14 ∷ [])
    ∷ row (ascii "S { 0: _ }") sheet6 names7 4 (0 ∷ 20 ∷ 4 ∷ [])
    ∷ []

pub as_judged_whole3 : map given_whole rows_whole3 ≡ map wants rows_whole3
unfolding rows_whole3 total told types_told patterns_told bindings_told draft_told drafted answered Rattle.image.specs.Bytes.word_at Rattle.image.specs.Bytes.little_endian Rattle.image.specs.Rows.type_at Rattle.image.specs.Rows.variant_at Rattle.image.specs.Rows.pat_at Rattle.image.specs.Rows.binding_at Rattle.image.specs.Rows.list_at Rattle.image.specs.Rows.operand_at Rattle.image.specs.Rows.operand_bytes Rattle.image.specs.Lists.all_below Rattle.image.specs.Lists.all_in Rattle.image.specs.Lists.all_true Rattle.image.specs.Lists.member Rattle.image.specs.Lists.distinct Rattle.image.specs.Lists.up_from Rattle.image.specs.Lists.gather Rattle.image.specs.Operands.is_scalar_value Rattle.image.specs.Operands.operand_value_holds Rattle.image.specs.Operands.operand_holds Rattle.image.specs.Rules.counts_what_follows Rattle.image.specs.Rules.version_is_one Rattle.image.specs.Rules.tables_fill_the_rest Rattle.image.specs.Rules.listed Rattle.image.specs.Rules.types_listed Rattle.image.specs.Rules.is_integer_size Rattle.image.specs.Rules.adt_may_have Rattle.image.specs.Rules.type_shape_holds Rattle.image.specs.Rules.type_holds Rattle.image.specs.Rules.variants_by Rattle.image.specs.Rules.adts_share_no_variant Rattle.image.specs.Rules.variant_holds Rattle.image.specs.Rules.binding_holds Rattle.image.specs.Rules.within_limits Rattle.image.specs.Subpatterns.if_present Rattle.image.specs.Subpatterns.subpatterns_by Rattle.image.specs.Patterns.path_holds Rattle.image.specs.Patterns.pattern_shape_holds Rattle.image.specs.Patterns.pattern_holds Rattle.image.specs.Patterns.subpatterns_below Rattle.image.specs.Patterns.used_once Rattle.text_chars.specs.Bytes.ascii Rattle.text_chars.specs.Bytes.run Rattle.text_chars.specs.Scalars.is_tail Rattle.text_chars.specs.Scalars.shortest_form Rattle.text_chars.specs.Scalars.scalar_from Rattle.text_chars.specs.Scalars.scalar_of Rattle.text_chars.specs.Scalars.is_utf8 Rattle.text_chars.specs.Gaps.whitespace Rattle.text_chars.specs.Gaps.is_whitespace Rattle.text_chars.specs.Gaps.in_line Rattle.text_chars.specs.Gaps.is_line_doc Rattle.text_chars.specs.Gaps.is_block_doc Rattle.text_chars.specs.Gaps.opens Rattle.text_chars.specs.Gaps.closes Rattle.text_chars.specs.Gaps.depth_behind Rattle.text_chars.specs.Gaps.unpaired Rattle.text_chars.specs.Gaps.block_from Rattle.text_chars.specs.Gaps.in_utf8 Rattle.text_chars.specs.Gaps.line_gap Rattle.text_chars.specs.Gaps.block_gap Rattle.text_chars.specs.Gaps.comment_of Rattle.text_chars.specs.Gaps.gap_of Rattle.text_chars.specs.Gaps.start_from Rattle.pattern_words.specs.Words.is_between Rattle.pattern_words.specs.Words.is_digit Rattle.pattern_words.specs.Words.is_letter Rattle.pattern_words.specs.Words.begins_word Rattle.pattern_words.specs.Words.in_word Rattle.pattern_words.specs.Words.same_word Rattle.pattern_words.specs.Words.is_one_of Rattle.pattern_words.specs.Words.keywords Rattle.pattern_words.specs.Words.never_raw Rattle.pattern_words.specs.Words.word_of Rattle.pattern_words.specs.Words.ends_prefix Rattle.pattern_words.specs.Words.is_raw Rattle.pattern_words.specs.Words.raw_piece Rattle.pattern_words.specs.Words.plain_piece Rattle.pattern_words.specs.Words.word_piece Rattle.pattern_tokens.specs.Literals.in_integer Rattle.pattern_tokens.specs.Literals.goes_on Rattle.pattern_tokens.specs.Literals.integer_of Rattle.pattern_tokens.specs.Literals.integer_piece Rattle.pattern_tokens.specs.Literals.hex_digit Rattle.pattern_tokens.specs.Literals.simple_escape Rattle.pattern_tokens.specs.Literals.byte_escape Rattle.pattern_tokens.specs.Literals.escaped Rattle.pattern_tokens.specs.Literals.unicode_from Rattle.pattern_tokens.specs.Literals.escape_of Rattle.pattern_tokens.specs.Literals.plain_char Rattle.pattern_tokens.specs.Literals.char_of Rattle.pattern_tokens.specs.Literals.is_suffix Rattle.pattern_tokens.specs.Literals.closed_char Rattle.pattern_tokens.specs.Literals.char_piece Rattle.pattern_tokens.specs.Tokens.begins Rattle.pattern_tokens.specs.Tokens.punctuation Rattle.pattern_tokens.specs.Tokens.first_where Rattle.pattern_tokens.specs.Tokens.piece_of Rattle.pattern_tokens.specs.Tokens.token_from Rattle.pattern_tokens.specs.Tokens.token_behind Rattle.pattern_tokens.specs.Tokens.token_at Rattle.decimal_values.specs.Values.decimal_from Rattle.decimal_values.specs.Values.in_halves Rattle.decimal_values.specs.Values.integer_value Rattle.pattern_grammar.specs.Lexemes.lexeme_at Rattle.pattern_grammar.specs.Lexemes.of_kind Rattle.pattern_grammar.specs.Lexemes.lexeme Rattle.pattern_grammar.specs.Lexemes.over Rattle.pattern_grammar.specs.Lexemes.wide Rattle.pattern_grammar.specs.Trees.closer Rattle.pattern_grammar.specs.Admitted.path_at Rattle.pattern_grammar.specs.Admitted.literal_at Rattle.pattern_grammar.specs.Admitted.bound_at Rattle.pattern_grammar.specs.Admitted.upward_at Rattle.pattern_grammar.specs.Admitted.open_at Rattle.pattern_grammar.specs.Admitted.when_strict Rattle.pattern_grammar.specs.Admitted.open_item_at Rattle.pattern_grammar.specs.Admitted.fits_rest Rattle.pattern_grammar.specs.Admitted.behind_name Rattle.pattern_grammar.specs.Admitted.behind_bar Rattle.pattern_grammar.specs.Admitted.list_room Rattle.pattern_grammar.specs.Admitted.is_rest_alt Rattle.pattern_grammar.specs.Admitted.is_rest_plain Rattle.pattern_grammar.specs.Admitted.is_rest Rattle.pattern_grammar.specs.Admitted.has_rest Rattle.pattern_grammar.specs.Admitted.item_room Rattle.pattern_grammar.specs.Admitted.second Rattle.pattern_grammar.specs.Admitted.is_mut_first Rattle.pattern_grammar.specs.Admitted.begins_mut Rattle.pattern_grammar.specs.Admitted.mut_is_own Rattle.pattern_grammar.specs.Admitted.literal_fits Rattle.pattern_grammar.specs.Admitted.bound_fits Rattle.pattern_grammar.specs.Admitted.key_fits Rattle.pattern_grammar.specs.Admitted.is_none Rattle.pattern_grammar.specs.Admitted.pattern_ok Rattle.pattern_grammar.specs.Admitted.alt_ok Rattle.pattern_grammar.specs.Admitted.plain_ok Rattle.pattern_grammar.specs.Admitted.items_ok Rattle.pattern_grammar.specs.Admitted.fields_ok Rattle.pattern_grammar.specs.Admitted.field_ok Rattle.pattern_grammar.specs.Admitted.admitted Rattle.pattern_grammar.specs.Machine.range_of Rattle.pattern_grammar.specs.Machine.close_alt Rattle.pattern_grammar.specs.Machine.close_plain Rattle.pattern_grammar.specs.Machine.room_in Rattle.pattern_grammar.specs.Machine.room_behind Rattle.pattern_grammar.specs.Machine.room_of Rattle.pattern_grammar.specs.Machine.ranged Rattle.pattern_grammar.specs.Machine.dots_in Rattle.pattern_grammar.specs.Machine.rest_stands Rattle.pattern_grammar.specs.Machine.fitting Rattle.pattern_grammar.specs.Machine.unless_open Rattle.pattern_grammar.specs.Machine.starts Rattle.pattern_grammar.specs.Machine.bounds Rattle.pattern_grammar.specs.Machine.behind Rattle.pattern_grammar.specs.Machine.ends Rattle.pattern_grammar.specs.Machine.named_in Rattle.pattern_grammar.specs.Machine.path_in Rattle.pattern_grammar.specs.Machine.negative_in Rattle.pattern_grammar.specs.Machine.behind_path Rattle.pattern_grammar.specs.Machine.behind_field Rattle.pattern_grammar.specs.Machine.on_mark Rattle.pattern_grammar.specs.Machine.on_name Rattle.pattern_grammar.specs.Machine.on_char Rattle.pattern_grammar.specs.Machine.step Rattle.pattern_grammar.specs.Machine.feed Rattle.pattern_grammar.specs.Machine.is_failed Rattle.pattern_grammar.specs.Parsed.is_last Rattle.pattern_grammar.specs.Parsed.lexemes_from Rattle.pattern_grammar.specs.Parsed.lexemes Rattle.pattern_grammar.specs.Parsed.parsed Rattle.pattern_syntax.specs.Written.part_count Rattle.pattern_syntax.specs.Written.beginning Rattle.pattern_syntax.specs.Written.begun_at Rattle.pattern_syntax.specs.Reduced.bytes_from Rattle.pattern_syntax.specs.Reduced.ident_bytes Rattle.pattern_syntax.specs.Reduced.path_bytes Rattle.pattern_syntax.specs.Reduced.key_name Rattle.pattern_syntax.specs.Reduced.literal_value Rattle.pattern_syntax.specs.Reduced.bound_in Rattle.pattern_syntax.specs.Reduced.dots_at Rattle.pattern_syntax.specs.Reduced.is_exclusive Rattle.pattern_syntax.specs.Reduced.is_there Rattle.pattern_syntax.specs.Reduced.first_place Rattle.pattern_syntax.specs.Reduced.bound_name_at Rattle.pattern_syntax.specs.Reduced.written_ident Rattle.pattern_syntax.specs.Reduced.written_reference Rattle.pattern_syntax.specs.Reduced.head_at Rattle.pattern_syntax.specs.Reduced.list_node Rattle.pattern_syntax.specs.Reduced.item_count Rattle.pattern_syntax.specs.Reduced.or_else Rattle.pattern_syntax.specs.Reduced.before_rest Rattle.pattern_syntax.specs.Reduced.is_part Rattle.pattern_syntax.specs.Reduced.is_group Rattle.pattern_syntax.specs.Reduced.first_beginning Rattle.pattern_syntax.specs.Reduced.one_of Rattle.pattern_syntax.specs.Reduced.alternatives Rattle.pattern_syntax.specs.Reduced.written_alt Rattle.pattern_syntax.specs.Reduced.written_plain Rattle.pattern_syntax.specs.Reduced.written_items Rattle.pattern_syntax.specs.Reduced.written_fields Rattle.pattern_syntax.specs.Reduced.written_field_of Rattle.pattern_syntax.specs.Reduced.reduced Rattle.name_tables.specs.Names.name_row_at Rattle.name_tables.specs.Names.row_name Rattle.name_tables.specs.Names.name_frame_holds Rattle.name_tables.specs.Names.names_something Rattle.name_tables.specs.Names.name_row_holds Rattle.name_tables.specs.Names.names_hold Rattle.name_tables.specs.Names.first_from Rattle.name_tables.specs.Names.serves Rattle.name_tables.specs.Names.is_named Rattle.name_tables.specs.Names.row_for Rattle.type_sheets.specs.Sheets.within_sheet_limits Rattle.type_sheets.specs.Sheets.sheet_holds Rattle.pattern_typing.specs.Crossing.is_written_as Rattle.pattern_typing.specs.Crossing.behind_reference Rattle.pattern_typing.specs.Crossing.cross_one Rattle.pattern_typing.specs.Crossing.cross_up_to Rattle.pattern_typing.specs.Crossing.crossed Rattle.pattern_typing.specs.Crossing.tuple_fields Rattle.pattern_typing.specs.Crossing.has_variant_of Rattle.pattern_typing.specs.Crossing.variant_fields_of Rattle.pattern_typing.specs.Contexts.field_context Rattle.pattern_typing.specs.Contexts.stands_before Rattle.pattern_typing.specs.Contexts.argument_context Rattle.pattern_typing.specs.Contexts.is_rest_item Rattle.pattern_typing.specs.Contexts.item_context Rattle.pattern_typing.specs.Contexts.target_context Rattle.pattern_typing.specs.Contexts.part_context Rattle.pattern_typing.specs.Making.or_absent Rattle.pattern_typing.specs.Resolving.where_named Rattle.pattern_typing.specs.Resolving.path_made Rattle.pattern_typing.specs.Resolving.resolved_path Rattle.pattern_typing.specs.Resolving.mode_of Rattle.pattern_typing.specs.Resolving.annotation_of Rattle.pattern_typing.specs.Resolving.resolved_ident Rattle.pattern_typing.specs.Resolving.rest_bound_at Rattle.pattern_typing.specs.Resolving.rest_holds Rattle.pattern_typing.specs.Resolving.resolved_bound_rest Rattle.pattern_typing.specs.Resolving.resolved_rest Rattle.pattern_typing.specs.Resolving.binds_in Rattle.pattern_typing.specs.Resolving.field_name Rattle.pattern_typing.specs.Resolving.tuple_struct_as Rattle.pattern_typing.specs.Resolving.record_as Rattle.pattern_typing.specs.Resolving.resolved_node Rattle.pattern_typing.specs.Resolving.resolved_field Rattle.pattern_typing.specs.Resolving.resolved Rattle.pattern_typing.specs.Failing.lower Rattle.pattern_typing.specs.Failing.earlier Rattle.pattern_typing.specs.Failing.refused_in Rattle.pattern_typing.specs.Failing.refused_among Rattle.pattern_images.specs.Drafts.add_type Rattle.pattern_images.specs.Drafts.add_pattern Rattle.pattern_images.specs.Drafts.add_binding Rattle.pattern_images.specs.Drafts.add_words Rattle.pattern_images.specs.Drafts.add_bytes Rattle.pattern_images.specs.Drafts.little_endian_bytes Rattle.pattern_images.specs.Drafts.operand_kind_of Rattle.pattern_images.specs.Drafts.literal_bytes Rattle.pattern_images.specs.Drafts.add_operand Rattle.pattern_images.specs.Drafts.type_in Rattle.pattern_images.specs.Drafts.alike Rattle.pattern_images.specs.Drafts.like_in Rattle.pattern_images.specs.Drafts.add_unless Rattle.pattern_images.specs.Drafts.number_or Rattle.pattern_images.specs.Drafts.binding_for Rattle.pattern_images.specs.Emitting.list_from Rattle.pattern_images.specs.Emitting.with_bound_at Rattle.pattern_images.specs.Emitting.bound_type Rattle.pattern_images.specs.Emitting.with_mode Rattle.pattern_images.specs.Emitting.mode_type Rattle.pattern_images.specs.Emitting.new_binding Rattle.pattern_images.specs.Emitting.with_binding Rattle.pattern_images.specs.Emitting.binding_number Rattle.pattern_images.specs.Emitting.item_words Rattle.pattern_images.specs.Emitting.prefix_count Rattle.pattern_images.specs.Emitting.suffix_count Rattle.pattern_images.specs.Emitting.rest_word Rattle.pattern_images.specs.Emitting.emit_node Rattle.pattern_images.specs.Emitting.emitted Rattle.pattern_images.specs.Emitting.emitted_parts Rattle.pattern_images.specs.Imaging.word_bytes Rattle.pattern_images.specs.Imaging.words_bytes Rattle.pattern_images.specs.Imaging.long_bytes Rattle.pattern_images.specs.Imaging.type_bytes Rattle.pattern_images.specs.Imaging.pattern_bytes Rattle.pattern_images.specs.Imaging.binding_bytes Rattle.pattern_images.specs.Imaging.tables_with Rattle.pattern_images.specs.Imaging.behind_length Rattle.pattern_images.specs.Imaging.image_with Rattle.pattern_images.specs.Imaging.derefs_within Rattle.pattern_images.specs.Imaging.within_image_limits Rattle.pattern_reading.specs.Reads.outcome Rattle.pattern_reading.specs.Reads.imaged Rattle.pattern_reading.specs.Reads.unless_refused Rattle.pattern_reading.specs.Reads.read_typed Rattle.pattern_reading.specs.Reads.read_tree Rattle.pattern_reading.specs.Reads.after_parsing Rattle.pattern_reading.specs.Reads.read_pattern
as_judged_whole3 = refl
