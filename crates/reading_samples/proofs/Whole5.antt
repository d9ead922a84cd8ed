-- Texts read over sheets and name tables: the definitions, computed. Assumes nothing.
use Prim.Native.Nat.{ℕ, ◌+◌, ◌*◌, ◌%◌}
use mathlib.Core.Path.{◌≡◌, refl}
use mathlib.Core.List.{List, [], ◌∷◌, map}
use Rattle.text_chars.specs.Bytes.{ascii}
use Rattle.reading_samples.proofs.Tables.{Row, row, given_whole, wants, total, told, types_told, patterns_told, bindings_told, draft_told, drafted, answered, names16, names7, sheet42, sheet43, sheet44, sheet45, sheet46, sheet47, sheet6}

unfoldable pub rows_whole5 : List Row
rows_whole5 =
    row (ascii "(x)") sheet6 names7 2 (1 ∷ 242 ∷ 1546563098967261085 ∷ [])
    ∷ row (ascii "(x, ref mut y)") sheet6 names7 3 (1 ∷ 278 ∷ 1166635550255602162 ∷ [])
    ∷ row (ascii "(x, ref y) | (ref y, x)") sheet6 names7 3 (1 ∷ 342 ∷ 179375135676382972 ∷ [])
    ∷ row (ascii "(..)") sheet6 names7 3 (1 ∷ 238 ∷ 73724851250272462 ∷ [])
    ∷ row (ascii "(.., x)") sheet6 names7 3 (1 ∷ 258 ∷ 1071328849978433680 ∷ [])
    ∷ row (ascii "(x, y, ..)") sheet6 names7 3 (1 ∷ 278 ∷ 2019860515437710860 ∷ [])
    ∷ row (ascii "(x, .., y, z)") sheet6 names7 3 (1 ∷ 298 ∷ 1508788853198720224 ∷ [])
    ∷ row (ascii "(x)") sheet6 names7 3 (1 ∷ 242 ∷ 541902381338090573 ∷ [])
    ∷ row (ascii "(x,)") sheet6 names7 3 (1 ∷ 258 ∷ 441662202310998425 ∷ [])
    ∷ row (ascii "x @ (y, z)") sheet6 names7 3 (1 ∷ 296 ∷ 648525025395989561 ∷ [])
    ∷ row (ascii "[x, ..]") sheet6 names7 6 (1 ∷ 272 ∷ 1317988451414219429 ∷ [])
    ∷ row (ascii "[x, y @ ..]") sheet6 names7 6 (1 ∷ 300 ∷ 1259011122770277672 ∷ [])
    ∷ row (ascii "[ref y @ .., x]") sheet6 names7 6 (1 ∷ 310 ∷ 1899083276145174700 ∷ [])
    ∷ row (ascii "[y @ .., a, b, c]") sheet6 names7 6 (1 ∷ 340 ∷ 394887236461824011 ∷ [])
    ∷ row (ascii "[y @ .., a, b, c, d]") sheet6 names7 6 (0 ∷ 20 ∷ 1 ∷ [])
    ∷ row (ascii "[a, b, c, d, e]") sheet6 names7 6 (1 ∷ 338 ∷ 1167145536799751866 ∷ [])
    ∷ row (ascii "[]") sheet6 names7 7 (1 ∷ 238 ∷ 89287276978726992 ∷ [])
    ∷ row (ascii "[x @ ..]") sheet6 names7 7 (1 ∷ 270 ∷ 709033888271871705 ∷ [])
    ∷ row (ascii "[ref x @ .., y]") sheet6 names7 7 (1 ∷ 300 ∷ 219365034938703567 ∷ [])
    ∷ row (ascii "[A @ ..]") sheet6 names7 7 (0 ∷ 20 ∷ 1 ∷ [])
    ∷ row (ascii "true | false") sheet6 names7 8 (1 ∷ 284 ∷ 634301637696953368 ∷ [])
    ∷ row (39 ∷ 92 ∷ 117 ∷ 123 ∷ 49 ∷ 70 ∷ 54 ∷ 65 ∷ 57 ∷ 125 ∷ 39 ∷ []) sheet6 names7 8 (1 ∷ 248 ∷ 148096693586844770 ∷ [])
    ∷ row (ascii "'z'..=true") sheet6 names7 8 (1 ∷ 255 ∷ 2106736164220562638 ∷ [])
    ∷ row (ascii "ref x") sheet42 names7 3 (1 ∷ 282 ∷ 1183891875092229496 ∷ [])
    ∷ row (ascii "[_, x @ .., _]") sheet42 names7 6 (1 ∷ 332 ∷ 2125486431110461776 ∷ [])
    ∷ row (ascii "[x @ .., _]") sheet42 names7 6 (1 ∷ 326 ∷ 357079018748373271 ∷ [])
    ∷ row (ascii "(x, y)") sheet42 names7 10 (1 ∷ 308 ∷ 89457981928098324 ∷ [])
    ∷ row (ascii "(x, mut y)") sheet42 names7 12 (1 ∷ 308 ∷ 810282317116933957 ∷ [])
    ∷ row (ascii "&(x, y)") sheet42 names7 10 (0 ∷ 20 ∷ 1 ∷ [])
    ∷ row (ascii "&mut (x, y)") sheet42 names7 10 (1 ∷ 322 ∷ 1269116963314968974 ∷ [])
    ∷ row (ascii "(x, _)") sheet43 names7 13 (1 ∷ 334 ∷ 868058846913482877 ∷ [])
    ∷ row (ascii "(x, ref mut y)") sheet43 names7 14 (1 ∷ 338 ∷ 35007251874891754 ∷ [])
    ∷ row (ascii "&(x, &mut &y)") sheet43 names7 14 (0 ∷ 20 ∷ 10 ∷ [])
    ∷ row (ascii "&&mut (x, y)") sheet43 names7 14 (1 ∷ 366 ∷ 247564239901161337 ∷ [])
    ∷ row (ascii "(_, x @ (y, z))") sheet44 names7 17 (1 ∷ 422 ∷ 1392679464323187827 ∷ [])
    ∷ row (ascii "(_, mut x @ (y, ref z))") sheet44 names7 17 (1 ∷ 412 ∷ 840647426676092338 ∷ [])
    ∷ row (ascii "(x, _)") sheet44 names7 15 (1 ∷ 358 ∷ 2155073450097722941 ∷ [])
    ∷ row (ascii "x") sheet44 names7 11 (1 ∷ 326 ∷ 40849607955738192 ∷ [])
    ∷ row (ascii "7") sheet45 names16 16 (1 ∷ 223 ∷ 915422327840711107 ∷ [])
    ∷ row (ascii "x") sheet45 names16 16 (1 ∷ 205 ∷ 482499692280548469 ∷ [])
    ∷ row (ascii "7") sheet46 names16 17 (0 ∷ 1 ∷ 65535 ∷ [])
    ∷ row (ascii "x") sheet46 names16 17 (1 ∷ 215 ∷ 1001743477051479135 ∷ [])
    ∷ row (ascii "7") sheet47 names16 2 (0 ∷ 1 ∷ 65535 ∷ [])
    ∷ row (ascii "()") sheet47 names16 2 (0 ∷ 1 ∷ 65535 ∷ [])
    ∷ row (ascii "(x,)") sheet47 names16 2 (0 ∷ 20 ∷ 1 ∷ [])
    ∷ row (ascii "[..]") sheet47 names16 2 (0 ∷ 1 ∷ 65535 ∷ [])
    ∷ row (ascii "[x @ ..]") sheet47 names16 2 (0 ∷ 20 ∷ 1 ∷ [])
    ∷ row (ascii "&x") sheet47 names16 2 (1 ∷ 79 ∷ 1283683058849958893 ∷ [])
    ∷ row (ascii "x") sheet47 names16 2 (1 ∷ 65 ∷ 1358083085988398096 ∷ [])
    ∷ []

pub as_judged_whole5 : map given_whole rows_whole5 ≡ map wants rows_whole5
unfolding rows_whole5 total told types_told patterns_told bindings_told draft_told drafted answered Rattle.image.specs.Bytes.word_at Rattle.image.specs.Bytes.little_endian Rattle.image.specs.Rows.type_at Rattle.image.specs.Rows.variant_at Rattle.image.specs.Rows.pat_at Rattle.image.specs.Rows.binding_at Rattle.image.specs.Rows.list_at Rattle.image.specs.Rows.operand_at Rattle.image.specs.Rows.operand_bytes Rattle.image.specs.Lists.all_below Rattle.image.specs.Lists.all_in Rattle.image.specs.Lists.all_true Rattle.image.specs.Lists.member Rattle.image.specs.Lists.distinct Rattle.image.specs.Lists.up_from Rattle.image.specs.Lists.gather Rattle.image.specs.Operands.is_scalar_value Rattle.image.specs.Operands.operand_value_holds Rattle.image.specs.Operands.operand_holds Rattle.image.specs.Rules.counts_what_follows Rattle.image.specs.Rules.version_is_one Rattle.image.specs.Rules.tables_fill_the_rest Rattle.image.specs.Rules.listed Rattle.image.specs.Rules.types_listed Rattle.image.specs.Rules.is_integer_size Rattle.image.specs.Rules.adt_may_have Rattle.image.specs.Rules.type_shape_holds Rattle.image.specs.Rules.type_holds Rattle.image.specs.Rules.variants_by Rattle.image.specs.Rules.adts_share_no_variant Rattle.image.specs.Rules.variant_holds Rattle.image.specs.Rules.binding_holds Rattle.image.specs.Rules.within_limits Rattle.image.specs.Subpatterns.if_present Rattle.image.specs.Subpatterns.subpatterns_by Rattle.image.specs.Patterns.path_holds Rattle.image.specs.Patterns.pattern_shape_holds Rattle.image.specs.Patterns.pattern_holds Rattle.image.specs.Patterns.subpatterns_below Rattle.image.specs.Patterns.used_once Rattle.text_chars.specs.Bytes.ascii Rattle.text_chars.specs.Bytes.run Rattle.text_chars.specs.Scalars.is_tail Rattle.text_chars.specs.Scalars.shortest_form Rattle.text_chars.specs.Scalars.scalar_from Rattle.text_chars.specs.Scalars.scalar_of Rattle.text_chars.specs.Scalars.is_utf8 Rattle.text_chars.specs.Gaps.whitespace Rattle.text_chars.specs.Gaps.is_whitespace Rattle.text_chars.specs.Gaps.in_line Rattle.text_chars.specs.Gaps.is_line_doc Rattle.text_chars.specs.Gaps.is_block_doc Rattle.text_chars.specs.Gaps.opens Rattle.text_chars.specs.Gaps.closes Rattle.text_chars.specs.Gaps.depth_behind Rattle.text_chars.specs.Gaps.unpaired Rattle.text_chars.specs.Gaps.block_from Rattle.text_chars.specs.Gaps.in_utf8 Rattle.text_chars.specs.Gaps.line_gap Rattle.text_chars.specs.Gaps.block_gap Rattle.text_chars.specs.Gaps.comment_of Rattle.text_chars.specs.Gaps.gap_of Rattle.text_chars.specs.Gaps.start_from Rattle.pattern_words.specs.Words.is_between Rattle.pattern_words.specs.Words.is_digit Rattle.pattern_words.specs.Words.is_letter Rattle.pattern_words.specs.Words.begins_word Rattle.pattern_words.specs.Words.in_word Rattle.pattern_words.specs.Words.same_word Rattle.pattern_words.specs.Words.is_one_of Rattle.pattern_words.specs.Words.keywords Rattle.pattern_words.specs.Words.never_raw Rattle.pattern_words.specs.Words.word_of Rattle.pattern_words.specs.Words.ends_prefix Rattle.pattern_words.specs.Words.is_raw Rattle.pattern_words.specs.Words.raw_piece Rattle.pattern_words.specs.Words.plain_piece Rattle.pattern_words.specs.Words.word_piece Rattle.pattern_tokens.specs.Literals.in_integer Rattle.pattern_tokens.specs.Literals.goes_on Rattle.pattern_tokens.specs.Literals.integer_of Rattle.pattern_tokens.specs.Literals.integer_piece Rattle.pattern_tokens.specs.Literals.hex_digit Rattle.pattern_tokens.specs.Literals.simple_escape Rattle.pattern_tokens.specs.Literals.byte_escape Rattle.pattern_tokens.specs.Literals.escaped Rattle.pattern_tokens.specs.Literals.unicode_from Rattle.pattern_tokens.specs.Literals.escape_of Rattle.pattern_tokens.specs.Literals.plain_char Rattle.pattern_tokens.specs.Literals.char_of Rattle.pattern_tokens.specs.Literals.is_suffix Rattle.pattern_tokens.specs.Literals.closed_char Rattle.pattern_tokens.specs.Literals.char_piece Rattle.pattern_tokens.specs.Tokens.begins Rattle.pattern_tokens.specs.Tokens.punctuation Rattle.pattern_tokens.specs.Tokens.first_where Rattle.pattern_tokens.specs.Tokens.piece_of Rattle.pattern_tokens.specs.Tokens.token_from Rattle.pattern_tokens.specs.Tokens.token_behind Rattle.pattern_tokens.specs.Tokens.token_at Rattle.decimal_values.specs.Values.decimal_from Rattle.decimal_values.specs.Values.in_halves Rattle.decimal_values.specs.Values.integer_value Rattle.pattern_grammar.specs.Lexemes.lexeme_at Rattle.pattern_grammar.specs.Lexemes.of_kind Rattle.pattern_grammar.specs.Lexemes.lexeme Rattle.pattern_grammar.specs.Lexemes.over Rattle.pattern_grammar.specs.Lexemes.wide Rattle.pattern_grammar.specs.Trees.closer Rattle.pattern_grammar.specs.Admitted.path_at Rattle.pattern_grammar.specs.Admitted.literal_at Rattle.pattern_grammar.specs.Admitted.bound_at Rattle.pattern_grammar.specs.Admitted.upward_at Rattle.pattern_grammar.specs.Admitted.open_at Rattle.pattern_grammar.specs.Admitted.when_strict Rattle.pattern_grammar.specs.Admitted.open_item_at Rattle.pattern_grammar.specs.Admitted.fits_rest Rattle.pattern_grammar.specs.Admitted.behind_name Rattle.pattern_grammar.specs.Admitted.behind_bar Rattle.pattern_grammar.specs.Admitted.list_room Rattle.pattern_grammar.specs.Admitted.is_rest_alt Rattle.pattern_grammar.specs.Admitted.is_rest_plain Rattle.pattern_grammar.specs.Admitted.is_rest Rattle.pattern_grammar.specs.Admitted.has_rest Rattle.pattern_grammar.specs.Admitted.item_room Rattle.pattern_grammar.specs.Admitted.second Rattle.pattern_grammar.specs.Admitted.is_mut_first Rattle.pattern_grammar.specs.Admitted.begins_mut Rattle.pattern_grammar.specs.Admitted.mut_is_own Rattle.pattern_grammar.specs.Admitted.literal_fits Rattle.pattern_grammar.specs.Admitted.bound_fits Rattle.pattern_grammar.specs.Admitted.key_fits Rattle.pattern_grammar.specs.Admitted.is_none Rattle.pattern_grammar.specs.Admitted.pattern_ok Rattle.pattern_grammar.specs.Admitted.alt_ok Rattle.pattern_grammar.specs.Admitted.plain_ok Rattle.pattern_grammar.specs.Admitted.items_ok Rattle.pattern_grammar.specs.Admitted.fields_ok Rattle.pattern_grammar.specs.Admitted.field_ok Rattle.pattern_grammar.specs.Admitted.admitted Rattle.pattern_grammar.specs.Machine.range_of Rattle.pattern_grammar.specs.Machine.close_alt Rattle.pattern_grammar.specs.Machine.close_plain Rattle.pattern_grammar.specs.Machine.room_in Rattle.pattern_grammar.specs.Machine.room_behind Rattle.pattern_grammar.specs.Machine.room_of Rattle.pattern_grammar.specs.Machine.ranged Rattle.pattern_grammar.specs.Machine.dots_in Rattle.pattern_grammar.specs.Machine.rest_stands Rattle.pattern_grammar.specs.Machine.fitting Rattle.pattern_grammar.specs.Machine.unless_open Rattle.pattern_grammar.specs.Machine.starts Rattle.pattern_grammar.specs.Machine.bounds Rattle.pattern_grammar.specs.Machine.behind Rattle.pattern_grammar.specs.Machine.ends Rattle.pattern_grammar.specs.Machine.named_in Rattle.pattern_grammar.specs.Machine.path_in Rattle.pattern_grammar.specs.Machine.negative_in Rattle.pattern_grammar.specs.Machine.behind_path Rattle.pattern_grammar.specs.Machine.behind_field Rattle.pattern_grammar.specs.Machine.on_mark Rattle.pattern_grammar.specs.Machine.on_name Rattle.pattern_grammar.specs.Machine.on_char Rattle.pattern_grammar.specs.Machine.step Rattle.pattern_grammar.specs.Machine.feed Rattle.pattern_grammar.specs.Machine.is_failed Rattle.pattern_grammar.specs.Parsed.is_last Rattle.pattern_grammar.specs.Parsed.lexemes_from Rattle.pattern_grammar.specs.Parsed.lexemes Rattle.pattern_grammar.specs.Parsed.parsed Rattle.pattern_syntax.specs.Written.part_count Rattle.pattern_syntax.specs.Written.beginning Rattle.pattern_syntax.specs.Written.begun_at Rattle.pattern_syntax.specs.Reduced.bytes_from Rattle.pattern_syntax.specs.Reduced.ident_bytes Rattle.pattern_syntax.specs.Reduced.path_bytes Rattle.pattern_syntax.specs.Reduced.key_name Rattle.pattern_syntax.specs.Reduced.literal_value Rattle.pattern_syntax.specs.Reduced.bound_in Rattle.pattern_syntax.specs.Reduced.dots_at Rattle.pattern_syntax.specs.Reduced.is_exclusive Rattle.pattern_syntax.specs.Reduced.is_there Rattle.pattern_syntax.specs.Reduced.first_place Rattle.pattern_syntax.specs.Reduced.bound_name_at Rattle.pattern_syntax.specs.Reduced.written_ident Rattle.pattern_syntax.specs.Reduced.written_reference Rattle.pattern_syntax.specs.Reduced.head_at Rattle.pattern_syntax.specs.Reduced.list_node Rattle.pattern_syntax.specs.Reduced.item_count Rattle.pattern_syntax.specs.Reduced.or_else Rattle.pattern_syntax.specs.Reduced.before_rest Rattle.pattern_syntax.specs.Reduced.is_part Rattle.pattern_syntax.specs.Reduced.is_group Rattle.pattern_syntax.specs.Reduced.first_beginning Rattle.pattern_syntax.specs.Reduced.one_of Rattle.pattern_syntax.specs.Reduced.alternatives Rattle.pattern_syntax.specs.Reduced.written_alt Rattle.pattern_syntax.specs.Reduced.written_plain Rattle.pattern_syntax.specs.Reduced.written_items Rattle.pattern_syntax.specs.Reduced.written_fields Rattle.pattern_syntax.specs.Reduced.written_field_of Rattle.pattern_syntax.specs.Reduced.reduced Rattle.name_tables.specs.Names.name_row_at Rattle.name_tables.specs.Names.row_name Rattle.name_tables.specs.Names.name_frame_holds Rattle.name_tables.specs.Names.names_something Rattle.name_tables.specs.Names.name_row_holds Rattle.name_tables.specs.Names.names_hold Rattle.name_tables.specs.Names.first_from Rattle.name_tables.specs.Names.serves Rattle.name_tables.specs.Names.is_named Rattle.name_tables.specs.Names.row_for Rattle.type_sheets.specs.Sheets.within_sheet_limits Rattle.type_sheets.specs.Sheets.sheet_holds Rattle.pattern_typing.specs.Crossing.is_written_as Rattle.pattern_typing.specs.Crossing.behind_reference Rattle.pattern_typing.specs.Crossing.cross_one Rattle.pattern_typing.specs.Crossing.cross_up_to Rattle.pattern_typing.specs.Crossing.crossed Rattle.pattern_typing.specs.Crossing.tuple_fields Rattle.pattern_typing.specs.Crossing.has_variant_of Rattle.pattern_typing.specs.Crossing.variant_fields_of Rattle.pattern_typing.specs.Contexts.field_context Rattle.pattern_typing.specs.Contexts.stands_before Rattle.pattern_typing.specs.Contexts.argument_context Rattle.pattern_typing.specs.Contexts.is_rest_item Rattle.pattern_typing.specs.Contexts.item_context Rattle.pattern_typing.specs.Contexts.target_context Rattle.pattern_typing.specs.Contexts.part_context Rattle.pattern_typing.specs.Making.or_absent Rattle.pattern_typing.specs.Resolving.where_named Rattle.pattern_typing.specs.Resolving.path_made Rattle.pattern_typing.specs.Resolving.resolved_path Rattle.pattern_typing.specs.Resolving.mode_of Rattle.pattern_typing.specs.Resolving.annotation_of Rattle.pattern_typing.specs.Resolving.resolved_ident Rattle.pattern_typing.specs.Resolving.rest_bound_at Rattle.pattern_typing.specs.Resolving.rest_holds Rattle.pattern_typing.specs.Resolving.resolved_bound_rest Rattle.pattern_typing.specs.Resolving.resolved_rest Rattle.pattern_typing.specs.Resolving.binds_in Rattle.pattern_typing.specs.Resolving.field_name Rattle.pattern_typing.specs.Resolving.tuple_struct_as Rattle.pattern_typing.specs.Resolving.record_as Rattle.pattern_typing.specs.Resolving.resolved_node Rattle.pattern_typing.specs.Resolving.resolved_field Rattle.pattern_typing.specs.Resolving.resolved Rattle.pattern_typing.specs.Failing.lower Rattle.pattern_typing.specs.Failing.earlier Rattle.pattern_typing.specs.Failing.refused_in Rattle.pattern_typing.specs.Failing.refused_among Rattle.pattern_images.specs.Drafts.add_type Rattle.pattern_images.specs.Drafts.add_pattern Rattle.pattern_images.specs.Drafts.add_binding Rattle.pattern_images.specs.Drafts.add_words Rattle.pattern_images.specs.Drafts.add_bytes Rattle.pattern_images.specs.Drafts.little_endian_bytes Rattle.pattern_images.specs.Drafts.operand_kind_of Rattle.pattern_images.specs.Drafts.literal_bytes Rattle.pattern_images.specs.Drafts.add_operand Rattle.pattern_images.specs.Drafts.type_in Rattle.pattern_images.specs.Drafts.alike Rattle.pattern_images.specs.Drafts.like_in Rattle.pattern_images.specs.Drafts.add_unless Rattle.pattern_images.specs.Drafts.number_or Rattle.pattern_images.specs.Drafts.binding_for Rattle.pattern_images.specs.Emitting.list_from Rattle.pattern_images.specs.Emitting.with_bound_at Rattle.pattern_images.specs.Emitting.bound_type Rattle.pattern_images.specs.Emitting.with_mode Rattle.pattern_images.specs.Emitting.mode_type Rattle.pattern_images.specs.Emitting.new_binding Rattle.pattern_images.specs.Emitting.with_binding Rattle.pattern_images.specs.Emitting.binding_number Rattle.pattern_images.specs.Emitting.item_words Rattle.pattern_images.specs.Emitting.prefix_count Rattle.pattern_images.specs.Emitting.suffix_count Rattle.pattern_images.specs.Emitting.rest_word Rattle.pattern_images.specs.Emitting.emit_node Rattle.pattern_images.specs.Emitting.emitted Rattle.pattern_images.specs.Emitting.emitted_parts Rattle.pattern_images.specs.Imaging.word_bytes Rattle.pattern_images.specs.Imaging.words_bytes Rattle.pattern_images.specs.Imaging.long_bytes Rattle.pattern_images.specs.Imaging.type_bytes Rattle.pattern_images.specs.Imaging.pattern_bytes Rattle.pattern_images.specs.Imaging.binding_bytes Rattle.pattern_images.specs.Imaging.tables_with Rattle.pattern_images.specs.Imaging.behind_length Rattle.pattern_images.specs.Imaging.image_with Rattle.pattern_images.specs.Imaging.derefs_within Rattle.pattern_images.specs.Imaging.within_image_limits Rattle.pattern_reading.specs.Reads.outcome Rattle.pattern_reading.specs.Reads.imaged Rattle.pattern_reading.specs.Reads.unless_refused Rattle.pattern_reading.specs.Reads.read_typed Rattle.pattern_reading.specs.Reads.read_tree Rattle.pattern_reading.specs.Reads.after_parsing Rattle.pattern_reading.specs.Reads.read_pattern
as_judged_whole5 = refl
