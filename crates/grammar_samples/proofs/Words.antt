-- Texts of single tokens, alternatives, names, paths and literals: the definitions, computed. Assumes nothing.
use mathlib.Core.Path.{◌≡◌, refl}
use mathlib.Core.List.{List, [], ◌∷◌, map}
use Rattle.image.specs.Lists.{member}
use Rattle.text_chars.specs.Bytes.{ascii, run}
use Rattle.image.specs.Operands.{is_scalar_value}
use Rattle.text_chars.specs.Scalars.{is_tail, shortest_form, scalar_from, scalar_of, is_utf8}
use Rattle.text_chars.specs.Gaps.{whitespace, is_whitespace, in_line, is_line_doc, is_block_doc, opens, closes, depth_behind, unpaired, block_from, in_utf8, line_gap, block_gap, comment_of, gap_of, start_from}
use Rattle.pattern_words.specs.Words.{is_between, is_digit, is_letter, begins_word, in_word, same_word, is_one_of, keywords, never_raw, word_of, ends_prefix, is_raw, raw_piece, plain_piece, word_piece}
use Rattle.pattern_tokens.specs.Literals.{in_integer, goes_on, integer_of, integer_piece, hex_digit, simple_escape, byte_escape, escaped, unicode_from, escape_of, plain_char, char_of, is_suffix, closed_char, char_piece}
use Rattle.pattern_tokens.specs.Tokens.{begins, punctuation, first_where, piece_of, token_from, token_behind, token_at}
use Rattle.decimal_values.specs.Values.{decimal_from, in_halves, integer_value}
use Rattle.pattern_grammar.specs.Lexemes.{of_kind, lexeme, over, wide}
use Rattle.pattern_grammar.specs.Trees.{closer}
use Rattle.pattern_grammar.specs.Admitted.{path_at, literal_at, bound_at, upward_at, open_at, when_strict, open_item_at, fits_rest, behind_name, behind_bar, list_room, is_rest_alt, is_rest_plain, is_rest, has_rest, item_room}
use Rattle.pattern_grammar.specs.Machine.{range_of, close_alt, close_plain, room_in, room_behind, room_of, ranged, dots_in, rest_stands, fitting, unless_open, starts, bounds, behind, ends, named_in, path_in, negative_in, behind_path, behind_field, on_mark, on_name, on_char, step, feed}
use Rattle.pattern_grammar.specs.Parsed.{is_last, lexemes_from, lexemes, parsed}
use Rattle.grammar_samples.proofs.Outlines.{Row, row, given, wants, given01, flags, literal_to, is_inclusive, key_at, count_items, count_fields, ampersand_o, head_o, is_lone, pattern_o, alt_o, plain_o, items_o, fields_o, field_o, answer_of}

-- tokens, and where a text ends (patterns.syntax)
unfoldable pub ends_rows : List Row
ends_rows =
    row (ascii "") (0 ∷ 0 ∷ [])
    ∷ row (ascii " ") (0 ∷ 1 ∷ [])
    ∷ row (ascii " /* a /* b */ c */ 7 // d") (1 ∷ 2 ∷ 19 ∷ 20 ∷ [])
    ∷ row (ascii "7 /** doc */") (0 ∷ 2 ∷ [])
    ∷ row ((0x37 ∷ 0x20 ∷ 0x2F ∷ 0x2F ∷ 0x20 ∷ 0x47 ∷ 0x72 ∷ 0xC3 ∷ 0xB6 ∷ 0xC3 ∷ 0x9F ∷ 0x65 ∷ [])) (1 ∷ 2 ∷ 0 ∷ 1 ∷ [])
    ∷ row ((0x37 ∷ 0xC3 ∷ 0xA9 ∷ [])) (0 ∷ 1 ∷ [])
    ∷ row ((0x78 ∷ 0xC3 ∷ 0xA9 ∷ [])) (0 ∷ 1 ∷ [])
    ∷ row (ascii "007") (1 ∷ 2 ∷ 0 ∷ 3 ∷ [])
    ∷ row (ascii "1.") (0 ∷ 0 ∷ [])
    ∷ row (ascii "1 . . 2") (0 ∷ 2 ∷ [])
    ∷ row (ascii "'\\x80'") (0 ∷ 0 ∷ [])
    ∷ row (ascii "''") (0 ∷ 0 ∷ [])
    ∷ row (ascii "'") (0 ∷ 0 ∷ [])
    ∷ row (ascii "'a'_") (0 ∷ 3 ∷ [])
    ∷ row (ascii "b'a'") (0 ∷ 0 ∷ [])
    ∷ row (ascii "r#x") (1 ∷ 3 ∷ 2 ∷ 0 ∷ [])
    ∷ row (ascii "gen") (1 ∷ 3 ∷ 0 ∷ 0 ∷ [])
    ∷ row (ascii "__") (1 ∷ 3 ∷ 0 ∷ 0 ∷ [])
    ∷ row (ascii "A!()") (0 ∷ 1 ∷ [])
    ∷ row (ascii "x |") (0 ∷ 3 ∷ [])
    ∷ row (ascii "x | ") (0 ∷ 4 ∷ [])
    ∷ row (ascii "x  ") (1 ∷ 3 ∷ 0 ∷ 0 ∷ [])
    ∷ row (ascii "x x") (0 ∷ 2 ∷ [])
    ∷ row (ascii "_ _") (0 ∷ 2 ∷ [])
    ∷ row (ascii "7 7") (0 ∷ 2 ∷ [])
    ∷ row (ascii "'a' 'b'") (0 ∷ 4 ∷ [])
    ∷ row (ascii "true false") (0 ∷ 5 ∷ [])
    ∷ row (ascii ")") (0 ∷ 0 ∷ [])
    ∷ row (ascii "]") (0 ∷ 0 ∷ [])
    ∷ row (ascii "}") (0 ∷ 0 ∷ [])
    ∷ row (ascii ",") (0 ∷ 0 ∷ [])
    ∷ row (ascii "(") (0 ∷ 1 ∷ [])
    ∷ row (ascii "[") (0 ∷ 1 ∷ [])
    ∷ row (ascii "x (") (0 ∷ 3 ∷ [])
    ∷ row (ascii "x {") (0 ∷ 3 ∷ [])
    ∷ row (ascii "{") (0 ∷ 0 ∷ [])
    ∷ row (ascii "{}") (0 ∷ 0 ∷ [])
    ∷ row (ascii "x}") (0 ∷ 1 ∷ [])
    ∷ row (ascii "x)") (0 ∷ 1 ∷ [])
    ∷ row (ascii "x]") (0 ∷ 1 ∷ [])
    ∷ row (ascii "x,") (0 ∷ 1 ∷ [])
    ∷ row (ascii "#") (0 ∷ 0 ∷ [])
    ∷ row (ascii "x#") (0 ∷ 0 ∷ [])
    ∷ row (ascii "x::") (0 ∷ 3 ∷ [])
    ∷ row (ascii "x ::") (0 ∷ 4 ∷ [])
    ∷ row (ascii ":") (0 ∷ 0 ∷ [])
    ∷ row (ascii "::x") (0 ∷ 0 ∷ [])
    ∷ row (ascii "@") (0 ∷ 0 ∷ [])
    ∷ row (ascii "self") (0 ∷ 0 ∷ [])
    ∷ row (ascii "crate::x") (0 ∷ 0 ∷ [])
    ∷ row (ascii "x::self") (0 ∷ 3 ∷ [])
    ∷ row (ascii "Self") (0 ∷ 0 ∷ [])
    ∷ row (ascii "<x>::y") (0 ∷ 0 ∷ [])
    ∷ row (ascii "x::<y>") (0 ∷ 3 ∷ [])
    ∷ row (ascii "x<y>") (0 ∷ 1 ∷ [])
    ∷ row (ascii "\"a\"") (0 ∷ 0 ∷ [])
    ∷ row (ascii "1u8") (0 ∷ 0 ∷ [])
    ∷ row (ascii "0x1") (0 ∷ 0 ∷ [])
    ∷ row (ascii "1e3") (0 ∷ 0 ∷ [])
    ∷ row (ascii "1.5") (0 ∷ 0 ∷ [])
    ∷ row (ascii "...") (0 ∷ 0 ∷ [])
    ∷ row (ascii "1...2") (0 ∷ 1 ∷ [])
    ∷ row (ascii "box x") (0 ∷ 0 ∷ [])
    ∷ row (ascii "const") (0 ∷ 0 ∷ [])
    ∷ row (ascii "= 1") (0 ∷ 0 ∷ [])
    ∷ row (ascii "x = 1") (0 ∷ 2 ∷ [])
    ∷ row (ascii "x if y") (0 ∷ 2 ∷ [])
    ∷ row (ascii "x =>") (0 ∷ 2 ∷ [])
    ∷ row (ascii "& |") (0 ∷ 2 ∷ [])
    ∷ []

pub ends_hold : map given ends_rows ≡ map wants ends_rows
unfolding ends_rows ascii run is_scalar_value is_tail shortest_form scalar_from scalar_of is_utf8 whitespace in_line is_line_doc is_block_doc opens closes depth_behind unpaired block_from in_utf8 line_gap block_gap comment_of gap_of start_from member is_whitespace is_between is_digit is_letter begins_word in_word same_word is_one_of keywords never_raw word_of ends_prefix is_raw raw_piece plain_piece word_piece in_integer goes_on integer_of integer_piece hex_digit simple_escape byte_escape escaped unicode_from escape_of plain_char char_of is_suffix closed_char char_piece begins punctuation first_where piece_of token_from token_behind token_at decimal_from in_halves integer_value of_kind lexeme over wide closer path_at literal_at bound_at upward_at open_at when_strict open_item_at fits_rest behind_name behind_bar list_room is_rest_alt is_rest_plain is_rest has_rest item_room range_of close_alt close_plain room_in room_behind room_of ranged dots_in rest_stands fitting unless_open starts bounds behind ends named_in path_in negative_in behind_path behind_field on_mark on_name on_char step feed is_last lexemes_from lexemes parsed given01 flags literal_to is_inclusive key_at count_items count_fields ampersand_o head_o is_lone pattern_o alt_o plain_o items_o fields_o field_o answer_of
ends_hold = refl

-- patterns.syntax, patterns.or
unfoldable pub alternatives_rows : List Row
alternatives_rows =
    row (ascii "|| 1") (0 ∷ 0 ∷ [])
    ∷ row (ascii "a || b") (0 ∷ 2 ∷ [])
    ∷ row (ascii "| x") (1 ∷ 3 ∷ 2 ∷ 0 ∷ 20 ∷ 0 ∷ [])
    ∷ row (ascii "| | x") (0 ∷ 2 ∷ [])
    ∷ row (ascii "x | | y") (0 ∷ 4 ∷ [])
    ∷ row (ascii "x |") (0 ∷ 3 ∷ [])
    ∷ row (ascii "|") (0 ∷ 1 ∷ [])
    ∷ row (ascii "(1 | 2) | 3") (1 ∷ 2 ∷ 1 ∷ 2 ∷ 2 ∷ 5 ∷ 6 ∷ 19 ∷ 10 ∷ 0 ∷ 1 ∷ 2 ∷ 10 ∷ 11 ∷ 19 ∷ [])
    ∷ row (ascii "1 | (2 | 3)") (1 ∷ 2 ∷ 0 ∷ 1 ∷ 2 ∷ 5 ∷ 6 ∷ 2 ∷ 9 ∷ 10 ∷ 19 ∷ 10 ∷ 4 ∷ 1 ∷ 19 ∷ [])
    ∷ row (ascii "1|2|3|4") (1 ∷ 2 ∷ 0 ∷ 1 ∷ 2 ∷ 2 ∷ 3 ∷ 19 ∷ 2 ∷ 4 ∷ 5 ∷ 19 ∷ 2 ∷ 6 ∷ 7 ∷ 19 ∷ [])
    ∷ row (ascii "x @ a | b") (1 ∷ 3 ∷ 4 ∷ 0 ∷ 4 ∷ 0 ∷ 0 ∷ 3 ∷ 8 ∷ 0 ∷ 19 ∷ [])
    ∷ row (ascii "x @ | a") (0 ∷ 4 ∷ [])
    ∷ row (ascii "x @ (a | b)") (1 ∷ 3 ∷ 5 ∷ 0 ∷ 3 ∷ 9 ∷ 0 ∷ 19 ∷ 10 ∷ 4 ∷ 1 ∷ 4 ∷ 0 ∷ 0 ∷ [])
    ∷ row (ascii "&a | b") (1 ∷ 3 ∷ 1 ∷ 0 ∷ 6 ∷ 0 ∷ 0 ∷ 3 ∷ 5 ∷ 0 ∷ 19 ∷ [])
    ∷ row (ascii "&| a") (0 ∷ 1 ∷ [])
    ∷ row (ascii "&(a | b)") (1 ∷ 3 ∷ 2 ∷ 0 ∷ 3 ∷ 6 ∷ 0 ∷ 19 ∷ 10 ∷ 1 ∷ 1 ∷ 6 ∷ 0 ∷ 0 ∷ [])
    ∷ row (ascii "(|") (0 ∷ 2 ∷ [])
    ∷ row (ascii "(|)") (0 ∷ 2 ∷ [])
    ∷ row (ascii "(| a)") (1 ∷ 3 ∷ 3 ∷ 0 ∷ 20 ∷ 1 ∷ 10 ∷ 0 ∷ 1 ∷ [])
    ∷ row (ascii "(| a, | b | c)") (1 ∷ 3 ∷ 3 ∷ 0 ∷ 20 ∷ 1 ∷ 3 ∷ 8 ∷ 0 ∷ 20 ∷ 6 ∷ 3 ∷ 12 ∷ 0 ∷ 19 ∷ 9 ∷ 0 ∷ 2 ∷ [])
    ∷ row (ascii "[| a]") (1 ∷ 3 ∷ 3 ∷ 0 ∷ 20 ∷ 1 ∷ 12 ∷ 0 ∷ 1 ∷ [])
    ∷ row (ascii "[a |]") (0 ∷ 4 ∷ [])
    ∷ row (ascii "A(| a)") (1 ∷ 3 ∷ 4 ∷ 0 ∷ 20 ∷ 2 ∷ 11 ∷ 0 ∷ 1 ∷ [])
    ∷ row (ascii "A { x: | a | b }") (1 ∷ 3 ∷ 9 ∷ 0 ∷ 20 ∷ 7 ∷ 3 ∷ 13 ∷ 0 ∷ 19 ∷ 13 ∷ 4 ∷ 15 ∷ 0 ∷ 1 ∷ 0 ∷ [])
    ∷ row (ascii "A { x: | }") (0 ∷ 9 ∷ [])
    ∷ row (ascii "A { | x }") (0 ∷ 4 ∷ [])
    ∷ row (ascii "1.. | 2") (1 ∷ 17 ∷ 0 ∷ 2 ∷ 6 ∷ 7 ∷ 19 ∷ [])
    ∷ row (ascii "..1 | ..2") (1 ∷ 18 ∷ 0 ∷ 2 ∷ 18 ∷ 0 ∷ 8 ∷ 19 ∷ [])
    ∷ row (ascii "..= 1 | x") (1 ∷ 18 ∷ 1 ∷ 4 ∷ 3 ∷ 8 ∷ 0 ∷ 19 ∷ [])
    ∷ row (ascii "1..=2 | 3..=4") (1 ∷ 16 ∷ 0 ∷ 1 ∷ 4 ∷ 16 ∷ 8 ∷ 1 ∷ 12 ∷ 19 ∷ [])
    ∷ row (ascii "x | y @ z") (1 ∷ 3 ∷ 0 ∷ 0 ∷ 3 ∷ 8 ∷ 0 ∷ 4 ∷ 4 ∷ 0 ∷ 19 ∷ [])
    ∷ row (ascii "x |= y") (0 ∷ 2 ∷ [])
    ∷ row (ascii "a | b,") (0 ∷ 5 ∷ [])
    ∷ row (ascii "_ | _ | _") (1 ∷ 1 ∷ 0 ∷ 1 ∷ 4 ∷ 19 ∷ 1 ∷ 8 ∷ 19 ∷ [])
    ∷ []

pub alternatives_hold : map given alternatives_rows ≡ map wants alternatives_rows
unfolding alternatives_rows ascii run is_scalar_value is_tail shortest_form scalar_from scalar_of is_utf8 whitespace in_line is_line_doc is_block_doc opens closes depth_behind unpaired block_from in_utf8 line_gap block_gap comment_of gap_of start_from member is_whitespace is_between is_digit is_letter begins_word in_word same_word is_one_of keywords never_raw word_of ends_prefix is_raw raw_piece plain_piece word_piece in_integer goes_on integer_of integer_piece hex_digit simple_escape byte_escape escaped unicode_from escape_of plain_char char_of is_suffix closed_char char_piece begins punctuation first_where piece_of token_from token_behind token_at decimal_from in_halves integer_value of_kind lexeme over wide closer path_at literal_at bound_at upward_at open_at when_strict open_item_at fits_rest behind_name behind_bar list_room is_rest_alt is_rest_plain is_rest has_rest item_room range_of close_alt close_plain room_in room_behind room_of ranged dots_in rest_stands fitting unless_open starts bounds behind ends named_in path_in negative_in behind_path behind_field on_mark on_name on_char step feed is_last lexemes_from lexemes parsed given01 flags literal_to is_inclusive key_at count_items count_fields ampersand_o head_o is_lone pattern_o alt_o plain_o items_o fields_o field_o answer_of
alternatives_hold = refl

-- patterns.ident.syntax
unfoldable pub names_rows : List Row
names_rows =
    row (ascii "x") (1 ∷ 3 ∷ 0 ∷ 0 ∷ [])
    ∷ row (ascii "ref x") (1 ∷ 3 ∷ 4 ∷ 1 ∷ [])
    ∷ row (ascii "mut x") (1 ∷ 3 ∷ 4 ∷ 2 ∷ [])
    ∷ row (ascii "ref mut x") (1 ∷ 3 ∷ 8 ∷ 3 ∷ [])
    ∷ row (ascii "mut ref x") (0 ∷ 4 ∷ [])
    ∷ row (ascii "ref ref x") (0 ∷ 4 ∷ [])
    ∷ row (ascii "mut mut x") (0 ∷ 4 ∷ [])
    ∷ row (ascii "ref") (0 ∷ 3 ∷ [])
    ∷ row (ascii "mut") (0 ∷ 3 ∷ [])
    ∷ row (ascii "ref mut") (0 ∷ 7 ∷ [])
    ∷ row (ascii "ref _") (0 ∷ 4 ∷ [])
    ∷ row (ascii "mut _") (0 ∷ 4 ∷ [])
    ∷ row (ascii "ref 1") (0 ∷ 4 ∷ [])
    ∷ row (ascii "ref x::y") (0 ∷ 5 ∷ [])
    ∷ row (ascii "ref x(") (0 ∷ 5 ∷ [])
    ∷ row (ascii "ref x {") (0 ∷ 6 ∷ [])
    ∷ row (ascii "ref x..") (0 ∷ 5 ∷ [])
    ∷ row (ascii "mut x..=1") (0 ∷ 5 ∷ [])
    ∷ row (ascii "ref x @ 1") (1 ∷ 2 ∷ 8 ∷ 9 ∷ 4 ∷ 4 ∷ 1 ∷ [])
    ∷ row (ascii "mut x @ y") (1 ∷ 3 ∷ 8 ∷ 0 ∷ 4 ∷ 4 ∷ 2 ∷ [])
    ∷ row (ascii "ref mut x @ ref y @ _") (1 ∷ 1 ∷ 20 ∷ 4 ∷ 16 ∷ 1 ∷ 4 ∷ 8 ∷ 3 ∷ [])
    ∷ row (ascii "x @") (0 ∷ 3 ∷ [])
    ∷ row (ascii "x @ @") (0 ∷ 4 ∷ [])
    ∷ row (ascii "x @ x @ x") (1 ∷ 3 ∷ 8 ∷ 0 ∷ 4 ∷ 4 ∷ 0 ∷ 4 ∷ 0 ∷ 0 ∷ [])
    ∷ row (ascii "_ @ 1") (0 ∷ 2 ∷ [])
    ∷ row (ascii "1 @ x") (0 ∷ 2 ∷ [])
    ∷ row (ascii "x::y @ 1") (0 ∷ 5 ∷ [])
    ∷ row (ascii "x() @ 1") (0 ∷ 4 ∷ [])
    ∷ row (ascii "x {} @ 1") (0 ∷ 5 ∷ [])
    ∷ row (ascii "(x) @ 1") (0 ∷ 4 ∷ [])
    ∷ row (ascii "x @ &y") (1 ∷ 3 ∷ 5 ∷ 0 ∷ 6 ∷ 4 ∷ 0 ∷ 4 ∷ 0 ∷ 0 ∷ [])
    ∷ row (ascii "x @ (y)") (1 ∷ 3 ∷ 5 ∷ 0 ∷ 10 ∷ 4 ∷ 1 ∷ 4 ∷ 0 ∷ 0 ∷ [])
    ∷ row (ascii "x @ [y]") (1 ∷ 3 ∷ 5 ∷ 0 ∷ 12 ∷ 4 ∷ 1 ∷ 4 ∷ 0 ∷ 0 ∷ [])
    ∷ row (ascii "x @ 1..=2") (1 ∷ 16 ∷ 4 ∷ 1 ∷ 8 ∷ 4 ∷ 0 ∷ 0 ∷ [])
    ∷ row (ascii "x @ 1..") (1 ∷ 17 ∷ 4 ∷ 4 ∷ 0 ∷ 0 ∷ [])
    ∷ row (ascii "x @ ..2") (1 ∷ 18 ∷ 0 ∷ 6 ∷ 4 ∷ 0 ∷ 0 ∷ [])
    ∷ row (ascii "x @ ..=2") (1 ∷ 18 ∷ 1 ∷ 7 ∷ 4 ∷ 0 ∷ 0 ∷ [])
    ∷ row (ascii "x @ ref") (0 ∷ 7 ∷ [])
    ∷ row (ascii "r#ref") (1 ∷ 3 ∷ 2 ∷ 0 ∷ [])
    ∷ row (ascii "r#mut x") (0 ∷ 6 ∷ [])
    ∷ row (ascii "ref r#mut") (1 ∷ 3 ∷ 6 ∷ 1 ∷ [])
    ∷ row (ascii "x@y") (1 ∷ 3 ∷ 2 ∷ 0 ∷ 4 ∷ 0 ∷ 0 ∷ [])
    ∷ row (ascii "true @ x") (0 ∷ 5 ∷ [])
    ∷ row (ascii "ref true") (0 ∷ 4 ∷ [])
    ∷ row (ascii "mut false") (0 ∷ 4 ∷ [])
    ∷ row (ascii "x y") (0 ∷ 2 ∷ [])
    ∷ row (ascii "x 1") (0 ∷ 2 ∷ [])
    ∷ row (ascii "x 'c'") (0 ∷ 2 ∷ [])
    ∷ []

pub names_hold : map given names_rows ≡ map wants names_rows
unfolding names_rows ascii run is_scalar_value is_tail shortest_form scalar_from scalar_of is_utf8 whitespace in_line is_line_doc is_block_doc opens closes depth_behind unpaired block_from in_utf8 line_gap block_gap comment_of gap_of start_from member is_whitespace is_between is_digit is_letter begins_word in_word same_word is_one_of keywords never_raw word_of ends_prefix is_raw raw_piece plain_piece word_piece in_integer goes_on integer_of integer_piece hex_digit simple_escape byte_escape escaped unicode_from escape_of plain_char char_of is_suffix closed_char char_piece begins punctuation first_where piece_of token_from token_behind token_at decimal_from in_halves integer_value of_kind lexeme over wide closer path_at literal_at bound_at upward_at open_at when_strict open_item_at fits_rest behind_name behind_bar list_room is_rest_alt is_rest_plain is_rest has_rest item_room range_of close_alt close_plain room_in room_behind room_of ranged dots_in rest_stands fitting unless_open starts bounds behind ends named_in path_in negative_in behind_path behind_field on_mark on_name on_char step feed is_last lexemes_from lexemes parsed given01 flags literal_to is_inclusive key_at count_items count_fields ampersand_o head_o is_lone pattern_o alt_o plain_o items_o fields_o field_o answer_of
names_hold = refl

-- patterns.path.syntax
unfoldable pub paths_rows : List Row
paths_rows =
    row (ascii "x::y") (1 ∷ 8 ∷ 0 ∷ 4 ∷ [])
    ∷ row (ascii "x::y::z") (1 ∷ 8 ∷ 0 ∷ 7 ∷ [])
    ∷ row (ascii "x :: y") (1 ∷ 8 ∷ 0 ∷ 6 ∷ [])
    ∷ row (ascii "x::1") (0 ∷ 3 ∷ [])
    ∷ row (ascii "x::") (0 ∷ 3 ∷ [])
    ∷ row (ascii "x::(") (0 ∷ 3 ∷ [])
    ∷ row (ascii "x::y::") (0 ∷ 6 ∷ [])
    ∷ row (ascii "x::y(") (0 ∷ 5 ∷ [])
    ∷ row (ascii "x::y()") (1 ∷ 11 ∷ 0 ∷ 0 ∷ [])
    ∷ row (ascii "x::y { }") (1 ∷ 15 ∷ 0 ∷ 0 ∷ 0 ∷ [])
    ∷ row (ascii "x::y..") (1 ∷ 17 ∷ 0 ∷ [])
    ∷ row (ascii "x::y..=z::w") (1 ∷ 16 ∷ 0 ∷ 1 ∷ 7 ∷ [])
    ∷ row (ascii "x::ref") (0 ∷ 3 ∷ [])
    ∷ row (ascii "x::_") (0 ∷ 3 ∷ [])
    ∷ row (ascii "x::*") (0 ∷ 3 ∷ [])
    ∷ row (ascii "x : y") (0 ∷ 2 ∷ [])
    ∷ row (ascii "x:::y") (0 ∷ 3 ∷ [])
    ∷ row (ascii "r#x::r#y") (1 ∷ 8 ∷ 0 ∷ 8 ∷ [])
    ∷ row (ascii "x::y z") (0 ∷ 5 ∷ [])
    ∷ row (ascii "x::y 'c'") (0 ∷ 5 ∷ [])
    ∷ row (ascii "x::y @") (0 ∷ 5 ∷ [])
    ∷ row (ascii "x::y::z | x") (1 ∷ 8 ∷ 0 ∷ 7 ∷ 3 ∷ 10 ∷ 0 ∷ 19 ∷ [])
    ∷ row (ascii "-x") (0 ∷ 1 ∷ [])
    ∷ row (ascii "x.y") (0 ∷ 1 ∷ [])
    ∷ row (ascii "x::y[") (0 ∷ 4 ∷ [])
    ∷ row (ascii "x[") (0 ∷ 1 ∷ [])
    ∷ row (ascii "x()()") (0 ∷ 3 ∷ [])
    ∷ row (ascii "x(){}") (0 ∷ 3 ∷ [])
    ∷ row (ascii "x{}{}") (0 ∷ 3 ∷ [])
    ∷ row (ascii "x{}..") (0 ∷ 3 ∷ [])
    ∷ []

pub paths_hold : map given paths_rows ≡ map wants paths_rows
unfolding paths_rows ascii run is_scalar_value is_tail shortest_form scalar_from scalar_of is_utf8 whitespace in_line is_line_doc is_block_doc opens closes depth_behind unpaired block_from in_utf8 line_gap block_gap comment_of gap_of start_from member is_whitespace is_between is_digit is_letter begins_word in_word same_word is_one_of keywords never_raw word_of ends_prefix is_raw raw_piece plain_piece word_piece in_integer goes_on integer_of integer_piece hex_digit simple_escape byte_escape escaped unicode_from escape_of plain_char char_of is_suffix closed_char char_piece begins punctuation first_where piece_of token_from token_behind token_at decimal_from in_halves integer_value of_kind lexeme over wide closer path_at literal_at bound_at upward_at open_at when_strict open_item_at fits_rest behind_name behind_bar list_room is_rest_alt is_rest_plain is_rest has_rest item_room range_of close_alt close_plain room_in room_behind room_of ranged dots_in rest_stands fitting unless_open starts bounds behind ends named_in path_in negative_in behind_path behind_field on_mark on_name on_char step feed is_last lexemes_from lexemes parsed given01 flags literal_to is_inclusive key_at count_items count_fields ampersand_o head_o is_lone pattern_o alt_o plain_o items_o fields_o field_o answer_of
paths_hold = refl

-- patterns.literal.syntax, and integers over 16 bytes
unfoldable pub literals_rows : List Row
literals_rows =
    row (ascii "1") (1 ∷ 2 ∷ 0 ∷ 1 ∷ [])
    ∷ row (ascii "-1") (1 ∷ 2 ∷ 0 ∷ 2 ∷ [])
    ∷ row (ascii "- 1") (1 ∷ 2 ∷ 0 ∷ 3 ∷ [])
    ∷ row (ascii "--1") (0 ∷ 1 ∷ [])
    ∷ row (ascii "-") (0 ∷ 1 ∷ [])
    ∷ row (ascii "-true") (0 ∷ 1 ∷ [])
    ∷ row (ascii "-false") (0 ∷ 1 ∷ [])
    ∷ row (ascii "-'a'") (0 ∷ 1 ∷ [])
    ∷ row (ascii "-x") (0 ∷ 1 ∷ [])
    ∷ row (ascii "-(1)") (0 ∷ 1 ∷ [])
    ∷ row (ascii "-_") (0 ∷ 1 ∷ [])
    ∷ row (ascii "-1..-2") (1 ∷ 16 ∷ 0 ∷ 0 ∷ 4 ∷ [])
    ∷ row (ascii "-1..=-2") (1 ∷ 16 ∷ 0 ∷ 1 ∷ 5 ∷ [])
    ∷ row (ascii "..-1") (1 ∷ 18 ∷ 0 ∷ 2 ∷ [])
    ∷ row (ascii "..=-1") (1 ∷ 18 ∷ 1 ∷ 3 ∷ [])
    ∷ row (ascii "..--1") (0 ∷ 3 ∷ [])
    ∷ row (ascii "1..=-x") (0 ∷ 5 ∷ [])
    ∷ row (ascii "true") (1 ∷ 2 ∷ 0 ∷ 4 ∷ [])
    ∷ row (ascii "false") (1 ∷ 2 ∷ 0 ∷ 5 ∷ [])
    ∷ row (ascii "'a'") (1 ∷ 2 ∷ 0 ∷ 3 ∷ [])
    ∷ row (ascii "'\\u{10FFFF}'") (1 ∷ 2 ∷ 0 ∷ 12 ∷ [])
    ∷ row (ascii "1_000") (1 ∷ 2 ∷ 0 ∷ 5 ∷ [])
    ∷ row (ascii "1 2") (0 ∷ 2 ∷ [])
    ∷ row (ascii "340282366920938463463374607431768211455") (1 ∷ 2 ∷ 0 ∷ 39 ∷ [])
    ∷ row (ascii "340282366920938463463374607431768211456") (0 ∷ 0 ∷ [])
    ∷ row (ascii "000340282366920938463463374607431768211455") (1 ∷ 2 ∷ 0 ∷ 42 ∷ [])
    ∷ row (ascii "- 170141183460469231731687303715884105728") (1 ∷ 2 ∷ 0 ∷ 41 ∷ [])
    ∷ row (ascii "- 170141183460469231731687303715884105729") (0 ∷ 2 ∷ [])
    ∷ row (ascii "170141183460469231731687303715884105729") (1 ∷ 2 ∷ 0 ∷ 39 ∷ [])
    ∷ row (ascii "..340282366920938463463374607431768211456") (0 ∷ 2 ∷ [])
    ∷ row (ascii "..-170141183460469231731687303715884105729") (0 ∷ 3 ∷ [])
    ∷ row (ascii "1..=340282366920938463463374607431768211456") (0 ∷ 4 ∷ [])
    ∷ row (ascii "(340282366920938463463374607431768211456") (0 ∷ 1 ∷ [])
    ∷ row (ascii "A { 340282366920938463463374607431768211456: x }") (0 ∷ 4 ∷ [])
    ∷ row (ascii "A { 340282366920938463463374607431768211455: x }") (1 ∷ 3 ∷ 45 ∷ 0 ∷ 13 ∷ 4 ∷ 15 ∷ 0 ∷ 1 ∷ 0 ∷ [])
    ∷ row (ascii "x 340282366920938463463374607431768211456") (0 ∷ 2 ∷ [])
    ∷ row (ascii "[340282366920938463463374607431768211456..]") (0 ∷ 1 ∷ [])
    ∷ []

pub literals_hold : map given literals_rows ≡ map wants literals_rows
unfolding literals_rows ascii run is_scalar_value is_tail shortest_form scalar_from scalar_of is_utf8 whitespace in_line is_line_doc is_block_doc opens closes depth_behind unpaired block_from in_utf8 line_gap block_gap comment_of gap_of start_from member is_whitespace is_between is_digit is_letter begins_word in_word same_word is_one_of keywords never_raw word_of ends_prefix is_raw raw_piece plain_piece word_piece in_integer goes_on integer_of integer_piece hex_digit simple_escape byte_escape escaped unicode_from escape_of plain_char char_of is_suffix closed_char char_piece begins punctuation first_where piece_of token_from token_behind token_at decimal_from in_halves integer_value of_kind lexeme over wide closer path_at literal_at bound_at upward_at open_at when_strict open_item_at fits_rest behind_name behind_bar list_room is_rest_alt is_rest_plain is_rest has_rest item_room range_of close_alt close_plain room_in room_behind room_of ranged dots_in rest_stands fitting unless_open starts bounds behind ends named_in path_in negative_in behind_path behind_field on_mark on_name on_char step feed is_last lexemes_from lexemes parsed given01 flags literal_to is_inclusive key_at count_items count_fields ampersand_o head_o is_lone pattern_o alt_o plain_o items_o fields_o field_o answer_of
literals_hold = refl
