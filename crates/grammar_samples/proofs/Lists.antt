-- Lists, records and references: the definitions, computed. Assumes nothing.
use mathlib.Core.Path.{◌≡◌, refl}
use mathlib.Core.List.{List, [], ◌∷◌, map}
use Rattle.image.specs.Lists.{member}
use Rattle.text_chars.specs.Bytes.{ascii, run}
use Rattle.image.specs.Operands.{is_scalar_value}
use Rattle.text_chars.specs.Scalars.{is_tail, shortest_form, scalar_from, scalar_of, is_utf8}
use Rattle.text_chars.specs.Gaps.{whitespace, is_whitespace, in_line, is_line_doc, is_block_doc, opens, closes, depth_behind, unpaired, block_from, in_utf8, line_gap, block_gap, comment_of, gap_of, start_from}
use Rattle.pattern_words.specs.Words.{is_between, is_digit, is_letter, begins_word, in_word, same_word, is_one_of, keywords, never_raw, word_of, ends_prefix, is_raw, raw_piece, plain_piece, word_piece}
use Rattle.pattern_tokens.specs.Literals.{in_integer, goes_on, integer_of, integer_piece, hex_digit, simple_escape, byte_escape, escaped, unicode_from, escape_of, plain_char, char_of, is_suffix, closed_char, char_piece}
use Rattle.pattern_tokens.specs.Tokens.{begins, punctuation, first_where, piece_of, token_from, token_behind, token_at}
use Rattle.decimal_values.specs.Values.{decimal_from, in_halves, integer_value}
use Rattle.pattern_grammar.specs.Lexemes.{of_kind, lexeme, over, wide}
use Rattle.pattern_grammar.specs.Trees.{closer}
use Rattle.pattern_grammar.specs.Admitted.{path_at, literal_at, bound_at, upward_at, open_at, when_strict, open_item_at, fits_rest, behind_name, behind_bar, list_room, is_rest_alt, is_rest_plain, is_rest, has_rest, item_room}
use Rattle.pattern_grammar.specs.Machine.{range_of, close_alt, close_plain, room_in, room_behind, room_of, ranged, dots_in, rest_stands, fitting, unless_open, starts, bounds, behind, ends, named_in, path_in, negative_in, behind_path, behind_field, on_mark, on_name, on_char, step, feed}
use Rattle.pattern_grammar.specs.Parsed.{is_last, lexemes_from, lexemes, parsed}
use Rattle.grammar_samples.proofs.Outlines.{Row, row, given, wants, given01, flags, literal_to, is_inclusive, key_at, count_items, count_fields, ampersand_o, head_o, is_lone, pattern_o, alt_o, plain_o, items_o, fields_o, field_o, answer_of}

-- patterns.struct.syntax
unfoldable pub records_rows : List Row
records_rows =
    row (ascii "P {}") (1 ∷ 15 ∷ 0 ∷ 0 ∷ 0 ∷ [])
    ∷ row (ascii "P { }") (1 ∷ 15 ∷ 0 ∷ 0 ∷ 0 ∷ [])
    ∷ row (ascii "P { x }") (1 ∷ 14 ∷ 4 ∷ 0 ∷ 15 ∷ 0 ∷ 1 ∷ 0 ∷ [])
    ∷ row (ascii "P { x, }") (1 ∷ 14 ∷ 4 ∷ 0 ∷ 15 ∷ 0 ∷ 1 ∷ 0 ∷ [])
    ∷ row (ascii "P { x, y }") (1 ∷ 14 ∷ 4 ∷ 0 ∷ 14 ∷ 7 ∷ 0 ∷ 15 ∷ 0 ∷ 2 ∷ 0 ∷ [])
    ∷ row (ascii "P { x, y, }") (1 ∷ 14 ∷ 4 ∷ 0 ∷ 14 ∷ 7 ∷ 0 ∷ 15 ∷ 0 ∷ 2 ∷ 0 ∷ [])
    ∷ row (ascii "P { , }") (0 ∷ 4 ∷ [])
    ∷ row (ascii "P { x,, }") (0 ∷ 6 ∷ [])
    ∷ row (ascii "P { .. }") (1 ∷ 15 ∷ 0 ∷ 0 ∷ 1 ∷ [])
    ∷ row (ascii "P { x, .. }") (1 ∷ 14 ∷ 4 ∷ 0 ∷ 15 ∷ 0 ∷ 1 ∷ 1 ∷ [])
    ∷ row (ascii "P { x, .., }") (0 ∷ 9 ∷ [])
    ∷ row (ascii "P { .., }") (0 ∷ 6 ∷ [])
    ∷ row (ascii "P { .., x }") (0 ∷ 6 ∷ [])
    ∷ row (ascii "P { x .. }") (0 ∷ 6 ∷ [])
    ∷ row (ascii "P { .. x }") (0 ∷ 7 ∷ [])
    ∷ row (ascii "P { ..") (0 ∷ 6 ∷ [])
    ∷ row (ascii "P { ..1 }") (0 ∷ 6 ∷ [])
    ∷ row (ascii "P { ..= }") (0 ∷ 4 ∷ [])
    ∷ row (ascii "P { x: 1 }") (1 ∷ 2 ∷ 7 ∷ 8 ∷ 13 ∷ 4 ∷ 15 ∷ 0 ∷ 1 ∷ 0 ∷ [])
    ∷ row (ascii "P { x: 1, }") (1 ∷ 2 ∷ 7 ∷ 8 ∷ 13 ∷ 4 ∷ 15 ∷ 0 ∷ 1 ∷ 0 ∷ [])
    ∷ row (ascii "P { x: 1, .. }") (1 ∷ 2 ∷ 7 ∷ 8 ∷ 13 ∷ 4 ∷ 15 ∷ 0 ∷ 1 ∷ 1 ∷ [])
    ∷ row (ascii "P { x: 1 .. }") (1 ∷ 17 ∷ 7 ∷ 13 ∷ 4 ∷ 15 ∷ 0 ∷ 1 ∷ 0 ∷ [])
    ∷ row (ascii "P { x: 1.. }") (1 ∷ 17 ∷ 7 ∷ 13 ∷ 4 ∷ 15 ∷ 0 ∷ 1 ∷ 0 ∷ [])
    ∷ row (ascii "P { x: }") (0 ∷ 7 ∷ [])
    ∷ row (ascii "P { x:, }") (0 ∷ 6 ∷ [])
    ∷ row (ascii "P { x: 1 y }") (0 ∷ 9 ∷ [])
    ∷ row (ascii "P { x: 1 | 2, y }") (1 ∷ 2 ∷ 7 ∷ 8 ∷ 2 ∷ 11 ∷ 12 ∷ 19 ∷ 13 ∷ 4 ∷ 14 ∷ 14 ∷ 0 ∷ 15 ∷ 0 ∷ 2 ∷ 0 ∷ [])
    ∷ row (ascii "P { x y }") (0 ∷ 6 ∷ [])
    ∷ row (ascii "P { x @ 1 }") (0 ∷ 6 ∷ [])
    ∷ row (ascii "P { x::y }") (0 ∷ 5 ∷ [])
    ∷ row (ascii "P { x(") (0 ∷ 5 ∷ [])
    ∷ row (ascii "P { ref x }") (1 ∷ 14 ∷ 8 ∷ 1 ∷ 15 ∷ 0 ∷ 1 ∷ 0 ∷ [])
    ∷ row (ascii "P { mut x }") (1 ∷ 14 ∷ 8 ∷ 2 ∷ 15 ∷ 0 ∷ 1 ∷ 0 ∷ [])
    ∷ row (ascii "P { ref mut x }") (1 ∷ 14 ∷ 12 ∷ 3 ∷ 15 ∷ 0 ∷ 1 ∷ 0 ∷ [])
    ∷ row (ascii "P { mut ref x }") (0 ∷ 8 ∷ [])
    ∷ row (ascii "P { ref x: 1 }") (0 ∷ 9 ∷ [])
    ∷ row (ascii "P { mut x: 1 }") (0 ∷ 9 ∷ [])
    ∷ row (ascii "P { ref }") (0 ∷ 8 ∷ [])
    ∷ row (ascii "P { ref mut }") (0 ∷ 12 ∷ [])
    ∷ row (ascii "P { 0: x }") (1 ∷ 3 ∷ 7 ∷ 0 ∷ 13 ∷ 4 ∷ 15 ∷ 0 ∷ 1 ∷ 0 ∷ [])
    ∷ row (ascii "P { 0 }") (0 ∷ 6 ∷ [])
    ∷ row (ascii "P { 0, }") (0 ∷ 5 ∷ [])
    ∷ row (ascii "P { 0: x, 1: y }") (1 ∷ 3 ∷ 7 ∷ 0 ∷ 13 ∷ 4 ∷ 3 ∷ 13 ∷ 0 ∷ 13 ∷ 10 ∷ 15 ∷ 0 ∷ 2 ∷ 0 ∷ [])
    ∷ row (ascii "P { 00: x }") (1 ∷ 3 ∷ 8 ∷ 0 ∷ 13 ∷ 4 ∷ 15 ∷ 0 ∷ 1 ∷ 0 ∷ [])
    ∷ row (ascii "P { 1_0: _ }") (1 ∷ 1 ∷ 9 ∷ 13 ∷ 4 ∷ 15 ∷ 0 ∷ 1 ∷ 0 ∷ [])
    ∷ row (ascii "P { -1: x }") (0 ∷ 4 ∷ [])
    ∷ row (ascii "P { _: x }") (0 ∷ 4 ∷ [])
    ∷ row (ascii "P { _ }") (0 ∷ 4 ∷ [])
    ∷ row (ascii "P { true: x }") (0 ∷ 4 ∷ [])
    ∷ row (ascii "P { 'a': x }") (0 ∷ 4 ∷ [])
    ∷ row (ascii "P { &x }") (0 ∷ 4 ∷ [])
    ∷ row (ascii "P { (x) }") (0 ∷ 4 ∷ [])
    ∷ row (ascii "P { | x }") (0 ∷ 4 ∷ [])
    ∷ row (ascii "P { x: P { y: P {} } }") (1 ∷ 15 ∷ 14 ∷ 0 ∷ 0 ∷ 13 ∷ 11 ∷ 15 ∷ 7 ∷ 1 ∷ 0 ∷ 13 ∷ 4 ∷ 15 ∷ 0 ∷ 1 ∷ 0 ∷ [])
    ∷ row (ascii "P { x: (1, 2), y: [z] }") (1 ∷ 2 ∷ 8 ∷ 9 ∷ 2 ∷ 11 ∷ 12 ∷ 9 ∷ 7 ∷ 2 ∷ 13 ∷ 4 ∷ 3 ∷ 19 ∷ 0 ∷ 12 ∷ 18 ∷ 1 ∷ 13 ∷ 15 ∷ 15 ∷ 0 ∷ 2 ∷ 0 ∷ [])
    ∷ row (ascii "a::b { x }") (1 ∷ 14 ∷ 7 ∷ 0 ∷ 15 ∷ 0 ∷ 1 ∷ 0 ∷ [])
    ∷ row (ascii "P { x ]") (0 ∷ 6 ∷ [])
    ∷ row (ascii "P { x )") (0 ∷ 6 ∷ [])
    ∷ row (ascii "P { x: 1 )") (0 ∷ 9 ∷ [])
    ∷ row (ascii "P { x: 1 ]") (0 ∷ 9 ∷ [])
    ∷ row (ascii "P {") (0 ∷ 3 ∷ [])
    ∷ row (ascii "P { x") (0 ∷ 5 ∷ [])
    ∷ row (ascii "P { x:") (0 ∷ 6 ∷ [])
    ∷ row (ascii "P { x: 1") (0 ∷ 8 ∷ [])
    ∷ row (ascii "P { x,") (0 ∷ 6 ∷ [])
    ∷ row (ascii "P { r#x: y }") (1 ∷ 3 ∷ 9 ∷ 0 ∷ 13 ∷ 4 ∷ 15 ∷ 0 ∷ 1 ∷ 0 ∷ [])
    ∷ row (ascii "P { r#x }") (1 ∷ 14 ∷ 6 ∷ 0 ∷ 15 ∷ 0 ∷ 1 ∷ 0 ∷ [])
    ∷ row (ascii "&P { x }") (1 ∷ 14 ∷ 5 ∷ 0 ∷ 15 ∷ 1 ∷ 1 ∷ 0 ∷ 6 ∷ 0 ∷ 0 ∷ [])
    ∷ row (ascii "x @ P { y }") (1 ∷ 14 ∷ 8 ∷ 0 ∷ 15 ∷ 4 ∷ 1 ∷ 0 ∷ 4 ∷ 0 ∷ 0 ∷ [])
    ∷ row (ascii "P { x: y @ 1 }") (1 ∷ 2 ∷ 11 ∷ 12 ∷ 4 ∷ 7 ∷ 0 ∷ 13 ∷ 4 ∷ 15 ∷ 0 ∷ 1 ∷ 0 ∷ [])
    ∷ row (ascii "P { #[a] x }") (0 ∷ 4 ∷ [])
    ∷ row (ascii "P { x:: y }") (0 ∷ 5 ∷ [])
    ∷ row (ascii "P { x: ..=1 }") (1 ∷ 18 ∷ 1 ∷ 10 ∷ 13 ∷ 4 ∷ 15 ∷ 0 ∷ 1 ∷ 0 ∷ [])
    ∷ row (ascii "Pair { 1: x, 0: 2 }") (1 ∷ 3 ∷ 10 ∷ 0 ∷ 13 ∷ 7 ∷ 2 ∷ 16 ∷ 17 ∷ 13 ∷ 13 ∷ 15 ∷ 0 ∷ 2 ∷ 0 ∷ [])
    ∷ row (ascii "P { ref mut x, mut y, ref z, .. }") (1 ∷ 14 ∷ 12 ∷ 3 ∷ 14 ∷ 19 ∷ 2 ∷ 14 ∷ 26 ∷ 1 ∷ 15 ∷ 0 ∷ 3 ∷ 1 ∷ [])
    ∷ []

pub records_hold : map given records_rows ≡ map wants records_rows
unfolding records_rows ascii run is_scalar_value is_tail shortest_form scalar_from scalar_of is_utf8 whitespace in_line is_line_doc is_block_doc opens closes depth_behind unpaired block_from in_utf8 line_gap block_gap comment_of gap_of start_from member is_whitespace is_between is_digit is_letter begins_word in_word same_word is_one_of keywords never_raw word_of ends_prefix is_raw raw_piece plain_piece word_piece in_integer goes_on integer_of integer_piece hex_digit simple_escape byte_escape escaped unicode_from escape_of plain_char char_of is_suffix closed_char char_piece begins punctuation first_where piece_of token_from token_behind token_at decimal_from in_halves integer_value of_kind lexeme over wide closer path_at literal_at bound_at upward_at open_at when_strict open_item_at fits_rest behind_name behind_bar list_room is_rest_alt is_rest_plain is_rest has_rest item_room range_of close_alt close_plain room_in room_behind room_of ranged dots_in rest_stands fitting unless_open starts bounds behind ends named_in path_in negative_in behind_path behind_field on_mark on_name on_char step feed is_last lexemes_from lexemes parsed given01 flags literal_to is_inclusive key_at count_items count_fields ampersand_o head_o is_lone pattern_o alt_o plain_o items_o fields_o field_o answer_of
records_hold = refl

-- patterns.tuple.syntax, patterns.paren.syntax, patterns.tuple-struct.syntax, patterns.slice.syntax
unfoldable pub lists_rows : List Row
lists_rows =
    row (ascii "()") (1 ∷ 9 ∷ 0 ∷ 0 ∷ [])
    ∷ row (ascii "(,)") (0 ∷ 1 ∷ [])
    ∷ row (ascii "(x)") (1 ∷ 3 ∷ 1 ∷ 0 ∷ 10 ∷ 0 ∷ 1 ∷ [])
    ∷ row (ascii "(x,)") (1 ∷ 3 ∷ 1 ∷ 0 ∷ 9 ∷ 0 ∷ 1 ∷ [])
    ∷ row (ascii "(x,,)") (0 ∷ 3 ∷ [])
    ∷ row (ascii "(x, y)") (1 ∷ 3 ∷ 1 ∷ 0 ∷ 3 ∷ 4 ∷ 0 ∷ 9 ∷ 0 ∷ 2 ∷ [])
    ∷ row (ascii "(x, y,)") (1 ∷ 3 ∷ 1 ∷ 0 ∷ 3 ∷ 4 ∷ 0 ∷ 9 ∷ 0 ∷ 2 ∷ [])
    ∷ row (ascii "(x y)") (0 ∷ 3 ∷ [])
    ∷ row (ascii "(x; y)") (0 ∷ 2 ∷ [])
    ∷ row (ascii "((x))") (1 ∷ 3 ∷ 2 ∷ 0 ∷ 10 ∷ 1 ∷ 1 ∷ 10 ∷ 0 ∷ 1 ∷ [])
    ∷ row (ascii "(((x),),)") (1 ∷ 3 ∷ 3 ∷ 0 ∷ 10 ∷ 2 ∷ 1 ∷ 9 ∷ 1 ∷ 1 ∷ 9 ∷ 0 ∷ 1 ∷ [])
    ∷ row (ascii "(()") (0 ∷ 3 ∷ [])
    ∷ row (ascii "())") (0 ∷ 2 ∷ [])
    ∷ row (ascii "[]") (1 ∷ 12 ∷ 0 ∷ 0 ∷ [])
    ∷ row (ascii "[,]") (0 ∷ 1 ∷ [])
    ∷ row (ascii "[x]") (1 ∷ 3 ∷ 1 ∷ 0 ∷ 12 ∷ 0 ∷ 1 ∷ [])
    ∷ row (ascii "[x,]") (1 ∷ 3 ∷ 1 ∷ 0 ∷ 12 ∷ 0 ∷ 1 ∷ [])
    ∷ row (ascii "[x, y,]") (1 ∷ 3 ∷ 1 ∷ 0 ∷ 3 ∷ 4 ∷ 0 ∷ 12 ∷ 0 ∷ 2 ∷ [])
    ∷ row (ascii "[x; 3]") (0 ∷ 2 ∷ [])
    ∷ row (ascii "[[]]") (1 ∷ 12 ∷ 1 ∷ 0 ∷ 12 ∷ 0 ∷ 1 ∷ [])
    ∷ row (ascii "[()]") (1 ∷ 9 ∷ 1 ∷ 0 ∷ 12 ∷ 0 ∷ 1 ∷ [])
    ∷ row (ascii "([])") (1 ∷ 12 ∷ 1 ∷ 0 ∷ 10 ∷ 0 ∷ 1 ∷ [])
    ∷ row (ascii "(]") (0 ∷ 1 ∷ [])
    ∷ row (ascii "[)") (0 ∷ 1 ∷ [])
    ∷ row (ascii "(x]") (0 ∷ 2 ∷ [])
    ∷ row (ascii "[x)") (0 ∷ 2 ∷ [])
    ∷ row (ascii "(x}") (0 ∷ 2 ∷ [])
    ∷ row (ascii "[x}") (0 ∷ 2 ∷ [])
    ∷ row (ascii "A()") (1 ∷ 11 ∷ 0 ∷ 0 ∷ [])
    ∷ row (ascii "A(x)") (1 ∷ 3 ∷ 2 ∷ 0 ∷ 11 ∷ 0 ∷ 1 ∷ [])
    ∷ row (ascii "A(x,)") (1 ∷ 3 ∷ 2 ∷ 0 ∷ 11 ∷ 0 ∷ 1 ∷ [])
    ∷ row (ascii "A(x, y)") (1 ∷ 3 ∷ 2 ∷ 0 ∷ 3 ∷ 5 ∷ 0 ∷ 11 ∷ 0 ∷ 2 ∷ [])
    ∷ row (ascii "A(,)") (0 ∷ 2 ∷ [])
    ∷ row (ascii "A(x") (0 ∷ 3 ∷ [])
    ∷ row (ascii "A(]") (0 ∷ 2 ∷ [])
    ∷ row (ascii "A()x") (0 ∷ 3 ∷ [])
    ∷ row (ascii "a::B()") (1 ∷ 11 ∷ 0 ∷ 0 ∷ [])
    ∷ row (ascii "A(B(C(x)))") (1 ∷ 3 ∷ 6 ∷ 0 ∷ 11 ∷ 4 ∷ 1 ∷ 11 ∷ 2 ∷ 1 ∷ 11 ∷ 0 ∷ 1 ∷ [])
    ∷ row (ascii "A(x)(y)") (0 ∷ 4 ∷ [])
    ∷ row (ascii "A (x)") (1 ∷ 3 ∷ 3 ∷ 0 ∷ 11 ∷ 0 ∷ 1 ∷ [])
    ∷ row (ascii "Finished(1, 2, (a | b))") (1 ∷ 2 ∷ 9 ∷ 10 ∷ 2 ∷ 12 ∷ 13 ∷ 3 ∷ 16 ∷ 0 ∷ 3 ∷ 20 ∷ 0 ∷ 19 ∷ 10 ∷ 15 ∷ 1 ∷ 11 ∷ 0 ∷ 3 ∷ [])
    ∷ row (ascii "(x)y") (0 ∷ 3 ∷ [])
    ∷ row (ascii "(x)..") (0 ∷ 3 ∷ [])
    ∷ row (ascii "(1)..2") (0 ∷ 3 ∷ [])
    ∷ row (ascii "[1]..") (0 ∷ 3 ∷ [])
    ∷ row (ascii "()..") (0 ∷ 2 ∷ [])
    ∷ row (ascii "(x) | (y)") (1 ∷ 3 ∷ 1 ∷ 0 ∷ 10 ∷ 0 ∷ 1 ∷ 3 ∷ 7 ∷ 0 ∷ 10 ∷ 6 ∷ 1 ∷ 19 ∷ [])
    ∷ row (ascii "((") (0 ∷ 2 ∷ [])
    ∷ row (ascii "[[") (0 ∷ 2 ∷ [])
    ∷ row (ascii "A(") (0 ∷ 2 ∷ [])
    ∷ row (ascii "A((") (0 ∷ 3 ∷ [])
    ∷ row (ascii "(x,") (0 ∷ 3 ∷ [])
    ∷ row (ascii "[x,") (0 ∷ 3 ∷ [])
    ∷ row (ascii "(x |") (0 ∷ 4 ∷ [])
    ∷ row (ascii "(&") (0 ∷ 2 ∷ [])
    ∷ row (ascii "(-") (0 ∷ 2 ∷ [])
    ∷ row (ascii "(x @") (0 ∷ 4 ∷ [])
    ∷ row (ascii "(x::") (0 ∷ 4 ∷ [])
    ∷ []

pub lists_hold : map given lists_rows ≡ map wants lists_rows
unfolding lists_rows ascii run is_scalar_value is_tail shortest_form scalar_from scalar_of is_utf8 whitespace in_line is_line_doc is_block_doc opens closes depth_behind unpaired block_from in_utf8 line_gap block_gap comment_of gap_of start_from member is_whitespace is_between is_digit is_letter begins_word in_word same_word is_one_of keywords never_raw word_of ends_prefix is_raw raw_piece plain_piece word_piece in_integer goes_on integer_of integer_piece hex_digit simple_escape byte_escape escaped unicode_from escape_of plain_char char_of is_suffix closed_char char_piece begins punctuation first_where piece_of token_from token_behind token_at decimal_from in_halves integer_value of_kind lexeme over wide closer path_at literal_at bound_at upward_at open_at when_strict open_item_at fits_rest behind_name behind_bar list_room is_rest_alt is_rest_plain is_rest has_rest item_room range_of close_alt close_plain room_in room_behind room_of ranged dots_in rest_stands fitting unless_open starts bounds behind ends named_in path_in negative_in behind_path behind_field on_mark on_name on_char step feed is_last lexemes_from lexemes parsed given01 flags literal_to is_inclusive key_at count_items count_fields ampersand_o head_o is_lone pattern_o alt_o plain_o items_o fields_o field_o answer_of
lists_hold = refl

-- patterns.ref.syntax
unfoldable pub references_rows : List Row
references_rows =
    row (ascii "&x") (1 ∷ 3 ∷ 1 ∷ 0 ∷ 6 ∷ 0 ∷ 0 ∷ [])
    ∷ row (ascii "&&x") (1 ∷ 3 ∷ 2 ∷ 0 ∷ 7 ∷ 0 ∷ 0 ∷ [])
    ∷ row (ascii "&&&x") (1 ∷ 3 ∷ 3 ∷ 0 ∷ 6 ∷ 2 ∷ 0 ∷ 7 ∷ 0 ∷ 0 ∷ [])
    ∷ row (ascii "& &x") (1 ∷ 3 ∷ 3 ∷ 0 ∷ 6 ∷ 2 ∷ 0 ∷ 6 ∷ 0 ∷ 0 ∷ [])
    ∷ row (ascii "&mut x") (1 ∷ 3 ∷ 5 ∷ 0 ∷ 6 ∷ 0 ∷ 1 ∷ [])
    ∷ row (ascii "&mut mut x") (1 ∷ 3 ∷ 9 ∷ 2 ∷ 6 ∷ 0 ∷ 1 ∷ [])
    ∷ row (ascii "&&mut x") (1 ∷ 3 ∷ 6 ∷ 0 ∷ 7 ∷ 0 ∷ 1 ∷ [])
    ∷ row (ascii "&ref x") (1 ∷ 3 ∷ 5 ∷ 1 ∷ 6 ∷ 0 ∷ 0 ∷ [])
    ∷ row (ascii "&mut ref x") (1 ∷ 3 ∷ 9 ∷ 1 ∷ 6 ∷ 0 ∷ 1 ∷ [])
    ∷ row (ascii "&ref mut x") (1 ∷ 3 ∷ 9 ∷ 3 ∷ 6 ∷ 0 ∷ 0 ∷ [])
    ∷ row (ascii "&mut") (0 ∷ 4 ∷ [])
    ∷ row (ascii "&") (0 ∷ 1 ∷ [])
    ∷ row (ascii "&&") (0 ∷ 2 ∷ [])
    ∷ row (ascii "& mut") (0 ∷ 5 ∷ [])
    ∷ row (ascii "&_") (1 ∷ 1 ∷ 1 ∷ 6 ∷ 0 ∷ 0 ∷ [])
    ∷ row (ascii "&1") (1 ∷ 2 ∷ 1 ∷ 2 ∷ 6 ∷ 0 ∷ 0 ∷ [])
    ∷ row (ascii "&-1") (1 ∷ 2 ∷ 1 ∷ 3 ∷ 6 ∷ 0 ∷ 0 ∷ [])
    ∷ row (ascii "&(x)") (1 ∷ 3 ∷ 2 ∷ 0 ∷ 10 ∷ 1 ∷ 1 ∷ 6 ∷ 0 ∷ 0 ∷ [])
    ∷ row (ascii "&(x, y)") (1 ∷ 3 ∷ 2 ∷ 0 ∷ 3 ∷ 5 ∷ 0 ∷ 9 ∷ 1 ∷ 2 ∷ 6 ∷ 0 ∷ 0 ∷ [])
    ∷ row (ascii "&[x]") (1 ∷ 3 ∷ 2 ∷ 0 ∷ 12 ∷ 1 ∷ 1 ∷ 6 ∷ 0 ∷ 0 ∷ [])
    ∷ row (ascii "&A") (1 ∷ 3 ∷ 1 ∷ 0 ∷ 6 ∷ 0 ∷ 0 ∷ [])
    ∷ row (ascii "&A::B") (1 ∷ 8 ∷ 1 ∷ 5 ∷ 6 ∷ 0 ∷ 0 ∷ [])
    ∷ row (ascii "&A()") (1 ∷ 11 ∷ 1 ∷ 0 ∷ 6 ∷ 0 ∷ 0 ∷ [])
    ∷ row (ascii "&A {}") (1 ∷ 15 ∷ 1 ∷ 0 ∷ 0 ∷ 6 ∷ 0 ∷ 0 ∷ [])
    ∷ row (ascii "&x @ y") (1 ∷ 3 ∷ 5 ∷ 0 ∷ 4 ∷ 1 ∷ 0 ∷ 6 ∷ 0 ∷ 0 ∷ [])
    ∷ row (ascii "&mut x @ y") (1 ∷ 3 ∷ 9 ∷ 0 ∷ 4 ∷ 5 ∷ 0 ∷ 6 ∷ 0 ∷ 1 ∷ [])
    ∷ row (ascii "&&mut mut x @ _") (1 ∷ 1 ∷ 14 ∷ 4 ∷ 10 ∷ 2 ∷ 7 ∷ 0 ∷ 1 ∷ [])
    ∷ row (ascii "&mut P { x, .. }") (1 ∷ 14 ∷ 9 ∷ 0 ∷ 15 ∷ 5 ∷ 1 ∷ 1 ∷ 6 ∷ 0 ∷ 1 ∷ [])
    ∷ row (ascii "&)") (0 ∷ 1 ∷ [])
    ∷ row (ascii "&,") (0 ∷ 1 ∷ [])
    ∷ row (ascii "&mut &mut x") (1 ∷ 3 ∷ 10 ∷ 0 ∷ 6 ∷ 5 ∷ 1 ∷ 6 ∷ 0 ∷ 1 ∷ [])
    ∷ row (ascii "&x | &y") (1 ∷ 3 ∷ 1 ∷ 0 ∷ 6 ∷ 0 ∷ 0 ∷ 3 ∷ 6 ∷ 0 ∷ 6 ∷ 5 ∷ 0 ∷ 19 ∷ [])
    ∷ row (ascii "(&x, &mut y)") (1 ∷ 3 ∷ 2 ∷ 0 ∷ 6 ∷ 1 ∷ 0 ∷ 3 ∷ 10 ∷ 0 ∷ 6 ∷ 5 ∷ 1 ∷ 9 ∷ 0 ∷ 2 ∷ [])
    ∷ row (ascii "& & mut & x") (1 ∷ 3 ∷ 10 ∷ 0 ∷ 6 ∷ 8 ∷ 0 ∷ 6 ∷ 2 ∷ 1 ∷ 6 ∷ 0 ∷ 0 ∷ [])
    ∷ row (ascii "&'a x") (0 ∷ 1 ∷ [])
    ∷ row (ascii "&true") (1 ∷ 2 ∷ 1 ∷ 5 ∷ 6 ∷ 0 ∷ 0 ∷ [])
    ∷ row (ascii "&mut 1") (1 ∷ 2 ∷ 5 ∷ 6 ∷ 6 ∷ 0 ∷ 1 ∷ [])
    ∷ row (ascii "&mut _") (1 ∷ 1 ∷ 5 ∷ 6 ∷ 0 ∷ 1 ∷ [])
    ∷ row (ascii "&mut (x)") (1 ∷ 3 ∷ 6 ∷ 0 ∷ 10 ∷ 5 ∷ 1 ∷ 6 ∷ 0 ∷ 1 ∷ [])
    ∷ row (ascii "&=x") (0 ∷ 0 ∷ [])
    ∷ row (ascii "&&&") (0 ∷ 3 ∷ [])
    ∷ row (ascii "&mut ..1") (0 ∷ 5 ∷ [])
    ∷ row (ascii "&mut)") (0 ∷ 4 ∷ [])
    ∷ row (ascii "&mut | x") (0 ∷ 5 ∷ [])
    ∷ []

pub references_hold : map given references_rows ≡ map wants references_rows
unfolding references_rows ascii run is_scalar_value is_tail shortest_form scalar_from scalar_of is_utf8 whitespace in_line is_line_doc is_block_doc opens closes depth_behind unpaired block_from in_utf8 line_gap block_gap comment_of gap_of start_from member is_whitespace is_between is_digit is_letter begins_word in_word same_word is_one_of keywords never_raw word_of ends_prefix is_raw raw_piece plain_piece word_piece in_integer goes_on integer_of integer_piece hex_digit simple_escape byte_escape escaped unicode_from escape_of plain_char char_of is_suffix closed_char char_piece begins punctuation first_where piece_of token_from token_behind token_at decimal_from in_halves integer_value of_kind lexeme over wide closer path_at literal_at bound_at upward_at open_at when_strict open_item_at fits_rest behind_name behind_bar list_room is_rest_alt is_rest_plain is_rest has_rest item_room range_of close_alt close_plain room_in room_behind room_of ranged dots_in rest_stands fitting unless_open starts bounds behind ends named_in path_in negative_in behind_path behind_field on_mark on_name on_char step feed is_last lexemes_from lexemes parsed given01 flags literal_to is_inclusive key_at count_items count_fields ampersand_o head_o is_lone pattern_o alt_o plain_o items_o fields_o field_o answer_of
references_hold = refl

-- several, long ones and deep ones
unfoldable pub mixed_rows : List Row
mixed_rows =
    row (ascii "foo { }") (1 ∷ 15 ∷ 0 ∷ 0 ∷ 0 ∷ [])
    ∷ row (ascii "ref Retired") (1 ∷ 3 ∷ 4 ∷ 1 ∷ [])
    ∷ row (ascii "P { x: LAST @ 1, .. }") (1 ∷ 2 ∷ 14 ∷ 15 ∷ 4 ∷ 7 ∷ 0 ∷ 13 ∷ 4 ∷ 15 ∷ 0 ∷ 1 ∷ 1 ∷ [])
    ∷ row (ascii "Penalty { places, .. }") (1 ∷ 14 ∷ 10 ∷ 0 ∷ 15 ∷ 0 ∷ 1 ∷ 1 ∷ [])
    ∷ row (ascii "(a, b, c, d)") (1 ∷ 3 ∷ 1 ∷ 0 ∷ 3 ∷ 4 ∷ 0 ∷ 3 ∷ 7 ∷ 0 ∷ 3 ∷ 10 ∷ 0 ∷ 9 ∷ 0 ∷ 4 ∷ [])
    ∷ row (ascii "(.., a, b, c, d)") (1 ∷ 5 ∷ 1 ∷ 3 ∷ 5 ∷ 0 ∷ 3 ∷ 8 ∷ 0 ∷ 3 ∷ 11 ∷ 0 ∷ 3 ∷ 14 ∷ 0 ∷ 9 ∷ 0 ∷ 5 ∷ [])
    ∷ row (ascii "[a, x @ .., b, c, d]") (1 ∷ 3 ∷ 1 ∷ 0 ∷ 5 ∷ 8 ∷ 4 ∷ 4 ∷ 0 ∷ 3 ∷ 12 ∷ 0 ∷ 3 ∷ 15 ∷ 0 ∷ 3 ∷ 18 ∷ 0 ∷ 12 ∷ 0 ∷ 5 ∷ [])
    ∷ row (ascii "(Foo, bar::X, z, w)") (1 ∷ 3 ∷ 1 ∷ 0 ∷ 8 ∷ 6 ∷ 12 ∷ 3 ∷ 14 ∷ 0 ∷ 3 ∷ 17 ∷ 0 ∷ 9 ∷ 0 ∷ 4 ∷ [])
    ∷ row (ascii "(mut x, ref mut y)") (1 ∷ 3 ∷ 5 ∷ 2 ∷ 3 ∷ 16 ∷ 3 ∷ 9 ∷ 0 ∷ 2 ∷ [])
    ∷ row (ascii "[_, x @ ..]") (1 ∷ 1 ∷ 1 ∷ 5 ∷ 8 ∷ 4 ∷ 4 ∷ 0 ∷ 12 ∷ 0 ∷ 2 ∷ [])
    ∷ row (ascii "[_, x @ .., _]") (1 ∷ 1 ∷ 1 ∷ 5 ∷ 8 ∷ 4 ∷ 4 ∷ 0 ∷ 1 ∷ 12 ∷ 12 ∷ 0 ∷ 3 ∷ [])
    ∷ row (ascii "7 | 8") (1 ∷ 2 ∷ 0 ∷ 1 ∷ 2 ∷ 4 ∷ 5 ∷ 19 ∷ [])
    ∷ row (ascii "(3, x, 4..)") (1 ∷ 2 ∷ 1 ∷ 2 ∷ 3 ∷ 4 ∷ 0 ∷ 17 ∷ 7 ∷ 9 ∷ 0 ∷ 3 ∷ [])
    ∷ row (ascii "&&&&&&&&&&&&&&&&&&&&&&&&&&&&&&&&&&&&&&&&x") (1 ∷ 3 ∷ 40 ∷ 0 ∷ 7 ∷ 38 ∷ 0 ∷ 7 ∷ 36 ∷ 0 ∷ 7 ∷ 34 ∷ 0 ∷ 7 ∷ 32 ∷ 0 ∷ 7 ∷ 30 ∷ 0 ∷ 7 ∷ 28 ∷ 0 ∷ 7 ∷ 26 ∷ 0 ∷ 7 ∷ 24 ∷ 0 ∷ 7 ∷ 22 ∷ 0 ∷ 7 ∷ 20 ∷ 0 ∷ 7 ∷ 18 ∷ 0 ∷ 7 ∷ 16 ∷ 0 ∷ 7 ∷ 14 ∷ 0 ∷ 7 ∷ 12 ∷ 0 ∷ 7 ∷ 10 ∷ 0 ∷ 7 ∷ 8 ∷ 0 ∷ 7 ∷ 6 ∷ 0 ∷ 7 ∷ 4 ∷ 0 ∷ 7 ∷ 2 ∷ 0 ∷ 7 ∷ 0 ∷ 0 ∷ [])
    ∷ row (ascii "&&&&&&&&&&&&&&&&&&&&&&&&&&&&&&&&&&&&&&&&&") (0 ∷ 41 ∷ [])
    ∷ row (ascii "(((((((((((((((((((((((((((((())))))))))))))))))))))))))))))") (1 ∷ 9 ∷ 29 ∷ 0 ∷ 10 ∷ 28 ∷ 1 ∷ 10 ∷ 27 ∷ 1 ∷ 10 ∷ 26 ∷ 1 ∷ 10 ∷ 25 ∷ 1 ∷ 10 ∷ 24 ∷ 1 ∷ 10 ∷ 23 ∷ 1 ∷ 10 ∷ 22 ∷ 1 ∷ 10 ∷ 21 ∷ 1 ∷ 10 ∷ 20 ∷ 1 ∷ 10 ∷ 19 ∷ 1 ∷ 10 ∷ 18 ∷ 1 ∷ 10 ∷ 17 ∷ 1 ∷ 10 ∷ 16 ∷ 1 ∷ 10 ∷ 15 ∷ 1 ∷ 10 ∷ 14 ∷ 1 ∷ 10 ∷ 13 ∷ 1 ∷ 10 ∷ 12 ∷ 1 ∷ 10 ∷ 11 ∷ 1 ∷ 10 ∷ 10 ∷ 1 ∷ 10 ∷ 9 ∷ 1 ∷ 10 ∷ 8 ∷ 1 ∷ 10 ∷ 7 ∷ 1 ∷ 10 ∷ 6 ∷ 1 ∷ 10 ∷ 5 ∷ 1 ∷ 10 ∷ 4 ∷ 1 ∷ 10 ∷ 3 ∷ 1 ∷ 10 ∷ 2 ∷ 1 ∷ 10 ∷ 1 ∷ 1 ∷ 10 ∷ 0 ∷ 1 ∷ [])
    ∷ row (ascii "((((((((((((((((((((((((((((((") (0 ∷ 30 ∷ [])
    ∷ row (ascii "[[[[[[[[[[[[[[[[[[[[..]]]]]]]]]]]]]]]]]]]]") (1 ∷ 5 ∷ 20 ∷ 12 ∷ 19 ∷ 1 ∷ 12 ∷ 18 ∷ 1 ∷ 12 ∷ 17 ∷ 1 ∷ 12 ∷ 16 ∷ 1 ∷ 12 ∷ 15 ∷ 1 ∷ 12 ∷ 14 ∷ 1 ∷ 12 ∷ 13 ∷ 1 ∷ 12 ∷ 12 ∷ 1 ∷ 12 ∷ 11 ∷ 1 ∷ 12 ∷ 10 ∷ 1 ∷ 12 ∷ 9 ∷ 1 ∷ 12 ∷ 8 ∷ 1 ∷ 12 ∷ 7 ∷ 1 ∷ 12 ∷ 6 ∷ 1 ∷ 12 ∷ 5 ∷ 1 ∷ 12 ∷ 4 ∷ 1 ∷ 12 ∷ 3 ∷ 1 ∷ 12 ∷ 2 ∷ 1 ∷ 12 ∷ 1 ∷ 1 ∷ 12 ∷ 0 ∷ 1 ∷ [])
    ∷ row (ascii "_|_|_|_|_|_|_|_|_|_|_|_|_|_|_|_|_|_|_|_|_|_|_|_|_|_|_|_|_|_") (1 ∷ 1 ∷ 0 ∷ 1 ∷ 2 ∷ 19 ∷ 1 ∷ 4 ∷ 19 ∷ 1 ∷ 6 ∷ 19 ∷ 1 ∷ 8 ∷ 19 ∷ 1 ∷ 10 ∷ 19 ∷ 1 ∷ 12 ∷ 19 ∷ 1 ∷ 14 ∷ 19 ∷ 1 ∷ 16 ∷ 19 ∷ 1 ∷ 18 ∷ 19 ∷ 1 ∷ 20 ∷ 19 ∷ 1 ∷ 22 ∷ 19 ∷ 1 ∷ 24 ∷ 19 ∷ 1 ∷ 26 ∷ 19 ∷ 1 ∷ 28 ∷ 19 ∷ 1 ∷ 30 ∷ 19 ∷ 1 ∷ 32 ∷ 19 ∷ 1 ∷ 34 ∷ 19 ∷ 1 ∷ 36 ∷ 19 ∷ 1 ∷ 38 ∷ 19 ∷ 1 ∷ 40 ∷ 19 ∷ 1 ∷ 42 ∷ 19 ∷ 1 ∷ 44 ∷ 19 ∷ 1 ∷ 46 ∷ 19 ∷ 1 ∷ 48 ∷ 19 ∷ 1 ∷ 50 ∷ 19 ∷ 1 ∷ 52 ∷ 19 ∷ 1 ∷ 54 ∷ 19 ∷ 1 ∷ 56 ∷ 19 ∷ 1 ∷ 58 ∷ 19 ∷ [])
    ∷ row (ascii "x @ x @ x @ x @ x @ x @ x @ x @ x @ x @ x @ x @ _") (1 ∷ 1 ∷ 48 ∷ 4 ∷ 44 ∷ 0 ∷ 4 ∷ 40 ∷ 0 ∷ 4 ∷ 36 ∷ 0 ∷ 4 ∷ 32 ∷ 0 ∷ 4 ∷ 28 ∷ 0 ∷ 4 ∷ 24 ∷ 0 ∷ 4 ∷ 20 ∷ 0 ∷ 4 ∷ 16 ∷ 0 ∷ 4 ∷ 12 ∷ 0 ∷ 4 ∷ 8 ∷ 0 ∷ 4 ∷ 4 ∷ 0 ∷ 4 ∷ 0 ∷ 0 ∷ [])
    ∷ row (ascii "A::A::A::A::A::A::A::A::A::A::A::A::A::A::A::B") (1 ∷ 8 ∷ 0 ∷ 46 ∷ [])
    ∷ row (ascii "(_, _, _, _, _, _, _, _, _, _, _, _, _, _, _, ..)") (1 ∷ 1 ∷ 1 ∷ 1 ∷ 4 ∷ 1 ∷ 7 ∷ 1 ∷ 10 ∷ 1 ∷ 13 ∷ 1 ∷ 16 ∷ 1 ∷ 19 ∷ 1 ∷ 22 ∷ 1 ∷ 25 ∷ 1 ∷ 28 ∷ 1 ∷ 31 ∷ 1 ∷ 34 ∷ 1 ∷ 37 ∷ 1 ∷ 40 ∷ 1 ∷ 43 ∷ 5 ∷ 46 ∷ 9 ∷ 0 ∷ 16 ∷ [])
    ∷ []

pub mixed_hold : map given mixed_rows ≡ map wants mixed_rows
unfolding mixed_rows ascii run is_scalar_value is_tail shortest_form scalar_from scalar_of is_utf8 whitespace in_line is_line_doc is_block_doc opens closes depth_behind unpaired block_from in_utf8 line_gap block_gap comment_of gap_of start_from member is_whitespace is_between is_digit is_letter begins_word in_word same_word is_one_of keywords never_raw word_of ends_prefix is_raw raw_piece plain_piece word_piece in_integer goes_on integer_of integer_piece hex_digit simple_escape byte_escape escaped unicode_from escape_of plain_char char_of is_suffix closed_char char_piece begins punctuation first_where piece_of token_from token_behind token_at decimal_from in_halves integer_value of_kind lexeme over wide closer path_at literal_at bound_at upward_at open_at when_strict open_item_at fits_rest behind_name behind_bar list_room is_rest_alt is_rest_plain is_rest has_rest item_room range_of close_alt close_plain room_in room_behind room_of ranged dots_in rest_stands fitting unless_open starts bounds behind ends named_in path_in negative_in behind_path behind_field on_mark on_name on_char step feed is_last lexemes_from lexemes parsed given01 flags literal_to is_inclusive key_at count_items count_fields ampersand_o head_o is_lone pattern_o alt_o plain_o items_o fields_o field_o answer_of
mixed_hold = refl
