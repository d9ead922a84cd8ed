-- Whitespace, comments and punctuation: the definitions, computed. Assumes nothing.
use mathlib.Core.Path.{◌≡◌, refl}
use mathlib.Core.List.{List, [], ◌∷◌, ◌++◌, map}
use Rattle.image.specs.Lists.{member}
use Rattle.text_chars.specs.Bytes.{ascii, run}
use Rattle.image.specs.Operands.{is_scalar_value}
use Rattle.text_chars.specs.Scalars.{is_tail, shortest_form, scalar_from, scalar_of, is_utf8}
use Rattle.text_chars.specs.Gaps.{whitespace, is_whitespace, in_line, is_line_doc, is_block_doc, opens, closes, depth_behind, unpaired, block_from, in_utf8, line_gap, block_gap, comment_of, gap_of, start_from}
use Rattle.pattern_words.specs.declared.Kind.TheVariants.{Name, Mut, Integer, OpenParen, CloseParen, OpenBracket, CloseBracket, OpenBrace, CloseBrace, Comma, Or, And, AndAnd, Bind, Minus, Colon, PathSep, DotDot, DotDotEq}
use Rattle.pattern_words.specs.Words.{is_between, is_digit, is_letter, begins_word, in_word, same_word, is_one_of, keywords, never_raw, word_of, ends_prefix, is_raw, raw_piece, plain_piece, word_piece}
use Rattle.pattern_tokens.specs.Literals.{in_integer, goes_on, integer_of, integer_piece, hex_digit, simple_escape, byte_escape, escaped, unicode_from, escape_of, plain_char, char_of, is_suffix, closed_char, char_piece}
use Rattle.pattern_tokens.specs.Tokens.{begins, punctuation, first_where, piece_of, token_from, token_behind, token_at}
use Rattle.token_samples.proofs.Tokens.{Row, row, token, end, fails, tokens, given, wants}

-- whitespace.syntax; a byte order mark is none
unfoldable pub whitespace_rows : List Row
whitespace_rows =
    row (ascii "") (end 0 ∷ [])
    ∷ row (ascii " ") (end 1 ∷ [])
    ∷ row ((0x09 ∷ 0x0A ∷ 0x0B ∷ 0x0C ∷ 0x0D ∷ []) ++ ascii " x") (token (Name 6) 6 7 ∷ end 7 ∷ [])
    ∷ row ((0xC2 ∷ 0x85 ∷ []) ++ ascii "x") (token (Name 2) 2 3 ∷ end 3 ∷ [])
    ∷ row ((0xE2 ∷ 0x80 ∷ 0x8E ∷ []) ++ ascii "x") (token (Name 3) 3 4 ∷ end 4 ∷ [])
    ∷ row ((0xE2 ∷ 0x80 ∷ 0x8F ∷ []) ++ ascii "x") (token (Name 3) 3 4 ∷ end 4 ∷ [])
    ∷ row ((0xE2 ∷ 0x80 ∷ 0xA8 ∷ []) ++ ascii "x") (token (Name 3) 3 4 ∷ end 4 ∷ [])
    ∷ row ((0xE2 ∷ 0x80 ∷ 0xA9 ∷ []) ++ ascii "x") (token (Name 3) 3 4 ∷ end 4 ∷ [])
    ∷ row ((0xE2 ∷ 0x80 ∷ 0xAA ∷ []) ++ ascii "x") (fails 0 ∷ [])
    ∷ row ((0xC2 ∷ 0xA0 ∷ []) ++ ascii "x") (fails 0 ∷ [])
    ∷ row ((0xEF ∷ 0xBB ∷ 0xBF ∷ []) ++ ascii "x") (fails 0 ∷ [])
    ∷ row ((0xC2 ∷ [])) (fails 0 ∷ [])
    ∷ row (ascii "x" ++ (0x00 ∷ [])) (token (Name 0) 0 1 ∷ fails 1 ∷ [])
    ∷ row ((0x1C ∷ []) ++ ascii "x") (fails 0 ∷ [])
    ∷ []

pub whitespace_hold : map given whitespace_rows ≡ map wants whitespace_rows
unfolding whitespace_rows ascii run is_scalar_value is_tail shortest_form scalar_from scalar_of is_utf8 whitespace in_line is_line_doc is_block_doc opens closes depth_behind unpaired block_from in_utf8 line_gap block_gap comment_of gap_of start_from member is_whitespace is_between is_digit is_letter begins_word in_word same_word is_one_of keywords never_raw word_of ends_prefix is_raw raw_piece plain_piece word_piece in_integer goes_on integer_of integer_piece hex_digit simple_escape byte_escape escaped unicode_from escape_of plain_char char_of is_suffix closed_char char_piece begins punctuation first_where piece_of token_from token_behind token_at tokens
whitespace_hold = refl

-- comments.syntax: nested, doc, not finished, not UTF-8
unfoldable pub comments_rows : List Row
comments_rows =
    row (ascii " /* a /* b */ c */ 7 // d") (token Integer 19 20 ∷ end 25 ∷ [])
    ∷ row (ascii "7 /** doc */") (token Integer 0 1 ∷ fails 2 ∷ [])
    ∷ row (ascii "7 // Gr" ++ (0xC3 ∷ 0xB6 ∷ 0xC3 ∷ 0x9F ∷ []) ++ ascii "e") (token Integer 0 1 ∷ end 12 ∷ [])
    ∷ row (ascii "// a" ++ (0x0A ∷ []) ++ ascii "x") (token (Name 5) 5 6 ∷ end 6 ∷ [])
    ∷ row (ascii "//") (end 2 ∷ [])
    ∷ row (ascii "//" ++ (0x0A ∷ []) ++ ascii "x") (token (Name 3) 3 4 ∷ end 4 ∷ [])
    ∷ row (ascii "///") (fails 0 ∷ [])
    ∷ row (ascii "/// a" ++ (0x0A ∷ []) ++ ascii "x") (fails 0 ∷ [])
    ∷ row (ascii "//// a" ++ (0x0A ∷ []) ++ ascii "x") (token (Name 7) 7 8 ∷ end 8 ∷ [])
    ∷ row (ascii "//! a" ++ (0x0A ∷ []) ++ ascii "x") (fails 0 ∷ [])
    ∷ row (ascii "/ / a") (fails 0 ∷ [])
    ∷ row (ascii "/**/x") (token (Name 4) 4 5 ∷ end 5 ∷ [])
    ∷ row (ascii "/***/x") (token (Name 5) 5 6 ∷ end 6 ∷ [])
    ∷ row (ascii "/*** a */x") (token (Name 9) 9 10 ∷ end 10 ∷ [])
    ∷ row (ascii "/** a */x") (fails 0 ∷ [])
    ∷ row (ascii "/*! a */x") (fails 0 ∷ [])
    ∷ row (ascii "/*!*/") (fails 0 ∷ [])
    ∷ row (ascii "/*/ a */x") (token (Name 8) 8 9 ∷ end 9 ∷ [])
    ∷ row (ascii "/*/*/ */ */x") (token (Name 11) 11 12 ∷ end 12 ∷ [])
    ∷ row (ascii "/*/**/*/x") (token (Name 8) 8 9 ∷ end 9 ∷ [])
    ∷ row (ascii "/* a") (fails 0 ∷ [])
    ∷ row (ascii "/* /* */") (fails 0 ∷ [])
    ∷ row (ascii "/**") (fails 0 ∷ [])
    ∷ row (ascii "/*") (fails 0 ∷ [])
    ∷ row (ascii "/") (fails 0 ∷ [])
    ∷ row (ascii "/= x") (fails 0 ∷ [])
    ∷ row (ascii "// " ++ (0xFF ∷ [])) (fails 0 ∷ [])
    ∷ row (ascii "// " ++ (0xED ∷ 0xA0 ∷ 0x80 ∷ 0x0A ∷ []) ++ ascii "x") (fails 0 ∷ [])
    ∷ row (ascii "// " ++ (0xC0 ∷ 0x80 ∷ 0x0A ∷ []) ++ ascii "x") (fails 0 ∷ [])
    ∷ row (ascii "// " ++ (0xF4 ∷ 0x8F ∷ 0xBF ∷ 0xBF ∷ 0x0A ∷ []) ++ ascii "x") (token (Name 8) 8 9 ∷ end 9 ∷ [])
    ∷ row (ascii "// " ++ (0xF4 ∷ 0x90 ∷ 0x80 ∷ 0x80 ∷ 0x0A ∷ []) ++ ascii "x") (fails 0 ∷ [])
    ∷ row (ascii "// " ++ (0xE0 ∷ 0x80 ∷ 0x80 ∷ 0x0A ∷ []) ++ ascii "x") (fails 0 ∷ [])
    ∷ row (ascii "// " ++ (0xC3 ∷ 0x0A ∷ []) ++ ascii "x") (fails 0 ∷ [])
    ∷ row (ascii "// " ++ (0xC3 ∷ [])) (fails 0 ∷ [])
    ∷ row (ascii "/* " ++ (0xC3 ∷ []) ++ ascii " */x") (fails 0 ∷ [])
    ∷ row (ascii "/* " ++ (0xC3 ∷ 0xA9 ∷ []) ++ ascii " */x") (token (Name 8) 8 9 ∷ end 9 ∷ [])
    ∷ row (ascii "/* " ++ (0xC3 ∷ []) ++ ascii "*/x") (fails 0 ∷ [])
    ∷ row (ascii "x/**/y") (token (Name 0) 0 1 ∷ token (Name 5) 5 6 ∷ end 6 ∷ [])
    ∷ row (ascii "x//" ++ (0x0A ∷ []) ++ ascii "//" ++ (0x0A ∷ []) ++ ascii " y") (token (Name 0) 0 1 ∷ token (Name 8) 8 9 ∷ end 9 ∷ [])
    ∷ row (ascii "// a" ++ (0x0D ∷ []) ++ ascii "y") (end 6 ∷ [])
    ∷ row (ascii "/* a */*/ x") (fails 7 ∷ [])
    ∷ row (ascii "/* *//* */ x") (token (Name 11) 11 12 ∷ end 12 ∷ [])
    ∷ row (ascii "/* ** / */x") (token (Name 10) 10 11 ∷ end 11 ∷ [])
    ∷ row (ascii "/****/x") (token (Name 6) 6 7 ∷ end 7 ∷ [])
    ∷ row (ascii "/*! /* */") (fails 0 ∷ [])
    ∷ row (ascii "/* // */x") (token (Name 8) 8 9 ∷ end 9 ∷ [])
    ∷ row (ascii "// /*" ++ (0x0A ∷ []) ++ ascii "x") (token (Name 6) 6 7 ∷ end 7 ∷ [])
    ∷ []

pub comments_hold : map given comments_rows ≡ map wants comments_rows
unfolding comments_rows ascii run is_scalar_value is_tail shortest_form scalar_from scalar_of is_utf8 whitespace in_line is_line_doc is_block_doc opens closes depth_behind unpaired block_from in_utf8 line_gap block_gap comment_of gap_of start_from member is_whitespace is_between is_digit is_letter begins_word in_word same_word is_one_of keywords never_raw word_of ends_prefix is_raw raw_piece plain_piece word_piece in_integer goes_on integer_of integer_piece hex_digit simple_escape byte_escape escaped unicode_from escape_of plain_char char_of is_suffix closed_char char_piece begins punctuation first_where piece_of token_from token_behind token_at tokens
comments_hold = refl

-- lex.token.punct.syntax: the longest
unfoldable pub punctuation_rows : List Row
punctuation_rows =
    row (ascii "()[]{},|&@-:") (token OpenParen 0 1 ∷ token CloseParen 1 2 ∷ token OpenBracket 2 3 ∷ token CloseBracket 3 4 ∷ token OpenBrace 4 5 ∷ token CloseBrace 5 6 ∷ token Comma 6 7 ∷ token Or 7 8 ∷ token And 8 9 ∷ token Bind 9 10 ∷ token Minus 10 11 ∷ token Colon 11 12 ∷ end 12 ∷ [])
    ∷ row (ascii "&&") (token AndAnd 0 2 ∷ end 2 ∷ [])
    ∷ row (ascii "&&&") (token AndAnd 0 2 ∷ token And 2 3 ∷ end 3 ∷ [])
    ∷ row (ascii "::") (token PathSep 0 2 ∷ end 2 ∷ [])
    ∷ row (ascii ":::") (token PathSep 0 2 ∷ token Colon 2 3 ∷ end 3 ∷ [])
    ∷ row (ascii "..") (token DotDot 0 2 ∷ end 2 ∷ [])
    ∷ row (ascii "..=") (token DotDotEq 0 3 ∷ end 3 ∷ [])
    ∷ row (ascii "..==") (token DotDotEq 0 3 ∷ fails 3 ∷ [])
    ∷ row (ascii "...") (fails 0 ∷ [])
    ∷ row (ascii "....") (fails 0 ∷ [])
    ∷ row (ascii ".") (fails 0 ∷ [])
    ∷ row (ascii ".. .") (token DotDot 0 2 ∷ fails 3 ∷ [])
    ∷ row (ascii ".. =5") (token DotDot 0 2 ∷ fails 3 ∷ [])
    ∷ row (ascii "||") (fails 0 ∷ [])
    ∷ row (ascii "|=") (fails 0 ∷ [])
    ∷ row (ascii "a || b") (token (Name 0) 0 1 ∷ fails 2 ∷ [])
    ∷ row (ascii "| |") (token Or 0 1 ∷ token Or 2 3 ∷ end 3 ∷ [])
    ∷ row (ascii "&=") (fails 0 ∷ [])
    ∷ row (ascii "&&=") (token AndAnd 0 2 ∷ fails 2 ∷ [])
    ∷ row (ascii "& &") (token And 0 1 ∷ token And 2 3 ∷ end 3 ∷ [])
    ∷ row (ascii "->") (fails 0 ∷ [])
    ∷ row (ascii "-=") (fails 0 ∷ [])
    ∷ row (ascii "- >") (token Minus 0 1 ∷ fails 2 ∷ [])
    ∷ row (ascii "-1") (token Minus 0 1 ∷ token Integer 1 2 ∷ end 2 ∷ [])
    ∷ row (ascii "=") (fails 0 ∷ [])
    ∷ row (ascii "==") (fails 0 ∷ [])
    ∷ row (ascii "=>") (fails 0 ∷ [])
    ∷ row (ascii "<-") (fails 0 ∷ [])
    ∷ row (ascii "<") (fails 0 ∷ [])
    ∷ row (ascii "+") (fails 0 ∷ [])
    ∷ row (ascii "!") (fails 0 ∷ [])
    ∷ row (ascii "#") (fails 0 ∷ [])
    ∷ row (ascii "$") (fails 0 ∷ [])
    ∷ row (ascii "%") (fails 0 ∷ [])
    ∷ row (ascii "*") (fails 0 ∷ [])
    ∷ row (ascii ";") (fails 0 ∷ [])
    ∷ row (ascii "?") (fails 0 ∷ [])
    ∷ row (ascii "^") (fails 0 ∷ [])
    ∷ row (ascii "~") (fails 0 ∷ [])
    ∷ row (ascii "`") (fails 0 ∷ [])
    ∷ row (ascii "\\") (fails 0 ∷ [])
    ∷ row (ascii "\"a\"") (fails 0 ∷ [])
    ∷ row (ascii "@@") (token Bind 0 1 ∷ token Bind 1 2 ∷ end 2 ∷ [])
    ∷ row (ascii "&mut x") (token And 0 1 ∷ token Mut 1 4 ∷ token (Name 5) 5 6 ∷ end 6 ∷ [])
    ∷ row (ascii "1 . . 2") (token Integer 0 1 ∷ fails 2 ∷ [])
    ∷ row (ascii "A!()") (token (Name 0) 0 1 ∷ fails 1 ∷ [])
    ∷ row (ascii "1..=2") (token Integer 0 1 ∷ token DotDotEq 1 4 ∷ token Integer 4 5 ∷ end 5 ∷ [])
    ∷ row (ascii "1...2") (token Integer 0 1 ∷ fails 1 ∷ [])
    ∷ row (ascii "&|") (token And 0 1 ∷ token Or 1 2 ∷ end 2 ∷ [])
    ∷ row (ascii "-..") (token Minus 0 1 ∷ token DotDot 1 3 ∷ end 3 ∷ [])
    ∷ row (ascii ":..") (token Colon 0 1 ∷ token DotDot 1 3 ∷ end 3 ∷ [])
    ∷ row (ascii "&-1") (token And 0 1 ∷ token Minus 1 2 ∷ token Integer 2 3 ∷ end 3 ∷ [])
    ∷ []

pub punctuation_hold : map given punctuation_rows ≡ map wants punctuation_rows
unfolding punctuation_rows ascii run is_scalar_value is_tail shortest_form scalar_from scalar_of is_utf8 whitespace in_line is_line_doc is_block_doc opens closes depth_behind unpaired block_from in_utf8 line_gap block_gap comment_of gap_of start_from member is_whitespace is_between is_digit is_letter begins_word in_word same_word is_one_of keywords never_raw word_of ends_prefix is_raw raw_piece plain_piece word_piece in_integer goes_on integer_of integer_piece hex_digit simple_escape byte_escape escaped unicode_from escape_of plain_char char_of is_suffix closed_char char_piece begins punctuation first_where piece_of token_from token_behind token_at tokens
punctuation_hold = refl
