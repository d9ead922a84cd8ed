-- Decimal integers and chars. Assumes nothing: these are definitions.
use Rattle.std.specs.Prelude.{Some, None}
use Rattle.std.specs.Prelude.{ℕ, suc, ◌+◌, ◌*◌, ◌-◌, Bool, cond, not, ◌&&◌, ◌||◌, List, [], ◌∷◌, eqb, ltb, drop}
use Prim.Native.Char.{code}
use Rattle.image.specs.Lists.{member}
use Rattle.text_chars.specs.Results.{Scalar}
use Rattle.text_chars.specs.Bytes.{byte_of, run}
use Rattle.image.specs.Operands.{is_scalar_value}
use Rattle.text_chars.specs.Scalars.{scalar_of, on_scalar}
use Rattle.pattern_words.specs.declared.Kind.TheVariants.{Integer, Char}
use Rattle.pattern_words.specs.declared.Piece.{Piece}
use Rattle.pattern_words.specs.Words.{is_between, is_digit, is_letter, begins_word, in_word, piece, failing}

-- DEC_LITERAL (lex.token.literal.int.syntax): a digit, then digits and `_`
unfoldable pub in_integer : ℕ → Bool
in_integer b = is_digit b || eqb b (code "_")

-- what makes digits a literal of another kind, by the two bytes behind them: a suffix, a base, an exponent (a letter each), or a `.`
-- that is followed by none of `.`, `_` and a letter: FLOAT_LITERAL (lex.token.literal.float.syntax)
unfoldable pub goes_on : ℕ → ℕ → Bool
goes_on b c = begins_word b || (eqb b (code ".") && not (eqb c (code ".") || begins_word c))

-- an integer of so many bytes
unfoldable pub integer_of : List ℕ → ℕ → Piece
integer_of bytes n = cond (goes_on (byte_of bytes n) (byte_of bytes (n + 1))) failing (piece Integer n)

-- the token that begins with a digit
unfoldable pub integer_piece : List ℕ → Piece
integer_piece bytes = integer_of bytes (run in_integer bytes)

-- the value of a HEX_DIGIT (lex.token.literal.int.syntax); 16 for a byte that is none
unfoldable pub hex_digit : ℕ → ℕ
hex_digit b =
    cond (is_between (code "0") (code "9") b) (b - code "0")
    (cond (is_between (code "a") (code "f") b) (b - code "a" + 10)
    (cond (is_between (code "A") (code "F") b) (b - code "A" + 10)
    16))

-- `\n \r \t \\ \0 \' \"`, by the byte behind `\` (lex.token.literal.char.syntax: QUOTE_ESCAPE, ASCII_ESCAPE)
unfoldable pub simple_escape : ℕ → Scalar
simple_escape b =
    cond (eqb b (code "n")) (Some (0xA, 1))
    (cond (eqb b (code "r")) (Some (0xD, 1))
    (cond (eqb b (code "t")) (Some (0x9, 1))
    (cond (eqb b (code "0")) (Some (0, 1))
    (cond (eqb b (code "\\") || (eqb b (code "'") || eqb b (code "\""))) (Some (b, 1))
    None))))

-- `\x`, an octal digit and a hexadecimal digit: ASCII_ESCAPE
unfoldable pub byte_escape : ℕ → ℕ → Scalar
byte_escape b c = cond (ltb (hex_digit b) 8 && ltb (hex_digit c) 16) (Some (hex_digit b * 16 + hex_digit c, 3)) None

-- the scalar value that an escape means
unfoldable pub escaped : ℕ → ℕ → Scalar
escaped v more = cond (is_scalar_value v) (Some (v, more)) None

-- UNICODE_ESCAPE: `\u{`, (HEX_DIGIT _*) 1 to 6 times, and `}`. Of it so many bytes are read, with so many digits and this value. Behind
-- its first byte an escape has as many as before its last
unfoldable pub unicode_from : ℕ → ℕ → ℕ → List ℕ → Scalar
unicode_from read digits v [] = None
unicode_from read digits v (b ∷ bytes) =
    cond (ltb (hex_digit b) 16) (cond (ltb digits 6) (unicode_from (suc read) (suc digits) (v * 16 + hex_digit b) bytes) None)
    (cond (eqb digits 0) None
    (cond (eqb b (code "_")) (unicode_from (suc read) digits v bytes)
    (cond (eqb b (code "}")) (escaped v read)
    None)))

-- the bytes begin with an escape
unfoldable pub escape_of : List ℕ → Scalar
escape_of bytes =
    cond (eqb (byte_of bytes 1) (code "x")) (byte_escape (byte_of bytes 2) (byte_of bytes 3))
    (cond (eqb (byte_of bytes 1) (code "u") && eqb (byte_of bytes 2) (code "{")) (unicode_from 3 0 0 (drop 3 bytes))
    (simple_escape (byte_of bytes 1)))

-- what stands for itself between quotes: any but `'`, `\`, LF, CR, TAB (lex.token.literal.char.syntax)
unfoldable pub plain_char : Scalar → Scalar
plain_char None = None
plain_char (Some (v, more)) = cond (member v (code "'" ∷ 0xA ∷ 0xD ∷ 0x9 ∷ [])) None (Some (v, more))

-- what stands between the quotes of a char
unfoldable pub char_of : List ℕ → Scalar
char_of bytes = cond (eqb (byte_of bytes 0) (code "\\")) (escape_of bytes) (plain_char (scalar_of bytes))

-- a word other than `_` stands here: SUFFIX (lex.token.literal.suffix.syntax)
unfoldable pub is_suffix : ℕ → ℕ → Bool
is_suffix b c = is_letter b || (eqb b (code "_") && in_word c)

-- a char that has so many bytes behind the first one between its quotes, if it is closed and has no suffix
unfoldable pub closed_char : List ℕ → ℕ → ℕ → Piece
closed_char bytes v more =
    cond (eqb (byte_of bytes (more + 2)) (code "'") && not (is_suffix (byte_of bytes (more + 3)) (byte_of bytes (more + 4)))) (piece (Char v) (more + 3)) failing

-- the token that begins with `'`: CHAR_LITERAL (lex.token.literal.char.syntax); a lifetime fails, as does whatever is no token
unfoldable pub char_piece : List ℕ → Piece
char_piece bytes = on_scalar (char_of (drop 1 bytes)) failing (closed_char bytes)
