-- The chars among a text's tokens are scalar values. Assumes nothing.
use Rattle.std.specs.Prelude.{Some, None, Ok, Err}
use Prim.Native.Nat.{ℕ, zero, suc, ◌+◌, ◌*◌, ◌<◌}
use Prim.Native.Char.{code}
use mathlib.Core.Path.{◌≡◌, refl}
use mathlib.Core.Bool.{Bool, true, false, cond, not, ◌&&◌, ◌||◌}
use mathlib.Core.List.{List, [], ◌∷◌}
use native.Mathlib.Omega.{arith}
use borrow.Author.Tests.{ltb-true, lt-ltb, eqb-true}
use lib.Dec.{eqb, leb, ltb}
use lib.ListN.{length, take, drop}
use Rattle.image.specs.Lists.{member}
use Rattle.image.proofs.Bools.{and_left, and_right}
use Rattle.text_chars.specs.Results.{Scalar}
use Rattle.text_chars.specs.Results.{Start}
use Rattle.text_chars.specs.Bytes.{byte_of, ascii, run}
use Rattle.image.specs.Operands.{is_scalar_value}
use Rattle.text_chars.specs.Scalars.{is_tail, shortest_form, scalar_from, scalar_of, on_scalar}
use Rattle.text_chars.specs.Gaps.{start_of}
use Rattle.pattern_words.specs.declared.Kind.{Kind}
use Rattle.pattern_words.specs.declared.Piece.{Piece}
use Rattle.pattern_words.specs.Words.{is_digit, begins_word, in_word, same_word, is_one_of, keywords, never_raw, failing, word_of, ends_prefix, is_raw, raw_piece, plain_piece, word_piece}
use Rattle.pattern_tokens.specs.Literals.{goes_on, integer_of, integer_piece, hex_digit, simple_escape, byte_escape, escaped, unicode_from, escape_of, plain_char, char_of, is_suffix, closed_char, char_piece}
use Rattle.pattern_tokens.specs.Tokens.{Mark, begins, punctuation, first_where, piece_of, token_from, token_behind, token_at}
use Rattle.pattern_grammar.specs.Lexemes.{Spot, Lexeme, of_kind, lexeme}
use Rattle.pattern_grammar.specs.Parsed.{is_last, lexemes_from, lexemes}
use Rattle.tree_forms.specs.Forms.{LexemeOk, AllOk}

-- what is read is a scalar value, where it is one
abbrev ScalarOk : Scalar → Type 0
ScalarOk (Some (v, more)) = is_scalar_value v ≡ true
ScalarOk None = Unit

either : (p : Bool) (x y : Scalar) → (p ≡ true → ScalarOk x) → ScalarOk y → ScalarOk (cond p x y)
either true x y h g = h refl
either false x y h g = g

-- small numbers are scalar values
small : (v : ℕ) → v < 0xD800 → is_scalar_value v ≡ true
unfolding is_scalar_value
small v h = rw (lt-ltb v 0xD800 h)

shortest_ok : (least v more : ℕ) → ScalarOk (shortest_form least v more)
unfolding shortest_form
shortest_ok least v more = either (leb least v && is_scalar_value v) (Some (v, more)) None (λ e. and_right (leb least v) (is_scalar_value v) e) tt

from_ok : (a b c d : ℕ) → ScalarOk (scalar_from a b c d)
unfolding scalar_from
from_ok a b c d =
    either (ltb a 0x80) _ _ (λ e. small a (omega (arith, ltb-true a 0x80 e)))
    (either (ltb a 0xC0 || not (is_tail b)) _ _ (λ _. tt)
    (either (ltb a 0xE0) _ _ (λ _. shortest_ok _ _ _)
    (either (not (is_tail c)) _ _ (λ _. tt)
    (either (ltb a 0xF0) _ _ (λ _. shortest_ok _ _ _)
    (either (not (is_tail d)) _ _ (λ _. tt)
    (either (ltb a 0xF8) _ _ (λ _. shortest_ok _ _ _) tt))))))

of_ok : (bytes : List ℕ) → ScalarOk (scalar_of bytes)
unfolding scalar_of
of_ok bytes = from_ok _ _ _ _

plain_ok_lem : (s : Scalar) → ScalarOk s → ScalarOk (plain_char s)
unfolding plain_char
plain_ok_lem (Some (v, more)) h = either (member v _) None (Some (v, more)) (λ _. tt) h
plain_ok_lem None h = tt

simple_ok : (b : ℕ) → ScalarOk (simple_escape b)
unfolding simple_escape is_scalar_value
simple_ok b =
    either (eqb b (code "n")) _ _ (λ _. refl)
    (either (eqb b (code "r")) _ _ (λ _. refl)
    (either (eqb b (code "t")) _ _ (λ _. refl)
    (either (eqb b (code "0")) _ _ (λ _. refl)
    (either (eqb b (code "\\") || (eqb b (code "'") || eqb b (code "\""))) _ _ quoted tt))))
  where
    one_of_lem : (p q r : Bool) {C : Type 0} → p || (q || r) ≡ true → (p ≡ true → C) → (q ≡ true → C) → (r ≡ true → C) → C
    one_of_lem true q r e f g h = f refl
    one_of_lem false true r e f g h = g refl
    one_of_lem false false r e f g h = h e

    quoted : eqb b (code "\\") || (eqb b (code "'") || eqb b (code "\"")) ≡ true → is_scalar_value b ≡ true
    quoted e =
        one_of_lem (eqb b (code "\\")) (eqb b (code "'")) (eqb b (code "\"")) e
        (λ q. small b (omega (arith, eqb-true b (code "\\") q)))
        (λ q. small b (omega (arith, eqb-true b (code "'") q)))
        (λ q. small b (omega (arith, eqb-true b (code "\"") q)))

byte_ok : (b c : ℕ) → ScalarOk (byte_escape b c)
unfolding byte_escape
byte_ok b c =
    either (ltb (hex_digit b) 8 && ltb (hex_digit c) 16) _ _
    (λ e.
    let high = ltb-true (hex_digit b) 8 (and_left (ltb (hex_digit b) 8) (ltb (hex_digit c) 16) e) in
    let low = ltb-true (hex_digit c) 16 (and_right (ltb (hex_digit b) 8) (ltb (hex_digit c) 16) e) in
    small (hex_digit b * 16 + hex_digit c) (omega (arith, high, low)))
    tt

escaped_ok : (v more : ℕ) → ScalarOk (escaped v more)
unfolding escaped
escaped_ok v more = either (is_scalar_value v) (Some (v, more)) None (λ e. e) tt

unicode_ok : (bytes : List ℕ) (read digits v : ℕ) → ScalarOk (unicode_from read digits v bytes)
unfolding unicode_from
unicode_ok [] read digits v = tt
unicode_ok (b ∷ bytes) read digits v =
    either (ltb (hex_digit b) 16) _ _ (λ _. either (ltb digits 6) _ _ (λ _. unicode_ok bytes (suc read) (suc digits) (v * 16 + hex_digit b)) tt)
    (either (eqb digits 0) _ _ (λ _. tt)
    (either (eqb b (code "_")) _ _ (λ _. unicode_ok bytes (suc read) digits v)
    (either (eqb b (code "}")) _ _ (λ _. escaped_ok v read) tt)))

char_ok : (bytes : List ℕ) → ScalarOk (char_of bytes)
unfolding char_of escape_of
char_ok bytes =
    either (eqb (byte_of bytes 0) (code "\\")) _ _
    (λ _. either (eqb (byte_of bytes 1) (code "x")) _ _ (λ _. byte_ok _ _)
    (either (eqb (byte_of bytes 1) (code "u") && eqb (byte_of bytes 2) (code "{")) _ _ (λ _. unicode_ok (drop 3 bytes) 3 0 0) (simple_ok (byte_of bytes 1))))
    (plain_ok_lem (scalar_of bytes) (of_ok bytes))

-- a token's kind: a char is a scalar value
abbrev KindOk : Kind → Type 0
KindOk (Kind.Name at) = Unit
KindOk (Kind.Char v) = is_scalar_value v ≡ true
KindOk Kind.Ref = Unit
KindOk Kind.Mut = Unit
KindOk Kind.True = Unit
KindOk Kind.False = Unit
KindOk Kind.Underscore = Unit
KindOk Kind.Integer = Unit
KindOk Kind.OpenParen = Unit
KindOk Kind.CloseParen = Unit
KindOk Kind.OpenBracket = Unit
KindOk Kind.CloseBracket = Unit
KindOk Kind.OpenBrace = Unit
KindOk Kind.CloseBrace = Unit
KindOk Kind.Comma = Unit
KindOk Kind.Or = Unit
KindOk Kind.And = Unit
KindOk Kind.AndAnd = Unit
KindOk Kind.Bind = Unit
KindOk Kind.Minus = Unit
KindOk Kind.Colon = Unit
KindOk Kind.PathSep = Unit
KindOk Kind.DotDot = Unit
KindOk Kind.DotDotEq = Unit
KindOk Kind.End = Unit
KindOk Kind.Fails = Unit

chosen : (p : Bool) (x y : Piece) → KindOk x.kind → KindOk y.kind → KindOk (cond p x y).kind
chosen true x y h g = h
chosen false x y h g = g

word_ok : (at : ℕ) (bytes : List ℕ) → KindOk (word_piece at bytes).kind
unfolding word_piece raw_piece plain_piece word_of
word_ok at bytes =
    let word = take (run in_word bytes) bytes in
    chosen (is_raw bytes) _ _ (chosen (is_one_of _ never_raw) _ _ tt tt)
    (chosen (ends_prefix _) _ _ tt
    (chosen (same_word word (ascii "_")) _ _ tt
    (chosen (same_word word (ascii "ref")) _ _ tt
    (chosen (same_word word (ascii "mut")) _ _ tt
    (chosen (same_word word (ascii "true")) _ _ tt
    (chosen (same_word word (ascii "false")) _ _ tt
    (chosen (is_one_of word keywords) _ _ tt tt)))))))

integer_ok : (bytes : List ℕ) → KindOk (integer_piece bytes).kind
unfolding integer_piece integer_of
integer_ok bytes = chosen (goes_on _ _) _ _ tt tt

char_piece_ok : (bytes : List ℕ) → KindOk (char_piece bytes).kind
unfolding char_piece closed_char
char_piece_ok bytes = by (char_of (drop 1 bytes)) (char_ok (drop 1 bytes))
  where
    by : (s : Scalar) → ScalarOk s → KindOk (on_scalar s failing (closed_char bytes)).kind
    by (Some (v, more)) h = chosen (eqb (byte_of bytes (more + 2)) (code "'") && not (is_suffix (byte_of bytes (more + 3)) (byte_of bytes (more + 4)))) _ _ h tt
    by None h = tt

-- punctuation is no char
abbrev MarksOk : List Mark → Type 0
MarksOk [] = Unit
MarksOk (m ∷ ms) = KindOk m.is.kind × MarksOk ms

marks_ok : MarksOk punctuation
unfolding punctuation
marks_ok = (tt, (tt, (tt, (tt, (tt, (tt, (tt, (tt, (tt, (tt, (tt, (tt, (tt, (tt, (tt, (tt, (tt, (tt, (tt, (tt, (tt, (tt, (tt, tt)))))))))))))))))))))))

first_ok : (ms : List Mark) (bytes : List ℕ) → MarksOk ms → KindOk (first_where bytes ms).kind
unfolding first_where
first_ok [] bytes h = tt
first_ok (m ∷ ms) bytes h = chosen (begins bytes 0 (ascii m.text)) m.is (first_where bytes ms) h.0 (first_ok ms bytes h.1)

piece_ok : (at : ℕ) (bytes : List ℕ) → KindOk (piece_of at bytes).kind
unfolding piece_of
piece_ok at bytes =
    chosen (begins_word (byte_of bytes 0)) _ _ (word_ok at bytes)
    (chosen (is_digit (byte_of bytes 0)) _ _ (integer_ok bytes)
    (chosen (eqb (byte_of bytes 0) (code "'")) _ _ (char_piece_ok bytes) (first_ok punctuation bytes marks_ok)))

from_token : (at : ℕ) (bytes : List ℕ) → KindOk (token_from at bytes).kind
unfolding token_from
from_token at [] = tt
from_token at (b ∷ bytes) = piece_ok at (b ∷ bytes)

token_ok : (text : List ℕ) (at : ℕ) → KindOk (token_at text at).kind
unfolding token_at token_behind
token_ok text at = by (start_of text at)
  where
    by : (s : Start) → KindOk (token_behind text s).kind
    by (Ok from) = from_token from (drop from text)
    by (Err from) = tt

-- the token of a kind
kind_lexeme : (k : Kind) (q : Spot) → KindOk k → LexemeOk (of_kind k q)
unfolding of_kind
kind_lexeme (Kind.Name at) q h = tt
kind_lexeme (Kind.Char v) q h = h
kind_lexeme Kind.Ref q h = tt
kind_lexeme Kind.Mut q h = tt
kind_lexeme Kind.True q h = tt
kind_lexeme Kind.False q h = tt
kind_lexeme Kind.Underscore q h = tt
kind_lexeme Kind.Integer q h = tt
kind_lexeme Kind.OpenParen q h = tt
kind_lexeme Kind.CloseParen q h = tt
kind_lexeme Kind.OpenBracket q h = tt
kind_lexeme Kind.CloseBracket q h = tt
kind_lexeme Kind.OpenBrace q h = tt
kind_lexeme Kind.CloseBrace q h = tt
kind_lexeme Kind.Comma q h = tt
kind_lexeme Kind.Or q h = tt
kind_lexeme Kind.And q h = tt
kind_lexeme Kind.AndAnd q h = tt
kind_lexeme Kind.Bind q h = tt
kind_lexeme Kind.Minus q h = tt
kind_lexeme Kind.Colon q h = tt
kind_lexeme Kind.PathSep q h = tt
kind_lexeme Kind.DotDot q h = tt
kind_lexeme Kind.DotDotEq q h = tt
kind_lexeme Kind.End q h = tt
kind_lexeme Kind.Fails q h = tt

lexemes_from_lem : (n : ℕ) (text : List ℕ) (at : ℕ) → AllOk (lexemes_from n text at)
unfolding lexemes_from lexeme
lexemes_from_lem zero text at = tt
lexemes_from_lem (suc n) text at = (
  kind_lexeme (token_at text at).kind _ (token_ok text at),
  rest (is_last (lexeme (token_at text at))) (lexemes_from n text (token_at text at).to)
      (lexemes_from_lem n text (token_at text at).to),
)
  where
    rest : (b : Bool) (ts : List Lexeme) → AllOk ts → AllOk (cond b [] ts)
    rest true ts h = tt
    rest false ts h = h

-- The chars among a text's tokens are scalar values.
pub lexemes_ok : (text : List ℕ) → AllOk (lexemes text)
unfolding lexemes
lexemes_ok text = lexemes_from_lem (suc (length text)) text 0
