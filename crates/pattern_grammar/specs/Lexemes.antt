-- Tokens as the grammar's machine takes them: names, chars, and marks, which are numbers. Assumes nothing: these are definitions.
use Rattle.std.specs.Prelude.{Some, None}
use Rattle.std.specs.Prelude.{ℕ, ◌+◌, ◌*◌, ◌^◌, Bool, true, false, cond, ◌&&◌, List, ltb}
use Rattle.pattern_words.specs.declared.Kind.{Kind}
use Rattle.pattern_words.specs.declared.Kind.TheVariants.{Name, Ref, Mut, True, False, Underscore, Integer, Char, OpenParen, CloseParen, OpenBracket, CloseBracket, OpenBrace, CloseBrace, Comma, Or, And, AndAnd, Bind, Minus, Colon, PathSep, DotDot, DotDotEq, End, Fails}
use Rattle.pattern_tokens.specs.declared.Token.{Token}
use Rattle.decimal_values.specs.Results.{Value}
use Rattle.decimal_values.specs.Values.{integer_value}

-- where a token stands: its first byte, and the byte behind it
pub record Spot : Type 0 where
  pub from : ℕ
  pub to : ℕ

-- IDENTIFIER (ident.syntax): where the name itself begins, behind `r#`, and where its token stands
pub record Identifier : Type 0 where
  pub own : ℕ
  pub spot : Spot

pub data Lexeme : Type 0 where
  name : Identifier → Lexeme
  scalar : ℕ → Spot → Lexeme
  mark : ℕ → Spot → Lexeme

-- what can stand behind a pattern: the text's end, `,`, `|` and closing brackets
abbrev pub end_mark : ℕ
end_mark = 0

abbrev pub comma_mark : ℕ
comma_mark = 1

abbrev pub or_mark : ℕ
or_mark = 2

abbrev pub close_paren_mark : ℕ
close_paren_mark = 3

abbrev pub close_bracket_mark : ℕ
close_bracket_mark = 4

abbrev pub close_brace_mark : ℕ
close_brace_mark = 5

-- and what cannot
abbrev pub ref_mark : ℕ
ref_mark = 6

abbrev pub mut_mark : ℕ
mut_mark = 7

abbrev pub true_mark : ℕ
true_mark = 8

abbrev pub false_mark : ℕ
false_mark = 9

abbrev pub underscore_mark : ℕ
underscore_mark = 10

abbrev pub integer_mark : ℕ
integer_mark = 11

abbrev pub minus_mark : ℕ
minus_mark = 12

abbrev pub open_paren_mark : ℕ
open_paren_mark = 13

abbrev pub open_bracket_mark : ℕ
open_bracket_mark = 14

abbrev pub open_brace_mark : ℕ
open_brace_mark = 15

abbrev pub and_mark : ℕ
and_mark = 16

abbrev pub and_and_mark : ℕ
and_and_mark = 17

abbrev pub bind_mark : ℕ
bind_mark = 18

abbrev pub colon_mark : ℕ
colon_mark = 19

abbrev pub path_sep_mark : ℕ
path_sep_mark = 20

abbrev pub dot_dot_mark : ℕ
dot_dot_mark = 21

abbrev pub dot_dot_eq_mark : ℕ
dot_dot_eq_mark = 22

abbrev pub fails_mark : ℕ
fails_mark = 23

-- a mark can stand behind a pattern
abbrev pub follows : ℕ → Bool
follows m = ltb m 6

-- the first byte of a token
unfoldable pub lexeme_at : Lexeme → ℕ
lexeme_at (name n) = n.spot.from
lexeme_at (scalar v q) = q.from
lexeme_at (mark m q) = q.from

unfoldable pub of_kind : Kind → Spot → Lexeme
of_kind (Name at) q = name (record { own = at; spot = q })
of_kind (Char v) q = scalar v q
of_kind Ref q = mark ref_mark q
of_kind Mut q = mark mut_mark q
of_kind True q = mark true_mark q
of_kind False q = mark false_mark q
of_kind Underscore q = mark underscore_mark q
of_kind Integer q = mark integer_mark q
of_kind OpenParen q = mark open_paren_mark q
of_kind CloseParen q = mark close_paren_mark q
of_kind OpenBracket q = mark open_bracket_mark q
of_kind CloseBracket q = mark close_bracket_mark q
of_kind OpenBrace q = mark open_brace_mark q
of_kind CloseBrace q = mark close_brace_mark q
of_kind Comma q = mark comma_mark q
of_kind Or q = mark or_mark q
of_kind And q = mark and_mark q
of_kind AndAnd q = mark and_and_mark q
of_kind Bind q = mark bind_mark q
of_kind Minus q = mark minus_mark q
of_kind Colon q = mark colon_mark q
of_kind PathSep q = mark path_sep_mark q
of_kind DotDot q = mark dot_dot_mark q
of_kind DotDotEq q = mark dot_dot_eq_mark q
of_kind End q = mark end_mark q
of_kind Fails q = mark fails_mark q

-- a token of a text
unfoldable pub lexeme : Token → Lexeme
lexeme t = of_kind t.kind (record { from = t.from; to = t.to })

-- a value is "over 16 bytes": 2^128 or more, or behind a minus more than 2^127
unfoldable pub over : Bool → Value → Bool
over behindMinus None = true
over behindMinus (Some (low, high)) = cond behindMinus (ltb (2 ^ 127) (high * 2 ^ 64 + low)) false

-- a text, and whether it is judged by more than the grammar alone
pub record Source : Type 0 where
  pub bytes : List ℕ
  pub strict : Bool

-- by all that is refused with 19
abbrev pub strictly : List ℕ → Source
strictly text = record { bytes = text; strict = true }

-- by the grammar alone
abbrev pub loosely : List ℕ → Source
loosely text = record { bytes = text; strict = false }

-- the integer that stands here in a text is over 16 bytes, and that matters
unfoldable pub wide : Source → Bool → Spot → Bool
wide text behindMinus q = over behindMinus (integer_value text.bytes q.from q.to) && text.strict
