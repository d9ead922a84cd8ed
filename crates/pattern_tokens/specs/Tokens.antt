-- The token at a position of a text: the longest of the Reference's (lex.token.syntax), which fails where it is none of a pattern's.
-- Assumes nothing: these are definitions.
use Rattle.std.specs.Prelude.{Ok, Err}
use Rattle.std.specs.Prelude.{ℕ, suc, ◌+◌, Bool, true, cond, ◌&&◌, List, [], ◌∷◌, eqb, drop}
use Prim.Native.Char.{code}
use Prim.Native.String.{String}
use Rattle.text_chars.specs.Results.{Start}
use Rattle.text_chars.specs.Bytes.{byte_of, ascii}
use Rattle.text_chars.specs.Gaps.{start_of}
use Rattle.pattern_words.specs.declared.Kind.{Kind}
use Rattle.pattern_words.specs.declared.Kind.TheVariants.{OpenParen, CloseParen, OpenBracket, CloseBracket, OpenBrace, CloseBrace, Comma, Or, And, AndAnd, Bind, Minus, Colon, PathSep, DotDot, DotDotEq, End, Fails}
use Rattle.pattern_words.specs.declared.Piece.{Piece}
use Rattle.pattern_tokens.specs.declared.Token.{Token}
use Rattle.pattern_words.specs.Words.{is_digit, begins_word, piece, failing, word_piece}
use Rattle.pattern_tokens.specs.Literals.{integer_piece, char_piece}

-- the bytes begin with these
unfoldable pub begins : List ℕ → ℕ → List ℕ → Bool
begins bytes k [] = true
begins bytes k (c ∷ cs) = eqb (byte_of bytes k) c && begins bytes (suc k) cs

-- a token as it is written, and what it is
pub record Mark : Type 0 where
  pub text : String
  pub is : Piece

-- PUNCTUATION (lex.token.punct.syntax), in its order, the longer before the shorter: those whose first byte begins one of a pattern's
unfoldable pub punctuation : List Mark
punctuation =
    record { text = "..."; is = failing }
    ∷ record { text = "..="; is = piece DotDotEq 3 }
    ∷ record { text = "&&"; is = piece AndAnd 2 }
    ∷ record { text = "&="; is = failing }
    ∷ record { text = "-="; is = failing }
    ∷ record { text = "->"; is = failing }
    ∷ record { text = ".."; is = piece DotDot 2 }
    ∷ record { text = "::"; is = piece PathSep 2 }
    ∷ record { text = "|="; is = failing }
    ∷ record { text = "||"; is = failing }
    ∷ record { text = "&"; is = piece And 1 }
    ∷ record { text = "("; is = piece OpenParen 1 }
    ∷ record { text = ")"; is = piece CloseParen 1 }
    ∷ record { text = ","; is = piece Comma 1 }
    ∷ record { text = "-"; is = piece Minus 1 }
    ∷ record { text = "."; is = failing }
    ∷ record { text = ":"; is = piece Colon 1 }
    ∷ record { text = "@"; is = piece Bind 1 }
    ∷ record { text = "["; is = piece OpenBracket 1 }
    ∷ record { text = "]"; is = piece CloseBracket 1 }
    ∷ record { text = "{"; is = piece OpenBrace 1 }
    ∷ record { text = "|"; is = piece Or 1 }
    ∷ record { text = "}"; is = piece CloseBrace 1 }
    ∷ []

-- the first of them with which the bytes begin; whatever begins with another byte is no token of a pattern
unfoldable pub first_where : List ℕ → List Mark → Piece
first_where bytes [] = failing
first_where bytes (m ∷ ms) = cond (begins bytes 0 (ascii m.text)) m.is (first_where bytes ms)

-- the token with which the bytes begin, at a position: by its first byte a word, an integer, a char, or punctuation
unfoldable pub piece_of : ℕ → List ℕ → Piece
piece_of at bytes =
    cond (begins_word (byte_of bytes 0)) (word_piece at bytes)
    (cond (is_digit (byte_of bytes 0)) (integer_piece bytes)
    (cond (eqb (byte_of bytes 0) (code "'")) (char_piece bytes)
    (first_where bytes punctuation)))

-- a token that begins at a position
abbrev pub placed : ℕ → Piece → Token
placed at p = record { kind = p.kind; from = at; to = at + p.size }

-- what has no bytes: the end of the text, or a comment that fails
abbrev pub bare : Kind → ℕ → Token
bare k at = record { kind = k; from = at; to = at }

-- the token that begins at a position, and the end of the text
unfoldable pub token_from : ℕ → List ℕ → Token
token_from at [] = bare End at
token_from at (b ∷ bytes) = placed at (piece_of at (b ∷ bytes))

-- behind whitespace and comments
unfoldable pub token_behind : List ℕ → Start → Token
token_behind text (Ok at) = token_from at (drop at text)
token_behind text (Err at) = bare Fails at

-- the first token from a position of a text on
unfoldable pub token_at : List ℕ → ℕ → Token
token_at text at = token_behind text (start_of text at)
