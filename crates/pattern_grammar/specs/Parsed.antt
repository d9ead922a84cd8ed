-- What becomes of a text: its tree, or 19's position. Assumes nothing: these are definitions.
use Rattle.std.specs.Prelude.{ℕ, zero, suc, Bool, false, cond, ◌||◌, List, [], ◌∷◌, eqb, ltb, length}
use Rattle.pattern_tokens.specs.Tokens.{token_at}
use Rattle.pattern_grammar.specs.Lexemes.{Lexeme, name, scalar, mark, end_mark, fails_mark, lexeme, strictly}
use Rattle.pattern_grammar.specs.Machine.{Reading, failed, feed, fresh}

-- a token behind which there is none: the text's end, or what is no token of a pattern
unfoldable pub is_last : Lexeme → Bool
is_last (name n) = false
is_last (scalar v q) = false
is_last (mark m q) = eqb m end_mark || eqb m fails_mark

-- a text's tokens from a position on, at most so many
unfoldable pub lexemes_from : ℕ → List ℕ → ℕ → List Lexeme
lexemes_from zero text at = []
lexemes_from (suc n) text at =
    lexeme (token_at text at) ∷ cond (is_last (lexeme (token_at text at))) [] (lexemes_from n text (token_at text at).to)

-- a text's tokens: each has a byte, but the last
unfoldable pub lexemes : List ℕ → List Lexeme
lexemes text = lexemes_from (suc (length text)) text 0

-- "text over 16,384 bytes is 19 at 16,384"; another is read
unfoldable pub parsed : List ℕ → Reading
parsed text = cond (ltb 16384 (length text)) (failed 16384) (feed (strictly text) (lexemes text) fresh)
