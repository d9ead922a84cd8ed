-- Where a token stands in a text. Assumes nothing: these are definitions.
use Rattle.std.specs.Prelude.{ℕ, ◌+◌, ◌<◌, ◌≤◌, ◌≡◌, List, length}
use Rattle.pattern_grammar.specs.Lexemes.{Spot, Identifier, Lexeme, name, scalar, mark, path_sep_mark}
use Rattle.parsing_bounds.specs.Weights.{lexeme_bytes}

-- where a token begins and ends
unfoldable pub lexeme_spot : Lexeme → Spot
lexeme_spot (name n) = n.spot
lexeme_spot (scalar v q) = q
lexeme_spot (mark m q) = q

-- A token lies in so many bytes of a text: it has the bytes that it has at least, a name itself begins in its token, and `::` has two bytes
pub record Lies (size : ℕ) (t : Lexeme) : Type 0 where
  pub inside : (lexeme_spot t).to ≤ size
  pub long : (lexeme_spot t).from + lexeme_bytes t ≤ (lexeme_spot t).to
  pub own : (n : Identifier) → t ≡ name n → (n.spot.from ≤ n.own) × (n.own < n.spot.to)
  pub path : (q : Spot) → t ≡ mark path_sep_mark q → q.to ≡ q.from + 2

-- it was looked for from a position on
pub record Spans (text : List ℕ) (at : ℕ) (t : Lexeme) : Type 0 where
  pub behind : at ≤ (lexeme_spot t).from
  pub lies : Lies (length text) t
