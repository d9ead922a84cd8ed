-- What is proved of every tree that a text has, and of the text's tokens. Assumes nothing: these are definitions.
use Rattle.std.specs.Prelude.{◌≡◌, true, List, [], ◌∷◌, ℕ}
use Rattle.image.specs.Operands.{is_scalar_value}
use Rattle.pattern_grammar.specs.Lexemes.{Lexeme, name, scalar, mark}
use Rattle.pattern_grammar.specs.Trees.{Pattern}
use Rattle.pattern_grammar.specs.Parsed.{parsed}
use Rattle.pattern_syntax.specs.Reduced.{reduced}
use Rattle.pattern_syntax.specs.Formed.{in_pattern, formed}
use Rattle.pattern_reading.specs.Reads.{tree_is, outcome}

-- a char is a scalar value
abbrev pub LexemeOk : Lexeme → Type 0
LexemeOk (name n) = Unit
LexemeOk (scalar v q) = is_scalar_value v ≡ true
LexemeOk (mark m q) = Unit

-- so each of the tokens
abbrev pub AllOk : List Lexeme → Type 0
AllOk [] = Unit
AllOk (t ∷ ts) = LexemeOk t × AllOk ts

-- a text's tree is formed
abbrev pub TreeIsFormed : List ℕ → Pattern → Type 0
TreeIsFormed text p = outcome (parsed text) ≡ tree_is p → formed (reduced text p) in_pattern ≡ true
