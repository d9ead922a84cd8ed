-- The text of locals in a row, as the lines behind a listing have it. Assumes nothing: these are definitions.
use Rattle.std.specs.Prelude.{ℕ, cond, List, [], ◌∷◌, ◌++◌, eqb}
use Rattle.listing_text.specs.Words.{space, dash}
use Rattle.listing_text.specs.Numbers.{decimal}

-- a local behind a space; 65535 is none
unfoldable pub word_text : ℕ → List ℕ
word_text w = cond (eqb w 65535) (space ++ dash) (space ++ decimal w)

-- locals in order
unfoldable pub words_text : List ℕ → List ℕ
words_text [] = []
words_text (w ∷ ws) = word_text w ++ words_text ws
