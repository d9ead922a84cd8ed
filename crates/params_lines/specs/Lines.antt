-- The lines behind the listing of a call of `lower_params_and_bindings`: the locals of the parameters, of the bindings and in the scopes. Assumes nothing: these are
-- definitions.
use Rattle.std.specs.Prelude.{ℕ, List, [], ◌∷◌, ◌++◌}
use Rattle.image.specs.Lists.{up_from}
use Rattle.listing_text.specs.Words.{newline}
use Rattle.params_words.specs.Words.{words_text}

-- "params"
unfoldable pub params_word : List ℕ
params_word = 112 ∷ 97 ∷ 114 ∷ 97 ∷ 109 ∷ 115 ∷ []

-- "bindings"
unfoldable pub bindings_word : List ℕ
bindings_word = 98 ∷ 105 ∷ 110 ∷ 100 ∷ 105 ∷ 110 ∷ 103 ∷ 115 ∷ []

-- "entries"
unfoldable pub entries_word : List ℕ
entries_word = 101 ∷ 110 ∷ 116 ∷ 114 ∷ 105 ∷ 101 ∷ 115 ∷ []

-- a line: its name, and the locals
unfoldable pub line_text : List ℕ → List ℕ → List ℕ
line_text name ws = name ++ (words_text ws ++ newline)

-- the three lines behind the listing, of so many parameters from the first one's local on
unfoldable pub lines_text : ℕ → ℕ → List ℕ → List ℕ → List ℕ
lines_text first many bindings entries = line_text params_word (up_from first many) ++ (line_text bindings_word bindings ++ line_text entries_word entries)
