-- The bytes of a pattern's text. A definition takes the bytes from a place on, to the text's end. Assumes nothing: these are definitions.
use Rattle.std.specs.Prelude.{ℕ, suc, Bool, cond, List, [] as none, ◌∷◌ as ◌then◌, get_or}
use Prim.Native.Char.{code}
use Prim.Native.String.{String, [], ◌∷◌}

-- the byte k places on, 0 behind the end
abbrev pub byte_of : List ℕ → ℕ → ℕ
byte_of bytes k = get_or bytes k 0

-- the bytes of a text in ASCII
unfoldable pub ascii : String → List ℕ
ascii [] = none
ascii (c ∷ cs) = code c then ascii cs

-- how many of the first bytes pass a test, one after another
unfoldable pub run : (ℕ → Bool) → List ℕ → ℕ
run test none = 0
run test (b then bytes) = cond (test b) (suc (run test bytes)) 0
