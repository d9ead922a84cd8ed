-- Where the parts of the program's input end. Assumes nothing: these are definitions.
use Rattle.std.specs.Prelude.{ℕ, ◌+◌, ◌-◌, ◌*◌, ◌≤◌, ◌≡◌, cond, List, ltb, length}
use Rattle.image.specs.Bytes.{word_at}
use Rattle.reading_input.specs.declared.InputParts.{InputParts}

-- so many bytes behind a place, or the end
unfoldable pub past_or_end : ℕ → ℕ → ℕ → ℕ
past_or_end end from many = cond (ltb (end - from) many) end (from + many)

-- four bytes say how many follow them; what is missing is not there
unfoldable pub part_end : List ℕ → ℕ → ℕ
part_end input from =
    cond (ltb (length input - from) 4) (length input) (past_or_end (length input) (from + 4) (word_at input from * 65536 + word_at input (from + 2)))

-- a word that is not whole is 0
unfoldable pub word_or0 : List ℕ → ℕ → ℕ
word_or0 input at = cond (ltb (length input - at) 2) 0 (word_at input at)

-- the sheet, the name table, the expected type in two bytes, and the text behind its length
abbrev pub parts_of : List ℕ → InputParts
parts_of input =
    let sheet : ℕ = part_end input 0 in
    let names : ℕ = part_end input sheet in
    let from : ℕ = past_or_end (length input) names 2 in
    record { sheet = sheet; names = names; expected = word_or0 input names; text = past_or_end (part_end input from) from 4; end = part_end input from }

-- they stand one behind the other in the input
pub record InputParted (input : List ℕ) (parts : InputParts) : Type 0 where
  pub same : parts ≡ parts_of input
  pub sheet : parts.sheet ≤ parts.names
  pub names : parts.names ≤ length input
  pub text : parts.text ≤ parts.end
  pub end : parts.end ≤ length input
