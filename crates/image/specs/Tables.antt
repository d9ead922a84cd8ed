-- The six tables of an image: how many rows each has, and the byte at which it begins. Assumes nothing: these are definitions.
-- An image begins with four bytes that count what follows, and the version byte. Then come six counts, and the tables in the same order:
-- T types of 5 words, V variants of 3, P patterns of 7, B bindings of 2, a list of L words, and D bytes of data.
use Rattle.std.specs.Prelude.{ℕ, ◌+◌, ◌*◌, ◌≤◌, ◌≡◌, List, length}
use Rattle.image.specs.declared.Tables.{Tables}
use Rattle.image.specs.Bytes.{word_at}

-- the six counts: T V P B L D
abbrev pub type_count : List ℕ → ℕ
type_count image = word_at image 5

abbrev pub variant_count : List ℕ → ℕ
variant_count image = word_at image 7

abbrev pub pattern_count : List ℕ → ℕ
pattern_count image = word_at image 9

abbrev pub binding_count : List ℕ → ℕ
binding_count image = word_at image 11

abbrev pub list_count : List ℕ → ℕ
list_count image = word_at image 13

abbrev pub data_count : List ℕ → ℕ
data_count image = word_at image 15

-- the byte at which each table begins
abbrev pub types_at : List ℕ → ℕ
types_at image = 17

abbrev pub variants_at : List ℕ → ℕ
variants_at image = types_at image + 10 * type_count image

abbrev pub patterns_at : List ℕ → ℕ
patterns_at image = variants_at image + 6 * variant_count image

abbrev pub bindings_at : List ℕ → ℕ
bindings_at image = patterns_at image + 14 * pattern_count image

abbrev pub list_start : List ℕ → ℕ
list_start image = bindings_at image + 4 * binding_count image

abbrev pub data_at : List ℕ → ℕ
data_at image = list_start image + 2 * list_count image

-- the byte behind the last table
abbrev pub tables_end : List ℕ → ℕ
tables_end image = data_at image + data_count image

-- the places of six tables with these counts, one behind the other
abbrev pub tables_by : ℕ → ℕ → ℕ → ℕ → ℕ → ℕ → Tables
tables_by t v p b l d =
    record {
      types = record { at = 17; count = t };
      variants = record { at = 17 + 10 * t; count = v };
      patterns = record { at = 17 + 10 * t + 6 * v; count = p };
      bindings = record { at = 17 + 10 * t + 6 * v + 14 * p; count = b };
      list = record { at = 17 + 10 * t + 6 * v + 14 * p + 4 * b; count = l };
      bytes = record { at = 17 + 10 * t + 6 * v + 14 * p + 4 * b + 2 * l; count = d };
    }

-- the places of an image's tables
unfoldable pub tables_of : List ℕ → Tables
tables_of image = tables_by (type_count image) (variant_count image) (pattern_count image) (binding_count image) (list_count image) (data_count image)

-- the tables are the image's, and lie within it
pub record Whole (image : List ℕ) (tables : Tables) : Type 0 where
  pub types : tables.types.at ≡ types_at image
  pub type_count_lem : tables.types.count ≡ type_count image
  pub variants : tables.variants.at ≡ variants_at image
  pub variant_count_lem : tables.variants.count ≡ variant_count image
  pub patterns : tables.patterns.at ≡ patterns_at image
  pub pattern_count_lem : tables.patterns.count ≡ pattern_count image
  pub bindings : tables.bindings.at ≡ bindings_at image
  pub binding_count_lem : tables.bindings.count ≡ binding_count image
  pub list : tables.list.at ≡ list_start image
  pub list_count_lem : tables.list.count ≡ list_count image
  pub bytes : tables.bytes.at ≡ data_at image
  pub data_count_lem : tables.bytes.count ≡ data_count image
  pub within : tables_end image ≤ length image
