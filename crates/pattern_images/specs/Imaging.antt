-- The image of a sheet and what a text adds to it, and reading as a whole. Assumes nothing: these are definitions.
use Rattle.std.specs.Prelude.{ℕ, ◌*◌, ◌/◌, ◌%◌, Bool, true, ◌&&◌, List, [], ◌∷◌, ◌++◌, leb, length, take, drop}
use Rattle.image.specs.declared.rows.TypeRow.{TypeRow}
use Rattle.image.specs.declared.rows.PatRow.{PatRow}
use Rattle.image.specs.declared.rows.BindingRow.{BindingRow}
use Rattle.image.specs.Tables.{type_count, variant_count, pattern_count, binding_count, list_count, data_count, types_at, variants_at, patterns_at, bindings_at, list_start, data_at}
use Rattle.pattern_images.specs.Drafts.{Draft, next_type, next_pattern, next_binding, next_word, next_byte}

-- a 16-bit word in bytes, the high one first
unfoldable pub word_bytes : ℕ → List ℕ
word_bytes w = w / 256 ∷ w % 256 ∷ []

unfoldable pub words_bytes : List ℕ → List ℕ
words_bytes [] = []
words_bytes (w ∷ ws) = word_bytes w ++ words_bytes ws

-- four bytes
unfoldable pub long_bytes : ℕ → List ℕ
long_bytes n = word_bytes (n / 65536) ++ word_bytes (n % 65536)

-- rows in bytes
unfoldable pub type_bytes : List TypeRow → List ℕ
type_bytes [] = []
type_bytes (r ∷ rs) = words_bytes (r.kind ∷ r.a ∷ r.b ∷ r.c ∷ r.copy ∷ []) ++ type_bytes rs

unfoldable pub pattern_bytes : List PatRow → List ℕ
pattern_bytes [] = []
pattern_bytes (r ∷ rs) = words_bytes (r.kind ∷ r.ty ∷ r.derefs ∷ r.a ∷ r.b ∷ r.c ∷ r.d ∷ []) ++ pattern_bytes rs

unfoldable pub binding_bytes : List BindingRow → List ℕ
binding_bytes [] = []
binding_bytes (r ∷ rs) = words_bytes (r.ty ∷ r.picked ∷ []) ++ binding_bytes rs

-- the bytes of a table of the sheet: from a byte on, so many
abbrev pub table_of : List ℕ → ℕ → ℕ → List ℕ
table_of sheet at many = take many (drop at sheet)

-- the six tables: the sheet's, each followed by what is added to it
unfoldable pub tables_with : List ℕ → Draft → List ℕ
tables_with sheet d =
    table_of sheet (types_at sheet) (10 * type_count sheet) ++ (type_bytes d.types
    ++ (table_of sheet (variants_at sheet) (6 * variant_count sheet)
    ++ (table_of sheet (patterns_at sheet) (14 * pattern_count sheet) ++ (pattern_bytes d.patterns
    ++ (table_of sheet (bindings_at sheet) (4 * binding_count sheet) ++ (binding_bytes d.bindings
    ++ (table_of sheet (list_start sheet) (2 * list_count sheet) ++ (words_bytes d.words
    ++ (table_of sheet (data_at sheet) (data_count sheet) ++ d.bytes)))))))))

-- the version byte, the six counts, the tables
unfoldable pub behind_length : List ℕ → Draft → List ℕ
behind_length sheet d =
    1 ∷ (words_bytes (next_type sheet d ∷ variant_count sheet ∷ next_pattern sheet d ∷ next_binding sheet d ∷ next_word sheet d ∷ next_byte sheet d ∷ [])
    ++ tables_with sheet d)

-- the image: "how many bytes follow", and they
unfoldable pub image_with : List ℕ → Draft → List ℕ
image_with sheet d = long_bytes (length (behind_length sheet d)) ++ behind_length sheet d

-- no pattern has more than 16 derefs
unfoldable pub derefs_within : List PatRow → Bool
derefs_within [] = true
derefs_within (r ∷ rs) = leb r.derefs 16 && derefs_within rs

-- "At most T 256, .. P 512 .., B 256, L 2,048, D 16,384", and derefs at most 16
unfoldable pub within_image_limits : List ℕ → Draft → Bool
within_image_limits sheet d =
    leb (next_type sheet d) 256
    && leb (next_pattern sheet d) 512
    && leb (next_binding sheet d) 256
    && leb (next_word sheet d) 2048
    && leb (next_byte sheet d) 16384
    && derefs_within d.patterns
