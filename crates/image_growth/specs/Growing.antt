-- An image each of whose tables is a sheet's table and what a draft adds behind it. Assumes nothing: these are definitions.
use Rattle.std.specs.Prelude.{ℕ, ◌+◌, ◌<◌, ◌≡◌, List, [], ◌∷◌, length, get_or}
use Rattle.image.specs.declared.rows.TypeRow.{TypeRow}
use Rattle.image.specs.declared.rows.PatRow.{PatRow}
use Rattle.image.specs.declared.rows.BindingRow.{BindingRow}
use Rattle.image.specs.Bytes.{byte_at, long_at}
use Rattle.image.specs.Tables.{type_count, variant_count, pattern_count, binding_count, list_count, data_count, data_at, tables_end}
use Rattle.image.specs.Rows.{type_at, variant_at, pat_at, binding_at, list_at}
use Rattle.pattern_images.specs.Drafts.{Draft, next_type, next_pattern, next_binding, next_word, next_byte}

-- the numbers of a list are bytes
abbrev pub IsBytes : List ℕ → Type 0
IsBytes image = (k : ℕ) → byte_at image k < 256

-- 16-bit words
abbrev pub AreWords : List ℕ → Type 0
AreWords [] = Unit
AreWords (w ∷ ws) = (w < 65536) × AreWords ws

-- the words of a row
abbrev pub type_words : TypeRow → List ℕ
type_words r = r.kind ∷ r.a ∷ r.b ∷ r.c ∷ r.copy ∷ []

abbrev pub pattern_words : PatRow → List ℕ
pattern_words r = r.kind ∷ r.ty ∷ r.derefs ∷ r.a ∷ r.b ∷ r.c ∷ r.d ∷ []

abbrev pub binding_words : BindingRow → List ℕ
binding_words r = r.ty ∷ r.picked ∷ []

abbrev pub EachWords : {A : Type 0} → (A → List ℕ) → List A → Type 0
EachWords words [] = Unit
EachWords words (r ∷ rs) = AreWords (words r) × EachWords words rs

-- a draft whose rows are of words, and whose bytes are bytes
pub record Bounded (d : Draft) : Type 0 where
  pub types : EachWords type_words d.types
  pub patterns : EachWords pattern_words d.patterns
  pub bindings : EachWords binding_words d.bindings
  pub words : AreWords d.words
  pub bytes : IsBytes d.bytes

-- a table's rows: the first `count` are the old ones, and those behind them are added
pub record Rows {A : Type 0} (new : ℕ → A) (old : ℕ → A) (count : ℕ) (added : List A) : Type 0 where
  pub kept : (i : ℕ) → i < count → new i ≡ old i
  pub behind : (i : ℕ) (other : A) → i < length added → new (count + i) ≡ get_or added i other

-- the byte k of an image's data
abbrev pub data_byte : List ℕ → ℕ → ℕ
data_byte image k = byte_at image (data_at image + k)

pub record Grown (sheet : List ℕ) (d : Draft) (image : List ℕ) : Type 0 where
  -- its length is what its first four bytes say, and its tables fill it; the version is 1
  pub counted : length image ≡ 4 + long_at image 0
  pub filled : length image ≡ tables_end image
  pub version : byte_at image 4 ≡ 1
  -- the six counts
  pub types_are : type_count image ≡ next_type sheet d
  pub variants_are : variant_count image ≡ variant_count sheet
  pub patterns_are : pattern_count image ≡ next_pattern sheet d
  pub bindings_are : binding_count image ≡ next_binding sheet d
  pub words_are : list_count image ≡ next_word sheet d
  pub bytes_are : data_count image ≡ next_byte sheet d
  -- the rows
  pub types : Rows (type_at image) (type_at sheet) (type_count sheet) d.types
  pub variants : (v : ℕ) → v < variant_count sheet → variant_at image v ≡ variant_at sheet v
  pub patterns : Rows (pat_at image) (pat_at sheet) (pattern_count sheet) d.patterns
  pub bindings : Rows (binding_at image) (binding_at sheet) (binding_count sheet) d.bindings
  pub words : Rows (list_at image) (list_at sheet) (list_count sheet) d.words
  pub bytes : Rows (data_byte image) (data_byte sheet) (data_count sheet) d.bytes
