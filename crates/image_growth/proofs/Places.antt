-- Where each table of an image stands that is a sheet's tables with what a draft adds, and the rows that are read there. Assumes nothing.
use Prim.Native.Nat.{ℕ, zero, suc, ◌+◌, ◌*◌, ◌≤◌, ◌<◌}
use mathlib.Core.Path.{◌≡◌, refl, ap, ◌∙◌}
use mathlib.Core.List.{List, [], ◌∷◌, ◌++◌}
use native.Mathlib.Omega.{arith}
use lib.ListN.{length, get_or}
use Rattle.image.specs.declared.rows.TypeRow.{TypeRow}
use Rattle.image.specs.declared.rows.PatRow.{PatRow}
use Rattle.image.specs.declared.rows.BindingRow.{BindingRow}
use Rattle.image.specs.Bytes.{byte_at, word_at}
use Rattle.image.specs.Tables.{type_count, variant_count, pattern_count, binding_count, list_count, data_count, types_at, variants_at, patterns_at, bindings_at, list_start, data_at, tables_end}
use Rattle.image.specs.Rows.{type_row, type_at, variant_row, variant_at, pat_row, pat_at, binding_row, binding_at, list_at}
use Rattle.pattern_images.specs.Drafts.{Draft, next_type, next_pattern, next_binding, next_word, next_byte}
use Rattle.pattern_images.specs.Imaging.{words_bytes, type_bytes, pattern_bytes, binding_bytes, table_of, tables_with}
use Rattle.image_growth.specs.Growing.{type_words, pattern_words, binding_words, Rows, data_byte}
use Rattle.image_growth.proofs.Standing.{Stands, Same, stands_left, stands_right, stands_at, length_table, table_same, word_same, word_same_at, word_stands, words_stand, length_words, length_rows, row_stands}

-- how rows are written
type_none : type_bytes [] ≡ []
unfolding type_bytes
type_none = refl

type_one : (r : TypeRow) (rs : List TypeRow) → type_bytes (r ∷ rs) ≡ words_bytes (type_words r) ++ type_bytes rs
unfolding type_bytes
type_one r rs = refl

pattern_none : pattern_bytes [] ≡ []
unfolding pattern_bytes
pattern_none = refl

pattern_one : (r : PatRow) (rs : List PatRow) → pattern_bytes (r ∷ rs) ≡ words_bytes (pattern_words r) ++ pattern_bytes rs
unfolding pattern_bytes
pattern_one r rs = refl

binding_none : binding_bytes [] ≡ []
unfolding binding_bytes
binding_none = refl

binding_one : (r : BindingRow) (rs : List BindingRow) → binding_bytes (r ∷ rs) ≡ words_bytes (binding_words r) ++ binding_bytes rs
unfolding binding_bytes
binding_one r rs = refl

pub length_types : (rs : List TypeRow) → length (type_bytes rs) ≡ 10 * length rs
length_types rs = length_rows type_words type_bytes 10 type_none type_one (λ r. length_words (type_words r)) rs

pub length_patterns : (rs : List PatRow) → length (pattern_bytes rs) ≡ 14 * length rs
length_patterns rs = length_rows pattern_words pattern_bytes 14 pattern_none pattern_one (λ r. length_words (pattern_words r)) rs

pub length_bindings : (rs : List BindingRow) → length (binding_bytes rs) ≡ 4 * length rs
length_bindings rs = length_rows binding_words binding_bytes 4 binding_none binding_one (λ r. length_words (binding_words r)) rs

-- a row is read from its words
module _ (whole : List ℕ) (at : ℕ) where
  type_read : (r : TypeRow) → Stands whole at (words_bytes (type_words r)) → type_row whole at ≡ r
  type_read r h =
      let word : (i : ℕ) → i < 5 → word_at whole (at + 2 * i) ≡ get_or (type_words r) i 0 = λ i lt. words_stand (type_words r) whole at i 0 h lt in
      λ i. record {
        kind = word_stands whole at r.kind _ h i;
        a = word 1 (omega arith) i;
        b = word 2 (omega arith) i;
        c = word 3 (omega arith) i;
        copy = word 4 (omega arith) i;
      }

  pattern_read : (r : PatRow) → Stands whole at (words_bytes (pattern_words r)) → pat_row whole at ≡ r
  pattern_read r h =
      let word : (i : ℕ) → i < 7 → word_at whole (at + 2 * i) ≡ get_or (pattern_words r) i 0 = λ i lt. words_stand (pattern_words r) whole at i 0 h lt in
      λ i. record {
        kind = word_stands whole at r.kind _ h i;
        ty = word 1 (omega arith) i;
        derefs = word 2 (omega arith) i;
        a = word 3 (omega arith) i;
        b = word 4 (omega arith) i;
        c = word 5 (omega arith) i;
        d = word 6 (omega arith) i;
      }

  binding_read : (r : BindingRow) → Stands whole at (words_bytes (binding_words r)) → binding_row whole at ≡ r
  binding_read r h =
      let word : (i : ℕ) → i < 2 → word_at whole (at + 2 * i) ≡ get_or (binding_words r) i 0 = λ i lt. words_stand (binding_words r) whole at i 0 h lt in
      λ i. record { ty = word_stands whole at r.ty _ h i; picked = word 1 (omega arith) i }

-- a row of what is the same
module _ (whole : List ℕ) (at : ℕ) (old : List ℕ) (from many : ℕ) (same : Same whole at old from many) (k : ℕ) where
  type_same : k + 10 ≤ many → type_row whole (at + k) ≡ type_row old (from + k)
  type_same fits =
      let word : (off : ℕ) → off < 9 → word_at whole (at + k + off) ≡ word_at old (from + k + off) = λ off lt. word_same_at whole at old from many same k off (omega arith) in
      λ i. record {
        kind = word_same whole at old from many same k (omega arith) i;
        a = word 2 (omega arith) i;
        b = word 4 (omega arith) i;
        c = word 6 (omega arith) i;
        copy = word 8 (omega arith) i;
      }

  variant_same : k + 6 ≤ many → variant_row whole (at + k) ≡ variant_row old (from + k)
  variant_same fits =
      let word : (off : ℕ) → off < 5 → word_at whole (at + k + off) ≡ word_at old (from + k + off) = λ off lt. word_same_at whole at old from many same k off (omega arith) in
      λ i. record { fields = word_same whole at old from many same k (omega arith) i; count = word 2 (omega arith) i; discriminant = word 4 (omega arith) i }

  pattern_same : k + 14 ≤ many → pat_row whole (at + k) ≡ pat_row old (from + k)
  pattern_same fits =
      let word : (off : ℕ) → off < 13 → word_at whole (at + k + off) ≡ word_at old (from + k + off) = λ off lt. word_same_at whole at old from many same k off (omega arith) in
      λ i. record {
        kind = word_same whole at old from many same k (omega arith) i;
        ty = word 2 (omega arith) i;
        derefs = word 4 (omega arith) i;
        a = word 6 (omega arith) i;
        b = word 8 (omega arith) i;
        c = word 10 (omega arith) i;
        d = word 12 (omega arith) i;
      }

  binding_same : k + 4 ≤ many → binding_row whole (at + k) ≡ binding_row old (from + k)
  binding_same fits =
      λ i. record {
        ty = word_same whole at old from many same k (omega arith) i;
        picked = word_same_at whole at old from many same k 2 (omega arith) i;
      }

-- the counts that an image says
pub record Counted (sheet : List ℕ) (d : Draft) (image : List ℕ) : Type 0 where
  pub types_are : type_count image ≡ next_type sheet d
  pub variants_are : variant_count image ≡ variant_count sheet
  pub patterns_are : pattern_count image ≡ next_pattern sheet d
  pub bindings_are : binding_count image ≡ next_binding sheet d
  pub words_are : list_count image ≡ next_word sheet d
  pub bytes_are : data_count image ≡ next_byte sheet d

-- a table with what is added to it
pub record Joined (image : List ℕ) (at : ℕ) (sheet : List ℕ) (from many : ℕ) (added : List ℕ) : Type 0 where
  pub old : Same image at sheet from many
  pub new : Stands image (at + many) added

-- the tables, each at its place
pub record Placed (sheet : List ℕ) (d : Draft) (image : List ℕ) : Type 0 where
  pub types : Joined image (types_at image) sheet (types_at sheet) (10 * type_count sheet) (type_bytes d.types)
  pub variants : Same image (variants_at image) sheet (variants_at sheet) (6 * variant_count sheet)
  pub patterns : Joined image (patterns_at image) sheet (patterns_at sheet) (14 * pattern_count sheet) (pattern_bytes d.patterns)
  pub bindings : Joined image (bindings_at image) sheet (bindings_at sheet) (4 * binding_count sheet) (binding_bytes d.bindings)
  pub words : Joined image (list_start image) sheet (list_start sheet) (2 * list_count sheet) (words_bytes d.words)
  pub bytes : Joined image (data_at image) sheet (data_at sheet) (data_count sheet) d.bytes

module _ (sheet image : List ℕ) where
  -- a table of the sheet, and what stands behind it
  table_first : (at from many place : ℕ) (behind : List ℕ) → from + many ≤ length sheet → at + many ≡ place → Stands image at (table_of sheet from many ++ behind) →
      Same image at sheet from many × Stands image place behind
  table_first at from many place behind fits e h =
      let table = table_of sheet from many in (
        table_same image at sheet from many fits (stands_left image at table behind h),
        stands_at image (at + length table) place behind (ap (λ (n : ℕ). at + n) (length_table sheet from many fits) ∙ e) (stands_right image at table behind h),
      )

  -- with what is added to it
  joined_first : (at from many n place : ℕ) (added behind : List ℕ) → from + many ≤ length sheet → length added ≡ n → at + many + n ≡ place →
      Stands image at (table_of sheet from many ++ (added ++ behind)) → Joined image at sheet from many added × Stands image place behind
  joined_first at from many n place added behind fits long e h =
      let table = table_first at from many (at + many) (added ++ behind) fits refl h in (
        record { old = table.0; new = stands_left image (at + many) added behind table.1 },
        stands_at image (at + many + length added) place behind (ap (λ (k : ℕ). at + many + k) long ∙ e) (stands_right image (at + many) added behind table.1),
      )

-- where the tables of a sheet end
record Ends (sheet : List ℕ) : Type 0 where
  types : types_at sheet + 10 * type_count sheet ≤ length sheet
  variants : variants_at sheet + 6 * variant_count sheet ≤ length sheet
  patterns : patterns_at sheet + 14 * pattern_count sheet ≤ length sheet
  bindings : bindings_at sheet + 4 * binding_count sheet ≤ length sheet
  words : list_start sheet + 2 * list_count sheet ≤ length sheet
  bytes : data_at sheet + data_count sheet ≤ length sheet

ends : (sheet : List ℕ) → length sheet ≡ tables_end sheet → Ends sheet
ends sheet e =
    record { types = omega (arith, e); variants = omega (arith, e); patterns = omega (arith, e); bindings = omega (arith, e); words = omega (arith, e); bytes = omega (arith, e) }

-- where those of the image begin
record Next (sheet : List ℕ) (d : Draft) (image : List ℕ) : Type 0 where
  types : types_at image + 10 * type_count sheet + 10 * length d.types ≡ variants_at image
  variants : variants_at image + 6 * variant_count sheet ≡ patterns_at image
  patterns : patterns_at image + 14 * pattern_count sheet + 14 * length d.patterns ≡ bindings_at image
  bindings : bindings_at image + 4 * binding_count sheet + 4 * length d.bindings ≡ list_start image
  words : list_start image + 2 * list_count sheet + 2 * length d.words ≡ data_at image

next : (sheet : List ℕ) (d : Draft) (image : List ℕ) → Counted sheet d image → Next sheet d image
next sheet d image c =
    record {
      types = omega (arith, c.types_are);
      variants = omega (arith, c.variants_are);
      patterns = omega (arith, c.patterns_are);
      bindings = omega (arith, c.bindings_are);
      words = omega (arith, c.words_are);
    }

pub placed : (sheet : List ℕ) (d : Draft) (image : List ℕ) → length sheet ≡ tables_end sheet → Counted sheet d image →
    Stands image 17 (tables_with sheet d) → Placed sheet d image
unfolding tables_with
placed sheet d image filled c h =
    let e = ends sheet filled in
    let n = next sheet d image c in
    let types = joined_first sheet image (types_at image) _ _ _ _ (type_bytes d.types) _ e.types (length_types d.types) n.types h in
    let variants = table_first sheet image (variants_at image) _ _ _ _ e.variants n.variants types.1 in
    let patterns = joined_first sheet image (patterns_at image) _ _ _ _ (pattern_bytes d.patterns) _ e.patterns (length_patterns d.patterns) n.patterns variants.1 in
    let bindings = joined_first sheet image (bindings_at image) _ _ _ _ (binding_bytes d.bindings) _ e.bindings (length_bindings d.bindings) n.bindings patterns.1 in
    let words = joined_first sheet image (list_start image) _ _ _ _ (words_bytes d.words) _ e.words (length_words d.words) n.words bindings.1 in
    let bytes = table_first sheet image (data_at image) _ _ _ _ e.bytes refl words.1 in
    record {
      types = types.0;
      variants = variants.0;
      patterns = patterns.0;
      bindings = bindings.0;
      words = words.0;
      bytes = record { old = bytes.0; new = bytes.1 };
    }

-- the rows that are read there
module _ (sheet : List ℕ) (d : Draft) (image : List ℕ) (p : Placed sheet d image) where
  pub type_rows : Rows (type_at image) (type_at sheet) (type_count sheet) d.types
  unfolding type_at
  type_rows =
      record {
        kept = λ i lt. type_same image (types_at image) sheet (types_at sheet) (10 * type_count sheet) p.types.old (10 * i) (omega arith);
        behind = λ i other lt.
            ap (type_row image) (omega arith)
            ∙ type_read image (17 + 10 * type_count sheet + 10 * i) (get_or d.types i other)
            (row_stands type_words type_bytes 10 type_none type_one (λ r. length_words (type_words r)) d.types image _ i other p.types.new lt);
      }

  pub variant_rows : (v : ℕ) → v < variant_count sheet → variant_at image v ≡ variant_at sheet v
  unfolding variant_at
  variant_rows v lt = variant_same image (variants_at image) sheet (variants_at sheet) (6 * variant_count sheet) p.variants (6 * v) (omega arith)

  pub pattern_rows : Rows (pat_at image) (pat_at sheet) (pattern_count sheet) d.patterns
  unfolding pat_at
  pattern_rows =
      record {
        kept = λ i lt. pattern_same image (patterns_at image) sheet (patterns_at sheet) (14 * pattern_count sheet) p.patterns.old (14 * i) (omega arith);
        behind = λ i other lt.
            ap (pat_row image) (omega arith)
            ∙ pattern_read image (patterns_at image + 14 * pattern_count sheet + 14 * i) (get_or d.patterns i other)
            (row_stands pattern_words pattern_bytes 14 pattern_none pattern_one (λ r. length_words (pattern_words r)) d.patterns image _ i other p.patterns.new lt);
      }

  pub binding_rows : Rows (binding_at image) (binding_at sheet) (binding_count sheet) d.bindings
  unfolding binding_at
  binding_rows =
      record {
        kept = λ i lt. binding_same image (bindings_at image) sheet (bindings_at sheet) (4 * binding_count sheet) p.bindings.old (4 * i) (omega arith);
        behind = λ i other lt.
            ap (binding_row image) (omega arith)
            ∙ binding_read image (bindings_at image + 4 * binding_count sheet + 4 * i) (get_or d.bindings i other)
            (row_stands binding_words binding_bytes 4 binding_none binding_one (λ r. length_words (binding_words r)) d.bindings image _ i other p.bindings.new lt);
      }

  pub word_rows : Rows (list_at image) (list_at sheet) (list_count sheet) d.words
  unfolding list_at
  word_rows =
      record {
        kept = λ i lt. word_same image (list_start image) sheet (list_start sheet) (2 * list_count sheet) p.words.old (2 * i) (omega arith);
        behind = λ i other lt.
            ap (word_at image) (omega arith)
            ∙ words_stand d.words image (list_start image + 2 * list_count sheet) i other p.words.new lt;
      }

  pub data_bytes_lem : Rows (data_byte image) (data_byte sheet) (data_count sheet) d.bytes
  data_bytes_lem =
      record {
        kept = λ i lt. p.bytes.old i lt;
        behind = λ i other lt. ap (byte_at image) (omega arith) ∙ p.bytes.new.byte i lt ∙ default_else d.bytes i 0 other lt;
      }
    where
      default_else : (l : List ℕ) (i a b : ℕ) → i < length l → get_or l i a ≡ get_or l i b
      default_else [] i a b q = absurd (omega arith)
      default_else (x ∷ l) zero a b q = refl
      default_else (x ∷ l) (suc i) a b q = default_else l i a b (omega arith)
