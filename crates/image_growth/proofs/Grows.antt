-- The image of a sheet and a draft has the sheet's rows and behind them the draft's. Assumes nothing.
use Prim.Native.Nat.{ℕ, ◌+◌, ◌*◌, ◌/◌, ◌%◌, ◌<◌}
use mathlib.Core.Path.{◌≡◌, refl, ap}
use mathlib.Core.Bool.{true}
use mathlib.Core.List.{List, [], ◌∷◌, ◌++◌}
use native.Mathlib.Nat.{div-add-mod', zero-add}
use native.Mathlib.Omega.{arith}
use borrow.Author.Tests.{eqb-true}
use lib.ListN.{length, get_or, length-append}
use Rattle.image.specs.Bytes.{byte_at, word_at, long_at}
use Rattle.image.specs.Tables.{type_count, variant_count, pattern_count, binding_count, list_count, data_count, types_at, variants_at, patterns_at, bindings_at, list_start, data_at, tables_end}
use Rattle.image.specs.Rules.{tables_fill_the_rest}
use Rattle.image.proofs.Bools.{all_true_at}
use Rattle.type_sheets.specs.Sheets.{sheet_rules, sheet_holds}
use Rattle.pattern_images.specs.Drafts.{Draft, next_type, next_pattern, next_binding, next_word, next_byte}
use Rattle.pattern_images.specs.Imaging.{word_bytes, words_bytes, long_bytes, type_bytes, pattern_bytes, binding_bytes, table_of, tables_with, behind_length, image_with}
use Rattle.image_growth.specs.Growing.{Grown}
use Rattle.image_growth.proofs.Standing.{Stands, stands_left, stands_right, length_table, word_back, length_words, words_stand}
use Rattle.image_growth.proofs.Places.{Counted, placed, length_types, length_patterns, length_bindings, type_rows, variant_rows, pattern_rows, binding_rows, word_rows, data_bytes_lem}

pub sheet_filled : (sheet : List ℕ) → sheet_holds sheet ≡ true → length sheet ≡ tables_end sheet
unfolding sheet_holds tables_fill_the_rest
sheet_filled sheet holds = eqb-true (length sheet) (tables_end sheet) (all_true_at (sheet_rules sheet) 2 holds)

-- the six counts, as they are written
abbrev counts : List ℕ → Draft → List ℕ
counts sheet d = next_type sheet d ∷ variant_count sheet ∷ next_pattern sheet d ∷ next_binding sheet d ∷ next_word sheet d ∷ next_byte sheet d ∷ []

whole_stands : (image : List ℕ) → Stands image 0 image
whole_stands image = record { byte = λ k lt. ap (byte_at image) (zero-add k) }

counts_stand : (sheet : List ℕ) (d : Draft) → Stands (image_with sheet d) 5 (words_bytes (counts sheet d) ++ tables_with sheet d)
unfolding image_with long_bytes word_bytes behind_length
counts_stand sheet d =
    let n = length (behind_length sheet d) in
    let behind = stands_right (image_with sheet d) 0 (long_bytes n) (behind_length sheet d) (whole_stands (image_with sheet d)) in
    stands_right (image_with sheet d) 4 (1 ∷ []) (words_bytes (counts sheet d) ++ tables_with sheet d) behind

counted : (sheet : List ℕ) (d : Draft) → Counted sheet d (image_with sheet d)
counted sheet d =
    let stands = stands_left (image_with sheet d) 5 (words_bytes (counts sheet d)) (tables_with sheet d) (counts_stand sheet d) in
    let count : (i : ℕ) → i < 6 → word_at (image_with sheet d) (5 + 2 * i) ≡ get_or (counts sheet d) i 0 = λ i lt. words_stand (counts sheet d) (image_with sheet d) 5 i 0 stands lt in
    record {
      types_are = count 0 (omega arith);
      variants_are = count 1 (omega arith);
      patterns_are = count 2 (omega arith);
      bindings_are = count 3 (omega arith);
      words_are = count 4 (omega arith);
      bytes_are = count 5 (omega arith);
    }

tables_stand : (sheet : List ℕ) (d : Draft) → Stands (image_with sheet d) 17 (tables_with sheet d)
unfolding words_bytes word_bytes
tables_stand sheet d = stands_right (image_with sheet d) 5 (words_bytes (counts sheet d)) (tables_with sheet d) (counts_stand sheet d)

-- how long the tables are
pub length_tables : (sheet : List ℕ) (d : Draft) → length sheet ≡ tables_end sheet →
    length (tables_with sheet d) ≡ 10 * next_type sheet d + 6 * variant_count sheet + 14 * next_pattern sheet d + 4 * next_binding sheet d + 2 * next_word sheet d + next_byte sheet d
unfolding tables_with
length_tables sheet d filled =
    let s1 = table_of sheet (types_at sheet) (10 * type_count sheet) in
    let s2 = table_of sheet (variants_at sheet) (6 * variant_count sheet) in
    let s3 = table_of sheet (patterns_at sheet) (14 * pattern_count sheet) in
    let s4 = table_of sheet (bindings_at sheet) (4 * binding_count sheet) in
    let s5 = table_of sheet (list_start sheet) (2 * list_count sheet) in
    let s6 = table_of sheet (data_at sheet) (data_count sheet) in
    let l1 = length_table sheet (types_at sheet) (10 * type_count sheet) (omega arith) in
    let l2 = length_table sheet (variants_at sheet) (6 * variant_count sheet) (omega arith) in
    let l3 = length_table sheet (patterns_at sheet) (14 * pattern_count sheet) (omega arith) in
    let l4 = length_table sheet (bindings_at sheet) (4 * binding_count sheet) (omega arith) in
    let l5 = length_table sheet (list_start sheet) (2 * list_count sheet) (omega arith) in
    let l6 = length_table sheet (data_at sheet) (data_count sheet) (omega arith) in
    let r6 = s6 ++ d.bytes in
    let r5 = words_bytes d.words ++ r6 in
    let r4 = binding_bytes d.bindings ++ (s5 ++ r5) in
    let r3 = pattern_bytes d.patterns ++ (s4 ++ r4) in
    let r1 = type_bytes d.types ++ (s2 ++ (s3 ++ r3)) in
    let a6 = length-append s6 d.bytes in
    let a5 = length-append (words_bytes d.words) r6 in
    let b5 = length-append s5 r5 in
    let a4 = length-append (binding_bytes d.bindings) (s5 ++ r5) in
    let b4 = length-append s4 r4 in
    let a3 = length-append (pattern_bytes d.patterns) (s4 ++ r4) in
    let b3 = length-append s3 r3 in
    let b2 = length-append s2 (s3 ++ r3) in
    let a1 = length-append (type_bytes d.types) (s2 ++ (s3 ++ r3)) in
    let b1 = length-append s1 r1 in
    omega (arith, a6, a5, b5, a4, b4, a3, b3, b2, a1, b1, l1, l2, l3, l4, l5, l6, length_types d.types, length_patterns d.patterns, length_bindings d.bindings, length_words d.words)

-- four bytes are read back
long_back : (n : ℕ) (xs : List ℕ) → long_at (long_bytes n ++ xs) 0 ≡ n
unfolding word_at long_bytes word_bytes
long_back n xs = omega (arith, word_back (n / 65536), word_back (n % 65536), div-add-mod' n 65536)

-- the length is what the first four bytes say
image_counted : (sheet : List ℕ) (d : Draft) → length (image_with sheet d) ≡ 4 + long_at (image_with sheet d) 0
unfolding image_with long_bytes word_bytes
image_counted sheet d =
    let n = length (behind_length sheet d) in
    omega (arith, length-append (long_bytes n) (behind_length sheet d), long_back n (behind_length sheet d))

pub image_long : (sheet : List ℕ) (d : Draft) → length (image_with sheet d) ≡ 17 + length (tables_with sheet d)
unfolding image_with long_bytes words_bytes word_bytes behind_length
image_long sheet d = omega arith

image_version : (sheet : List ℕ) (d : Draft) → byte_at (image_with sheet d) 4 ≡ 1
unfolding image_with long_bytes word_bytes behind_length
image_version sheet d = refl

-- The theorem.
pub grown : (sheet : List ℕ) (d : Draft) → sheet_holds sheet ≡ true → Grown sheet d (image_with sheet d)
grown sheet d holds =
    let filled = sheet_filled sheet holds in
    let c = counted sheet d in
    let p = placed sheet d (image_with sheet d) filled c (tables_stand sheet d) in
    record {
      counted = image_counted sheet d;
      filled = omega (arith, image_long sheet d, length_tables sheet d filled, c.types_are, c.variants_are, c.patterns_are, c.bindings_are, c.words_are, c.bytes_are);
      version = image_version sheet d;
      types_are = c.types_are;
      variants_are = c.variants_are;
      patterns_are = c.patterns_are;
      bindings_are = c.bindings_are;
      words_are = c.words_are;
      bytes_are = c.bytes_are;
      types = type_rows sheet d (image_with sheet d) p;
      variants = variant_rows sheet d (image_with sheet d) p;
      patterns = pattern_rows sheet d (image_with sheet d) p;
      bindings = binding_rows sheet d (image_with sheet d) p;
      words = word_rows sheet d (image_with sheet d) p;
      bytes = data_bytes_lem sheet d (image_with sheet d) p;
    }
