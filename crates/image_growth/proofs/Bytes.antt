-- The image of a sheet of bytes and a bounded draft within the limits is bytes. Assumes nothing.
use Prim.Native.Nat.{ℕ, zero, suc, ◌+◌, ◌*◌, ◌/◌, ◌%◌, ◌<◌}
use mathlib.Core.Path.{◌≡◌}
use mathlib.Core.Bool.{true}
use mathlib.Core.List.{List, [], ◌∷◌, ◌++◌}
use native.Mathlib.Nat.{mod-lt, div-add-mod'}
use native.Mathlib.Omega.{arith}
use lib.ListN.{length, take, drop}
use Rattle.image.specs.declared.rows.TypeRow.{TypeRow}
use Rattle.image.specs.declared.rows.PatRow.{PatRow}
use Rattle.image.specs.declared.rows.BindingRow.{BindingRow}
use Rattle.image.specs.Tables.{type_count, variant_count, pattern_count, binding_count, list_count, data_count, types_at, variants_at, patterns_at, bindings_at, list_start, data_at}
use Rattle.type_sheets.specs.Sheets.{sheet_holds}
use Rattle.pattern_images.specs.Drafts.{Draft, next_type, next_pattern, next_binding, next_word, next_byte}
use Rattle.pattern_images.specs.Imaging.{word_bytes, words_bytes, long_bytes, type_bytes, pattern_bytes, binding_bytes, table_of, tables_with, behind_length, image_with, within_image_limits}
use Rattle.image_growth.specs.Growing.{IsBytes, AreWords, EachWords, Bounded, type_words, pattern_words, binding_words}
use Rattle.image_growth.proofs.Limits.{Few, few}
use Rattle.image_growth.proofs.Grows.{sheet_filled, length_tables, image_long}

pub bytes_none : IsBytes []
bytes_none k = omega arith

pub bytes_more_lem : (b : ℕ) (xs : List ℕ) → b < 256 → IsBytes xs → IsBytes (b ∷ xs)
bytes_more_lem b xs h g zero = h
bytes_more_lem b xs h g (suc k) = g k

pub bytes_join : (xs ys : List ℕ) → IsBytes xs → IsBytes ys → IsBytes (xs ++ ys)
bytes_join [] ys h g k = g k
bytes_join (x ∷ xs) ys h g zero = h 0
bytes_join (x ∷ xs) ys h g (suc k) = bytes_join xs ys (λ i. h (suc i)) g k

bytes_take : (n : ℕ) (xs : List ℕ) → IsBytes xs → IsBytes (take n xs)
bytes_take zero xs h = bytes_none
bytes_take (suc n) [] h = bytes_none
bytes_take (suc n) (x ∷ xs) h = bytes_more_lem x (take n xs) (h 0) (bytes_take n xs (λ i. h (suc i)))

bytes_drop : (n : ℕ) (xs : List ℕ) → IsBytes xs → IsBytes (drop n xs)
bytes_drop zero xs h = h
bytes_drop (suc n) [] h = bytes_none
bytes_drop (suc n) (x ∷ xs) h = bytes_drop n xs (λ i. h (suc i))

table_bytes : (sheet : List ℕ) (at many : ℕ) → IsBytes sheet → IsBytes (table_of sheet at many)
table_bytes sheet at many h = bytes_take many (drop at sheet) (bytes_drop at sheet h)

word_is_bytes : (w : ℕ) → w < 65536 → IsBytes (word_bytes w)
unfolding word_bytes
word_is_bytes w h =
    let split = div-add-mod' w 256 in
    bytes_more_lem (w / 256) (w % 256 ∷ []) (omega (arith, split)) (bytes_more_lem (w % 256) [] (mod-lt w (omega arith)) bytes_none)

words_are_bytes : (ws : List ℕ) → AreWords ws → IsBytes (words_bytes ws)
unfolding words_bytes
words_are_bytes [] h = bytes_none
words_are_bytes (w ∷ ws) h = bytes_join (word_bytes w) (words_bytes ws) (word_is_bytes w h.0) (words_are_bytes ws h.1)

type_bytes_lem : (rs : List TypeRow) → EachWords type_words rs → IsBytes (type_bytes rs)
unfolding type_bytes
type_bytes_lem [] h = bytes_none
type_bytes_lem (r ∷ rs) h = bytes_join (words_bytes (type_words r)) (type_bytes rs) (words_are_bytes (type_words r) h.0) (type_bytes_lem rs h.1)

pattern_bytes_lem : (rs : List PatRow) → EachWords pattern_words rs → IsBytes (pattern_bytes rs)
unfolding pattern_bytes
pattern_bytes_lem [] h = bytes_none
pattern_bytes_lem (r ∷ rs) h = bytes_join (words_bytes (pattern_words r)) (pattern_bytes rs) (words_are_bytes (pattern_words r) h.0) (pattern_bytes_lem rs h.1)

binding_bytes_lem : (rs : List BindingRow) → EachWords binding_words rs → IsBytes (binding_bytes rs)
unfolding binding_bytes
binding_bytes_lem [] h = bytes_none
binding_bytes_lem (r ∷ rs) h = bytes_join (words_bytes (binding_words r)) (binding_bytes rs) (words_are_bytes (binding_words r) h.0) (binding_bytes_lem rs h.1)

tables_bytes : (sheet : List ℕ) (d : Draft) → IsBytes sheet → Bounded d → IsBytes (tables_with sheet d)
unfolding tables_with
tables_bytes sheet d h b =
    let s1 = table_of sheet (types_at sheet) (10 * type_count sheet) in
    let s2 = table_of sheet (variants_at sheet) (6 * variant_count sheet) in
    let s3 = table_of sheet (patterns_at sheet) (14 * pattern_count sheet) in
    let s4 = table_of sheet (bindings_at sheet) (4 * binding_count sheet) in
    let s5 = table_of sheet (list_start sheet) (2 * list_count sheet) in
    let s6 = table_of sheet (data_at sheet) (data_count sheet) in
    let r6 = s6 ++ d.bytes in
    let r5 = s5 ++ (words_bytes d.words ++ r6) in
    let r4 = s4 ++ (binding_bytes d.bindings ++ r5) in
    let r3 = s3 ++ (pattern_bytes d.patterns ++ r4) in
    let r2 = s2 ++ r3 in
    let b6 = bytes_join s6 d.bytes (table_bytes sheet (data_at sheet) (data_count sheet) h) b.bytes in
    let b5 =
    bytes_join s5 (words_bytes d.words ++ r6) (table_bytes sheet (list_start sheet) (2 * list_count sheet) h)
    (bytes_join (words_bytes d.words) r6 (words_are_bytes d.words b.words) b6)
    in
    let b4 =
    bytes_join s4 (binding_bytes d.bindings ++ r5) (table_bytes sheet (bindings_at sheet) (4 * binding_count sheet) h)
    (bytes_join (binding_bytes d.bindings) r5 (binding_bytes_lem d.bindings b.bindings) b5)
    in
    let b3 =
    bytes_join s3 (pattern_bytes d.patterns ++ r4) (table_bytes sheet (patterns_at sheet) (14 * pattern_count sheet) h)
    (bytes_join (pattern_bytes d.patterns) r4 (pattern_bytes_lem d.patterns b.patterns) b4)
    in
    let b2 = bytes_join s2 r3 (table_bytes sheet (variants_at sheet) (6 * variant_count sheet) h) b3 in
    bytes_join s1 (type_bytes d.types ++ r2) (table_bytes sheet (types_at sheet) (10 * type_count sheet) h)
    (bytes_join (type_bytes d.types) r2 (type_bytes_lem d.types b.types) b2)

long_is_bytes : (n : ℕ) → n < 65536 * 65536 → IsBytes (long_bytes n)
unfolding long_bytes
long_is_bytes n h =
    let split = div-add-mod' n 65536 in
    bytes_join (word_bytes (n / 65536)) (word_bytes (n % 65536)) (word_is_bytes (n / 65536) (omega (arith, split))) (word_is_bytes (n % 65536) (mod-lt n (omega arith)))

behind_bytes : (sheet : List ℕ) (d : Draft) → Few sheet d → IsBytes sheet → Bounded d → IsBytes (behind_length sheet d)
unfolding behind_length
behind_bytes sheet d f h b =
    let counts = next_type sheet d ∷ variant_count sheet ∷ next_pattern sheet d ∷ next_binding sheet d ∷ next_word sheet d ∷ next_byte sheet d ∷ [] in
    bytes_more_lem 1 (words_bytes counts ++ tables_with sheet d) (omega arith)
    (bytes_join (words_bytes counts) (tables_with sheet d)
    (words_are_bytes counts
    (omega (arith, f.types), (omega (arith, f.variants), (omega (arith, f.patterns), (omega (arith, f.bindings), (omega (arith, f.words), (omega (arith, f.bytes), tt)))))))
    (tables_bytes sheet d h b))

behind_long : (sheet : List ℕ) (d : Draft) → length (image_with sheet d) ≡ 4 + length (behind_length sheet d)
unfolding image_with long_bytes word_bytes
behind_long sheet d = omega arith

-- The theorem.
pub image_bytes : (sheet : List ℕ) (d : Draft) → IsBytes sheet → sheet_holds sheet ≡ true → Bounded d → within_image_limits sheet d ≡ true → IsBytes (image_with sheet d)
unfolding image_with
image_bytes sheet d h holds b within =
    let f = few sheet d holds within in
    let n = length (behind_length sheet d) in
    let long : n < 65536 * 65536 =
    omega (
      arith,
      behind_long sheet d,
      image_long sheet d,
      length_tables sheet d (sheet_filled sheet holds),
      f.types,
      f.variants,
      f.patterns,
      f.bindings,
      f.words,
      f.bytes,
    )
    in
    bytes_join (long_bytes n) (behind_length sheet d) (long_is_bytes n long) (behind_bytes sheet d f h b)
