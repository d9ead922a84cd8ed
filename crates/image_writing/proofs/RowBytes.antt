-- The bytes of rows that are read by words are the words' bytes, for rows of any width. Assumes nothing.
use Prim.Native.Nat.{ℕ, zero, suc, ◌+◌, ◌*◌, ◌≤◌, ◌<◌}
use mathlib.Core.Path.{◌≡◌, refl, sym, ap, ap₂, ◌∙◌}
use mathlib.Core.List.{List, [], ◌∷◌, ◌++◌, map, append_assoc}
use native.Mathlib.Nat.{mul-suc, mul-le-mul_left}
use native.Mathlib.Omega.{arith}
use lib.ListN.{length, get_or, take, drop}
use lib.Seq.{drop-cons, take_all}
use Rattle.row_tables.specs.Rows.{row_at, rows_of, joined}
use Rattle.row_tables.proofs.Tables.{length_rows, length_row, row_of, joined_rows}
use Rattle.pattern_images.specs.Imaging.{word_bytes, words_bytes, type_bytes, pattern_bytes, binding_bytes}
use Rattle.draft_tables.specs.Layout.{type_of_words, pattern_of_words, binding_of_words}

-- n words of a row, one by one from the word k on
word_by_word : List ℕ → ℕ → ℕ → List ℕ
word_by_word ws k zero = []
word_by_word ws k (suc n) = get_or ws k 0 ∷ word_by_word ws (suc k) n

one_by_one : (n : ℕ) (ws : List ℕ) (k : ℕ) → k + n ≤ length ws → word_by_word ws k n ≡ take n (drop k ws)
unfolding word_by_word
one_by_one zero ws k h = refl
one_by_one (suc n) ws k h =
    ap (λ (l : List ℕ). get_or ws k 0 ∷ l) (one_by_one n ws (suc k) (omega arith)) ∙ sym (ap (take (suc n)) (drop-cons ws k 0 (omega arith)))

-- a row of n words is its n words
row_is : (n : ℕ) (ws : List ℕ) → length ws ≡ n → word_by_word ws 0 n ≡ ws
row_is n ws e = one_by_one n ws 0 (omega arith) ∙ take_all n ws (omega arith)

words_append : (a b : List ℕ) → words_bytes (a ++ b) ≡ words_bytes a ++ words_bytes b
unfolding words_bytes
words_append [] b = refl
words_append (w ∷ a) b = ap (λ (l : List ℕ). word_bytes w ++ l) (words_append a b) ∙ sym (append_assoc (word_bytes w) (words_bytes a) (words_bytes b))

module _ (w : ℕ) (encoded : List (List ℕ) → List ℕ) (none : encoded [] ≡ [])
    (one : (row : List ℕ) (rows : List (List ℕ)) → length row ≡ w → encoded (row ∷ rows) ≡ words_bytes row ++ encoded rows) where
  rows_bytes : (rows : List (List ℕ)) → ((i : ℕ) → i < length rows → length (get_or rows i []) ≡ w) → encoded rows ≡ words_bytes (joined rows)
  unfolding joined words_bytes
  rows_bytes [] wide = none
  rows_bytes (row ∷ rows) wide =
      one row rows (wide 0 (omega arith))
      ∙ ap (λ (l : List ℕ). words_bytes row ++ l) (rows_bytes rows (λ i h. wide (suc i) (omega arith)))
      ∙ sym (words_append row (joined rows))

  pub table_bytes : (t : List ℕ) (n : ℕ) → w * n ≤ length t → encoded (rows_of w t n) ≡ words_bytes (take (w * n) t)
  table_bytes t n fits = rows_bytes (rows_of w t n) wide ∙ ap words_bytes (joined_rows w t n)
    where
      wide : (i : ℕ) → i < length (rows_of w t n) → length (get_or (rows_of w t n) i []) ≡ w
      wide i h =
          let below : i < n = omega (arith, h, length_rows w t n) in
          let next : suc i ≤ n = below in
          ap length (row_of w t n i below) ∙ length_row w t i (omega (arith, mul-suc w i, mul-le-mul_left w next))

pub types_bytes : (t : List ℕ) (n : ℕ) → 5 * n ≤ length t → type_bytes (map type_of_words (rows_of 5 t n)) ≡ words_bytes (take (5 * n) t)
unfolding type_bytes type_of_words word_by_word
types_bytes = table_bytes 5 (λ rows. type_bytes (map type_of_words rows)) refl (λ row rows e. ap (λ (l : List ℕ). words_bytes l ++ type_bytes (map type_of_words rows)) (row_is 5 row e))

pub patterns_bytes : (t : List ℕ) (n : ℕ) → 7 * n ≤ length t → pattern_bytes (map pattern_of_words (rows_of 7 t n)) ≡ words_bytes (take (7 * n) t)
unfolding pattern_bytes pattern_of_words word_by_word
patterns_bytes = table_bytes 7 (λ rows. pattern_bytes (map pattern_of_words rows)) refl (λ row rows e. ap (λ (l : List ℕ). words_bytes l ++ pattern_bytes (map pattern_of_words rows)) (row_is 7 row e))

pub bindings_bytes : (t : List ℕ) (n : ℕ) → 2 * n ≤ length t → binding_bytes (map binding_of_words (rows_of 2 t n)) ≡ words_bytes (take (2 * n) t)
unfolding binding_bytes binding_of_words word_by_word
bindings_bytes = table_bytes 2 (λ rows. binding_bytes (map binding_of_words rows)) refl (λ row rows e. ap (λ (l : List ℕ). words_bytes l ++ binding_bytes (map binding_of_words rows)) (row_is 2 row e))
