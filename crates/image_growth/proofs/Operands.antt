-- Operands of an image that is a sheet with more rows: the sheet's are the same, and an added one has the bytes that were added for it.
-- Assumes nothing.
use Prim.Native.Nat.{ℕ, ◌+◌, ◌*◌, ◌≤◌, ◌<◌}
use mathlib.Core.Path.{◌≡◌, refl, sym, ap, ◌∙◌}
use mathlib.Core.List.{List}
use native.Mathlib.Omega.{arith}
use lib.ListN.{length, get_or, take, drop, length-drop}
use lib.Seq.{length-take-le, get_or-take, get_or-drop, ext_get_or}
use Rattle.image.specs.declared.rows.OperandRow.{OperandRow}
use Rattle.image.specs.Bytes.{byte_at, word_at}
use Rattle.image.specs.Tables.{list_count, data_count, list_start, data_at, tables_end}
use Rattle.image.specs.Rows.{list_at, operand_at, operand_bytes}
use Rattle.pattern_images.specs.Drafts.{Draft}
use Rattle.image_growth.specs.Growing.{data_byte, Grown}

-- three words of the list as an operand
abbrev pub operand_of_words : ℕ → ℕ → ℕ → OperandRow
operand_of_words kind offset count = record { kind = kind; offset = offset; count = count }

pub operand_words : (image : List ℕ) (o : ℕ) → operand_at image o ≡ operand_of_words (list_at image o) (list_at image (o + 1)) (list_at image (o + 2))
unfolding operand_at list_at
operand_words image o =
    let second : list_start image + 2 * o + 2 ≡ list_start image + 2 * (o + 1) = omega arith in
    let third : list_start image + 2 * o + 4 ≡ list_start image + 2 * (o + 2) = omega arith in
    λ i. record { kind = word_at image (list_start image + 2 * o); offset = ap (word_at image) second i; count = ap (word_at image) third i }

-- an operand's bytes are those that stand there
pub operand_bytes_lem : (image : List ℕ) (row : OperandRow) (bytes : List ℕ) → data_at image + row.offset + row.count ≤ length image →
    length bytes ≡ row.count → ((k : ℕ) → k < row.count → data_byte image (row.offset + k) ≡ get_or bytes k 0) → operand_bytes image row ≡ bytes
unfolding operand_bytes
operand_bytes_lem image row bytes fits long each =
    let from = data_at image + row.offset in
    let size : length (take row.count (drop from image)) ≡ row.count = length-take-le row.count (drop from image) (omega (arith, length-drop from image)) in
    ext_get_or 0 (take row.count (drop from image)) bytes (size ∙ sym long)
    (λ k lt.
    let below : k < row.count = omega (arith, size, lt) in
    let place : from + k ≡ data_at image + (row.offset + k) = omega arith in
    get_or-take row.count (drop from image) k 0 below ∙ get_or-drop from image k 0 ∙ ap (byte_at image) place ∙ each k below)

module _ (sheet : List ℕ) (d : Draft) (image : List ℕ) (g : Grown sheet d image) where
  pub operand_kept : (o : ℕ) → o + 3 ≤ list_count sheet → operand_at image o ≡ operand_at sheet o
  operand_kept o h =
      operand_words image o
      ∙ (λ i. operand_of_words (g.words.kept o (omega arith) i) (g.words.kept (o + 1) (omega arith) i) (g.words.kept (o + 2) (omega arith) i))
      ∙ sym (operand_words sheet o)

  pub operand_bytes_kept : (row : OperandRow) → length sheet ≡ tables_end sheet → row.offset + row.count ≤ data_count sheet →
      operand_bytes image row ≡ operand_bytes sheet row
  unfolding operand_bytes
  operand_bytes_kept row filled fits =
      let old = data_at sheet + row.offset in
      operand_bytes_lem image row (operand_bytes sheet row) (omega (arith, g.filled, g.bytes_are))
      (length-take-le row.count (drop old sheet) (omega (arith, length-drop old sheet, filled)))
      (λ k lt.
      let place : data_at sheet + (row.offset + k) ≡ old + k = omega arith in
      g.bytes.kept (row.offset + k) (omega arith)
      ∙ (ap (byte_at sheet) place ∙ sym (get_or-take row.count (drop old sheet) k 0 lt ∙ get_or-drop old sheet k 0)))

  -- bytes that were added, from a place among them on
  pub operand_bytes_added : (kind from : ℕ) (bytes : List ℕ) → from + length bytes ≤ length d.bytes →
      ((k : ℕ) → k < length bytes → get_or d.bytes (from + k) 0 ≡ get_or bytes k 0) →
      operand_bytes image (operand_of_words kind (data_count sheet + from) (length bytes)) ≡ bytes
  operand_bytes_added kind from bytes fits each =
      operand_bytes_lem image (operand_of_words kind (data_count sheet + from) (length bytes)) bytes (omega (arith, g.filled, g.bytes_are)) refl
      (λ k lt.
      let place : data_at image + (data_count sheet + from + k) ≡ data_at image + (data_count sheet + (from + k)) = omega arith in
      ap (byte_at image) place ∙ g.bytes.behind (from + k) 0 (omega arith) ∙ each k lt)
