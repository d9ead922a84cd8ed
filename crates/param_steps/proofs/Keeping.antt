-- Words that are kept aside and put back, by the ways through the code. Assumes nothing.
use Prim.Native.Nat.{ℕ, ◌+◌, ◌-◌, ◌≤◌}
use mathlib.Core.Path.{◌≡◌, refl, ap, ◌∙◌}
use mathlib.Core.List.{List, [], append-nil}
use native.Mathlib.Omega.{arith}
use lib.ListN.{length, take, drop, drop_of_length-le}
use lib.Seq.{take_at, length-take-le}
use Rattle.row_tables.specs.Rows.{stored}
use Rattle.row_tables.proofs.Tables.{length_stored}

-- `saved_words`: r is the row after the table was stored at its start
pub words_saved : (table row : List ℕ) {r : List ℕ} → length table ≤ 256 → length row ≡ 256 → r ≡ stored row 0 table → (length r ≡ 256) × (take (length table) r ≡ table)
unfolding stored
words_saved table row few long is = (ap length is ∙ length_stored row 0 table (omega arith) ∙ long, ap (take (length table)) is ∙ take_at table (drop (0 + length table) row) (length table) refl)

-- `put_words`: the words are those from the number 0 to the table's length
pub words_put_lem : (table words : List ℕ) {after : List ℕ} → length table ≤ length words → after ≡ stored table 0 (take (length table - 0) words) → after ≡ take (length table) words
unfolding stored
words_put_lem table words few is =
    let all : length table - 0 ≡ length table = omega arith in
    let long : length (take (length table) words) ≡ length table = length-take-le (length table) words few in
    let none : drop (0 + length table) table ≡ [] = drop_of_length-le table {i = 0 + length table} (omega arith) in
    is ∙ rw (all, long, none) (append-nil (take (length table) words))
