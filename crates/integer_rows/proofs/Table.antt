-- The table by the rule: its five columns, computed over all ten rows, and one law that reads a row out of them. That the columns of the code are these is one
-- comparison, which the checker computes over the whole table (`row_at`). Assumes nothing.
use Prim.Native.Nat.{ℕ, zero, suc, ◌+◌, ◌<◌}
use mathlib.Core.Path.{◌≡◌, refl, ap}
use mathlib.Core.List.{List, map}
use native.Mathlib.Nat.{add-zero, zero-add, le_of_suc-le-suc, not-suc-le-zero}
use native.Mathlib.Omega.{arith}
use lib.ListN.{get_or}
use Rattle.image.specs.Lists.{up_from}
use Rattle.integer_rows.specs.declared.IntegerRow.{IntegerRow}
use Rattle.integer_rows.specs.IntegerRows.{row_size, row_signed, integer_row}

-- a list that a function makes of the numbers from a on, read at a place
made_at : (f : ℕ → ℕ) (n a k : ℕ) → k < n → get_or (map f (up_from a n)) k 0 ≡ f (a + k)
unfolding up_from
made_at f zero a k h = absurd (not-suc-le-zero h)
made_at f (suc n) a zero h = rw (add-zero a) refl
made_at f (suc n) a (suc k) h =
    let here : a + suc k ≡ a + 1 + k = omega arith in
    rw here (made_at f n (a + 1) k (le_of_suc-le-suc h))

-- the row with a number, by the rule
abbrev ruled : ℕ → IntegerRow
ruled row = integer_row (row_size row) (row_signed row)

-- a column of the table
abbrev column : (IntegerRow → ℕ) → List ℕ
column part = map (λ row. part (ruled row)) (up_from 0 10)

column_at : (part : IntegerRow → ℕ) (row : ℕ) → row < 10 → get_or (column part) row 0 ≡ part (ruled row)
column_at part row h = rw (zero-add row) at (made_at (λ row. part (ruled row)) 10 0 row h)

-- the row with a number, read out of the columns
abbrev pub table_row : ℕ → IntegerRow
table_row row =
    record {
      size = get_or (column (λ r. r.size)) row 0;
      least_low = get_or (column (λ r. r.least_low)) row 0;
      least_high = get_or (column (λ r. r.least_high)) row 0;
      greatest_low = get_or (column (λ r. r.greatest_low)) row 0;
      greatest_high = get_or (column (λ r. r.greatest_high)) row 0;
    }

pub row_right : (row : ℕ) → row < 10 → table_row row ≡ integer_row (row_size row) (row_signed row)
row_right row h = λ i. record {
  size = column_at (λ r. r.size) row h i;
  least_low = column_at (λ r. r.least_low) row h i;
  least_high = column_at (λ r. r.least_high) row h i;
  greatest_low = column_at (λ r. r.greatest_low) row h i;
  greatest_high = column_at (λ r. r.greatest_high) row h i;
}
