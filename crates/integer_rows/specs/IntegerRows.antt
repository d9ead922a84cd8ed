-- The rows of the table of integers, by the rule of image's Integers. Assumes nothing: these are definitions.
use Rattle.std.specs.Prelude.{ℕ, suc, ◌-◌, ◌/◌, ◌%◌, ◌^◌, Bool, ltb, ℤ, pos, negsuc}
use Rattle.image.specs.Integers.{value_count, least_value, greatest_value}
use Rattle.integer_rows.specs.declared.IntegerRow.{IntegerRow}

-- "signed and unsigned": the first five rows are signed
unfoldable pub row_signed : ℕ → Bool
row_signed row = ltb row 5

-- "at 1, 2, 4, 8 and 16 bytes", in this order
unfoldable pub row_size : ℕ → ℕ
row_size row = 2 ^ (row % 5)

-- a value "as 16 bytes", two's complement: the number that these bytes are, the lowest first
unfoldable pub sixteen_bytes : ℤ → ℕ
sixteen_bytes (pos n) = n
sixteen_bytes (negsuc n) = value_count 16 - suc n

-- a row "with its size, its least and its greatest value", the lower eight bytes of each and the upper eight
unfoldable pub integer_row : ℕ → Bool → IntegerRow
integer_row size signed =
    record {
      size = size;
      least_low = sixteen_bytes (least_value size signed) % value_count 8;
      least_high = sixteen_bytes (least_value size signed) / value_count 8;
      greatest_low = sixteen_bytes (greatest_value size signed) % value_count 8;
      greatest_high = sixteen_bytes (greatest_value size signed) / value_count 8;
    }
