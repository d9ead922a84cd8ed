-- Integers of 1, 2, 4, 8 and 16 bytes, signed or not: their least and greatest values, and the value of their bytes.
-- Assumes nothing: these are definitions.
use Rattle.std.specs.Prelude.{ℕ, ◌^◌, ◌-◌, ◌/◌, Bool, true, false, cond, ◌&&◌, List, ltb, ℤ, pos, neg_ℤ, length}
use Rattle.std.specs.Int.Signed.{le_z}
use Rattle.image.specs.Bytes.{little_endian}

-- how many values so many bytes have
abbrev pub value_count : ℕ → ℕ
value_count size = 256 ^ size

-- the least value of an integer type, by its size and whether it is signed
unfoldable pub least_value : ℕ → Bool → ℤ
least_value size false = pos 0
least_value size true = neg_ℤ (pos (value_count size / 2))

-- the greatest value of an integer type
unfoldable pub greatest_value : ℕ → Bool → ℤ
greatest_value size false = pos (value_count size - 1)
greatest_value size true = pos (value_count size / 2 - 1)

-- a value of an integer type
unfoldable pub in_range : ℕ → Bool → ℤ → Bool
in_range size signed z = le_z (least_value size signed) z && le_z z (greatest_value size signed)

-- the value of an integer's bytes, the lowest first; those of a signed one are two's complement
unfoldable pub integer_value : Bool → List ℕ → ℤ
integer_value false bytes = pos (little_endian bytes)
integer_value true bytes =
    cond (ltb (little_endian bytes) (value_count (length bytes) / 2)) (pos (little_endian bytes)) (neg_ℤ (pos (value_count (length bytes) - little_endian bytes)))
