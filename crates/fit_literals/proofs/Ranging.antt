-- The 16 bytes of an integer as two halves. Assumes nothing.
use Prim.Native.Nat.{ℕ, ◌+◌, ◌*◌, ◌-◌, ◌/◌, ◌≤◌, ◌<◌}
use mathlib.Core.Path.{◌≡◌, sym, ◌∙◌}
use mathlib.Core.Bool.{Bool, true, false}
use mathlib.Core.List.{List}
use native.Mathlib.Nat.{mul-le-mul_left}
use native.Mathlib.Omega.{arith}
use borrow.Author.Tests.{lt-ltb, le-ltb}
use lib.IntN.{pos, neg_ℤ}
use lib.ListN.{length, take, drop, length-drop}
use lib.Seq.{take_all}
use Rattle.image.specs.Bytes.{little_endian}
use Rattle.image.specs.Integers.{value_count, in_range, integer_value}
use Rattle.meaning.proofs.Cutting.{little_split}

-- a number of two halves, the lower one below B, on this side of B times K and on that
module _ (B K low high : ℕ) where
  under_half : low < B → high < K → low + B * high < B * K
  under_half small h = omega (arith, mul-le-mul_left B h)

  over_half : K ≤ high → B * K ≤ low + B * high
  over_half h = omega (arith, mul-le-mul_left B h)

-- `in_range`: 16 bytes are two halves
module _ (size : ℕ) (signed : Bool) (bytes : List ℕ) (long : length bytes ≡ 16) {low high : ℕ} (lows : low ≡ little_endian (take 8 (drop 0 bytes))) (highs : high ≡ little_endian (take 8 (drop 8 bytes))) where
  whole : little_endian bytes ≡ low + value_count 8 * high
  whole =
      let all : take 8 (drop 8 bytes) ≡ drop 8 bytes = take_all 8 (drop 8 bytes) (omega (arith, length-drop 8 bytes)) in
      sym (little_split 8 bytes) ∙ rw (lows, highs, all)

  module _ {negative : Bool} where
    pub value_unsigned : negative ≡ false → in_range size signed (pos (low + value_count 8 * high)) ≡ in_range size signed (integer_value negative bytes)
    unfolding integer_value
    value_unsigned e = rw (e, whole)

    pub value_positive : low < value_count 8 → high < value_count 8 / 2 → negative ≡ true → in_range size signed (pos (low + value_count 8 * high)) ≡ in_range size signed (integer_value negative bytes)
    unfolding integer_value
    value_positive small h e = rw (e, long, whole, lt-ltb (low + value_count 8 * high) (value_count 16 / 2) (under_half (value_count 8) (value_count 8 / 2) low high small h))

    pub value_negative : value_count 8 / 2 ≤ high → negative ≡ true → in_range size signed (neg_ℤ (pos (value_count 16 - (low + value_count 8 * high)))) ≡ in_range size signed (integer_value negative bytes)
    unfolding integer_value
    value_negative h e = rw (e, long, whole, le-ltb (low + value_count 8 * high) (value_count 16 / 2) (over_half (value_count 8) (value_count 8 / 2) low high h))
