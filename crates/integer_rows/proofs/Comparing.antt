-- A number of two halves beside the least and the greatest value of a row. Assumes nothing.
use Prim.Native.Nat.{ℕ, zero, suc, ◌+◌, ◌*◌, ◌-◌, ◌/◌, ◌%◌, ◌≤◌, ◌<◌}
use mathlib.Core.Path.{◌≡◌, refl, sym, ap, ◌∙◌}
use mathlib.Core.Bool.{Bool, true, false, ◌&&◌}
use native.Mathlib.Nat.{mul-le-mul_left, div-lt_iff_lt-mul}
use native.Mathlib.Omega.{arith}
use borrow.Author.Tests.{leb-true, leb-false, ltb-true, ltb-false, le-leb, lt-leb}
use lib.Dec.{leb, ltb, leb-zero, leb-suc-suc, lit<}
use lib.IntN.{pos, neg_ℤ}
use lib.Signed.{le_z}
use Rattle.image.specs.Integers.{value_count, least_value, greatest_value, in_range}
use Rattle.image.specs.Rules.{is_integer_size}
use Rattle.integer_rows.specs.declared.IntegerRow.{IntegerRow}
use Rattle.integer_rows.specs.IntegerRows.{sixteen_bytes, integer_row}
use Rattle.integer_rows.proofs.Sizes.{some_few}

-- two tests that hold together
le_as_le : (a b x y : ℕ) → (a ≤ b → x ≤ y) → (b < a → y < x) → leb a b ≡ leb x y
le_as_le a b x y f g = go (leb a b) refl
  where
    go : (t : Bool) → leb a b ≡ t → t ≡ leb x y
    go true e = sym (le-leb x y (f (leb-true a b e)))
    go false e = sym (lt-leb x y (g (leb-false a b e)))

lt_as_le : (a b x y : ℕ) → (a < b → x ≤ y) → (b ≤ a → y < x) → ltb a b ≡ leb x y
lt_as_le a b x y f g = go (ltb a b) refl
  where
    go : (t : Bool) → ltb a b ≡ t → t ≡ leb x y
    go true e = sym (le-leb x y (f (ltb-true a b e)))
    go false e = sym (lt-leb x y (g (ltb-false a b e)))

-- the number of two halves
abbrev of_halves : ℕ → ℕ → ℕ
of_halves low high = low + value_count 8 * high

-- beside a bound: the upper halves decide, and the lower ones where those are equal
module _ (low high bound : ℕ) (small : low < value_count 8) where
  up_equal : high ≡ bound / value_count 8 → leb low (bound % value_count 8) ≡ leb (of_halves low high) bound
  up_equal e = le_as_le low (bound % value_count 8) (of_halves low high) bound (λ l. omega arith) (λ l. omega arith)

  up_other : (high ≡ bound / value_count 8 → ⊥) → ltb high (bound / value_count 8) ≡ leb (of_halves low high) bound
  up_other ne = lt_as_le high (bound / value_count 8) (of_halves low high) bound (λ l. omega arith) (λ l. omega arith)

  down_equal : high ≡ bound / value_count 8 → leb (bound % value_count 8) low ≡ leb bound (of_halves low high)
  down_equal e = le_as_le (bound % value_count 8) low bound (of_halves low high) (λ l. omega arith) (λ l. omega arith)

  down_other : (high ≡ bound / value_count 8 → ⊥) → ltb (bound / value_count 8) high ≡ leb bound (of_halves low high)
  down_other ne = lt_as_le (bound / value_count 8) high bound (of_halves low high) (λ l. omega arith) (λ l. omega arith)

-- a number that is not negative is in the range where it is not above the greatest value
not_above_lem : (size : ℕ) (signed : Bool) (n : ℕ) → leb n (sixteen_bytes (greatest_value size signed)) ≡ in_range size signed (pos n)
unfolding in_range least_value greatest_value sixteen_bytes
not_above_lem size false n = rw (leb-zero n) refl
not_above_lem size true n = go (value_count size / 2)
  where
    go : (h : ℕ) → leb n (h - 1) ≡ le_z (neg_ℤ (pos h)) (pos n) && leb n (h - 1)
    go zero = rw (leb-zero n) refl
    go (suc h) = refl

-- a negative one is in no range of numbers that are not, and in a signed one where it is not further below 0 than the least value
negative_unsigned : (size m : ℕ) → 0 < m → in_range size false (neg_ℤ (pos m)) ≡ false
unfolding in_range least_value greatest_value
negative_unsigned size zero p = absurd (omega arith)
negative_unsigned size (suc m) p = refl

negative_signed : (size m : ℕ) → 0 < m → in_range size true (neg_ℤ (pos m)) ≡ leb m (value_count size / 2)
unfolding in_range least_value greatest_value
negative_signed size m p = go (value_count size / 2) m p
  where
    and_right_true : (b : Bool) → b && true ≡ b
    and_right_true true = refl
    and_right_true false = refl

    go : (h m : ℕ) → 0 < m → le_z (neg_ℤ (pos h)) (neg_ℤ (pos m)) && le_z (neg_ℤ (pos m)) (pos (h - 1)) ≡ leb m h
    go h zero p = absurd (omega arith)
    go zero (suc m) p = sym (lt-leb (suc m) 0 (omega arith))
    go (suc h) (suc m) p = and_right_true (leb m h) ∙ sym (leb-suc-suc m h)

-- the 16 bytes of a negative number
bytes_below : (h : ℕ) → 0 < h → sixteen_bytes (neg_ℤ (pos h)) ≡ value_count 16 - h
unfolding sixteen_bytes
bytes_below zero p = absurd (omega arith)
bytes_below (suc h) p = refl

module _ (size : ℕ) (signed : Bool) {row : IntegerRow} (at : row ≡ integer_row size signed) (low high : ℕ) (small : low < value_count 8) where
  -- `positive_in_range`
  pub greatest_equal : high ≡ row.greatest_high → leb low row.greatest_low ≡ in_range size signed (pos (of_halves low high))
  unfolding integer_row
  greatest_equal e =
      ap (λ (r : IntegerRow). leb low r.greatest_low) at
      ∙ up_equal low high (sixteen_bytes (greatest_value size signed)) small (e ∙ ap (λ (r : IntegerRow). r.greatest_high) at) ∙ not_above_lem size signed (of_halves low high)

  pub greatest_other : (high ≡ row.greatest_high → ⊥) → ltb high row.greatest_high ≡ in_range size signed (pos (of_halves low high))
  unfolding integer_row
  greatest_other ne =
      ap (λ (r : IntegerRow). ltb high r.greatest_high) at
      ∙ up_other low high (sixteen_bytes (greatest_value size signed)) small (λ e. ne (e ∙ ap (λ (r : IntegerRow). r.greatest_high) (sym at))) ∙ not_above_lem size signed (of_halves low high)

-- every row holds 0 to 127
pub small_in_every_row : (size : ℕ) (signed : Bool) → is_integer_size size ≡ true → (low high : ℕ) → high ≡ 0 → low < 128 → true ≡ in_range size signed (pos (of_halves low high))
unfolding greatest_value sixteen_bytes
small_in_every_row size signed sized low high none small = sym (le-leb (of_halves low high) (sixteen_bytes (greatest_value size signed)) (fits signed)) ∙ not_above_lem size signed (of_halves low high)
  where
    fits : (signed : Bool) → of_halves low high ≤ sixteen_bytes (greatest_value size signed)
    fits false = omega (arith, (some_few size sized).0)
    fits true = omega (arith, (some_few size sized).0)

-- numbers below a count of values, `all`, and its half
module _ (all : ℕ) where
  away : (n : ℕ) → n < all → 0 < all - n
  away n h = omega arith

  nearer : (n h l : ℕ) → l ≡ all - h → n < all → l ≤ n → all - n ≤ h
  nearer n h l e f g = omega arith

  further : (n h l : ℕ) → l ≡ all - h → h ≤ all → n < l → h < all - n
  further n h l e f g = omega arith

  module _ (half : ℕ) (twice : all ≡ half + half) (h : ℕ) (few : h ≤ half) where
    within : h ≤ all
    within = omega arith

    upper_half : (l : ℕ) → l ≡ all - h → l < half → ⊥
    upper_half l e f = omega arith

-- two halves are below all of the values
under_all : (B low high : ℕ) → low < B → high < B → low + B * high < B * B
under_all B low high small fits = omega (arith, mul-le-mul_left B fits)

-- a negative number, as its bytes have it in two's complement
module _ (size : ℕ) (sized : is_integer_size size ≡ true) (low high : ℕ) (small : low < value_count 8) (fits : high < value_count 8) where
  abbrev below : ℕ
  below = value_count 16 - of_halves low high

  few : of_halves low high < value_count 16
  few = under_all (value_count 8) low high small fits

  -- the 16 bytes of a signed row's least value
  abbrev least : ℕ
  least = sixteen_bytes (least_value size true)

  least_is : least ≡ value_count 16 - value_count size / 2
  unfolding least_value
  least_is = bytes_below (value_count size / 2) (omega (arith, (some_few size sized).0))

  not_below : leb least (of_halves low high) ≡ in_range size true (neg_ℤ (pos below))
  not_below =
      le_as_le least (of_halves low high) below (value_count size / 2)
      (nearer (value_count 16) (of_halves low high) (value_count size / 2) least least_is few)
      (further (value_count 16) (of_halves low high) (value_count size / 2) least least_is (within (value_count 16) (value_count 16 / 2) refl (value_count size / 2) (some_few size sized).1))
      ∙ sym (negative_signed size below (away (value_count 16) (of_halves low high) few))

  -- `negative_in_range`
  pub least_not_negative : (signed : Bool) {row : IntegerRow} → row ≡ integer_row size signed → row.least_high < value_count 8 / 2 → false ≡ in_range size signed (neg_ℤ (pos below))
  unfolding integer_row
  least_not_negative false at h = sym (negative_unsigned size below (away (value_count 16) (of_halves low high) few))
  least_not_negative true at h =
      let half : least / value_count 8 < value_count 8 / 2 = rw at at h in
      absurd (upper_half (value_count 16) (value_count 16 / 2) refl (value_count size / 2) (some_few size sized).1 least least_is ((div-lt_iff_lt-mul (lit< tt)).0 half))

  pub least_equal : (signed : Bool) {row : IntegerRow} → row ≡ integer_row size signed → value_count 8 / 2 ≤ row.least_high → high ≡ row.least_high
      → leb row.least_low low ≡ in_range size signed (neg_ℤ (pos below))
  unfolding integer_row least_value sixteen_bytes
  least_equal false at h e = let z = ap (λ (r : IntegerRow). r.least_high) at in absurd (omega (arith, z))
  least_equal true at h e =
      ap (λ (r : IntegerRow). leb r.least_low low) at ∙ down_equal low high least small (e ∙ ap (λ (r : IntegerRow). r.least_high) at) ∙ not_below

  pub least_other : (signed : Bool) {row : IntegerRow} → row ≡ integer_row size signed → value_count 8 / 2 ≤ row.least_high → (high ≡ row.least_high → ⊥)
      → ltb row.least_high high ≡ in_range size signed (neg_ℤ (pos below))
  unfolding integer_row least_value sixteen_bytes
  least_other false at h ne = let z = ap (λ (r : IntegerRow). r.least_high) at in absurd (omega (arith, z))
  least_other true at h ne =
      ap (λ (r : IntegerRow). ltb r.least_high high) at ∙ down_other low high least small (λ e. ne (e ∙ ap (λ (r : IntegerRow). r.least_high) (sym at))) ∙ not_below
