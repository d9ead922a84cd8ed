-- The digits of numbers, written. Assumes nothing.
use Prim.Native.Nat.{ℕ, zero, suc, ◌+◌, ◌*◌, ◌-◌, ◌/◌, ◌%◌, ◌≤◌, ◌<◌}
use mathlib.Core.Path.{◌≡◌, ap}
use mathlib.Core.Bool.{cond}
use mathlib.Core.List.{List, [], ◌∷◌, ◌++◌}
use native.Mathlib.Omega.{arith}
use borrow.Author.Tests.{lt-ltb, le-ltb}
use lib.Dec.{ltb}
use Rattle.listing_text.specs.declared.pen.Pen.{Pen}
use Rattle.listing_text.specs.Numbers.{digit, hex_digit, decimal_by, decimal, hex_by, hex, hex_digits, hex_bytes}
use Rattle.listing_text.specs.Writing.{Wrote}
use Rattle.listing_text.proofs.Pieces.{and_then_lem}

-- 10 and its powers: the first is 10 itself
ten_to : ℕ → ℕ
ten_to zero = 10
ten_to (suc k) = 10 * ten_to k

-- 16 and its powers
sixteen_to : ℕ → ℕ
sixteen_to zero = 16
sixteen_to (suc k) = 16 * sixteen_to k

-- room for a digit more makes no difference
enough_decimal : (k n : ℕ) → n < ten_to k → decimal_by (suc k) n ≡ decimal_by (suc (suc k)) n
unfolding decimal_by ten_to
enough_decimal zero n h = rw (lt-ltb n 10 h)
enough_decimal (suc k) n h = ap (λ (l : List ℕ). cond (ltb n 10) (digit n ∷ []) (l ++ (digit (n % 10) ∷ []))) (enough_decimal k (n / 10) (omega arith))

-- the same in hexadecimal
enough_hex : (k n : ℕ) → n < sixteen_to k → hex_by (suc k) n ≡ hex_by (suc (suc k)) n
unfolding hex_by sixteen_to
enough_hex zero n h = rw (lt-ltb n 16 h)
enough_hex (suc k) n h = ap (λ (l : List ℕ). cond (ltb n 16) (hex_digit n ∷ []) (l ++ (hex_digit (n % 16) ∷ []))) (enough_hex k (n / 16) (omega arith))

-- a number of one digit
decimal_one : (n : ℕ) → n < 10 → decimal n ≡ (48 + n) ∷ []
unfolding decimal_by
decimal_one n h = rw (lt-ltb n 10 h)

-- one of one hexadecimal digit
hex_one : (n : ℕ) → n < 16 → hex n ≡ hex_digit n ∷ []
unfolding hex_by
hex_one n h = rw (lt-ltb n 16 h)

-- a number of more digits
decimal_more : (n : ℕ) → 10 ≤ n → n < 65536 → decimal n ≡ decimal (n / 10) ++ ((48 + n % 10) ∷ [])
unfolding decimal_by ten_to
decimal_more n h k = rw (le-ltb n 10 h) (ap (λ (l : List ℕ). l ++ ((48 + n % 10) ∷ [])) (enough_decimal 3 (n / 10) (omega arith)))

-- one of more hexadecimal digits
hex_more : (n : ℕ) → 16 ≤ n → n < 18446744073709551616 → hex n ≡ hex (n / 16) ++ (hex_digit (n % 16) ∷ [])
unfolding hex_by sixteen_to
hex_more n h k = rw (le-ltb n 16 h) (ap (λ (l : List ℕ). l ++ (hex_digit (n % 16) ∷ [])) (enough_hex 14 (n / 16) (omega arith)))

module _ {b : List ℕ} {pen pen₁ : Pen} {b₁ : List ℕ} where
  -- `put_decimal` of one digit
  pub one_decimal : (n : ℕ) → n < 10 → Wrote b pen ((48 + n) ∷ []) pen₁ b₁ → Wrote b pen (decimal n) pen₁ b₁
  one_decimal n h w = rw (decimal_one n h) w

  -- `put_hex` of one digit
  pub one_hex : (n : ℕ) {d : ℕ} → n < 16 → d ≡ hex_digit n → Wrote b pen (d ∷ []) pen₁ b₁ → Wrote b pen (hex n) pen₁ b₁
  one_hex n h e w = rw (hex_one n h, ← e) w

  -- `put_hex_digits` of none
  pub no_hex_digits : (digits n : ℕ) → digits ≡ 0 → Wrote b pen [] pen₁ b₁ → Wrote b pen (hex_digits digits n) pen₁ b₁
  unfolding hex_digits
  no_hex_digits digits n e w = rw e w

  module _ {pen₂ : Pen} {b₂ : List ℕ} where
    -- `put_decimal` of more digits
    pub more_decimal : (n : ℕ) → 10 ≤ n → n < 65536 → Wrote b pen (decimal (n / 10)) pen₁ b₁ → Wrote b₁ pen₁ ((48 + n % 10) ∷ []) pen₂ b₂ → Wrote b pen (decimal n) pen₂ b₂
    more_decimal n h k w v = rw (decimal_more n h k) (and_then_lem w v)

    -- `put_hex` of more digits
    pub more_hex : (n : ℕ) {d : ℕ} → 16 ≤ n → n < 18446744073709551616 → d ≡ hex_digit (n % 16) → Wrote b pen (hex (n / 16)) pen₁ b₁ → Wrote b₁ pen₁ (d ∷ []) pen₂ b₂ → Wrote b pen (hex n) pen₂ b₂
    more_hex n h k e w v = rw (hex_more n h k, ← e) (and_then_lem w v)

    -- `put_hex_digits` of so many, but not none
    pub more_hex_digits : (digits n : ℕ) {d : ℕ} → (digits ≡ 0 → ⊥) → d ≡ hex_digit (n % 16) → Wrote b pen (hex_digits (digits - 1) (n / 16)) pen₁ b₁ →
        Wrote b₁ pen₁ (d ∷ []) pen₂ b₂ → Wrote b pen (hex_digits digits n) pen₂ b₂
    unfolding hex_digits
    more_hex_digits digits n z e w v =
        let count : digits ≡ suc (digits - 1) = omega (arith, z) in
        rw (count, ← e) (and_then_lem w v)

    -- `put_low_byte`
    pub two_digits : (x y : ℕ) {d e : ℕ} → d ≡ hex_digit x → Wrote b pen (d ∷ []) pen₁ b₁ → e ≡ hex_digit y → Wrote b₁ pen₁ (e ∷ []) pen₂ b₂ →
        Wrote b pen (hex_digit x ∷ hex_digit y ∷ []) pen₂ b₂
    two_digits x y p w q v = rw (← p, ← q) (and_then_lem w v)

-- where the loop of `put_hex_bytes` begins, all bytes are left
pub bytes_begin : (count n : ℕ) → hex_bytes (count - 0) n ≡ hex_bytes count n
bytes_begin count n = let e : count - 0 ≡ count = omega arith in rw e

-- the next of them
pub bytes_more_lem : (count i n : ℕ) → i < count → hex_bytes (count - i) n ≡ (hex_digit (n % 256 / 16) ∷ hex_digit (n % 16) ∷ []) ++ hex_bytes (count - (i + 1)) (n / 256)
unfolding hex_bytes
bytes_more_lem count i n h = let e : count - i ≡ suc (count - (i + 1)) = omega arith in rw e

-- no more of them
pub bytes_end : (count i n : ℕ) → count ≤ i → hex_bytes (count - i) n ≡ []
unfolding hex_bytes
bytes_end count i n h = let e : count - i ≡ 0 = omega arith in rw e
