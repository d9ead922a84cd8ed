-- Bytes read as numbers, cut to the size of an integer, and read back at its sign. Assumes nothing.
use Prim.Native.Nat.{ℕ, zero, suc, ◌+◌, ◌*◌, ◌-◌, ◌^◌, ◌/◌, ◌≤◌, ◌<◌}
use mathlib.Core.Path.{◌≡◌, refl, ap, ◌∙◌}
use mathlib.Core.Bool.{Bool, true, false, cond, ◌||◌, false≢true}
use mathlib.Core.List.{List, [], ◌∷◌}
use native.Mathlib.Nat.{add-zero, add-suc, pow-zero, pow-suc, one-le-pow, mul-div_right}
use native.Mathlib.Omega.{arith}
use lib.Dec.{eqb, leb, ltb}
use lib.IntN.{pos, neg_ℤ}
use lib.ListN.{length, get_or, take, drop}
use lib.Seq.{take-length}
use lib.Signed.{le_z}
use borrow.Author.Tests.{leb-true, eqb-true, lt-ltb, le-ltb}
use Rattle.image.specs.Bytes.{little_endian}
use Rattle.image.specs.Integers.{least_value, greatest_value, in_range, integer_value}
use Rattle.image.specs.Rules.{is_integer_size}
use Rattle.image.proofs.Bools.{and_left, and_right}
use Rattle.meaning.specs.Running.{signed_number}

-- each is below 256
abbrev pub Bytes : List ℕ → Type 0
Bytes bytes = (i : ℕ) → get_or bytes i 0 < 256

-- a number is its first n bytes and, so much higher, the others
pub little_split : (n : ℕ) (bytes : List ℕ) → little_endian (take n bytes) + 256 ^ n * little_endian (drop n bytes) ≡ little_endian bytes
unfolding little_endian
little_split zero bytes = rw (pow-zero 256) (omega arith)
little_split (suc n) [] = omega arith
little_split (suc n) (b ∷ bytes) = let e = little_split n bytes in rw pow-suc (omega arith)

-- n bytes are a number below 256 ^ n
pub little_small : (n : ℕ) (bytes : List ℕ) → Bytes bytes → little_endian (take n bytes) < 256 ^ n
unfolding little_endian
little_small zero bytes h = rw (pow-zero 256) (omega arith)
little_small (suc n) [] h = let p = little_small n [] h in rw pow-suc (omega arith)
little_small (suc n) (b ∷ bytes) h = let p = little_small n bytes (λ i. h (suc i)) in let q = h 0 in rw pow-suc (omega arith)

pow_add : (n m : ℕ) → 256 ^ (n + m) ≡ 256 ^ n * 256 ^ m
pow_add n zero = rw (add-zero n, pow-zero 256) (omega arith)
pow_add n (suc m) = let e = pow_add n m in rw (add-suc n m, pow-suc 256 (n + m), pow-suc 256 m) (omega arith)

-- what is below P is all in the lowest part
low_all : (P low high L : ℕ) → low + P * high ≡ L → L < P → low ≡ L
low_all P low zero L e h = omega arith
low_all P low (suc high) L e h = absurd (omega arith)

-- what is at most P short of a multiple of P ends so far short of P
low_back : (P low high K m : ℕ) → low + P * high + m ≡ P * K → low < P → 0 < m → m ≤ P → low + m ≡ P
low_back P low zero zero m e a b c = absurd (omega arith)
low_back P low zero (suc zero) m e a b c = omega arith
low_back P low zero (suc (suc K)) m e a b c = absurd (omega arith)
low_back P low (suc high) zero m e a b c = absurd (omega arith)
low_back P low (suc high) (suc K) m e a b c = low_back P low high K m (omega arith) a b c

-- half of so many values, of one byte or more
record Halved (P : ℕ) : Type 0 where
  twice : P ≡ 2 * (P / 2)
  some : 0 < P / 2

halved : (size : ℕ) → 0 < size → Halved (256 ^ size)
halved zero h = absurd (omega arith)
halved (suc n) h =
    let p = one-le-pow n 256 (omega arith) in
    let double : 256 ^ suc n ≡ 2 * (128 * 256 ^ n) = rw pow-suc (omega arith) in
    let half : 256 ^ suc n / 2 ≡ 128 * 256 ^ n = ap (λ (x : ℕ). x / 2) double ∙ mul-div_right (128 * 256 ^ n) (omega arith) in
    record { twice = rw half double; some = rw half (omega arith) }

least_neg : (h m : ℕ) → 0 < m → le_z (neg_ℤ (pos h)) (neg_ℤ (pos m)) ≡ true → m ≤ h
least_neg h zero p e = absurd (omega arith)
least_neg zero (suc m) p e = absurd (false≢true e)
least_neg (suc h) (suc m) p e = omega (arith, leb-true m h e)

neg_below : (m : ℕ) → 0 < m → le_z (pos 0) (neg_ℤ (pos m)) ≡ true → ⊥
neg_below zero p e = omega arith
neg_below (suc m) p e = false≢true e

module _ (size low high : ℕ) (few : low < 256 ^ size) (pre : 0 < size) where
  -- a number that is not negative, in the type's range
  cut_pos : (signed : Bool) (L : ℕ) → low + 256 ^ size * high ≡ L → in_range size signed (pos L) ≡ true → signed_number size signed low ≡ pos L
  unfolding in_range greatest_value signed_number least_value
  cut_pos false L e r =
      let top = leb-true L (256 ^ size - 1) (and_right (leb 0 L) (leb L (256 ^ size - 1)) r) in
      ap pos (low_all (256 ^ size) low high L e (omega arith))
  cut_pos true L e r =
      let h = halved size pre in
      let top = leb-true L (256 ^ size / 2 - 1) (and_right (le_z (neg_ℤ (pos (256 ^ size / 2))) (pos L)) (leb L (256 ^ size / 2 - 1)) r) in
      let same = low_all (256 ^ size) low high L e (omega (arith, h.twice, h.some)) in
      rw (lt-ltb low (256 ^ size / 2) (omega (arith, h.some)), same)

  -- a negative one, so far below a multiple of the type's count of values
  cut_neg : (signed : Bool) (K m : ℕ) → low + 256 ^ size * high + m ≡ 256 ^ size * K → 0 < m → in_range size signed (neg_ℤ (pos m)) ≡ true → signed_number size signed low ≡ neg_ℤ (pos m)
  unfolding in_range greatest_value signed_number least_value
  cut_neg false K m e p r = absurd (neg_below m p (and_left (le_z (pos 0) (neg_ℤ (pos m))) (le_z (neg_ℤ (pos m)) (pos (256 ^ size - 1))) r))
  cut_neg true K m e p r =
      let h = halved size pre in
      let least = least_neg (256 ^ size / 2) m p (and_left (le_z (neg_ℤ (pos (256 ^ size / 2))) (neg_ℤ (pos m))) (le_z (neg_ℤ (pos m)) (pos (256 ^ size / 2 - 1))) r) in
      let back = low_back (256 ^ size) low high K m e few p (omega (arith, h.twice)) in
      let far : 256 ^ size - low ≡ m = omega arith in
      rw (le-ltb low (256 ^ size / 2) (omega (arith, h.twice)), far)

-- an integer in its type's range, of as many bytes or more, cut to the type's size and read at its sign, is the same
pub cut : (bytes : List ℕ) (size : ℕ) (as_signed signed : Bool) → Bytes bytes → 0 < size → size ≤ length bytes → in_range size signed (integer_value as_signed bytes) ≡ true
    → signed_number size signed (little_endian (take size bytes)) ≡ integer_value as_signed bytes
unfolding integer_value
cut bytes size as_signed signed small pre fits r = by as_signed r
  where
    low : ℕ
    low = little_endian (take size bytes)

    split : low + 256 ^ size * little_endian (drop size bytes) ≡ little_endian bytes
    split = little_split size bytes

    few : low < 256 ^ size
    few = little_small size bytes small

    all : little_endian bytes < 256 ^ length bytes
    all = rw (take-length bytes) at (little_small (length bytes) bytes small)

    parts : 256 ^ length bytes ≡ 256 ^ size * 256 ^ (length bytes - size)
    parts = let e : length bytes ≡ size + (length bytes - size) = omega arith in ap (λ (n : ℕ). 256 ^ n) e ∙ pow_add size (length bytes - size)

    signs : (b : Bool) → in_range size signed (cond b (pos (little_endian bytes)) (neg_ℤ (pos (256 ^ length bytes - little_endian bytes)))) ≡ true
        → signed_number size signed low ≡ cond b (pos (little_endian bytes)) (neg_ℤ (pos (256 ^ length bytes - little_endian bytes)))
    signs true q = cut_pos size low (little_endian (drop size bytes)) few pre signed (little_endian bytes) split q
    signs false q =
        cut_neg size low (little_endian (drop size bytes)) few pre signed (256 ^ (length bytes - size)) (256 ^ length bytes - little_endian bytes) (omega (arith, all, parts, split)) (omega (arith, all)) q

    by : (as_signed : Bool) → in_range size signed (integer_value as_signed bytes) ≡ true → signed_number size signed low ≡ integer_value as_signed bytes
    by false q = cut_pos size low (little_endian (drop size bytes)) few pre signed (little_endian bytes) split q
    by true q = signs (ltb (little_endian bytes) (256 ^ length bytes / 2)) q

or_elim : {C : Type 0} (a b : Bool) → a || b ≡ true → (a ≡ true → C) → (b ≡ true → C) → C
or_elim true b e f g = f refl
or_elim false b e f g = g e

-- the sizes of integers
pub size_some : (size : ℕ) → is_integer_size size ≡ true → (0 < size) × (size ≤ 16)
unfolding is_integer_size
size_some size e =
    or_elim (eqb size 1 || eqb size 2 || eqb size 4 || eqb size 8) (eqb size 16) e
    (λ f. or_elim (eqb size 1 || eqb size 2 || eqb size 4) (eqb size 8) f
    (λ g. or_elim (eqb size 1 || eqb size 2) (eqb size 4) g (λ h. or_elim (eqb size 1) (eqb size 2) h (is 1 (omega arith) (omega arith)) (is 2 (omega arith) (omega arith))) (is 4 (omega arith) (omega arith)))
    (is 8 (omega arith) (omega arith)))
    (is 16 (omega arith) (omega arith))
  where
    is : (k : ℕ) → 0 < k → k ≤ 16 → eqb size k ≡ true → (0 < size) × (size ≤ 16)
    is k a b q = omega (arith, eqb-true size k q)
