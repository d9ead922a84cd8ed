-- What the definitions that matching and running share mean in plain terms: equal values, their order, the parts of a list, two's complement. Assumes nothing.
use Prim.Native.Nat.{ℕ, ◌+◌, ◌-◌, ◌^◌, ◌/◌, ◌≤◌, ◌<◌}
use mathlib.Core.Path.{◌≡◌, refl, sym, ap, ◌∙◌}
use mathlib.Core.Logic.{◌↔◌}
use mathlib.Core.Bool.{Bool, true, false, not, ◌&&◌, ◌||◌, false≢true}
use mathlib.Core.Option.{none, some}
use mathlib.Core.List.{List, ◌++◌}
use native.Mathlib.Omega.{arith}
use borrow.Author.Tests.{leb-true, leb-false, le-leb, lt-ltb, le-ltb}
use lib.Dec.{leb, ltb}
use lib.IntN.{ℤ, pos, negsuc, neg_ℤ}
use lib.ListN.{length, take, drop, take-append-drop, length-take, length-drop}
use lib.Seq.{drop-drop}
use lib.Signed.{le_z, lt_z}
use Rattle.image.proofs.Bools.{and_left, and_right}
use Rattle.mir.specs.declared.rvalues.BinOp.{BinOp}
use Rattle.meaning.specs.Values.{Value, Int, Bool', Char, Str, Reference, Comparable, int, bool', char', string, derefed, middle}
use Rattle.meaning.specs.Running.{signed_number, scalar_of, bytes_of, same_value, compared}
use Rattle.meaning.specs.Matching.{from_start, to_end}
use Rattle.meaning.proofs.Numbers.{numbers_meet, numbers_met}

-- an integer that is not above another, which is not above it, is the other
integers_meet : (y z : ℤ) → le_z y z && le_z z y ≡ true → y ≡ z
integers_meet (pos m) (pos n) e =
    ap pos (let a = leb-true m n (and_left (leb m n) (leb n m) e) in let b = leb-true n m (and_right (leb m n) (leb n m) e) in omega arith)
integers_meet (pos m) (negsuc n) e = absurd (false≢true e)
integers_meet (negsuc m) (pos n) e = absurd (false≢true e)
integers_meet (negsuc m) (negsuc n) e =
    ap negsuc (let a = leb-true n m (and_left (leb n m) (leb m n) e) in let b = leb-true m n (and_right (leb n m) (leb m n) e) in omega arith)

-- an integer is not above itself
integer_met : (z : ℤ) → le_z z z ≡ true
integer_met (pos n) = le-leb n n (omega arith)
integer_met (negsuc n) = le-leb n n (omega arith)

-- a test that holds or another that never does
or_false : (b : Bool) → b || false ≡ b
or_false true = refl
or_false false = refl

and_right_true : (b : Bool) → b && true ≡ b
and_right_true true = refl
and_right_true false = refl

bools_meet : (a b : Bool) → same_value (Bool' a) (Bool' b) ≡ true → a ≡ b
unfolding same_value scalar_of bytes_of derefed
bools_meet true true e = refl
bools_meet true false e = absurd (false≢true e)
bools_meet false true e = absurd (false≢true e)
bools_meet false false e = refl

-- values that are the same are equal
same_equal : {v w : Value} → Comparable v → Comparable w → same_value v w ≡ true → v ≡ w
unfolding same_value scalar_of bytes_of derefed
same_equal (int y) (int z) e = ap Int (integers_meet y z (sym (or_false (le_z y z && le_z z y)) ∙ e))
same_equal (int y) (bool' b) e = absurd (false≢true e)
same_equal (int y) (char' d) e = absurd (false≢true e)
same_equal (int y) (string bytes) e = absurd (false≢true e)
same_equal (bool' a) (int z) e = absurd (false≢true e)
same_equal (bool' a) (bool' b) e = ap Bool' (bools_meet a b e)
same_equal (bool' a) (char' d) e = absurd (false≢true e)
same_equal (bool' a) (string bytes) e = absurd (false≢true e)
same_equal (char' c) (int z) e = absurd (false≢true e)
same_equal (char' c) (bool' b) e = absurd (false≢true e)
same_equal (char' c) (char' d) e =
    let n : c ≡ d = let both = sym (or_false (leb c d && leb d c)) ∙ e in
    let a = leb-true c d (and_left (leb c d) (leb d c) both) in let b = leb-true d c (and_right (leb c d) (leb d c) both) in omega arith in
    ap Char n
same_equal (char' c) (string bytes) e = absurd (false≢true e)
same_equal (string xs) (int z) e = absurd (false≢true e)
same_equal (string xs) (bool' b) e = absurd (false≢true e)
same_equal (string xs) (char' d) e = absurd (false≢true e)
same_equal (string xs) (string ys) e = ap (λ (bs : List ℕ). Reference (Str bs)) (numbers_meet xs ys e)

-- a value is the same as itself
same_itself : {v : Value} → Comparable v → same_value v v ≡ true
unfolding same_value scalar_of bytes_of derefed
same_itself (int z) = rw (integer_met z)
same_itself (bool' true) = refl
same_itself (bool' false) = refl
same_itself (char' c) = rw (le-leb c c (omega arith))
same_itself (string bytes) = numbers_met bytes

-- two values that tests compare are the same exactly when they are equal
pub same_exactly_when_equal : (v w : Value) → Comparable v → Comparable w → same_value v w ≡ true ↔ v ≡ w
same_exactly_when_equal v w c d = (same_equal c d, λ e. rw (sym e) (same_itself c))

-- at most and not the same is below
below_number : (m n : ℕ) → leb m n && not (leb m n && leb n m || false) ≡ ltb m n
below_number m n = by (leb n m) refl
  where
    by : (b : Bool) → leb n m ≡ b → leb m n && not (leb m n && leb n m || false) ≡ ltb m n
    by true e = let h = leb-true n m e in by_first (leb m n) refl
      where
        by_first : (a : Bool) → leb m n ≡ a → leb m n && not (leb m n && leb n m || false) ≡ ltb m n
        by_first true q = rw (q, e, le-ltb m n (leb-true n m e))
        by_first false q = rw (q, le-ltb m n (leb-true n m e))
    by false e = let h = leb-false n m e in rw (e, le-leb m n (omega arith), lt-ltb m n h)

below_integer : (y z : ℤ) → le_z y z && not (le_z y z && le_z z y || false) ≡ lt_z y z
below_integer (pos m) (pos n) = below_number m n
below_integer (pos m) (negsuc n) = refl
below_integer (negsuc m) (pos n) = refl
below_integer (negsuc m) (negsuc n) = below_number n m

-- the operators: integers in their order, false before true, chars by their numbers
pub integers_compared : (y z : ℤ) → (compared BinOp.Le (Int y) (Int z) ≡ le_z y z) × (compared BinOp.Ge (Int y) (Int z) ≡ le_z z y) × (compared BinOp.Gt (Int y) (Int z) ≡ lt_z z y)
unfolding compared same_value scalar_of bytes_of derefed
integers_compared y z = (refl, refl, below_integer z y)

pub chars_compared : (c d : ℕ) → (compared BinOp.Le (Char c) (Char d) ≡ leb c d) × (compared BinOp.Ge (Char c) (Char d) ≡ leb d c) × (compared BinOp.Gt (Char c) (Char d) ≡ ltb d c)
unfolding compared same_value scalar_of bytes_of derefed
chars_compared c d = (refl, refl, below_number d c)

pub bools_compared : (a b : Bool) → (compared BinOp.Le (Bool' a) (Bool' b) ≡ not a || b) × (compared BinOp.Ge (Bool' a) (Bool' b) ≡ not b || a) × (compared BinOp.Gt (Bool' a) (Bool' b) ≡ a && not b)
unfolding compared same_value scalar_of bytes_of derefed
bools_compared true true = (refl, refl, refl)
bools_compared true false = (refl, refl, refl)
bools_compared false true = (refl, refl, refl)
bools_compared false false = (refl, refl, refl)

-- an absent end of a range bounds nothing
pub unbounded : (v : Value) (halfOpen : Bool) → (from_start none v ≡ true) × (to_end none halfOpen v ≡ true)
unfolding from_start to_end
unbounded v halfOpen = (refl, refl)

-- a range of integers: from its start on, up to its end, or below it where it is half-open
pub integers_in_range : (bound z : ℤ) →
    (from_start (some (Int bound)) (Int z) ≡ le_z bound z) × (to_end (some (Int bound)) false (Int z) ≡ le_z z bound) × (to_end (some (Int bound)) true (Int z) ≡ lt_z z bound)
unfolding from_start to_end same_value scalar_of bytes_of derefed
integers_in_range bound z = (refl, and_right_true (le_z z bound), below_integer z bound)

-- a range of chars
pub chars_in_range : (bound c : ℕ) →
    (from_start (some (Char bound)) (Char c) ≡ leb bound c) × (to_end (some (Char bound)) false (Char c) ≡ leb c bound) × (to_end (some (Char bound)) true (Char c) ≡ ltb c bound)
unfolding from_start to_end same_value scalar_of bytes_of derefed
chars_in_range bound c = (refl, and_right_true (leb c bound), below_number c bound)

-- "front, middle and end": together they are the whole
pub parts_are_the_whole : (front end : ℕ) (vs : List Value) → front + end ≤ length vs → take front vs ++ (middle front end vs ++ drop (length vs - end) vs) ≡ vs
unfolding middle
parts_are_the_whole front end vs h =
    let n : front + (length vs - front - end) ≡ length vs - end = omega arith in
    let back : drop (length vs - end) vs ≡ drop (length vs - front - end) (drop front vs) = ap (λ (k : ℕ). drop k vs) (sym n) ∙ sym (drop-drop (length vs - front - end) front vs) in
    rw back (ap (λ (l : List Value). take front vs ++ l) (take-append-drop (length vs - front - end) (drop front vs)) ∙ take-append-drop front vs)

pub middle_length : (front end : ℕ) (vs : List Value) → front + end ≤ length vs → front + length (middle front end vs) + end ≡ length vs
unfolding middle
middle_length front end vs h = omega (arith, length-take (length vs - front - end) (drop front vs), length-drop front vs)

-- two's complement in so many bytes: a number below half is itself, and 256 ^ size less some number is that number below zero
pub signed_read_back : (size m : ℕ) → (m < 256 ^ size / 2 → signed_number size true m ≡ pos m)
    × (0 < m → m ≤ 256 ^ size / 2 → signed_number size true (256 ^ size - m) ≡ neg_ℤ (pos m))
unfolding signed_number
signed_read_back size m = (
  λ h. rw (lt-ltb m (256 ^ size / 2) h),
  λ some-there h.
      let top = 256 ^ size in
      let above : ltb (top - m) (top / 2) ≡ false = le-ltb (top - m) (top / 2) (omega arith) in
      let back : top - (top - m) ≡ m = omega arith in
      rw (above, back),
)

-- an unsigned one is its number
pub unsigned_read_back : (size m : ℕ) → signed_number size false m ≡ pos m
unfolding signed_number
unsigned_read_back size m = refl
