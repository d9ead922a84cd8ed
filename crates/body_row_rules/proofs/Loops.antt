-- What a test of every number below n tells, over any test. Assumes nothing.
use Prim.Native.Nat.{ℕ, zero, suc, ◌+◌, ◌≤◌, ◌<◌}
use mathlib.Core.Path.{◌≡◌, refl, sym, ap, ◌∙◌}
use mathlib.Core.Bool.{Bool, true, false, ◌&&◌, and_assoc, and-true}
use mathlib.Core.List.{List}
use native.Mathlib.Nat.{zero-add, add-zero, add-suc, suc-add}
use native.Mathlib.Numerals.{add-one}
use native.Mathlib.Omega.{arith}
use lib.ListN.{length, get_or, take}
use Rattle.std.specs.Prelude.{◌↔◌, IsTrue, EachIndex, slice_index}
use Rattle.std.proofs.lemmas.List.{get_or-take, length-take-le}
use Rattle.std.specs.List.{list_all, range_with_len}
use Rattle.image.specs.Lists.{all_below}
use Rattle.image.proofs.Bools.{and_true, below_at}

-- the tests of the numbers from a on, and of one more
list_all_next : (f : ℕ → Bool) (a n : ℕ) → list_all f (range_with_len a (suc n)) ≡ list_all f (range_with_len a n) && f (a + n)
list_all_next f a zero = rw (and-true (f a), add-zero a) refl
list_all_next f a (suc n) = rw (list_all_next f (a + 1) n, add-one a, suc-add a n, ← add-suc a n) (sym (and_assoc (f a) (list_all f (range_with_len (suc a) n)) (f (a + suc n))))

-- the tests of the numbers of a range from 0 on
pub range_tested : (f : ℕ → Bool) (n : ℕ) → list_all f (range_with_len 0 n) ≡ all_below f n
unfolding all_below
range_tested f zero = refl
range_tested f (suc n) = list_all_next f 0 n ∙ rw (range_tested f n, zero-add n) refl

-- the test of each number below n holds
below_each : (f : ℕ → Bool) (n : ℕ) → ((k : ℕ) → k < n → f k ≡ true) → all_below f n ≡ true
unfolding all_below
below_each f zero e = refl
below_each f (suc n) e = and_true (all_below f n) (f n) (below_each f n (λ k h. e k (omega arith))) (e n (omega arith))

-- what is true where the test holds of each number below n, is the test of all
tests_told : (f : ℕ → Bool) (n : ℕ) (b : Bool) → (b ≡ true → (k : ℕ) → k < n → f k ≡ true) → (((k : ℕ) → k < n → f k ≡ true) → b ≡ true) → b ≡ all_below f n
tests_told f n true each all = sym (below_each f n (each refl))
tests_told f n false each all = fails (all_below f n) (λ e. all (λ k h. below_at f n k e h))
  where
    fails : (z : Bool) → (z ≡ true → false ≡ true) → false ≡ z
    fails true h = h refl
    fails false h = refl

-- what is true where the test holds of each of the first n words of a table
pub words_told : (f : ℕ → Bool) (xs : List ℕ) (n : ℕ) (b : Bool) → n ≤ length xs → (IsTrue b ↔ EachIndex (take n xs) (λ k. IsTrue (f (slice_index (take n xs) k)))) → b ≡ all_below (λ i. f (get_or xs i 0)) n
words_told f xs n b h told =
    tests_told (λ i. f (get_or xs i 0)) n b
    (λ e k lt. sym (ap f (get_or-take n xs k 0 lt)) ∙ told.0 e k (rw long lt))
    (λ each. told.1 (λ k lt. ap f (get_or-take n xs k 0 (rw long at lt)) ∙ each k (rw long at lt)))
  where
    long : length (take n xs) ≡ n
    long = length-take-le n xs h
