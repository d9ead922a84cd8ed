-- The laws of the tests of specs/Lists.antt. Assumes nothing.
use Prim.Native.Nat.{ℕ, zero, suc, ◌+◌, ◌≤◌, ◌<◌}
use mathlib.Core.Path.{◌≡◌, refl, ap, ◌∙◌}
use mathlib.Core.Bool.{Bool, true, false, ◌&&◌, true≢false, false≢true}
use mathlib.Core.List.{List, [], ◌∷◌, ◌++◌}
use mathlib.Core.Logic.{⊎_elim}
use native.Mathlib.Nat.{eq-or-lt_of_le}
use native.Mathlib.Numerals.{add-one}
use native.Mathlib.Omega.{arith}
use lib.ListN.{get_or}
use Rattle.image.specs.Lists.{all_below, all_in, all_true}

pub and_left : (a b : Bool) → a && b ≡ true → a ≡ true
and_left true b e = refl
and_left false b e = e

pub and_right : (a b : Bool) → a && b ≡ true → b ≡ true
and_right true b e = e
and_right false b e = absurd (false≢true e)

pub and_true : (a b : Bool) → a ≡ true → b ≡ true → a && b ≡ true
and_true true b d e = e
and_true false b d e = d

pub and_false_left : (a b : Bool) → a ≡ false → a && b ≡ false
and_false_left true b e = absurd (true≢false e)
and_false_left false b e = refl

pub and_false_right : (a b : Bool) → b ≡ false → a && b ≡ false
and_false_right true b e = e
and_false_right false b e = refl

-- each of the tests holds where all do
pub all_true_at : (bs : List Bool) (k : ℕ) → all_true bs ≡ true → get_or bs k true ≡ true
unfolding all_true
all_true_at [] k e = refl
all_true_at (b ∷ bs) zero e = and_left b (all_true bs) e
all_true_at (b ∷ bs) (suc k) e = all_true_at bs k (and_right b (all_true bs) e)

-- one that fails is enough
pub one_false : (bs : List Bool) (k : ℕ) → get_or bs k true ≡ false → all_true bs ≡ false
unfolding all_true
one_false [] k e = e
one_false (b ∷ bs) zero e = and_false_left b (all_true bs) e
one_false (b ∷ bs) (suc k) e = and_false_right b (all_true bs) (one_false bs k e)

pub below_at : (f : ℕ → Bool) (n k : ℕ) → all_below f n ≡ true → k < n → f k ≡ true
unfolding all_below
below_at f zero k e h = absurd (omega arith)
below_at f (suc n) k e h =
    ⊎_elim
    (λ (q : k ≡ n). ap f q ∙ and_right (all_below f n) (f n) e)
    (λ (lt : k < n). below_at f n k (and_left (all_below f n) (f n) e) lt)
    (eq-or-lt_of_le (le_of_lt_suc k n h))
  where
    le_of_lt_suc : (a b : ℕ) → a < suc b → a ≤ b
    le_of_lt_suc a b q = omega arith

pub below_false : (f : ℕ → Bool) (n k : ℕ) → k < n → f k ≡ false → all_below f n ≡ false
unfolding all_below
below_false f zero k h e = absurd (omega arith)
below_false f (suc n) k h e =
    ⊎_elim
    (λ (q : k ≡ n). and_false_right (all_below f n) (f n) (rw q at e))
    (λ (lt : k < n). and_false_left (all_below f n) (f n) (below_false f n k lt e))
    (eq-or-lt_of_le (le_of_lt_suc k n h))
  where
    le_of_lt_suc : (a b : ℕ) → a < suc b → a ≤ b
    le_of_lt_suc a b q = omega arith

-- one number more
pub below_next : (f : ℕ → Bool) (n : ℕ) → all_below f n ≡ true → f n ≡ true → all_below f (n + 1) ≡ true
unfolding all_below
below_next f n e d = rw add-one (and_true (all_below f n) (f n) e d)

pub all_in_left : (f : ℕ → Bool) (xs ys : List ℕ) → all_in f (xs ++ ys) ≡ true → all_in f xs ≡ true
unfolding all_in
all_in_left f [] ys e = refl
all_in_left f (x ∷ xs) ys e = and_true (f x) (all_in f xs) (and_left (f x) (all_in f (xs ++ ys)) e) (all_in_left f xs ys (and_right (f x) (all_in f (xs ++ ys)) e))

pub all_in_right : (f : ℕ → Bool) (xs ys : List ℕ) → all_in f (xs ++ ys) ≡ true → all_in f ys ≡ true
unfolding all_in
all_in_right f [] ys e = e
all_in_right f (x ∷ xs) ys e = all_in_right f xs ys (and_right (f x) (all_in f (xs ++ ys)) e)
