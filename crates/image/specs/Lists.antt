-- Tests over the numbers below a bound and over lists of numbers. Assumes nothing: these are definitions.
use Rattle.std.specs.Prelude.{ℕ, zero, suc, ◌+◌, Bool, true, false, not, ◌&&◌, ◌||◌, List, [], ◌∷◌, ◌++◌, eqb}

-- f holds of each number below n
unfoldable pub all_below : (ℕ → Bool) → ℕ → Bool
all_below f zero = true
all_below f (suc n) = all_below f n && f n

-- f holds of each number of the list
unfoldable pub all_in : (ℕ → Bool) → List ℕ → Bool
all_in f [] = true
all_in f (x ∷ xs) = f x && all_in f xs

-- each of the tests is passed
unfoldable pub all_true : List Bool → Bool
all_true [] = true
all_true (b ∷ bs) = b && all_true bs

-- x stands in the list
unfoldable pub member : ℕ → List ℕ → Bool
member x [] = false
member x (y ∷ ys) = eqb x y || member x ys

-- no number stands in the list twice
unfoldable pub distinct : List ℕ → Bool
distinct [] = true
distinct (x ∷ xs) = not (member x xs) && distinct xs

-- the n numbers from a on
unfoldable pub up_from : ℕ → ℕ → List ℕ
up_from a zero = []
up_from a (suc n) = a ∷ up_from (a + 1) n

-- the lists of the n numbers from a on, joined
unfoldable pub gather : (ℕ → List ℕ) → ℕ → ℕ → List ℕ
gather f a zero = []
gather f a (suc n) = f a ++ gather f (a + 1) n
