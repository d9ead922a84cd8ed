-- Marks for the numbers met so far: a table with 1 at each of them and 0 elsewhere. Assumes nothing: these are definitions.
use Rattle.std.specs.Prelude.{ℕ, ◌≡◌, Bool, true, ◌&&◌, List, [], ◌∷◌, eqb, ltb, get_or, set}

-- each of the numbers, in turn, is below the bound and not marked yet, and is then marked
unfoldable pub takes : ℕ → List ℕ → List ℕ → Bool
takes bound marks [] = true
takes bound marks (x ∷ xs) = ltb x bound && (eqb (get_or marks x 0) 0 && takes bound (set marks x 1) xs)

-- the marks when all of the numbers are marked
unfoldable pub marked : List ℕ → List ℕ → List ℕ
marked marks [] = marks
marked marks (x ∷ xs) = marked (set marks x 1) xs

-- the answer to taking the numbers, and the marks after it
pub record Taken (bound : ℕ) (before after numbers : List ℕ) (r : Bool) : Type 0 where
  pub answer : r ≡ takes bound before numbers
  pub marks : r ≡ true → after ≡ marked before numbers
