-- Lists of numbers are the same exactly when they are equal. Assumes nothing.
use Prim.Native.Nat.{ℕ}
use mathlib.Core.Path.{◌≡◌, refl, ap₂}
use mathlib.Core.Bool.{true, false≢true}
use mathlib.Core.List.{List, [], ◌∷◌}
use borrow.Author.Tests.{eqb-true, eq-eqb}
use lib.Dec.{eqb}
use Rattle.image.proofs.Bools.{and_left, and_right, and_true}
use Rattle.meaning.specs.Running.{same_numbers}

pub numbers_meet : (xs ys : List ℕ) → same_numbers xs ys ≡ true → xs ≡ ys
unfolding same_numbers
numbers_meet [] [] e = refl
numbers_meet [] (y ∷ ys) e = absurd (false≢true e)
numbers_meet (x ∷ xs) [] e = absurd (false≢true e)
numbers_meet (x ∷ xs) (y ∷ ys) e =
    ap₂ ◌∷◌ (eqb-true x y (and_left (eqb x y) (same_numbers xs ys) e)) (numbers_meet xs ys (and_right (eqb x y) (same_numbers xs ys) e))

pub numbers_met : (xs : List ℕ) → same_numbers xs xs ≡ true
unfolding same_numbers
numbers_met [] = refl
numbers_met (x ∷ xs) = and_true (eqb x x) (same_numbers xs xs) (eq-eqb x x refl) (numbers_met xs)
