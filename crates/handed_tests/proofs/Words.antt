-- What a test of every word of a table tells, over any test. Assumes nothing.
use Prim.Native.Nat.{ℕ, zero, suc}
use mathlib.Core.Path.{◌≡◌, refl, sym}
use mathlib.Core.Bool.{Bool, true, false}
use mathlib.Core.List.{List, [], ◌∷◌}
use native.Mathlib.Omega.{arith}
use Rattle.std.specs.Prelude.{IsTrue, EachIndex, slice_index, ◌↔◌}
use Rattle.image.specs.Lists.{all_in}
use Rattle.image.proofs.Bools.{and_left, and_right, and_true}

-- the test holds of each word where it holds of all, and the other way
all_to_each : (f : ℕ → Bool) (xs : List ℕ) → all_in f xs ≡ true → EachIndex xs (λ k. IsTrue (f (slice_index xs k)))
unfolding all_in
all_to_each f [] e k h = absurd (omega arith)
all_to_each f (x ∷ xs) e zero h = and_left (f x) (all_in f xs) e
all_to_each f (x ∷ xs) e (suc k) h = all_to_each f xs (and_right (f x) (all_in f xs) e) k (omega arith)

each_to_all : (f : ℕ → Bool) (xs : List ℕ) → EachIndex xs (λ k. IsTrue (f (slice_index xs k))) → all_in f xs ≡ true
unfolding all_in
each_to_all f [] e = refl
each_to_all f (x ∷ xs) e = and_true (f x) (all_in f xs) (e 0 (omega arith)) (each_to_all f xs (λ k h. e (suc k) (omega arith)))

-- what is true where the test holds of each word, is the test of all
pub all_in_told : (f : ℕ → Bool) (xs : List ℕ) (b : Bool) → (IsTrue b ↔ EachIndex xs (λ k. IsTrue (f (slice_index xs k)))) → b ≡ all_in f xs
all_in_told f xs true told = sym (each_to_all f xs (told.0 refl))
all_in_told f xs false told = fails (all_in f xs) (λ e. told.1 (all_to_each f xs e))
  where
    fails : (z : Bool) → (z ≡ true → false ≡ true) → false ≡ z
    fails true h = h refl
    fails false h = refl
