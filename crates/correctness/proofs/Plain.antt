-- What demand 2's own words mean in plain terms. Assumes nothing.
use Prim.Native.Nat.{ℕ, zero, suc, ◌<◌}
use native.Mathlib.Omega.{arith}
use mathlib.Core.Path.{◌≡◌}
use mathlib.Core.List.{List, [], ◌∷◌}
use lib.ListN.{length, get_or}
use Rattle.correctness.specs.Demand2.{NoneIs, Distinct}

-- what stands nowhere in a list is at none of its places
none_at : (b : ℕ) (xs : List ℕ) → NoneIs b xs → (j : ℕ) → j < length xs → b ≡ get_or xs j 0 → ⊥
none_at b [] h j i e = omega arith
none_at b (x ∷ xs) h zero i e = h.0 e
none_at b (x ∷ xs) h (suc j) i e = none_at b xs h.1 j (omega arith) e

-- of numbers of which none stands twice, two at different places differ
pub distinct_differ : (xs : List ℕ) → Distinct xs → (i j : ℕ) → i < j → j < length xs → get_or xs i 0 ≡ get_or xs j 0 → ⊥
distinct_differ [] h i j less there e = omega arith
distinct_differ (x ∷ xs) h i zero less there e = omega arith
distinct_differ (x ∷ xs) h zero (suc j) less there e = none_at x xs h.0 j (omega arith) e
distinct_differ (x ∷ xs) h (suc i) (suc j) less there e = distinct_differ xs h.1 i j (omega arith) (omega arith) e
