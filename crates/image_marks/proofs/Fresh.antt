-- Numbers that are taken lie below the bound and are fresh; numbers are fresh in a table of zeros where none stands twice. Assumes nothing.
use Prim.Native.Nat.{ℕ, zero, suc, ◌<◌}
use mathlib.Core.Path.{◌≡◌, refl, ap, sym, ◌∙◌}
use mathlib.Core.Bool.{Bool, true, false, not, ◌&&◌, ◌||◌, and_assoc, and_comm}
use mathlib.Core.List.{List, [], ◌∷◌, ◌++◌}
use borrow.Author.Tests.{ltb-true, eqb-true, eqb-false, eq-eqb}
use lib.Dec.{eqb, ltb}
use lib.ListN.{length, get_or, set, replicate, length-set, length-replicate}
use lib.Seq.{get_or-set_same, get_or-set_other}
use Rattle.image.specs.Lists.{all_in, member, distinct}
use Rattle.image.proofs.Bools.{and_left, and_right, and_true}
use Rattle.marks.specs.Marks.{takes, marked}

-- the numbers lie below the bound
abbrev pub all_under : ℕ → List ℕ → Bool
all_under bound numbers = all_in (λ x. ltb x bound) numbers

-- none of the numbers is marked, each being marked in turn
unfoldable pub fresh : List ℕ → List ℕ → Bool
fresh marks [] = true
fresh marks (x ∷ xs) = eqb (get_or marks x 0) 0 && fresh (set marks x 1) xs

-- x is not marked
abbrev pub unmarked : List ℕ → ℕ → Bool
unmarked marks x = eqb (get_or marks x 0) 0

-- two pairs of tests, in another order
pub and_swap_inner : (a b c d : Bool) → (a && b) && (c && d) ≡ (a && c) && (b && d)
and_swap_inner true true c d = refl
and_swap_inner true false true d = refl
and_swap_inner true false false d = refl
and_swap_inner false b c d = refl

-- numbers are taken where they lie below the bound and are fresh
pub takes_split : (bound : ℕ) (marks xs : List ℕ) → takes bound marks xs ≡ all_under bound xs && fresh marks xs
unfolding takes fresh all_in
takes_split bound marks [] = refl
takes_split bound marks (x ∷ xs) = rw (takes_split bound (set marks x 1) xs) (regroup (ltb x bound) (unmarked marks x) (all_under bound xs) (fresh (set marks x 1) xs))
  where
    regroup : (a b c d : Bool) → a && (b && (c && d)) ≡ (a && c) && (b && d)
    regroup a b c d = sym (and_assoc a b (c && d)) ∙ and_swap_inner a b c d

-- two lists are fresh where the first is, and then the second
pub fresh_append : (marks xs ys : List ℕ) → fresh marks (xs ++ ys) ≡ fresh marks xs && fresh (marked marks xs) ys
unfolding fresh marked
fresh_append marks [] ys = refl
fresh_append marks (x ∷ xs) ys = rw (fresh_append (set marks x 1) xs ys) (simp and_assoc)

-- after x is marked, y is unmarked where it is another number and was unmarked
unmarked_set : (marks : List ℕ) (x y : ℕ) → x < length marks → unmarked (set marks x 1) y ≡ not (eqb x y) && unmarked marks y
unmarked_set marks x y h = go (eqb x y) refl
  where
    go : (t : Bool) → eqb x y ≡ t → unmarked (set marks x 1) y ≡ not (eqb x y) && unmarked marks y
    go true e = rw (sym (eqb-true x y e), get_or-set_same marks x 1 0 h, eq-eqb x x refl)
    go false e = rw (e, get_or-set_other marks x y 1 0 (λ q. eqb-false x y e (sym q)))

-- after x is marked, numbers are unmarked where x is none of them and they were unmarked
all_unmarked_set : (marks : List ℕ) (x : ℕ) (xs : List ℕ) → x < length marks → all_in (unmarked (set marks x 1)) xs ≡ not (member x xs) && all_in (unmarked marks) xs
unfolding all_in member
all_unmarked_set marks x [] h = refl
all_unmarked_set marks x (y ∷ ys) h =
    rw (unmarked_set marks x y h, all_unmarked_set marks x ys h) (regroup (eqb x y) (unmarked marks y) (member x ys) (all_in (unmarked marks) ys))
  where
    regroup : (a b c d : Bool) → (not a && b) && (not c && d) ≡ not (a || c) && (b && d)
    regroup true b c d = refl
    regroup false b true d = and_comm b false
    regroup false b false d = refl

-- numbers are fresh where none stands twice and none is marked
pub fresh_split : (marks xs : List ℕ) → all_under (length marks) xs ≡ true → fresh marks xs ≡ distinct xs && all_in (unmarked marks) xs
unfolding fresh distinct all_in
fresh_split marks [] h = refl
fresh_split marks (x ∷ xs) h =
    let first : x < length marks = ltb-true x (length marks) (and_left (ltb x (length marks)) (all_under (length marks) xs) h) in
    let others : all_under (length marks) xs ≡ true = and_right (ltb x (length marks)) (all_under (length marks) xs) h in
    rw (
      fresh_split (set marks x 1) xs (rw (length-set marks x 1) others),
      all_unmarked_set marks x xs first,
    )
    (regroup (unmarked marks x) (distinct xs) (not (member x xs)) (all_in (unmarked marks) xs))
  where
    regroup : (a b c d : Bool) → a && (b && (c && d)) ≡ (c && b) && (a && d)
    regroup a b c d = sym (and_assoc a b (c && d)) ∙ and_swap_inner a b c d ∙ ap (λ (t : Bool). t && (b && d)) (and_comm a c) ∙ and_swap_inner c a b d

-- a table of zeros
abbrev pub zeros : ℕ → List ℕ
zeros n = replicate n 0

-- in a table of zeros nothing is marked
zeros_unmarked : (n : ℕ) (xs : List ℕ) → all_in (unmarked (zeros n)) xs ≡ true
unfolding all_in
zeros_unmarked n [] = refl
zeros_unmarked n (x ∷ xs) = and_true _ _ (eq-eqb (get_or (zeros n) x 0) 0 (zero_at n x)) (zeros_unmarked n xs)
  where
    zero_at : (n x : ℕ) → get_or (zeros n) x 0 ≡ 0
    zero_at zero x = refl
    zero_at (suc n) zero = refl
    zero_at (suc n) (suc x) = zero_at n x

-- in a table of zeros numbers are fresh where none stands twice
pub fresh_in_zeros : (n : ℕ) (xs : List ℕ) → all_under n xs ≡ true → fresh (zeros n) xs ≡ distinct xs
fresh_in_zeros n xs h =
    let long : length (zeros n) ≡ n = length-replicate n 0 in
    fresh_split (zeros n) xs (rw long h) ∙ rw (zeros_unmarked n xs) (and_comm (distinct xs) true)
