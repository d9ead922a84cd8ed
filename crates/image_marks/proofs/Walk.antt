-- A walk takes numbered lists one after the other. It is true where each list lies below its bound and no number stands in the lists twice.
-- Assumes nothing.
use Prim.Native.Nat.{ℕ, zero, suc, ◌+◌, ◌-◌, ◌≤◌, ◌<◌}
use mathlib.Core.Path.{◌≡◌, refl, ap, sym, ◌∙◌}
use mathlib.Core.Bool.{Bool, true, false, ◌&&◌, and_assoc, and_comm}
use mathlib.Core.List.{List, [], ◌∷◌, ◌++◌}
use native.Mathlib.Numerals.{add-one}
use native.Mathlib.Omega.{arith}
use borrow.Author.Tests.{ltb-true, lt-ltb}
use lib.Dec.{ltb}
use Rattle.image.specs.Lists.{all_below, all_in, distinct, gather}
use Rattle.image.proofs.Bools.{and_left, and_right, and_true}
use Rattle.marks.specs.Marks.{takes, marked, Taken}
use Rattle.image_marks.proofs.Fresh.{all_under, fresh, and_swap_inner, takes_split, fresh_append, zeros, fresh_in_zeros}

-- the lists of the n numbers from p on are taken, each below the bound of its number
unfoldable pub walk : (ℕ → ℕ) → (ℕ → List ℕ) → ℕ → ℕ → List ℕ → Bool
walk bound lists p zero marks = true
walk bound lists p (suc n) marks = takes (bound p) marks (lists p) && walk bound lists (p + 1) n (marked marks (lists p))

-- f holds of each of the n numbers from a on
unfoldable all_from : (ℕ → Bool) → ℕ → ℕ → Bool
all_from f a zero = true
all_from f a (suc n) = f a && all_from f (a + 1) n

module _ (bound : ℕ → ℕ) (lists : ℕ → List ℕ) where
  -- a walk that is not at its end takes the next list, and goes on behind it
  walk_next : (p count : ℕ) (marks : List ℕ) → p < count →
      walk bound lists p (count - p) marks ≡ takes (bound p) marks (lists p) && walk bound lists (p + 1) (count - (p + 1)) (marked marks (lists p))
  unfolding walk
  walk_next p count marks h = let e : count - p ≡ suc (count - (p + 1)) = omega arith in rw e

  -- a turn of the loop that takes a list
  pub walk_more : (p count : ℕ) (marks next : List ℕ) → p < count → Taken (bound p) marks next (lists p) true →
      walk bound lists (p + 1) (count - (p + 1)) next ≡ walk bound lists p (count - p) marks
  walk_more p count marks next h t = sym (walk_next p count marks h ∙ rw (sym t.answer, sym (t.marks refl)))

  -- a turn that refuses one
  pub walk_refused : (p count : ℕ) (marks next : List ℕ) → p < count → Taken (bound p) marks next (lists p) false → false ≡ walk bound lists p (count - p) marks
  walk_refused p count marks next h t = sym (walk_next p count marks h ∙ rw (sym t.answer))

  -- the loop's end
  pub walk_end : (p count : ℕ) (marks : List ℕ) → count ≤ p → true ≡ walk bound lists p (count - p) marks
  unfolding walk
  walk_end p count marks h = let e : count - p ≡ 0 = omega arith in rw e

  -- the list of a number lies below its bound
  abbrev lies : ℕ → Bool
  lies p = all_under (bound p) (lists p)

  -- a walk is true where each list lies below its bound and the numbers of all are fresh
  walk_split : (p n : ℕ) (marks : List ℕ) → walk bound lists p n marks ≡ all_from lies p n && fresh marks (gather lists p n)
  unfolding walk all_from gather fresh
  walk_split p zero marks = refl
  walk_split p (suc n) marks =
      rw (
        takes_split (bound p) marks (lists p),
        walk_split (p + 1) n (marked marks (lists p)),
        fresh_append marks (lists p) (gather lists (p + 1) n),
      )
      (and_swap_inner (lies p) (fresh marks (lists p)) (all_from lies (p + 1) n) (fresh (marked marks (lists p)) (gather lists (p + 1) n)))

-- the test of the numbers from a on, behind that of the numbers below a
below_then_from : (f : ℕ → Bool) (a n : ℕ) → all_below f a && all_from f a n ≡ all_below f (a + n)
unfolding all_below all_from
below_then_from f a zero = let e : a + 0 ≡ a = omega arith in rw e (and_comm (all_below f a) true)
below_then_from f a (suc n) =
    let e : a + suc n ≡ suc a + n = omega arith in
    rw (e, add-one a, sym (and_assoc (all_below f a) (f a) (all_from f (suc a) n))) (below_then_from f (suc a) n)

-- numbers below a bound lie below a larger one
under_more : (small large : ℕ) (xs : List ℕ) → small ≤ large → all_under small xs ≡ true → all_under large xs ≡ true
unfolding all_in
under_more small large [] h e = refl
under_more small large (x ∷ xs) h e =
    let first : x < small = ltb-true x small (and_left (ltb x small) (all_under small xs) e) in
    and_true _ _ (lt-ltb x large (omega arith)) (under_more small large xs h (and_right (ltb x small) (all_under small xs) e))

-- a test that two lists pass, their join passes
all_in_append : (f : ℕ → Bool) (xs ys : List ℕ) → all_in f xs ≡ true → all_in f ys ≡ true → all_in f (xs ++ ys) ≡ true
unfolding all_in
all_in_append f [] ys d e = e
all_in_append f (x ∷ xs) ys d e = and_true _ _ (and_left (f x) (all_in f xs) d) (all_in_append f xs ys (and_right (f x) (all_in f xs) d) e)

-- lists that lie below their bounds lie, joined, below a number that no bound exceeds
gather_under : (bound : ℕ → ℕ) (lists : ℕ → List ℕ) (limit p n : ℕ) → ((k : ℕ) → k < p + n → bound k ≤ limit) → all_from (lies bound lists) p n ≡ true → all_under limit (gather lists p n) ≡ true
unfolding all_from gather all_in
gather_under bound lists limit p zero h e = refl
gather_under bound lists limit p (suc n) h e =
    all_in_append (λ x. ltb x limit) (lists p) (gather lists (p + 1) n)
    (under_more (bound p) limit (lists p) (h p (omega arith)) (and_left (lies bound lists p) (all_from (lies bound lists) (p + 1) n) e))
    (gather_under bound lists limit (p + 1) n (λ k lt. h k (omega arith)) (and_right (lies bound lists p) (all_from (lies bound lists) (p + 1) n) e))

-- a test after one that fails does not matter
and_when : (a b c : Bool) → (a ≡ true → b ≡ c) → a && b ≡ a && c
and_when true b c h = h refl
and_when false b c h = refl

-- The theorem: from a table of zeros, a walk over all lists is true where each list lies below its bound and no number stands in the lists twice.
pub walk_from_zeros : (bound : ℕ → ℕ) (lists : ℕ → List ℕ) (size n : ℕ) → ((k : ℕ) → k < n → bound k ≤ size) →
    walk bound lists 0 n (zeros size) ≡ all_below (lies bound lists) n && distinct (gather lists 0 n)
unfolding all_below
walk_from_zeros bound lists size n h =
    walk_split bound lists 0 n (zeros size)
    ∙ and_when (all_from (lies bound lists) 0 n) _ _ (λ e. fresh_in_zeros size (gather lists 0 n) (gather_under bound lists size 0 n (λ k lt. h k (omega arith)) e))
    ∙ ap (λ (t : Bool). t && distinct (gather lists 0 n)) (below_then_from (lies bound lists) 0 n ∙ ap (all_below (lies bound lists)) none_before)
  where
    none_before : 0 + n ≡ n
    none_before = omega arith
