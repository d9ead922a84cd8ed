-- How often a number stands in a list, and in trees in which every number is used at most once and below its user. Assumes nothing.
use Prim.Native.Nat.{ℕ, zero, suc, ◌+◌, ◌≤◌, ◌<◌}
use mathlib.Core.Path.{◌≡◌, refl, ap, sym, ◌∙◌}
use mathlib.Core.Bool.{Bool, true, false, cond, not, false≢true}
use mathlib.Core.List.{List, [], ◌∷◌, ◌++◌}
use mathlib.Core.Logic.{◌⊎◌, inl, inr, ⊎_elim}
use native.Mathlib.Nat.{add_comm, eq-or-lt_of_le}
use native.Mathlib.Omega.{arith}
use borrow.Author.Tests.{eqb-true, eqb-false, eq-eqb, ne_eqb, ltb-true, ltb-false}
use lib.Dec.{eqb, ltb}
use Rattle.image.specs.Lists.{all_in, member, distinct, gather}
use Rattle.image.proofs.Bools.{and_left, and_right}

-- one where x is n
unfoldable pub hit : ℕ → ℕ → ℕ
hit n x = cond (eqb x n) 1 0

pub hit_same : (n x : ℕ) → x ≡ n → hit n x ≡ 1
unfolding hit
hit_same n x e = rw (eq-eqb x n e)

pub hit_other : (n x : ℕ) → (x ≡ n → ⊥) → hit n x ≡ 0
unfolding hit
hit_other n x e = rw (ne_eqb x n e)

-- either way
pub hit_or : (n x : ℕ) → (x ≡ n) ⊎ (x ≡ n → ⊥)
hit_or n x = go (eqb x n) refl
  where
    go : (t : Bool) → eqb x n ≡ t → (x ≡ n) ⊎ (x ≡ n → ⊥)
    go true e = inl (eqb-true x n e)
    go false e = inr (eqb-false x n e)

-- which of two numbers is less
pub le_or_lt : (m x : ℕ) → (m ≤ x) ⊎ (x < m)
le_or_lt m x = go (ltb x m) refl
  where
    go : (t : Bool) → ltb x m ≡ t → (m ≤ x) ⊎ (x < m)
    go true e = inr (ltb-true x m e)
    go false e = inl (ltb-false x m e)

positive_or : (c : ℕ) → (0 < c) ⊎ (c ≡ 0)
positive_or zero = inr refl
positive_or (suc c) = inl (omega arith)

-- the sum of what f has of each
unfoldable pub sum_of : (ℕ → ℕ) → List ℕ → ℕ
sum_of f [] = 0
sum_of f (x ∷ xs) = f x + sum_of f xs

-- how often n stands in the list
abbrev pub count : ℕ → List ℕ → ℕ
count n xs = sum_of (hit n) xs

-- the sum over two lists
pub sum_append : (f : ℕ → ℕ) (xs ys : List ℕ) → sum_of f (xs ++ ys) ≡ sum_of f xs + sum_of f ys
unfolding sum_of
sum_append f [] ys = omega arith
sum_append f (x ∷ xs) ys = let e = sum_append f xs ys in omega (arith, e)

-- the list without the first m
unfoldable pub without : ℕ → List ℕ → List ℕ
without m [] = []
without m (x ∷ xs) = cond (eqb x m) xs (x ∷ without m xs)

-- one summand, and the others
pub sum_without : (f : ℕ → ℕ) (m : ℕ) (xs : List ℕ) → 0 < count m xs → sum_of f xs ≡ f m + sum_of f (without m xs)
unfolding sum_of without
sum_without f m [] h = absurd (omega arith)
sum_without f m (x ∷ xs) h =
    ⊎_elim
    (λ (e : x ≡ m). rw (eq-eqb x m e, e))
    (λ (e : x ≡ m → ⊥). rw (ne_eqb x m e) (let z = hit_other m x e in let i = sum_without f m xs (omega (arith, h, z)) in omega (arith, i)))
    (hit_or m x)

-- a sum over numbers below m of what is 0 below m
pub sum_none : (f : ℕ → ℕ) (m : ℕ) (xs : List ℕ) → ((q : ℕ) → m ≤ q → count q xs ≡ 0) → ((q : ℕ) → q < m → f q ≡ 0) → sum_of f xs ≡ 0
unfolding sum_of
sum_none f m [] low none = refl
sum_none f m (x ∷ xs) low none =
    let i = sum_none f m xs (λ q h. let z = low q h in omega (arith, z)) none in
    ⊎_elim
    (λ (h : m ≤ x). absurd (let z = low x h in let s = hit_same x x refl in omega (arith, z, s)))
    (λ (h : x < m). let z = none x h in omega (arith, i, z))
    (le_or_lt m x)

-- numbers below p
pub count_below : (p q : ℕ) (xs : List ℕ) → all_in (λ x. ltb x p) xs ≡ true → p ≤ q → count q xs ≡ 0
unfolding sum_of all_in
count_below p q [] e h = refl
count_below p q (x ∷ xs) e h =
    let lt = ltb-true x p (and_left (ltb x p) (all_in (λ x. ltb x p) xs) e) in
    let z = hit_other q x (λ same. omega (arith, same, lt, h)) in
    let i = count_below p q xs (and_right (ltb x p) (all_in (λ x. ltb x p) xs) e) h in
    omega (arith, z, i)

-- what is no member does not stand in the list
count_none : (n : ℕ) (xs : List ℕ) → not (member n xs) ≡ true → count n xs ≡ 0
unfolding sum_of member
count_none n [] e = refl
count_none n (x ∷ xs) e =
    ⊎_elim
    (λ (same : n ≡ x). absurd (false≢true (rw (eq-eqb n x same) at e)))
    (λ (other : n ≡ x → ⊥). let i = count_none n xs (rw (ne_eqb n x other) at e) in let z = hit_other n x (λ q. other (sym q)) in omega (arith, i, z))
    (hit_or x n)

-- where no number stands twice, each stands at most once
pub count_distinct : (n : ℕ) (xs : List ℕ) → distinct xs ≡ true → count n xs ≤ 1
unfolding sum_of distinct
count_distinct n [] e = omega arith
count_distinct n (x ∷ xs) e =
    ⊎_elim
    (λ (same : x ≡ n). let z = count_none n xs (rw same at (and_left (not (member x xs)) (distinct xs) e)) in let s = hit_same n x same in omega (arith, z, s))
    (λ (other : x ≡ n → ⊥). let i = count_distinct n xs (and_right (not (member x xs)) (distinct xs) e) in let z = hit_other n x other in omega (arith, i, z))
    (hit_or n x)

-- one list more at the end
gather_last : (f : ℕ → List ℕ) (n a m : ℕ) → count n (gather f a (suc m)) ≡ count n (gather f a m) + count n (f (a + m))
unfolding gather sum_of
gather_last f n a zero =
    let same : a ≡ a + 0 = omega arith in
    sum_append (hit n) (f a) [] ∙ add_comm (count n (f a)) 0 ∙ ap (λ (x : ℕ). 0 + count n (f x)) same
gather_last f n a (suc m) =
    let e : count n (gather f a (suc (suc m))) ≡ count n (f a) + count n (gather f (a + 1) (suc m)) = sum_append (hit n) (f a) (gather f (a + 1) (suc m)) in
    let e' : count n (gather f a (suc m)) ≡ count n (f a) + count n (gather f (a + 1) m) = sum_append (hit n) (f a) (gather f (a + 1) m) in
    let i = gather_last f n (a + 1) m in
    let same : a + 1 + m ≡ a + suc m = omega arith in
    let s = ap (λ (x : ℕ). count n (f x)) same in
    omega (arith, e, e', i, s)

-- the users below suc m are those below m, and m
pub gather_next : (f : ℕ → List ℕ) (n m : ℕ) → count n (gather f 0 (suc m)) ≡ count n (gather f 0 m) + count n (f m)
gather_next f n m =
    let same : 0 + m ≡ m = omega arith in
    let s = ap (λ (x : ℕ). count n (f x)) same in
    let e = gather_last f n 0 m in
    omega (arith, e, s)

-- more users use n as often, or more
gather_up : (f : ℕ → List ℕ) (n m k : ℕ) → m ≤ k → count n (gather f 0 m) ≤ count n (gather f 0 k)
gather_up f n m zero h = let e : m ≡ 0 = omega (arith, h) in rw e (omega arith)
gather_up f n m (suc k) h =
    ⊎_elim
    (λ (e : m ≡ suc k). rw e (omega arith))
    (λ (lt : m < suc k). let i = gather_up f n m k (omega (arith, lt)) in let e = gather_next f n k in omega (arith, i, e))
    (eq-or-lt_of_le h)

-- The numbers below `all` use others, each at most once and below its user; `times` says how often n stands in the tree of a number.
module _ (f : ℕ → List ℕ) (times : ℕ → ℕ) (n all : ℕ) (falls : (p q : ℕ) → p < all → p ≤ q → count q (f p) ≡ 0)
    (node : (p : ℕ) → p < all → times p ≡ hit n p + sum_of times (f p)) (once : (q : ℕ) → count q (gather f 0 all) ≤ 1) where
  -- n does not stand in the trees of lesser numbers
  lesser : (bound q : ℕ) → q < bound → q < n → q < all → times q ≡ 0
  lesser zero q b l h = absurd (omega (arith, b))
  lesser (suc bound) q b l h =
      let e = node q h in
      let z = hit_other n q (λ same. omega (arith, same, l)) in
      let s = sum_none times q (f q) (λ x le. falls q x h le) (λ x lt. lesser bound x (omega (arith, lt, b)) (omega (arith, lt, l)) (omega (arith, lt, h))) in
      omega (arith, e, z, s)

  -- n stands at most once in the trees of different numbers below m that no number below m uses
  forest : (m : ℕ) (xs : List ℕ) → m ≤ all → ((q : ℕ) → count q xs + count q (gather f 0 m) ≤ 1) → ((q : ℕ) → m ≤ q → count q xs ≡ 0) → sum_of times xs ≤ 1
  forest zero xs within different low = let z = sum_none times 0 xs low (λ q h. absurd (omega (arith, h))) in omega (arith, z)
  forest (suc m) xs within different low =
      ⊎_elim
      (λ (h : 0 < count m xs).
      let rest = without m xs in
      let next = f m ++ rest in
      let counts : (q : ℕ) → count q next + count q (gather f 0 m) ≤ 1 = λ q.
      let a = sum_append (hit q) (f m) rest in
      let b = sum_without (hit q) m xs h in
      let c = gather_next f q m in
      let d = different q in
      omega (arith, a, b, c, d)
      in
      let lows : (q : ℕ) → m ≤ q → count q next ≡ 0 = λ q le.
      let a = sum_append (hit q) (f m) rest in
      let b = sum_without (hit q) m xs h in
      let z = falls m q within le in
      let d = different q in
      ⊎_elim
      (λ (same : m ≡ q). let s = hit_same q m same in omega (arith, a, b, z, d, s))
      (λ (lt : m < q). let l = low q lt in omega (arith, a, b, z, l))
      (eq-or-lt_of_le le)
      in
      let a = sum_append times (f m) rest in
      let b = sum_without times m xs h in
      let e = node m within in
      ⊎_elim
      (λ (same : m ≡ n).
      let s = hit_same n m same in
      let z = sum_none times m next lows (λ q lt. lesser (suc q) q (omega arith) (omega (arith, same, lt)) (omega (arith, lt, within))) in
      omega (arith, a, b, e, s, z))
      (λ (other : m ≡ n → ⊥).
      let s = hit_other n m other in
      let i = forest m next (omega (arith, within)) counts lows in
      omega (arith, a, b, e, s, i))
      (hit_or n m))
      (λ (h : count m xs ≡ 0).
      forest m xs (omega (arith, within))
      (λ q. let c = gather_next f q m in let d = different q in omega (arith, c, d))
      (λ q le. ⊎_elim (λ (same : m ≡ q). rw same at h) (λ (lt : m < q). low q lt) (eq-or-lt_of_le le)))
      (positive_or (count m xs))

  -- no number below m uses m or more
  unused : (m q : ℕ) → m ≤ all → m ≤ suc q → count q (gather f 0 m) ≡ 0
  unfolding sum_of gather
  unused zero q within le = refl
  unused (suc m) q within le =
      let i = unused m q (omega (arith, within)) (omega (arith, le)) in
      let z = falls m q within (omega (arith, le)) in
      let c = gather_next f q m in
      omega (arith, i, z, c)

  -- n stands at most once in the tree of p
  pub at_most_once : (p : ℕ) → p < all → times p ≤ 1
  unfolding sum_of
  at_most_once p h =
      let different : (q : ℕ) → count q (p ∷ []) + count q (gather f 0 (suc p)) ≤ 1 = λ q.
      ⊎_elim
      (λ (same : p ≡ q). let u = unused (suc p) q h (omega (arith, same)) in let s = hit_same q p same in omega (arith, u, s))
      (λ (other : p ≡ q → ⊥).
      let s = hit_other q p other in
      let g = gather_up f q (suc p) all h in
      let o = once q in
      omega (arith, s, g, o))
      (hit_or q p)
      in
      let i = forest (suc p) (p ∷ []) h different (λ q le. let z = hit_other q p (λ same. omega (arith, same, le)) in omega (arith, z)) in
      omega (arith, i)
