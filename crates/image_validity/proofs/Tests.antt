-- More laws of tests over numbers, of gathered lists, and of lists without repetition by how often a number stands in them. Assumes nothing.
use Prim.Native.Nat.{ℕ, zero, suc, ◌+◌, ◌≤◌, ◌<◌}
use mathlib.Core.Path.{◌≡◌, refl, sym, ap, ap₂, ◌∙◌}
use mathlib.Core.Bool.{Bool, true, false, not, ◌&&◌, ◌||◌, true≢false, false≢true}
use mathlib.Core.List.{List, [], ◌∷◌, ◌++◌, append_assoc}
use native.Mathlib.Nat.{add-zero, suc-add}
use native.Mathlib.Omega.{arith}
use borrow.Author.Tests.{ltb-true, lt-ltb, leb-true, le-leb, eqb-true, eq-eqb}
use lib.Dec.{eqb, ltb, leb}
use Rattle.image.specs.Lists.{all_below, all_in, member, distinct, gather}
use Rattle.image_validity.specs.Standing.{one, times}
use Rattle.image.proofs.Bools.{and_left, and_right, and_true}

-- what holds of each number below n
pub below_all : (f : ℕ → Bool) (n : ℕ) → ((k : ℕ) → k < n → f k ≡ true) → all_below f n ≡ true
unfolding all_below
below_all f zero h = refl
below_all f (suc n) h = and_true (all_below f n) (f n) (below_all f n (λ k lt. h k (omega arith))) (h n (omega arith))

-- a test that follows from another
pub in_weaker : (f g : ℕ → Bool) (xs : List ℕ) → ((x : ℕ) → f x ≡ true → g x ≡ true) → all_in f xs ≡ true → all_in g xs ≡ true
unfolding all_in
in_weaker f g [] h e = refl
in_weaker f g (x ∷ xs) h e = and_true (g x) (all_in g xs) (h x (and_left (f x) (all_in f xs) e)) (in_weaker f g xs h (and_right (f x) (all_in f xs) e))

pub in_both : (f : ℕ → Bool) (xs ys : List ℕ) → all_in f xs ≡ true → all_in f ys ≡ true → all_in f (xs ++ ys) ≡ true
unfolding all_in
in_both f [] ys d e = e
in_both f (x ∷ xs) ys d e = and_true (f x) (all_in f (xs ++ ys)) (and_left (f x) (all_in f xs) d) (in_both f xs ys (and_right (f x) (all_in f xs) d) e)

pub ltb_more : (a m n : ℕ) → m ≤ n → ltb a m ≡ true → ltb a n ≡ true
ltb_more a m n h e = lt-ltb a n (omega (arith, ltb-true a m e))

pub leb_more : (a m n : ℕ) → m ≤ n → leb a m ≡ true → leb a n ≡ true
leb_more a m n h e = le-leb a n (omega (arith, leb-true a m e))

pub or_cases : (a b : Bool) {C : Type 0} → a || b ≡ true → (a ≡ true → C) → (b ≡ true → C) → C
or_cases true b e f g = f refl
or_cases false b e f g = g e

pub or_left : (a b : Bool) → a ≡ true → a || b ≡ true
or_left true b e = refl
or_left false b e = absurd (false≢true e)

pub or_right : (a b : Bool) → b ≡ true → a || b ≡ true
or_right true b e = refl
or_right false b e = e

-- three tests in a row
pub and_first : (a b c : Bool) → a && b && c ≡ true → a ≡ true
and_first a b c e = and_left a b (and_left (a && b) c e)

pub and_second : (a b c : Bool) → a && b && c ≡ true → b ≡ true
and_second a b c e = and_right a b (and_left (a && b) c e)

pub and_third : (a b c : Bool) → a && b && c ≡ true → c ≡ true
and_third a b c e = and_right (a && b) c e

pub and_three : (a b c : Bool) → a ≡ true → b ≡ true → c ≡ true → a && b && c ≡ true
and_three a b c x y z = and_true (a && b) c (and_true a b x y) z

-- lists joined
pub gather_split : (f : ℕ → List ℕ) (a m n : ℕ) → gather f a (m + n) ≡ gather f a m ++ gather f (a + m) n
unfolding gather
gather_split f a zero n = let e : 0 + n ≡ n = omega arith in ap₂ (λ (x y : ℕ). gather f x y) (sym (add-zero a)) e
gather_split f a (suc m) n =
    let next : a + 1 + m ≡ a + suc m = omega arith in
    ap (gather f a) (suc-add m n)
    ∙ (ap (◌++◌ (f a)) (gather_split f (a + 1) m n ∙ ap (λ (k : ℕ). gather f (a + 1) m ++ gather f k n) next)
    ∙ sym (append_assoc (f a) (gather f (a + 1) m) (gather f (a + suc m) n)))

pub gather_same : (f g : ℕ → List ℕ) (a n : ℕ) → ((i : ℕ) → i < n → f (a + i) ≡ g (a + i)) → gather f a n ≡ gather g a n
unfolding gather
gather_same f g a zero h = refl
gather_same f g a (suc n) h =
    ap₂ ◌++◌ (ap f (sym (add-zero a)) ∙ h 0 (omega arith) ∙ ap g (add-zero a))
    (gather_same f g (a + 1) n (λ i lt. let e : a + 1 + i ≡ a + suc i = omega arith in ap f e ∙ h (suc i) (omega arith) ∙ ap g (sym e)))

pub gather_none : (f : ℕ → List ℕ) (a n : ℕ) → ((i : ℕ) → i < n → f (a + i) ≡ []) → gather f a n ≡ []
unfolding gather
gather_none f a zero h = refl
gather_none f a (suc n) h =
    ap₂ ◌++◌ (ap f (sym (add-zero a)) ∙ h 0 (omega arith))
    (gather_none f (a + 1) n (λ i lt. let e : a + 1 + i ≡ a + suc i = omega arith in ap f e ∙ h (suc i) (omega arith)))

-- what holds of each list holds of them joined
pub in_gathered : (f : ℕ → List ℕ) (test : ℕ → Bool) (a n : ℕ) → ((i : ℕ) → i < n → all_in test (f (a + i)) ≡ true) → all_in test (gather f a n) ≡ true
unfolding gather all_in
in_gathered f test a zero h = refl
in_gathered f test a (suc n) h =
    in_both test (f a) (gather f (a + 1) n) (ap (λ (k : ℕ). all_in test (f k)) (sym (add-zero a)) ∙ h 0 (omega arith))
    (in_gathered f test (a + 1) n (λ i lt. let e : a + 1 + i ≡ a + suc i = omega arith in ap (λ (k : ℕ). all_in test (f k)) e ∙ h (suc i) (omega arith)))

-- how often a number stands in joined lists
pub times_join : (q : ℕ) (xs ys : List ℕ) → times q (xs ++ ys) ≡ times q xs + times q ys
unfolding times
times_join q [] ys = omega arith
times_join q (x ∷ xs) ys = omega (arith, times_join q xs ys)

not_member : (q : ℕ) (xs : List ℕ) → times q xs ≡ 0 → member q xs ≡ false
unfolding times member
not_member q [] h = refl
not_member q (x ∷ xs) h = go (not_member q xs) (eqb q x) refl
  where
    go : (times q xs ≡ 0 → member q xs ≡ false) → (b : Bool) → eqb q x ≡ b → eqb q x || member q xs ≡ false
    go rest true e = let z : 1 + times q xs ≡ 0 = rw e at h in absurd (omega (arith, z))
    go rest false e = let z : 0 + times q xs ≡ 0 = rw e at h in rw e (rest (omega (arith, z)))

-- a list is without repetition where no number stands in it more often than once
pub distinct_by_times : (xs : List ℕ) → ((q : ℕ) → times q xs ≤ 1) → distinct xs ≡ true
unfolding distinct times
distinct_by_times [] h = refl
distinct_by_times (x ∷ xs) h =
    let first : one (eqb x x) + times x xs ≤ 1 = h x in
    let here : 1 + times x xs ≤ 1 = rw (eq-eqb x x refl) at first in
    and_true (not (member x xs)) (distinct xs) (ap not (not_member x xs (omega arith))) (distinct_by_times xs (λ q. let l = h q in omega (arith, l)))

member_times : (q : ℕ) (xs : List ℕ) → member q xs ≡ false → times q xs ≡ 0
unfolding times member
member_times q [] h = refl
member_times q (x ∷ xs) h = go (member_times q xs) (eqb q x) refl
  where
    go : (member q xs ≡ false → times q xs ≡ 0) → (b : Bool) → eqb q x ≡ b → one (eqb q x) + times q xs ≡ 0
    go rest true e = let z : true || member q xs ≡ false = rw e at h in absurd (true≢false z)
    go rest false e = let z : false || member q xs ≡ false = rw e at h in let none = rest z in rw e (omega (arith, none))

pub times_distinct : (xs : List ℕ) (q : ℕ) → distinct xs ≡ true → times q xs ≤ 1
unfolding distinct times
times_distinct [] q h = omega arith
times_distinct (x ∷ xs) q h = go (times_distinct xs q (and_right (not (member x xs)) (distinct xs) h)) (eqb q x) refl
  where
    go : times q xs ≤ 1 → (b : Bool) → eqb q x ≡ b → one (eqb q x) + times q xs ≤ 1
    go rest true e =
        let alone : member x xs ≡ false = borrow.Author.Tests.not-true (member x xs) (and_left (not (member x xs)) (distinct xs) h) in
        let same : q ≡ x = eqb-true q x e in
        rw e (omega (arith, ap (λ (k : ℕ). times k xs) same, member_times x xs alone))
    go rest false e = rw e (omega (arith, rest))

-- a number that fails a test which all pass does not stand in the list
pub times_failing : (test : ℕ → Bool) (q : ℕ) (xs : List ℕ) → all_in test xs ≡ true → test q ≡ false → times q xs ≡ 0
unfolding times all_in
times_failing test q [] h f = refl
times_failing test q (x ∷ xs) h f = go (times_failing test q xs (and_right (test x) (all_in test xs) h) f) (eqb q x) refl
  where
    go : times q xs ≡ 0 → (b : Bool) → eqb q x ≡ b → one (eqb q x) + times q xs ≡ 0
    go rest true e = absurd (false≢true (sym f ∙ (ap test (eqb-true q x e) ∙ and_left (test x) (all_in test xs) h)))
    go rest false e = rw e (omega (arith, rest))
