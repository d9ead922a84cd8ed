-- Demand 3 on visits: of every pattern reached exactly k + 2, of every other one none. Assumes nothing.
use Prim.Native.Nat.{ℕ, ◌+◌, ◌≤◌, ◌<◌}
use mathlib.Core.Path.{◌≡◌, refl, ap, sym, ◌∙◌}
use mathlib.Core.Bool.{true, false}
use mathlib.Core.List.{List, [], ◌∷◌}
use mathlib.Core.Logic.{inl, inr}
use native.Mathlib.Omega.{arith}
use borrow.Author.Tests.{eq-eqb, ne_eqb}
use Rattle.image.specs.Tables.{pattern_count}
use Rattle.image.specs.Valid.{valid}
use Rattle.image.specs.Tree.{Pat, tree}
use Rattle.place.specs.declared.place_ty.PlaceTy.{PlaceTy}
use Rattle.counting.specs.Reaching.{Reached}
use Rattle.counting.specs.Counting.{total, reached_from, visits_of, IsReached}
use Rattle.counting.proofs.Tallies.{hit_same}
use Rattle.counting.proofs.Numbers.{times_once}
use Rattle.counting.proofs.Within.{hits, within}

-- a reached pattern adds its visits where n is its number
visits_same : (n : ℕ) (r : Reached) (rs : List Reached) → r.number ≡ n → visits_of n (r ∷ rs) ≡ r.ors + 2 + visits_of n rs
unfolding visits_of total
visits_same n r rs e = rw (eq-eqb r.number n e) (omega arith)

visits_other : (n : ℕ) (r : Reached) (rs : List Reached) → (r.number ≡ n → ⊥) → visits_of n (r ∷ rs) ≡ visits_of n rs
unfolding visits_of total
visits_other n r rs e = rw (ne_eqb r.number n e) (omega arith)

-- a number that none of them has is never visited
visits_none : (n : ℕ) (rs : List Reached) → ((r : Reached) → IsReached r rs → r.number ≡ n → ⊥) → visits_of n rs ≡ 0
unfolding visits_of total
visits_none n [] none = refl
visits_none n (r ∷ rs) none = visits_other n r rs (none r (inl refl)) ∙ visits_none n rs (λ q s. none q (inr s))

-- one that stands there has its number there
hits_standing : (n : ℕ) (r : Reached) (rs : List Reached) → IsReached r rs → r.number ≡ n → 1 ≤ hits n rs
unfolding total
hits_standing n r (q ∷ rs) (inl same) e = let s = hit_same n q.number (ap (λ (x : Reached). x.number) (sym same) ∙ e) in omega (arith, s)
hits_standing n r (q ∷ rs) (inr s) e = let i = hits_standing n r rs s e in omega (arith, i)
hits_standing n r [] x'' e = elim x'' [ ]

-- the visits of one whose number no other has
visits_one : (r : Reached) (rs : List Reached) → hits r.number rs ≤ 1 → IsReached r rs → visits_of r.number rs ≡ r.ors + 2
unfolding total
visits_one r (q ∷ rs) le (inl same) =
    let n = r.number in
    let e : q.number ≡ n = ap (λ (x : Reached). x.number) (sym same) in
    let s = hit_same n q.number e in
    let v = visits_same n q rs e in
    let o = ap (λ (x : Reached). x.ors) same in
    let z = visits_none n rs (λ x st d. let i = hits_standing n x rs st d in omega (arith, i, s, le)) in
    omega (arith, v, o, z)
visits_one r (q ∷ rs) le (inr st) =
    let n = r.number in
    let i = hits_standing n r rs st refl in
    let other : q.number ≡ n → ⊥ = λ e. let s = hit_same n q.number e in omega (arith, i, s, le) in
    visits_other n q rs other ∙ visits_one r rs (omega (arith, le)) st
visits_one r [] le x'' = elim x'' [ ]

-- "Every pattern reached, with k Or patterns above it in the tree walked, was visited exactly k + 2 times"
pub visited_exactly : (image : List ℕ) (p : ℕ) (ty : PlaceTy) (r : Reached) → valid image ≡ true → p < pattern_count image → IsReached r (reached_from image (tree image p) ty) →
    visits_of r.number (reached_from image (tree image p) ty) ≡ r.ors + 2
visited_exactly image p ty r v h st =
    let w = (within image r.number (tree image p)).at ty 0 false in
    let o = times_once image r.number p v h in
    visits_one r (reached_from image (tree image p) ty) (omega (arith, w, o)) st

-- "and every other one never"
pub never_visited : (image : List ℕ) (root : Pat) (ty : PlaceTy) (n : ℕ) → ((r : Reached) → IsReached r (reached_from image root ty) → r.number ≡ n → ⊥) →
    visits_of n (reached_from image root ty) ≡ 0
never_visited image root ty n none = visits_none n (reached_from image root ty) none
