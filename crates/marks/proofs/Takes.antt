-- The laws of taking numbers: taking two lists one after the other, and each way through the functions that take one number or a range.
-- Assumes nothing.
use Prim.Native.Nat.{ℕ, zero, suc, ◌+◌, ◌*◌, ◌-◌, ◌≤◌, ◌<◌}
use mathlib.Core.Path.{◌≡◌, refl, ap, sym, ◌∙◌}
use mathlib.Core.Bool.{Bool, true, false, ◌&&◌, false≢true, and_assoc, and-false}
use mathlib.Core.List.{List, [], ◌∷◌, ◌++◌}
use native.Mathlib.Nat.{mul-le-mul_left}
use native.Mathlib.Omega.{arith}
use borrow.Author.Tests.{lt-ltb, le-ltb, eq-eqb, ne_eqb}
use lib.Dec.{ltb}
use lib.ListN.{get_or, set}
use Rattle.image.specs.Lists.{up_from}
use Rattle.image.specs.Rules.{absent, listed}
use Rattle.image.specs.Rows.{list_at}
use Rattle.image.specs.Subpatterns.{if_present}
use Rattle.marks.specs.Marks.{takes, marked, Taken}

-- two lists are taken where the first is, and then the second
pub takes_append : (bound : ℕ) (marks xs ys : List ℕ) → takes bound marks (xs ++ ys) ≡ takes bound marks xs && takes bound (marked marks xs) ys
unfolding takes marked
takes_append bound marks [] ys = refl
takes_append bound marks (x ∷ xs) ys = rw (takes_append bound (set marks x 1) xs ys) (simp and_assoc)

-- marking two lists is marking the first and then the second
pub marked_append : (marks xs ys : List ℕ) → marked marks (xs ++ ys) ≡ marked (marked marks xs) ys
unfolding marked
marked_append marks [] ys = refl
marked_append marks (x ∷ xs) ys = marked_append (set marks x 1) xs ys

-- no number is taken by doing nothing
pub taken_none : (bound : ℕ) (marks : List ℕ) → Taken bound marks marks [] true
unfolding takes marked
taken_none bound marks = record { answer = refl; marks = λ e. refl }

-- a refusal says nothing of the marks
pub taken_false : {bound : ℕ} {before numbers : List ℕ} (after : List ℕ) → takes bound before numbers ≡ false → Taken bound before after numbers false
taken_false after e = record { answer = sym e; marks = λ f. absurd (false≢true f) }

-- the first list is taken, and then the second is taken or refused
pub taken_append : {bound : ℕ} {marks between after xs ys : List ℕ} {r : Bool} → Taken bound marks between xs true → Taken bound between after ys r → Taken bound marks after (xs ++ ys) r
taken_append {bound} {marks} {between} {after} {xs} {ys} {r} first second =
    record {
      answer = second.answer ∙ ap (λ (m : List ℕ). takes bound m ys) (first.marks refl) ∙ sym (takes_append bound marks xs ys ∙ rw (sym first.answer));
      marks = λ e. second.marks e ∙ ap (λ (m : List ℕ). marked m ys) (first.marks refl) ∙ sym (marked_append marks xs ys);
    }

-- the first list is refused
pub refused_append : {bound : ℕ} {marks between xs : List ℕ} (after ys : List ℕ) → Taken bound marks between xs false → Taken bound marks after (xs ++ ys) false
refused_append {bound} {marks} {between} {xs} after ys first = taken_false after (takes_append bound marks xs ys ∙ rw (sym first.answer))

-- `take`: a number that is not below the bound
pub too_large : (bound : ℕ) (marks : List ℕ) (x : ℕ) → bound ≤ x → Taken bound marks marks (x ∷ []) false
unfolding takes
too_large bound marks x h = taken_false marks (rw (le-ltb x bound h))

-- `take`: a number that is marked
pub marked_already : (bound : ℕ) (marks : List ℕ) (x : ℕ) → (get_or marks x 0 ≡ 0 → ⊥) → Taken bound marks marks (x ∷ []) false
unfolding takes
marked_already bound marks x h = taken_false marks (rw (ne_eqb (get_or marks x 0) 0 h) (and-false (ltb x bound)))

-- `take`: a number that is below the bound and not marked
pub newly_marked : (bound : ℕ) (marks : List ℕ) (x : ℕ) → x < bound → get_or marks x 0 ≡ 0 → Taken bound marks (set marks x 1) (x ∷ []) true
unfolding takes marked
newly_marked bound marks x h e = record { answer = rw (lt-ltb x bound h, eq-eqb (get_or marks x 0) 0 e); marks = λ f. refl }

-- `take_present`: an absent number
pub taken_absent : (bound : ℕ) (marks : List ℕ) (x : ℕ) → x ≡ absent → Taken bound marks marks (if_present x) true
unfolding if_present
taken_absent bound marks x e = rw (eq-eqb x absent e) (taken_none bound marks)

-- `take_present`: a number that is present
pub taken_present : {bound : ℕ} {marks after : List ℕ} {x : ℕ} {r : Bool} → (x ≡ absent → ⊥) → Taken bound marks after (x ∷ []) r → Taken bound marks after (if_present x) r
unfolding if_present
taken_present {x = x} h t = rw (ne_eqb x absent h) t

-- In a loop: taking what is left, from the marks now, is taking all, from the marks before the loop.
abbrev pub Continues : ℕ → List ℕ → List ℕ → List ℕ → List ℕ → Type 0
Continues bound before all marks left = (after : List ℕ) (r : Bool) → Taken bound marks after left r → Taken bound before after all r

-- a turn of the loop that takes a number
pub continues_more : {bound : ℕ} {before all marks next list left : List ℕ} {x : ℕ} {r : Bool} → list ≡ x ∷ left → Continues bound before all marks list → r ≡ true → Taken bound marks next (x ∷ []) r → Continues bound before all next left
continues_more e so_far taken first after s t = so_far after s (rw e (taken_append (rw taken at first) t))

-- a turn that refuses one
pub continues_refused : {bound : ℕ} {before all marks next list left : List ℕ} {x : ℕ} {r : Bool} (after : List ℕ) → list ≡ x ∷ left → Continues bound before all marks list → r ≡ false → Taken bound marks next (x ∷ []) r → Taken bound before after all false
continues_refused {left = left} after e so_far refused first = so_far after false (rw e (refused_append after left (rw refused at first)))

-- the loop's end
pub continues_end : {bound : ℕ} {before all marks list : List ℕ} → list ≡ [] → Continues bound before all marks list → Taken bound before marks all true
continues_end {bound} {marks = marks} e so_far = so_far marks true (rw e (taken_none bound marks))

-- a range that is not empty is its first number and the range behind it
pub up_from_next : (from count : ℕ) → (count ≡ 0 → ⊥) → up_from from count ≡ from ∷ up_from (from + 1) (count - 1)
unfolding up_from
up_from_next from zero h = absurd (h refl)
up_from_next from (suc n) h = let e : suc n - 1 ≡ n = omega arith in rw e

-- the numbers from x on, before `end`: the first, and the others
pub up_from_before : (x end : ℕ) → x < end → up_from x (end - x) ≡ x ∷ up_from (x + 1) (end - (x + 1))
unfolding up_from
up_from_before x end h = let e : end - x ≡ suc (end - (x + 1)) = omega arith in rw e

-- a range of no numbers is empty
pub up_from_none : (from count : ℕ) → count ≡ 0 → up_from from count ≡ []
unfolding up_from
up_from_none from count e = rw e

-- the words of the list, where there are any, are the first and those behind it
pub listed_next : (image : List ℕ) (step from count : ℕ) → (count ≡ 0 → ⊥) → listed image step from count ≡ list_at image from ∷ listed image step (from + step) (count - 1)
unfolding listed
listed_next image step from zero h = absurd (h refl)
listed_next image step from (suc n) h = let e : suc n - 1 ≡ n = omega arith in rw e

-- no words of the list
pub listed_none : (image : List ℕ) (step from count : ℕ) → count ≡ 0 → listed image step from count ≡ []
unfolding listed
listed_none image step from count e = rw e

-- the words of the list behind the first k: the next, and the others
pub listed_at : (image : List ℕ) (step from count k : ℕ) → k < count → listed image step (from + step * k) (count - k) ≡ list_at image (from + step * k) ∷ listed image step (from + step * (k + 1)) (count - (k + 1))
unfolding listed
listed_at image step from count k h =
    let left : count - k ≡ suc (count - (k + 1)) = omega arith in
    let next : from + step * (k + 1) ≡ from + step * k + step = omega arith in
    rw (left, next)

-- a step behind fewer steps than there are lies within them
pub steps_within : (step k count : ℕ) → k < count → step * k + step ≤ step * count
steps_within step k count h =
    let next : step * k + step ≡ step * suc k = omega arith in
    rw next (mul-le-mul_left step h)
