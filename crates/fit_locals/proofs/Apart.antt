-- The locals that must differ, by the ways through the code. Assumes nothing.
use Prim.Native.Nat.{ℕ, ◌+◌, ◌≤◌, ◌<◌}
use mathlib.Core.Path.{◌≡◌, refl, sym, ap, ap₂, ◌∙◌}
use mathlib.Core.Bool.{Bool, true, false, cond, ◌||◌, false≢true}
use mathlib.Core.List.{List, [], ◌∷◌}
use native.Mathlib.Numerals.{add-one}
use borrow.Author.Tests.{eq-eqb, ne_eqb, eqb-true, eqb-false}
use lib.Dec.{eqb}
use Rattle.std.specs.List.{list_any}
use lib.ListN.{length, get_or, drop, drop_of_length-le}
use lib.Seq.{drop-cons}
use Rattle.image.specs.Lists.{member, distinct}
use Rattle.meaning.specs.Fit.{present, locals_differ}
use Rattle.fit_shapes.proofs.Fielding.{distinct_again, distinct_next}

-- `stands_from`: 65535 is no local that is there
pub no_local : (l : ℕ) → l ≡ 65535 → (xs : List ℕ) → false ≡ member l (present xs)
unfolding present member
no_local l e [] = refl
no_local l e (x ∷ xs) = go (eqb x 65535) refl (no_local l e xs)
  where
    go : (b : Bool) → eqb x 65535 ≡ b → false ≡ member l (present xs) → false ≡ member l (cond b (present xs) (x ∷ present xs))
    go true q later = later
    go false q later = rw (ne_eqb l x (λ r. eqb-false x 65535 q (sym r ∙ e))) later

eqb_swap : (x y : ℕ) → eqb x y ≡ eqb y x
eqb_swap x y = go (eqb x y) refl
  where
    go : (b : Bool) → eqb x y ≡ b → b ≡ eqb y x
    go true e = sym (eq-eqb y x (sym (eqb-true x y e)))
    go false e = sym (ne_eqb y x (λ q. eqb-false x y e (sym q)))

-- any other stands among those that are there if it stands among all
pub stands : (l : ℕ) → (l ≡ 65535 → ⊥) → (xs : List ℕ) → list_any (λ y. eqb y l) xs ≡ member l (present xs)
unfolding present member
stands l h [] = refl
stands l h (x ∷ xs) = go (eqb x 65535) refl (stands l h xs)
  where
    go : (b : Bool) → eqb x 65535 ≡ b → list_any (λ y. eqb y l) xs ≡ member l (present xs) → list_any (λ y. eqb y l) (x ∷ xs) ≡ member l (cond b (present xs) (x ∷ present xs))
    go true q later = ap (λ (b : Bool). b || list_any (λ y. eqb y l) xs) (ne_eqb x l (λ e. h (sym e ∙ eqb-true x 65535 q))) ∙ later
    go false q later = ap₂ (λ (a b : Bool). a || b) (eqb_swap x l) later

module _ (xs : List ℕ) (i : ℕ) where
  module _ (inside : i < length xs) where
    abbrev x : ℕ
    x = get_or xs i 0

    -- the binding i has a local, or has none
    present_there : (x ≡ 65535 → ⊥) → present (drop i xs) ≡ x ∷ present (drop (i + 1) xs)
    unfolding present
    present_there h = ap present (drop-cons xs i 0 inside) ∙ rw (ne_eqb x 65535 h, add-one i)

    present_not : x ≡ 65535 → present (drop i xs) ≡ present (drop (i + 1) xs)
    unfolding present
    present_not e = ap present (drop-cons xs i 0 inside) ∙ rw (eq-eqb x 65535 e, add-one i)

    -- `bindings_differ`
    module _ {r : Bool} (again : r ≡ member x (present (drop (i + 1) xs))) where
      pub differ_again : r ≡ true → false ≡ distinct (present (drop i xs))
      differ_again e = go (eqb x 65535) refl
        where
          go : (b : Bool) → eqb x 65535 ≡ b → false ≡ distinct (present (drop i xs))
          go true q = absurd (false≢true (no_local x (eqb-true x 65535 q) (drop (i + 1) xs) ∙ sym again ∙ e))
          go false q = distinct_again (present_there (eqb-false x 65535 q)) (sym again ∙ e)

      pub differ_next : r ≡ false → distinct (present (drop i xs)) ≡ distinct (present (drop (i + 1) xs))
      differ_next e = go (eqb x 65535) refl
        where
          go : (b : Bool) → eqb x 65535 ≡ b → distinct (present (drop i xs)) ≡ distinct (present (drop (i + 1) xs))
          go true q = ap distinct (present_not (eqb-true x 65535 q))
          go false q = distinct_next (present_there (eqb-false x 65535 q)) (sym again ∙ e)

  pub differ_end : length xs ≤ i → true ≡ distinct (present (drop i xs))
  unfolding present distinct
  differ_end h = rw (drop_of_length-le xs {i = i} h)

-- `locals_differ`
module _ (bindings : List ℕ) (root : ℕ) {s : Bool} (stands : s ≡ member root (present bindings)) where
  pub root_again : s ≡ true → false ≡ locals_differ bindings root
  unfolding locals_differ distinct
  root_again e = rw (sym stands ∙ e)

  pub all_apart : s ≡ false → {b : Bool} → b ≡ distinct (present bindings) → b ≡ locals_differ bindings root
  unfolding locals_differ distinct
  all_apart once h = rw (sym stands ∙ once) h
