-- The loops over patterns that the list names: a turn that a pattern fails, one that it passes, and the end. Assumes nothing.
use Prim.Native.Nat.{ℕ, ◌+◌, ◌-◌, ◌<◌}
use mathlib.Core.Path.{◌≡◌, sym, ap, ◌∙◌}
use mathlib.Core.Bool.{Bool, true, false, ◌&&◌}
use mathlib.Core.Option.{Option, some}
use mathlib.Core.List.{List, [], ◌∷◌, map}
use native.Mathlib.Omega.{arith}
use borrow.Author.Tests.{ltb-true}
use lib.Dec.{ltb}
use Rattle.image.specs.Rows.{list_at}
use Rattle.image.specs.Lists.{all_in}
use Rattle.image.specs.Rules.{names_type, listed}
use Rattle.image.specs.Tree.{trees, tree, word?}
use Rattle.image.proofs.Bools.{and_left}
use Rattle.marks.proofs.Takes.{listed_next, listed_none}
use Rattle.meaning.specs.Typing.{field_type}
use Rattle.meaning.specs.Fit.{by_fields_fit, items_all_fit, types_fit, fitting, each_fits}
use Rattle.fit_shapes.specs.Results.{TypeNumber as Number}
use Rattle.fit_shapes.specs.Numbers.{type_number, Numbers, TypesAt}
use Rattle.fit_types.specs.Parts.{fitting_at, Items, Pairs}

-- a test that a whole list passes, its first passes
first_in : (f : ℕ → Bool) {x : ℕ} {xs ys : List ℕ} → xs ≡ x ∷ ys → all_in f xs ≡ true → f x ≡ true
unfolding all_in
first_in f {x} {xs} {ys} is e = and_left (f x) (all_in f ys) (rw is at e)

module _ (image : List ℕ) where
  -- no tests
  fitting_none : (step i left : ℕ) → left ≡ 0 → fitting_at image step i left ≡ []
  unfolding fitting_at fitting trees
  fitting_none step i left e = rw (listed_none image step i left e)

  module _ (i left : ℕ) (more : left ≡ 0 → ⊥) where
    -- the first test, and the others
    fitting_next : (step : ℕ) {q : ℕ} → q ≡ list_at image i → fitting_at image step i left ≡ (λ t. types_fit image (tree image q) t) ∷ fitting_at image step (i + step) (left - 1)
    unfolding fitting_at fitting trees
    fitting_next step read = rw (listed_next image step i left more, read)

    next_listed : (step : ℕ) {q : ℕ} → q ≡ list_at image i → listed image step i left ≡ q ∷ listed image step (i + step) (left - 1)
    next_listed step read = rw read (listed_next image step i left more)

    -- the first of items is below
    pub items_first : {p q : ℕ} → Items image p i left → q ≡ list_at image i → q < p
    items_first {p} {q} h read = ltb-true q p (first_in (λ s. ltb s p) (next_listed 1 read) h.below)

    -- the first of types is one
    pub types_first : {t : ℕ} → TypesAt image i left → t ≡ list_at image i → names_type image t ≡ true
    types_first h read = first_in (names_type image) (next_listed 1 read) h.named

  -- the fields of a Record: the second word of each two
  module _ (i left : ℕ) (more : left ≡ 0 → ⊥) {p : ℕ} (h : Pairs image p i left) where
    pub pairs_first : {q : ℕ} → q ≡ list_at image (i + 1) → q < p
    pairs_first {q} read = ltb-true q p (first_in (λ s. ltb s p) (next_listed (i + 1) left more 2 read) h.below)

  -- `each_fits`
  module _ (i t left : ℕ) (more : left ≡ 0 → ⊥) {q ty : ℕ} (read : q ≡ list_at image i) (read-type : ty ≡ list_at image t) {r : Bool} (fits : r ≡ types_fit image (tree image q) (some ty)) where
    abbrev rest : Bool
    rest = each_fits (fitting_at image 1 (i + 1) (left - 1)) (listed image 1 (t + 1) (left - 1))

    each_step : each_fits (fitting_at image 1 i left) (listed image 1 t left) ≡ r && rest
    unfolding each_fits
    each_step = rw (fitting_next i left more 1 read, next_listed t left more 1 read-type, fits)

    pub each_stop : r ≡ false → false ≡ each_fits (fitting_at image 1 i left) (listed image 1 t left)
    each_stop e = sym (each_step ∙ ap (λ (b : Bool). b && rest) e)

    pub each_next : r ≡ true → each_fits (fitting_at image 1 i left) (listed image 1 t left) ≡ rest
    each_next e = each_step ∙ ap (λ (b : Bool). b && rest) e

  pub each_end : (i t left : ℕ) → left ≡ 0 → true ≡ each_fits (fitting_at image 1 i left) (listed image 1 t left)
  unfolding each_fits
  each_end i t left e = rw (fitting_none 1 i left e)

  -- `items_all_fit`
  module _ (i left : ℕ) (place : Option ℕ) (more : left ≡ 0 → ⊥) {q : ℕ} (read : q ≡ list_at image i) {r : Bool} (fits : r ≡ types_fit image (tree image q) place) where
    abbrev others : Bool
    others = items_all_fit (fitting_at image 1 (i + 1) (left - 1)) place

    all_step : items_all_fit (fitting_at image 1 i left) place ≡ r && others
    unfolding items_all_fit
    all_step = rw (fitting_next i left more 1 read, fits)

    pub all_stop : r ≡ false → false ≡ items_all_fit (fitting_at image 1 i left) place
    all_stop e = sym (all_step ∙ ap (λ (b : Bool). b && others) e)

    pub all_next : r ≡ true → items_all_fit (fitting_at image 1 i left) place ≡ others
    all_next e = all_step ∙ ap (λ (b : Bool). b && others) e

  pub all_end : (i left : ℕ) (place : Option ℕ) → left ≡ 0 → true ≡ items_all_fit (fitting_at image 1 i left) place
  unfolding items_all_fit
  all_end i left place e = rw (fitting_none 1 i left e)

  -- `fields_fit`
  module _ (i left : ℕ) (ts : List ℕ) (more : left ≡ 0 → ⊥) {f q : ℕ} (read-field : f ≡ list_at image i) (read : q ≡ list_at image (i + 1)) {n : Number} (number : Numbers image n (field_type ts (word? f))) {r : Bool} (fits : r ≡ types_fit image (tree image q) (type_number n)) where
    abbrev later : Bool
    later = by_fields_fit (map word? (listed image 2 (i + 2) (left - 1))) (fitting_at image 2 (i + 2 + 1) (left - 1)) ts

    by_step_lem : by_fields_fit (map word? (listed image 2 i left)) (fitting_at image 2 (i + 1) left) ts ≡ r && later
    unfolding by_fields_fit
    by_step_lem =
        let two : i + 1 + 2 ≡ i + 2 + 1 = omega arith in
        rw (next_listed i left more 2 read-field, fitting_next (i + 1) left more 2 read, two, ← number.is, fits)

    pub by_stop : r ≡ false → false ≡ by_fields_fit (map word? (listed image 2 i left)) (fitting_at image 2 (i + 1) left) ts
    by_stop e = sym (by_step_lem ∙ ap (λ (b : Bool). b && later) e)

    pub by_next : r ≡ true → by_fields_fit (map word? (listed image 2 i left)) (fitting_at image 2 (i + 1) left) ts ≡ later
    by_next e = by_step_lem ∙ ap (λ (b : Bool). b && later) e

  pub by_end : (i left : ℕ) (ts : List ℕ) → left ≡ 0 → true ≡ by_fields_fit (map word? (listed image 2 i left)) (fitting_at image 2 (i + 1) left) ts
  unfolding by_fields_fit
  by_end i left ts e = rw (listed_none image 2 i left e)
