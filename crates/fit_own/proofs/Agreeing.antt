-- Arguments on their places: one of them can fail there exactly where one does by its own types. Assumes nothing.
use Prim.Native.Nat.{ℕ, zero, suc, ◌+◌, ◌-◌, ◌≤◌, ◌<◌}
use mathlib.Core.Path.{◌≡◌, refl, sym, ap, ap₂, ◌∙◌, subst}
use mathlib.Core.Bool.{Bool, true, false, ◌&&◌, ◌||◌, or_assoc, false≢true}
use mathlib.Core.Option.{Option, none, some}
use mathlib.Core.List.{List, [], ◌∷◌, ◌++◌, map, reverse, reverse_aux}
use native.Mathlib.Omega.{arith}
use borrow.Author.Tests.{eqb-true, leb-true}
use lib.ListN.{length, get_or, take, drop, length-take, length-drop, length-map, length-reverse}
use lib.Seq.{take-length}
use Rattle.image.specs.Tables.{type_count}
use Rattle.image.specs.Lists.{up_from}
use Rattle.place.specs.declared.elems.ProjectionElem.{ProjectionElem}
use Rattle.place.specs.declared.place_ty.PlaceTy.{PlaceTy}
use Rattle.place.specs.PlaceTypes.{projection_ty, multi_projection_ty}
use Rattle.pattern_matching.specs.Variants.{fields_up_to}
use Rattle.pattern_matching.specs.Slices.{suffix_items}
use Rattle.counting.specs.Reaching.{Argument, zip, in_a_row, by_fields, slice_arguments, some_argument}
use Rattle.meaning.specs.Matching.{record_fields}
use Rattle.meaning.specs.Typing.{TypeNumber}
use Rattle.meaning.specs.Fit.{arguments_fit, row_fits, items_all_fit, fields_there}
use Rattle.meaning.proofs.Children.{Placed, length_from, row_counted, row_placed, items_placed}
use Rattle.fit_own.specs.Failing.{some_true}

-- what can fail on a place of each type that its pattern fits does by its own types, and the other way about
pub data Each (image : List ℕ) : List (PlaceTy → Bool) → List (TypeNumber → Bool) → List Bool → Type 0 where
  none_left : Each image [] [] []
  one_more_lem : {c : PlaceTy → Bool} {f : TypeNumber → Bool} {b : Bool} {cs : List (PlaceTy → Bool)} {fs : List (TypeNumber → Bool)} {bs : List Bool} →
      ((t : ℕ) → t < type_count image → f (some t) ≡ true → c (PlaceTy.Ty t) ≡ b) → Each image cs fs bs → Each image (c ∷ cs) (f ∷ fs) (b ∷ bs)

-- the first n of a row
each_take : {image : List ℕ} {cs : List (PlaceTy → Bool)} {fs : List (TypeNumber → Bool)} {bs : List Bool} (n : ℕ) → Each image cs fs bs → Each image (take n cs) (take n fs) (take n bs)
each_take zero e = none_left
each_take (suc n) none_left = none_left
each_take (suc n) (one_more_lem h e) = one_more_lem h (each_take n e)

-- those behind them
each_drop : {image : List ℕ} {cs : List (PlaceTy → Bool)} {fs : List (TypeNumber → Bool)} {bs : List Bool} (n : ℕ) → Each image cs fs bs → Each image (drop n cs) (drop n fs) (drop n bs)
each_drop zero e = e
each_drop (suc n) none_left = none_left
each_drop (suc n) (one_more_lem h e) = each_drop n e

-- a row backwards, before another
each_onto : {image : List ℕ} {cs cs' : List (PlaceTy → Bool)} {fs fs' : List (TypeNumber → Bool)} {bs bs' : List Bool} → Each image cs fs bs → Each image cs' fs' bs'
    → Each image (reverse_aux cs cs') (reverse_aux fs fs') (reverse_aux bs bs')
each_onto none_left e' = e'
each_onto (one_more_lem h e) e' = each_onto e (one_more_lem h e')

-- as many of each
pub each_length : {image : List ℕ} {cs : List (PlaceTy → Bool)} {fs : List (TypeNumber → Bool)} {bs : List Bool} → Each image cs fs bs → length cs ≡ length fs
each_length none_left = refl
each_length (one_more_lem h e) = ap suc (each_length e)

-- one of two rows
some_append : (image : List ℕ) (ty : PlaceTy) (xs ys : List (Argument (PlaceTy → Bool))) → some_argument image ty (xs ++ ys) ≡ some_argument image ty xs || some_argument image ty ys
unfolding some_argument
some_append image ty [] ys = refl
some_append image ty (x ∷ xs) ys =
    let first = x.what (multi_projection_ty image ty x.elems) in
    ap (λ (b : Bool). first || b) (some_append image ty xs ys) ∙ sym (or_assoc first (some_argument image ty xs) (some_argument image ty ys))

or_swap : (a b c : Bool) → a || (b || c) ≡ b || a || c
or_swap true true c = refl
or_swap true false c = refl
or_swap false true c = refl
or_swap false false c = refl

-- of a row backwards before another
some_onto : (bs cs : List Bool) → some_true (reverse_aux bs cs) ≡ some_true bs || some_true cs
unfolding some_true
some_onto [] cs = refl
some_onto (b ∷ bs) cs = some_onto bs (b ∷ cs) ∙ or_swap (some_true bs) b (some_true cs)

or_none : (b : Bool) → b || false ≡ b
or_none true = refl
or_none false = refl

some_reverse : (bs : List Bool) → some_true (reverse bs) ≡ some_true bs
unfolding some_true
some_reverse bs = some_onto bs [] ∙ or_none (some_true bs)

-- of the first n and those behind them
some_parts : (n : ℕ) (bs : List Bool) → some_true (take n bs) || some_true (drop n bs) ≡ some_true bs
unfolding some_true
some_parts zero bs = refl
some_parts (suc n) [] = refl
some_parts (suc n) (b ∷ bs) = or_assoc b (some_true (take n bs)) (some_true (drop n bs)) ∙ ap (λ (c : Bool). b || c) (some_parts n bs)

-- an element leads from a place of the type ty to one of a type t of the table
abbrev pub Leads : List ℕ → PlaceTy → ProjectionElem → ℕ → Type 0
Leads image ty elem t = (projection_ty ty image elem ≡ PlaceTy.Ty t) × (t < type_count image)

module _ (image : List ℕ) (ty : PlaceTy) where
  -- arguments on elements, of which there are enough
  zip_some : (elems : List ProjectionElem) {cs : List (PlaceTy → Bool)} {fs : List (TypeNumber → Bool)} {bs : List Bool} → Each image cs fs bs → Placed (Leads image ty) elems fs
      → length cs ≤ length elems → some_argument image ty (zip elems cs) ≡ some_true bs
  unfolding zip some_argument some_true multi_projection_ty
  zip_some [] none_left h few = refl
  zip_some [] (one_more_lem g e) h few = absurd (omega arith)
  zip_some (elem ∷ elems) none_left h few = refl
  zip_some (elem ∷ elems) (one_more_lem {c = c} g e) h few = ap₂ (λ (x y : Bool). x || y) (ap c h.0.at.0 ∙ g h.0.ty h.0.at.1 h.0.fits) (zip_some elems e h.1 (omega arith))

  counted : (n : ℕ) → length (fields_up_to n) ≡ n
  counted n = length-map (up_from 0 n) (λ i. ProjectionElem.Field i) ∙ length_from 0 n

  -- arguments in a row
  pub row_some : (ellipsis : Option ℕ) (ts : List ℕ) {cs : List (PlaceTy → Bool)} {fs : List (TypeNumber → Bool)} {bs : List Bool} → Each image cs fs bs
      → ((i : ℕ) → i < length ts → Leads image ty (ProjectionElem.Field i) (get_or ts i 0)) → row_fits ellipsis fs ts ≡ true
      → some_argument image ty (in_a_row ellipsis (length ts) cs) ≡ some_true bs
  unfolding in_a_row arguments_fit
  row_some none ts {cs} {fs} {bs} e at fits =
      let same = eqb-true (length fs) (length ts) (row_counted none fs ts fits) in
      let placed = subst (Placed (Leads image ty) (fields_up_to (length ts))) (take-length fs) (row_placed (Leads image ty) none fs ts at fits).0 in
      zip_some (fields_up_to (length ts)) e placed (omega (arith, each_length e, counted (length ts)))
  row_some (some k) ts {cs} {fs} {bs} e at fits =
      let few = leb-true (length fs) (length ts) (row_counted (some k) fs ts fits) in
      let placed = row_placed (Leads image ty) (some k) fs ts at fits in
      some_append image ty (zip (fields_up_to (length ts)) (take k cs)) (zip (reverse (fields_up_to (length ts))) (reverse (drop k cs)))
      ∙ ap₂ (λ (x y : Bool). x || y)
      (zip_some (fields_up_to (length ts)) (each_take k e) placed.0 (omega (arith, each_length e, counted (length ts), length-take k cs)))
      (zip_some (reverse (fields_up_to (length ts))) (each_onto (each_drop k e) none_left) placed.1
      (omega (arith, each_length e, counted (length ts), length-drop k cs, length-reverse (fields_up_to (length ts)), length-reverse (drop k cs)))
      ∙ some_reverse (drop k bs))
      ∙ some_parts k bs

  -- by fields
  pub fields_some : (fields : List (Option ℕ)) (count : ℕ) {cs : List (PlaceTy → Bool)} {fs : List (TypeNumber → Bool)} {bs : List Bool} → Each image cs fs bs → fields_there fields count ≡ true
      → Placed (Leads image ty) (record_fields fields) fs → some_argument image ty (by_fields fields cs) ≡ some_true (take (length fields) bs)
  unfolding by_fields some_argument some_true record_fields fields_there multi_projection_ty
  fields_some [] count e there h = refl
  fields_some (none ∷ fields) count none_left there h = refl
  fields_some (none ∷ fields) count (one_more_lem g e) there h = absurd (false≢true there)
  fields_some (some i ∷ fields) count none_left there h = refl
  fields_some (some i ∷ fields) count (one_more_lem {c = c} g e) there h =
      ap₂ (λ (x y : Bool). x || y) (ap c h.0.at.0 ∙ g h.0.ty h.0.at.1 h.0.fits)
      (fields_some fields count e (Rattle.image.proofs.Bools.and_right (lib.Dec.ltb i count) (fields_there fields count) there) h.1)

  -- the items of a Slice, all of one type
  pub items_some : (u : ℕ) {cs cs' : List (PlaceTy → Bool)} {fs fs' : List (TypeNumber → Bool)} {bs bs' : List Bool} → Each image cs fs bs → Each image cs' fs' bs'
      → ((i : ℕ) → Leads image ty (ProjectionElem.Index i) u) → ((i : ℕ) → Leads image ty (ProjectionElem.IndexFromEnd i) u) → items_all_fit fs (some u) ≡ true → items_all_fit fs' (some u) ≡ true
      → some_argument image ty (slice_arguments cs cs') ≡ some_true bs || some_true bs'
  unfolding slice_arguments
  items_some u {cs} {cs'} {fs} {fs'} e e' at at' fits fits' =
      let front = map (λ i. ProjectionElem.Index i) (up_from 0 (length cs)) in
      let back = suffix_items (length cs') in
      some_append image ty (zip front cs) (zip back cs')
      ∙ ap₂ (λ (x y : Bool). x || y)
      (zip_some front e (items_placed (Leads image ty) (λ i. ProjectionElem.Index i) 0 (length cs) fs u (λ i h. at (0 + i)) fits)
      (omega (arith, length-map (up_from 0 (length cs)) (λ i. ProjectionElem.Index i), length_from 0 (length cs))))
      (zip_some back e' (items_placed (Leads image ty) (λ i. ProjectionElem.IndexFromEnd (length cs' - 1 - i)) 0 (length cs') fs' u (λ i h. at' (length cs' - 1 - (0 + i))) fits')
      (omega (arith, length-map (up_from 0 (length cs')) (λ i. ProjectionElem.IndexFromEnd (length cs' - 1 - i)), length_from 0 (length cs'))))
