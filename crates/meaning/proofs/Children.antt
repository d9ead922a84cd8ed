-- The children of a pattern that fits, each on the place that an element leads to: what holds of each element and its type, down two lists at once.
-- Assumes nothing.
use Prim.Native.Nat.{ℕ, zero, suc, ◌+◌, ◌-◌, ◌≤◌, ◌<◌}
use mathlib.Core.Path.{◌≡◌, refl, sym, ap, ◌∙◌, subst}
use mathlib.Core.Bool.{Bool, true, cond, ◌&&◌, false≢true}
use mathlib.Core.Option.{Option, none, some}
use mathlib.Core.List.{List, [], ◌∷◌, ◌++◌, map, reverse, reverse_aux, reverse_aux-append, map-append}
use native.Mathlib.Nat.{add-zero, zero-add, suc-add}
use native.Mathlib.Omega.{arith}
use borrow.Author.Tests.{eqb-true, leb-true, ltb-true}
use lib.Dec.{eqb, leb, ltb}
use lib.ListN.{length, get_or, take, drop, length-take, length-drop, length-map}
use lib.Seq.{get_or-drop, take-length, drop-length}
use Rattle.image.specs.declared.kinds.AdtKind.{AdtKind}
use Rattle.image.specs.Lists.{up_from}
use Rattle.image.specs.Types.{Shape, integer, bool, char, str, tuple, adt, reference, array, slice, unknown, ty_of, variant_of}
use Rattle.image.specs.Tree.{Pats, nil, cons}
use Rattle.image.proofs.Bools.{and_left, and_right}
use Rattle.place.specs.declared.elems.ProjectionElem.{ProjectionElem}
use Rattle.place.specs.declared.place_ty.PlaceTy.{PlaceTy}
use Rattle.place.specs.PlaceTypes.{projection_ty}
use Rattle.pattern_matching.specs.Variants.{fields_up_to, resolved}
use Rattle.pattern_matching.specs.Patterns.{lowerings}
use Rattle.counting.specs.Reaching.{failing}
use Rattle.meaning.specs.Values.{Value, Values, Adt, unit_value, items, derefed, parts_of, part_at, value_fits, fields_fit, elements_fit}
use Rattle.meaning.specs.Matching.{record_fields, matchers}
use Rattle.meaning.specs.Binding.{binders}
use Rattle.meaning.specs.Typing.{TypeNumber, element_type, field_type}
use Rattle.meaning.specs.Fit.{arguments_fit, fitting, each_fits, row_fits, by_fields_fit, items_all_fit, pat_count, fields_there}
use Rattle.meaning.proofs.Parts.{field_fits, item_fits, fits_tuple, fits_reference, fits_array, fits_slice}
use Rattle.meaning.proofs.Crossing.{none_some}
use Rattle.meaning.proofs.Typed.{tuple_field, struct_field, enum_field, deref_type, index_type, end_index_type}

-- a child that fits a type, of which P holds with the element that leads to it
pub record Child (P : ProjectionElem → ℕ → Type 0) (elem : ProjectionElem) (f : TypeNumber → Bool) : Type 0 where
  pub ty : ℕ
  pub at : P elem ty
  pub fits : f (some ty) ≡ true

-- each child with its element; surplus ones of either are left out
abbrev pub Placed : (ProjectionElem → ℕ → Type 0) → List ProjectionElem → List (TypeNumber → Bool) → Type 0
Placed P [] fs = Unit
Placed P (elem ∷ elems) [] = Unit
Placed P (elem ∷ elems) (f ∷ fs) = Child P elem f × Placed P elems fs

-- the element leads to a place of the type
abbrev pub Typed : List ℕ → PlaceTy → ProjectionElem → ℕ → Type 0
Typed image ty elem t = projection_ty ty image elem ≡ PlaceTy.Ty t

-- and to a part of the value that fits it
abbrev pub Valued : List ℕ → PlaceTy → Value → ProjectionElem → ℕ → Type 0
Valued image ty v elem t = (projection_ty ty image elem ≡ PlaceTy.Ty t) × (value_fits image (part_at elem v) t ≡ true)

-- where the ellipsis stands among so many arguments: behind them all if it is absent
abbrev pub ellipsis_place : Option ℕ → ℕ → ℕ
ellipsis_place none n = n
ellipsis_place (some at) n = at

one_more_lem : (n : ℕ) → 1 + n ≡ suc n
one_more_lem n = omega arith

-- so many numbers from a on and then more
pub from_append : (a m n : ℕ) → up_from a (m + n) ≡ up_from a m ++ up_from (a + m) n
unfolding up_from
from_append a zero n = rw (zero-add n, add-zero a)
from_append a (suc m) n = let e : a + 1 + m ≡ a + suc m = omega arith in rw (suc-add m n) (ap (λ (xs : List ℕ). a ∷ xs) (from_append (a + 1) m n ∙ ap (λ (b : ℕ). up_from (a + 1) m ++ up_from b n) e))

-- they are so many
pub length_from : (a n : ℕ) → length (up_from a n) ≡ n
unfolding up_from
length_from a zero = refl
length_from a (suc n) = ap suc (length_from (a + 1) n)

-- as many arguments in a row as fields, or with an ellipsis at most as many
pub row_counted : (ellipsis : Option ℕ) (fs : List (TypeNumber → Bool)) (ts : List ℕ) → row_fits ellipsis fs ts ≡ true → arguments_fit ellipsis (length fs) (length ts) ≡ true
unfolding row_fits
row_counted none fs ts e = and_left (arguments_fit none (length fs) (length ts)) (each_fits fs ts) e
row_counted (some k) fs ts e =
    let few = arguments_fit (some k) (length fs) (length ts) in
    let front = each_fits (take k fs) ts in
    and_left few front (and_left (few && front) (each_fits (drop k fs) (drop (length ts - (length fs - k)) ts)) e)

-- as many of each as there are patterns in a row
module _ (image : List ℕ) where
  pub fitting_count : (args : Pats) → length (fitting image args) ≡ pat_count args
  unfolding fitting pat_count
  fitting_count nil = refl
  fitting_count (cons q qs) = ap suc (fitting_count qs) ∙ sym (one_more_lem (pat_count qs))

  pub matchers_count : (args : Pats) → length (matchers image args) ≡ pat_count args
  unfolding matchers pat_count
  matchers_count nil = refl
  matchers_count (cons q qs) = ap suc (matchers_count qs) ∙ sym (one_more_lem (pat_count qs))

  pub binders_count : (args : Pats) → length (binders image args) ≡ pat_count args
  unfolding binders pat_count
  binders_count nil = refl
  binders_count (cons q qs) = ap suc (binders_count qs) ∙ sym (one_more_lem (pat_count qs))

  pub failing_count : (args : Pats) → length (failing image args) ≡ pat_count args
  unfolding failing pat_count
  failing_count nil = refl
  failing_count (cons q qs) = ap suc (failing_count qs) ∙ sym (one_more_lem (pat_count qs))

pub lowerings_count : (image bindings : List ℕ) (args : Pats) → length (lowerings image bindings args) ≡ pat_count args
unfolding lowerings pat_count
lowerings_count image bindings nil = refl
lowerings_count image bindings (cons q qs) = ap suc (lowerings_count image bindings qs) ∙ sym (one_more_lem (pat_count qs))

module _ (P : ProjectionElem → ℕ → Type 0) where
  placed_none : (elems : List ProjectionElem) → Placed P elems []
  placed_none [] = tt
  placed_none (elem ∷ elems) = tt

  -- the last first, before others
  placed_reverse : (elems more : List ProjectionElem) (fs others : List (TypeNumber → Bool)) → length elems ≡ length fs → Placed P elems fs → Placed P more others
      → Placed P (reverse_aux elems more) (reverse_aux fs others)
  placed_reverse [] more [] others e h k = k
  placed_reverse [] more (f ∷ fs) others e h k = absurd (omega arith)
  placed_reverse (elem ∷ elems) more [] others e h k = absurd (omega arith)
  placed_reverse (elem ∷ elems) more (f ∷ fs) others e h k = placed_reverse elems (elem ∷ more) fs (f ∷ others) (omega arith) h.1 (h.0, k)

  -- arguments in a row, on the fields from a on
  each_placed : (a : ℕ) (fs : List (TypeNumber → Bool)) (ts : List ℕ) → ((i : ℕ) → i < length ts → P (ProjectionElem.Field (a + i)) (get_or ts i 0)) → length fs ≤ length ts
      → each_fits fs ts ≡ true → Placed P (map (λ i. ProjectionElem.Field i) (up_from a (length ts))) fs
  unfolding each_fits up_from
  each_placed a [] ts at few e = placed_none (map (λ i. ProjectionElem.Field i) (up_from a (length ts)))
  each_placed a (f ∷ fs) [] at few e = absurd (omega arith)
  each_placed a (f ∷ fs) (t ∷ ts) at few e = (
    record { ty = t; at = subst (λ (b : ℕ). P (ProjectionElem.Field b) t) (add-zero a) (at 0 (omega arith)); fits = and_left (f (some t)) (each_fits fs ts) e },
    each_placed (a + 1) fs ts (λ i h. let q : a + suc i ≡ a + 1 + i = omega arith in subst (λ (b : ℕ). P (ProjectionElem.Field b) (get_or ts i 0)) q (at (suc i) (omega arith))) (omega arith)
        (and_right (f (some t)) (each_fits fs ts) e),
  )

  from_zero : (ts : List ℕ) → ((i : ℕ) → i < length ts → P (ProjectionElem.Field i) (get_or ts i 0)) → (i : ℕ) → i < length ts → P (ProjectionElem.Field (0 + i)) (get_or ts i 0)
  from_zero ts at i h = subst (λ (b : ℕ). P (ProjectionElem.Field b) (get_or ts i 0)) (sym (zero-add i)) (at i h)

  -- arguments on the last fields, those from a on, and from the last on
  last_placed : (a : ℕ) (gs : List (TypeNumber → Bool)) (ts : List ℕ) → ((i : ℕ) → i < length ts → P (ProjectionElem.Field i) (get_or ts i 0)) → a ≤ length ts → length gs ≡ length ts - a
      → each_fits gs (drop a ts) ≡ true → Placed P (reverse (fields_up_to (length ts))) (reverse gs)
  last_placed a gs ts at few same e = subst (λ (elems : List ProjectionElem). Placed P elems (reverse gs)) (sym turned) placed
    where
      m : ℕ
      m = length (drop a ts)

      whole : length ts ≡ a + m
      whole = omega (arith, length-drop a ts)

      turned : reverse (fields_up_to (length ts)) ≡ reverse_aux (map (λ i. ProjectionElem.Field i) (up_from a m)) (reverse (fields_up_to a))
      turned =
          ap (λ (n : ℕ). reverse (fields_up_to n)) whole
          ∙ ap (λ (is : List ℕ). reverse (map (λ i. ProjectionElem.Field i) is)) (from_append 0 a m ∙ ap (λ (b : ℕ). up_from 0 a ++ up_from b m) (zero-add a))
          ∙ ap reverse (map-append (λ i. ProjectionElem.Field i) (up_from 0 a) (up_from a m))
          ∙ reverse_aux-append (fields_up_to a) (map (λ i. ProjectionElem.Field i) (up_from a m)) []

      inner : (i : ℕ) → i < m → P (ProjectionElem.Field (a + i)) (get_or (drop a ts) i 0)
      inner i h = subst (P (ProjectionElem.Field (a + i))) (sym (get_or-drop a ts i 0)) (at (a + i) (omega (arith, length-drop a ts)))

      counted : length (map (λ i. ProjectionElem.Field i) (up_from a m)) ≡ length gs
      counted = length-map (up_from a m) (λ i. ProjectionElem.Field i) ∙ length_from a m ∙ length-drop a ts ∙ sym same

      placed : Placed P (reverse_aux (map (λ i. ProjectionElem.Field i) (up_from a m)) (reverse (fields_up_to a))) (reverse gs)
      placed =
          placed_reverse (map (λ i. ProjectionElem.Field i) (up_from a m)) (reverse (fields_up_to a)) gs [] counted
          (each_placed a gs (drop a ts) inner (omega (arith, length-drop a ts)) e) (placed_none (reverse (fields_up_to a)))

  -- the arguments of a row before the ellipsis, and those behind it from the last on
  pub row_placed : (ellipsis : Option ℕ) (fs : List (TypeNumber → Bool)) (ts : List ℕ) → ((i : ℕ) → i < length ts → P (ProjectionElem.Field i) (get_or ts i 0)) → row_fits ellipsis fs ts ≡ true
      → Placed P (fields_up_to (length ts)) (take (ellipsis_place ellipsis (length fs)) fs) × Placed P (reverse (fields_up_to (length ts))) (reverse (drop (ellipsis_place ellipsis (length fs)) fs))
  unfolding row_fits arguments_fit
  row_placed none fs ts at e =
      let same = eqb-true (length fs) (length ts) (and_left (eqb (length fs) (length ts)) (each_fits fs ts) e) in (
        subst (Placed P (fields_up_to (length ts))) (sym (take-length fs))
            (each_placed 0 fs ts (from_zero ts at) (omega arith) (and_right (eqb (length fs) (length ts)) (each_fits fs ts) e)),
        subst (λ (gs : List (TypeNumber → Bool)). Placed P (reverse (fields_up_to (length ts))) (reverse gs)) (sym (drop-length fs)) (placed_none (reverse (fields_up_to (length ts)))),
      )
  row_placed (some k) fs ts at e =
      let few = leb (length fs) (length ts) in
      let front = each_fits (take k fs) ts in
      let end = each_fits (drop k fs) (drop (length ts - (length fs - k)) ts) in
      let le = leb-true (length fs) (length ts) (and_left few front (and_left (few && front) end e)) in (
        each_placed 0 (take k fs) ts (from_zero ts at) (omega (arith, length-take k fs)) (and_right few front (and_left (few && front) end e)),
        last_placed (length ts - (length fs - k)) (drop k fs) ts at (omega arith) (omega (arith, length-drop k fs)) (and_right (few && front) end e),
      )

  -- a Record's arguments, on the fields with their numbers
  pub record_placed : (fields : List (Option ℕ)) (fs : List (TypeNumber → Bool)) (ts : List ℕ) → ((i : ℕ) → i < length ts → P (ProjectionElem.Field i) (get_or ts i 0))
      → fields_there fields (length ts) ≡ true → by_fields_fit fields fs ts ≡ true → Placed P (record_fields fields) fs
  unfolding fields_there by_fields_fit field_type record_fields
  record_placed [] fs ts at there e = tt
  record_placed (none ∷ fields) fs ts at there e = absurd (false≢true there)
  record_placed (some i ∷ fields) [] ts at there e = tt
  record_placed (some i ∷ fields) (f ∷ fs) ts at there e =
      let here = and_left (ltb i (length ts)) (fields_there fields (length ts)) there in
      let first = and_left (f (cond (ltb i (length ts)) (some (get_or ts i 0)) none)) (by_fields_fit fields fs ts) e in (
        record { ty = get_or ts i 0; at = at i (ltb-true i (length ts) here); fits = rw here at first },
        record_placed fields fs ts at (and_right (ltb i (length ts)) (fields_there fields (length ts)) there)
            (and_right (f (cond (ltb i (length ts)) (some (get_or ts i 0)) none)) (by_fields_fit fields fs ts) e),
      )

  -- items that all fit one type, on elements of that type, from a on
  pub items_placed : (elem : ℕ → ProjectionElem) (a n : ℕ) (fs : List (TypeNumber → Bool)) (t : ℕ) → ((i : ℕ) → i < n → P (elem (a + i)) t) → items_all_fit fs (some t) ≡ true
      → Placed P (map elem (up_from a n)) fs
  unfolding items_all_fit up_from
  items_placed elem a zero fs t at e = tt
  items_placed elem a (suc n) [] t at e = tt
  items_placed elem a (suc n) (f ∷ fs) t at e = (
    record { ty = t; at = subst (λ (b : ℕ). P (elem b) t) (add-zero a) (at 0 (omega arith)); fits = and_left (f (some t)) (items_all_fit fs (some t)) e },
    items_placed elem (a + 1) n fs t (λ i h. let q : a + suc i ≡ a + 1 + i = omega arith in subst (λ (b : ℕ). P (elem b) t) q (at (suc i) (omega arith)))
        (and_right (f (some t)) (items_all_fit fs (some t)) e),
  )

-- a Record whose fields are there names the elements of its fields
pub fields_resolved : (count : ℕ) (fields : List (Option ℕ)) → fields_there fields count ≡ true → resolved count fields ≡ some (record_fields fields)
unfolding fields_there resolved record_fields
fields_resolved count [] e = refl
fields_resolved count (none ∷ fields) e = absurd (false≢true e)
fields_resolved count (some i ∷ fields) e =
    rw (and_left (ltb i count) (fields_there fields count) e, fields_resolved count fields (and_right (ltb i count) (fields_there fields count) e))

-- the places of a value's parts, with their types, and the parts fit
module _ (image : List ℕ) (t : ℕ) (x : Value) where
  -- of a tuple
  pub tuple_valued : (ts : List ℕ) → (ty_of image t).shape ≡ tuple ts → value_fits image x t ≡ true → (i : ℕ) → i < length ts → Valued image (PlaceTy.Ty t) x (ProjectionElem.Field i) (get_or ts i 0)
  unfolding part_at parts_of
  tuple_valued ts e fits i h =
      let (vs, q, each) = fits_tuple image x t ts e fits in
      (tuple_field image t ts i e h, rw q (field_fits image vs ts i each h))

  variant_part : (v : ℕ) (vs : Values) → x ≡ Adt v vs → fields_fit image vs (variant_of image v).fields ≡ true → (i : ℕ) → i < length (variant_of image v).fields
      → value_fits image (part_at (ProjectionElem.Field i) x) (get_or (variant_of image v).fields i 0) ≡ true
  unfolding part_at parts_of
  variant_part v vs q each i h = rw q (field_fits image vs (variant_of image v).fields i each h)

  -- of a struct, and of an enum's variant behind its choice
  pub struct_valued : (v : ℕ) (vs : Values) (variants : List ℕ) → (ty_of image t).shape ≡ adt AdtKind.Struct variants → get_or variants 0 0 ≡ v → x ≡ Adt v vs
      → fields_fit image vs (variant_of image v).fields ≡ true → (i : ℕ) → i < length (variant_of image v).fields
      → Valued image (PlaceTy.Ty t) x (ProjectionElem.Field i) (get_or (variant_of image v).fields i 0)
  struct_valued v vs variants e one q each i h = (struct_field image t v variants i e one h, variant_part v vs q each i h)

  pub enum_valued : (v : ℕ) (vs : Values) → x ≡ Adt v vs → fields_fit image vs (variant_of image v).fields ≡ true → (i : ℕ) → i < length (variant_of image v).fields
      → Valued image (PlaceTy.Variant t v) x (ProjectionElem.Field i) (get_or (variant_of image v).fields i 0)
  enum_valued v vs q each i h = (enum_field image t v i h, variant_part v vs q each i h)

  -- of a reference
  pub deref_valued : (u : ℕ) → (ty_of image t).shape ≡ reference u → value_fits image x t ≡ true → Valued image (PlaceTy.Ty t) x ProjectionElem.Deref u
  unfolding part_at derefed
  deref_valued u e fits = let (w, q, inner) = fits_reference image x t u e fits in (deref_type image t u e, rw q inner)

  element_of : (vs : Values) (u i : ℕ) → parts_of x ≡ items vs → elements_fit image vs u ≡ true → i < length (parts_of x) → value_fits image (get_or (parts_of x) i unit_value) u ≡ true
  element_of vs u i q each h = rw q (item_fits image vs u i each (rw q at h))

  -- the elements of an array or a slice fit
  element_fits : (s : Shape) {u : ℕ} → (ty_of image t).shape ≡ s → element_type s ≡ some u → value_fits image x t ≡ true → (i : ℕ) → i < length (parts_of x) → value_fits image (get_or (parts_of x) i unit_value) u ≡ true
  unfolding element_type
  element_fits (integer size signed) e here fits i h = absurd (none_some here)
  element_fits bool e here fits i h = absurd (none_some here)
  element_fits char e here fits i h = absurd (none_some here)
  element_fits str e here fits i h = absurd (none_some here)
  element_fits (tuple fields) e here fits i h = absurd (none_some here)
  element_fits (adt kind variants) e here fits i h = absurd (none_some here)
  element_fits (reference w) e here fits i h = absurd (none_some here)
  element_fits (array w n) {u} e here fits i h =
      let (vs, q, long, each) = fits_array image x t w n e fits in
      let same : w ≡ u = cc in
      subst (λ (y : ℕ). value_fits image (get_or (parts_of x) i unit_value) y ≡ true) same (element_of vs w i (ap parts_of q ∙ (unfold parts_of in refl)) each h)
  element_fits (slice w) {u} e here fits i h =
      let (vs, q, long, each) = fits_slice image x t w e fits in
      let same : w ≡ u = cc in
      subst (λ (y : ℕ). value_fits image (get_or (parts_of x) i unit_value) y ≡ true) same (element_of vs w i (ap parts_of q ∙ (unfold parts_of in refl)) each h)
  element_fits unknown e here fits i h = absurd (none_some here)

  -- of an array or a slice, from the front and from the end
  pub index_valued : {u : ℕ} → element_type (ty_of image t).shape ≡ some u → value_fits image x t ≡ true → (i : ℕ) → i < length (parts_of x) → Valued image (PlaceTy.Ty t) x (ProjectionElem.Index i) u
  unfolding part_at
  index_valued e fits i h = (index_type image t i e, element_fits (ty_of image t).shape refl e fits i h)

  pub end_valued : {u : ℕ} → element_type (ty_of image t).shape ≡ some u → value_fits image x t ≡ true → (i : ℕ) → i < length (parts_of x)
      → Valued image (PlaceTy.Ty t) x (ProjectionElem.IndexFromEnd i) u
  unfolding part_at
  end_valued e fits i h = (end_index_type image t i e, element_fits (ty_of image t).shape refl e fits (length (parts_of x) - 1 - i) (omega arith))
