-- Tuples, variants, references, slices and bindings refuse with a limit only, if their children that fit do. Assumes nothing.
use mathlib.Core.Path.{◌≡◌, refl, sym, ap, subst}
use mathlib.Core.Bool.{Bool, true, false≢true}
use mathlib.Core.Option.{Option, none, some}
use mathlib.Core.List.{List, [], ◌∷◌, map, reverse, reverse_aux}
use Prim.Native.Nat.{ℕ, zero, suc, ◌+◌, ◌-◌, ◌≤◌, ◌<◌}
use native.Mathlib.Nat.{le_refl}
use borrow.Author.Tests.{le-leb}
use lib.Dec.{leb}
use lib.ListN.{length, get_or, take, drop}
use Rattle.image.specs.declared.kinds.AdtKind.{AdtKind}
use Rattle.image.specs.declared.kinds.BindingMode.{BindingMode}
use Rattle.image.specs.Tables.{type_count}
use Rattle.image.specs.Lists.{member, up_from}
use Rattle.image.specs.Valid.{valid}
use Rattle.image.specs.Types.{Shape, integer, bool, char, str, tuple, adt, reference, array, slice, unknown, ty_of, variant_of}
use Rattle.place.specs.declared.elems.ProjectionElem.{ProjectionElem}
use Rattle.place.specs.declared.place_ty.PlaceTy.{PlaceTy}
use Rattle.place.specs.Elems.{Fits}
use Rattle.place.specs.PlaceTypes.{projection_ty, Named}
use Rattle.place.proofs.Named.{named_projection}
use Rattle.pattern_matching.specs.Walking.{Lowering, out, project, in_check}
use Rattle.pattern_matching.specs.Variants.{pattern_match_adt, fields_up_to, pattern_match_tuple_like, ellipsis_at, tuple_on, tuple_pattern, ref_on, ref_pattern, AdtPatternShape, record_fields, variant_fields, discriminant_test, variant_on, adt_on, pattern_matching_variant}
use Rattle.pattern_matching.specs.Slices.{RestOf, length_test, rest_bound, slice_items, slice_on, suffix_items}
use Rattle.pattern_matching.specs.Patterns.{bind_pattern}
use Rattle.counting.proofs.Passing.{mode_of}
use Rattle.cases_spec.specs.Cases.{kind_number}
use Rattle.meaning.specs.Values.{has_values}
use Rattle.meaning.specs.Matching.{record_fields as field_elems}
use Rattle.meaning.specs.Typing.{TypeNumber, element_type}
use Rattle.meaning.specs.Fit.{row_fits, by_fields_fit, items_all_fit, fields_there, ellipsis_within, has_local}
use Rattle.meaning.proofs.Typed.{tuple_field, struct_field, enum_choice, enum_field, deref_type, index_type, end_index_type, struct_one}
use Rattle.meaning.proofs.Children.{Placed, ellipsis_place, row_placed, record_placed, items_placed, fields_resolved}
use Rattle.fitted.proofs.Stopping.{fine_ok, fine_step}
use Rattle.fitted.proofs.Building.{kept_same}
use Rattle.fitted.proofs.Walks.{Stays, Good, on_kept, fine_out, fine_walk, fine_check, fair_project, fair_on, fine_needed, Row, good_arguments, good_both, good_row}
use Rattle.fitted.proofs.Testing.{fine_binding, fine_length, fine_discriminant}

-- each of a row of lowerings refuses with a limit only on places of the types that its pattern fits
pub data Each (image : List ℕ) : List Lowering → List (TypeNumber → Bool) → Type 0 where
  none_left : Each image [] []
  one_more_lem : {l : Lowering} {f : TypeNumber → Bool} {ls : List Lowering} {fs : List (TypeNumber → Bool)} →
      ((t : ℕ) → t < type_count image → f (some t) ≡ true → Good image (PlaceTy.Ty t) l) → Each image ls fs → Each image (l ∷ ls) (f ∷ fs)

-- the first n of a row
each_take : {image : List ℕ} {ls : List Lowering} {fs : List (TypeNumber → Bool)} (n : ℕ) → Each image ls fs → Each image (take n ls) (take n fs)
each_take zero e = none_left
each_take (suc n) none_left = none_left
each_take (suc n) (one_more_lem h e) = one_more_lem h (each_take n e)

-- those behind them
each_drop : {image : List ℕ} {ls : List Lowering} {fs : List (TypeNumber → Bool)} (n : ℕ) → Each image ls fs → Each image (drop n ls) (drop n fs)
each_drop zero e = e
each_drop (suc n) none_left = none_left
each_drop (suc n) (one_more_lem h e) = each_drop n e

-- a row backwards, before another
each_onto : {image : List ℕ} {ls ls' : List Lowering} {fs fs' : List (TypeNumber → Bool)} → Each image ls fs → Each image ls' fs' → Each image (reverse_aux ls ls') (reverse_aux fs fs')
each_onto none_left e' = e'
each_onto (one_more_lem h e) e' = each_onto e (one_more_lem h e')

-- as many of each
each_length : {image : List ℕ} {ls : List Lowering} {fs : List (TypeNumber → Bool)} → Each image ls fs → length ls ≡ length fs
each_length none_left = refl
each_length (one_more_lem h e) = ap suc (each_length e)

-- an element leads from a place of the type ty to one of a type t of the table
abbrev Leads : List ℕ → PlaceTy → ProjectionElem → ℕ → Type 0
Leads image ty elem t = Fits elem × (projection_ty ty image elem ≡ PlaceTy.Ty t) × (t < type_count image)

-- children on their places
placed_row : {image : List ℕ} {ls : List Lowering} {fs : List (TypeNumber → Bool)} (ty : PlaceTy) (elems : List ProjectionElem) → Each image ls fs → Placed (Leads image ty) elems fs → Row image ty elems ls
placed_row ty [] e h = tt
placed_row ty (elem ∷ elems) none_left h = tt
placed_row {image = image} ty (elem ∷ elems) (one_more_lem {l = l} g e) h =
    let (f, at, few) = h.0.at in
    ((f, subst (λ (x : PlaceTy). Good image x l) (sym at) (g h.0.ty few h.0.fits)), placed_row ty elems e h.1)

-- fields of these types, reached from a place of the type ty
abbrev Fields : List ℕ → PlaceTy → List ℕ → Type 0
Fields image ty ts = (i : ℕ) → i < length ts → Leads image ty (ProjectionElem.Field i) (get_or ts i 0)

-- arguments in a row
pub good_like : {image : List ℕ} {ty : PlaceTy} {ls : List Lowering} {fs : List (TypeNumber → Bool)} (p : ℕ) (ellipsis : Option ℕ) (ts : List ℕ) → Each image ls fs → row_fits ellipsis fs ts ≡ true →
    ellipsis_within ellipsis (length ls) ≡ true → Fields image ty ts → Good image ty (pattern_match_tuple_like p ls (ellipsis_at ellipsis ls) (length ts))
good_like {image = image} {ty = ty} {ls = ls} {fs = fs} p ellipsis ts e fits within at =
    good_row p (ellipsis_at ellipsis ls) (length ts) ls (inside ellipsis within)
    (placed_row ty (fields_up_to (length ts)) (rw same (each_take (ellipsis_place ellipsis (length fs)) e)) placed.0)
    (placed_row ty (reverse (fields_up_to (length ts))) (rw same (each_onto (each_drop (ellipsis_place ellipsis (length fs)) e) none_left)) placed.1)
  where
    inside : (ellipsis : Option ℕ) → ellipsis_within ellipsis (length ls) ≡ true → leb (ellipsis_at ellipsis ls) (length ls) ≡ true
    inside none h = unfold ellipsis_at in le-leb (length ls) (length ls) (le_refl _)
    inside (some n) h = unfold ellipsis_at in h

    at_place : (ellipsis : Option ℕ) → ellipsis_at ellipsis ls ≡ ellipsis_place ellipsis (length fs)
    at_place none = unfold ellipsis_at in each_length e
    at_place (some n) = unfold ellipsis_at in refl

    same : ellipsis_at ellipsis ls ≡ ellipsis_place ellipsis (length fs)
    same = at_place ellipsis

    placed : Placed (Leads image ty) (fields_up_to (length ts)) (take (ellipsis_place ellipsis (length fs)) fs)
        × Placed (Leads image ty) (reverse (fields_up_to (length ts))) (reverse (drop (ellipsis_place ellipsis (length fs)) fs))
    placed = row_placed (Leads image ty) ellipsis fs ts at fits

-- the arguments of a variant whose fields have these types
pub record Fielded (image : List ℕ) (ts : List ℕ) (shape : AdtPatternShape) : Type 0 where
  pub goes : (p : ℕ) (ty : PlaceTy) → Fields image ty ts → Good image ty (variant_fields shape p (length ts))

-- in a row
pub fielded_row : {image : List ℕ} {ls : List Lowering} {fs : List (TypeNumber → Bool)} (ellipsis : Option ℕ) (ts : List ℕ) → Each image ls fs → row_fits ellipsis fs ts ≡ true →
    ellipsis_within ellipsis (length ls) ≡ true → Fielded image ts (AdtPatternShape.Tuple ls ellipsis)
unfolding variant_fields
fielded_row ellipsis ts e fits within = record { goes = λ p ty at. record { goes = (good_like p ellipsis ts e fits within at).goes } }

-- by fields
pub fielded_record : {image : List ℕ} {ls : List Lowering} {fs : List (TypeNumber → Bool)} (fields : List (Option ℕ)) (ts : List ℕ) → Each image ls fs → by_fields_fit fields fs ts ≡ true →
    fields_there fields (length ts) ≡ true → Fielded image ts (AdtPatternShape.Record fields ls)
unfolding variant_fields record_fields
fielded_record {image = image} {ls = ls} {fs = fs} fields ts e fits there =
    record {
      goes = λ p ty at.
          record {
            goes = λ pass c current els place o.
                rw (fields_resolved (length ts) fields there)
                ((good_arguments p (field_elems fields) ls (placed_row ty (field_elems fields) e (record_placed (Leads image ty) fields fs ts at there fits))).goes pass c current els place o);
          };
    }

-- none
pub fielded_unit : (image ts : List ℕ) → Fielded image ts AdtPatternShape.Unit
unfolding variant_fields
fielded_unit image ts = record { goes = λ p ty at. record { goes = λ pass c current els place o. fine_out c current els } }

-- a binding, and what stands below it
pub good_bind : {image : List ℕ} {ty : PlaceTy} {l : Lowering} (bindings : List ℕ) (p b : ℕ) (how : BindingMode) → has_local bindings b ≡ true → Good image ty l → Good image ty (bind_pattern bindings p b how l)
unfolding bind_pattern
good_bind {l = l} bindings p b how e g =
    record {
      goes = λ pass c current els place o.
          fine_walk c (l (mode_of pass) c current els place) _ (g.goes pass c current els place o) (λ r s.
          fine_check pass _ _ (fine_ok (Stays r.ctx) r (kept_same r.ctx.state)) (fine_binding bindings p p b how r.ctx r.then r.else place e));
    }

-- the binding of a rest has a local
abbrev pub RestHas : List ℕ → RestOf → Type 0
RestHas bindings RestOf.none = Unit {0}
RestHas bindings (RestOf.binds q b how) = has_local bindings b ≡ true
RestHas bindings RestOf.ignores = Unit {0}

-- a rest
good_rest : (image : List ℕ) (ty : PlaceTy) (bindings : List ℕ) (p front end : ℕ) (rest : RestOf) → RestHas bindings rest → Good image ty (rest_bound rest bindings p front end)
unfolding rest_bound
good_rest image ty bindings p front end RestOf.none h = record { goes = λ pass c current els place o. fine_out c current els }
good_rest image ty bindings p front end (RestOf.binds q b how) h =
    record {
      goes = λ pass c current els place o.
          fine_check pass _ _ (fine_out c current els)
          (fine_step p (project place _) _ (fair_project place (ProjectionElem.Subslice front end)) (λ place' _. fine_binding bindings p q b how c current els place' h));
    }
good_rest image ty bindings p front end RestOf.ignores h = record { goes = λ pass c current els place o. fine_out c current els }

-- in a valid image, on a place of a type of the table
module _ (image : List ℕ) (v : valid image ≡ true) (few : type_count image ≤ 256) where
  -- what an element leads to is in the table
  pub in_table_lem : (ty : PlaceTy) {u : ℕ} (elem : ProjectionElem) → Named image ty → projection_ty ty image elem ≡ PlaceTy.Ty u → u < type_count image
  in_table_lem ty elem n e = subst (λ (x : PlaceTy). Named image x) e (named_projection image v ty elem n)

  module _ (p t : ℕ) (here : t < type_count image) where
    -- a Tuple
    pub good_tuple : {ls : List Lowering} {fs : List (TypeNumber → Bool)} (ellipsis : Option ℕ) (ts : List ℕ) → (ty_of image t).shape ≡ tuple ts → Each image ls fs → row_fits ellipsis fs ts ≡ true →
        ellipsis_within ellipsis (length ls) ≡ true → Good image (PlaceTy.Ty t) (tuple_pattern image p ls ellipsis)
    unfolding tuple_pattern tuple_on
    good_tuple {ls = ls} ellipsis ts s e fits within =
        record {
          goes = λ pass c current els place o.
              fine_needed p (tuple ts) (λ x. tuple_on x p ls ellipsis (mode_of pass) c current els place) o s ((good_like p ellipsis ts e fits within at).goes pass c current els place o);
        }
      where
        at : Fields image (PlaceTy.Ty t) ts
        at i h = let q = tuple_field image t ts i s h in (tt, q, in_table_lem (PlaceTy.Ty t) (ProjectionElem.Field i) here q)

    -- a Ref
    pub good_ref : {l : Lowering} (u : ℕ) → (ty_of image t).shape ≡ reference u → (u < type_count image → Good image (PlaceTy.Ty u) l) → Good image (PlaceTy.Ty t) (ref_pattern image p l)
    unfolding ref_pattern ref_on
    good_ref {l = l} u s g =
        let q = deref_type image t u s in
        let below = subst (λ (x : PlaceTy). Good image x l) (sym q) (g (in_table_lem (PlaceTy.Ty t) ProjectionElem.Deref here q)) in
        record {
          goes = λ pass c current els place o.
              fine_needed p (reference u) (λ x. ref_on x p l (mode_of pass) c current els place) o s
              (fine_step p (project place ProjectionElem.Deref) _ (fair_on ProjectionElem.Deref tt o) (λ place' o'. below.goes pass c current els place' o'));
        }

    -- a variant of a struct or an enum
    good_kind : (w : ℕ) (kind : AdtKind) (variants : List ℕ) (shape : AdtPatternShape) → (ty_of image t).shape ≡ adt kind variants → has_values kind ≡ true → member w variants ≡ true →
        Fielded image (variant_of image w).fields shape → Good image (PlaceTy.Ty t) (variant_on kind image p w shape)
    unfolding variant_on
    good_kind w AdtKind.Struct variants shape s h m g = record { goes = (g.goes p (PlaceTy.Ty t) at).goes }
      where
        at : Fields image (PlaceTy.Ty t) (variant_of image w).fields
        at i lt = let q = struct_field image t w variants i s (struct_one image t variants w v here s m) lt in (tt, q, in_table_lem (PlaceTy.Ty t) (ProjectionElem.Field i) here q)
    good_kind w AdtKind.Enum variants shape s h m g =
        record {
          goes = λ pass c current els place o.
              fine_walk c (in_check (mode_of pass) (discriminant_test image p w c current els place) (out c current els)) _
              (fine_check pass _ _ (fine_discriminant image few p w c current els place) (fine_out c current els)) (λ r k.
              fine_step p (project place (ProjectionElem.Downcast w)) _ (fair_on (ProjectionElem.Downcast w) tt (on_kept k o)) (λ place' o'.
              below.goes pass r.ctx r.then r.else place' o'));
        }
      where
        choice : projection_ty (PlaceTy.Ty t) image (ProjectionElem.Downcast w) ≡ PlaceTy.Variant t w
        choice = enum_choice image t w variants s m

        named : Named image (PlaceTy.Variant t w)
        named = subst (λ (x : PlaceTy). Named image x) choice (named_projection image v (PlaceTy.Ty t) (ProjectionElem.Downcast w) here)

        at : Fields image (PlaceTy.Variant t w) (variant_of image w).fields
        at i lt = let q = enum_field image t w i lt in (tt, q, in_table_lem (PlaceTy.Variant t w) (ProjectionElem.Field i) named q)

        below : Good image (projection_ty (PlaceTy.Ty t) image (ProjectionElem.Downcast w)) (variant_fields shape p (length (variant_of image w).fields))
        below = subst (λ (x : PlaceTy). Good image x (variant_fields shape p (length (variant_of image w).fields))) (sym choice) (g.goes p (PlaceTy.Variant t w) at)
    good_kind w AdtKind.Union variants shape s h m g = absurd (false≢true h)
    good_kind w AdtKind.Unknown variants shape s h m g = absurd (false≢true h)

    -- a pattern that names one
    pub good_variant : (w : ℕ) (kind : AdtKind) (variants : List ℕ) (shape : AdtPatternShape) → (ty_of image t).shape ≡ adt kind variants → has_values kind ≡ true → member w variants ≡ true →
        Fielded image (variant_of image w).fields shape → Good image (PlaceTy.Ty t) (pattern_matching_variant image p w shape)
    unfolding pattern_matching_variant adt_on
    good_variant w kind variants shape s h m g =
        record {
          goes = λ pass c current els place o.
              fine_needed p (adt kind variants) (λ x. adt_on x image p w shape (mode_of pass) c current els place) o s
              (rw m ((good_kind w kind variants shape s h m g).goes pass c current els place o));
        }

    -- the items of a Slice
    good_items : {ls ls' : List Lowering} {fs fs' : List (TypeNumber → Bool)} (bindings : List ℕ) (rest : RestOf) (u : ℕ) → element_type (ty_of image t).shape ≡ some u → Each image ls fs → Each image ls' fs' →
        items_all_fit fs (some u) ≡ true → items_all_fit fs' (some u) ≡ true → RestHas bindings rest → Good image (PlaceTy.Ty t) (slice_items bindings p ls rest ls')
    unfolding slice_items
    good_items {ls = ls} {ls' = ls'} {fs = fs} {fs' = fs'} bindings rest u s e e' fits fits' h =
        record { goes = (good_both _ _ front (good_both _ _ (good_rest image (PlaceTy.Ty t) bindings p (length ls) (length ls') rest h) back)).goes }
      where
        at : (i : ℕ) → i < length ls → Leads image (PlaceTy.Ty t) (ProjectionElem.Index (0 + i)) u
        at i lt = let q = index_type image t (0 + i) s in (tt, q, in_table_lem (PlaceTy.Ty t) (ProjectionElem.Index (0 + i)) here q)

        from_end : ℕ → ProjectionElem
        from_end i = ProjectionElem.IndexFromEnd (length ls' - 1 - i)

        at' : (i : ℕ) → i < length ls' → Leads image (PlaceTy.Ty t) (from_end (0 + i)) u
        at' i lt = let q = end_index_type image t (length ls' - 1 - (0 + i)) s in (tt, q, in_table_lem (PlaceTy.Ty t) (from_end (0 + i)) here q)

        front : Good image (PlaceTy.Ty t) (pattern_match_adt p (map (λ i. ProjectionElem.Index i) (up_from 0 (length ls))) ls)
        front =
            let elems = map (λ i. ProjectionElem.Index i) (up_from 0 (length ls)) in
            good_arguments p elems ls (placed_row (PlaceTy.Ty t) elems e (items_placed (Leads image (PlaceTy.Ty t)) (λ i. ProjectionElem.Index i) 0 (length ls) fs u at fits))

        back : Good image (PlaceTy.Ty t) (pattern_match_adt p (suffix_items (length ls')) ls')
        back =
            let elems = suffix_items (length ls') in
            good_arguments p elems ls' (placed_row (PlaceTy.Ty t) elems e' (items_placed (Leads image (PlaceTy.Ty t)) from_end 0 (length ls') fs' u at' fits'))

    -- a Slice, on an array or a slice
    pub good_slice : {ls ls' : List Lowering} {fs fs' : List (TypeNumber → Bool)} (bindings : List ℕ) (rest : RestOf) (s : Shape) → (ty_of image t).shape ≡ s → leb 8 (kind_number s) ≡ true →
        Each image ls fs → Each image ls' fs' → items_all_fit fs (element_type s) ≡ true → items_all_fit fs' (element_type s) ≡ true → RestHas bindings rest →
        Good image (PlaceTy.Ty t) (slice_on s image bindings p ls rest ls')
    unfolding slice_on element_type kind_number
    good_slice bindings rest (integer size signed) q k e e' fits fits' h = absurd (false≢true k)
    good_slice bindings rest bool q k e e' fits fits' h = absurd (false≢true k)
    good_slice bindings rest char q k e e' fits fits' h = absurd (false≢true k)
    good_slice bindings rest str q k e e' fits fits' h = absurd (false≢true k)
    good_slice bindings rest (tuple fields) q k e e' fits fits' h = absurd (false≢true k)
    good_slice bindings rest (adt kind variants) q k e e' fits fits' h = absurd (false≢true k)
    good_slice bindings rest (reference u) q k e e' fits fits' h = absurd (false≢true k)
    good_slice bindings rest (array u n) q k e e' fits fits' h = record { goes = (good_items bindings rest u (ap element_type q) e e' fits fits' h).goes }
    good_slice {ls = ls} {ls' = ls'} bindings rest (slice u) q k e e' fits fits' h =
        record {
          goes = λ pass c current els place o.
              fine_walk c (in_check (mode_of pass) (length_test rest image p (length ls + length ls') c current els place) (out c current els)) _
              (fine_check pass _ _ (fine_length image few rest p (length ls + length ls') c current els place) (fine_out c current els)) (λ r g.
              (good_items bindings rest u (ap element_type q) e e' fits fits' h).goes pass r.ctx r.then r.else place (on_kept g o));
        }
    good_slice bindings rest unknown q k e e' fits fits' h = absurd (false≢true k)
