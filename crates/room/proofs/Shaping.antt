-- Tuples, references and variants take what is counted of them and their arguments. Assumes nothing.
use mathlib.Core.Path.{◌≡◌, refl, sym, ap, subst, ◌∙◌}
use mathlib.Core.Bool.{Bool, true, false, cond, ◌||◌}
use mathlib.Core.Option.{Option, none, some}
use mathlib.Core.List.{List, [], ◌∷◌}
use Prim.Native.Nat.{ℕ, zero, suc, ◌+◌, ◌≤◌, max}
use native.Mathlib.Nat.{le_trans, le-max_left, le-max_right, max-le, zero-max, le_antisymm}
use native.Mathlib.Omega.{arith}
use lib.ListN.{length}
use Rattle.image.specs.declared.kinds.AdtKind.{AdtKind}
use Rattle.image.specs.Lists.{member}
use Rattle.image.specs.Types.{Shape, integer, bool, char, str, tuple, adt, reference, array, slice, unknown, variant_of}
use Rattle.image.specs.Tree.{Head}
use Rattle.refusals.specs.declared.MirLowerError.{MirLowerError}
use Rattle.place.specs.declared.elems.ProjectionElem.{ProjectionElem}
use Rattle.place.specs.declared.place_ty.PlaceTy.{PlaceTy}
use Rattle.place.specs.PlaceTypes.{projection_ty, multi_projection_ty}
use Rattle.pattern_matching.specs.Walking.{refused, Lowering, step, out, project, in_check}
use Rattle.pattern_matching.specs.Variants.{place_ty, shape_of, needed, pattern_match_tuple_like, ellipsis_at, tuple_on, tuple_pattern, ref_on, ref_pattern, AdtPatternShape, variant_fields, discriminant_test, variant_on, adt_on, pattern_matching_variant}
use Rattle.cases_spec.specs.Cases.{tuple_fields}
use Rattle.counting.specs.Reaching.{Argument, in_a_row, by_fields, field_count, is_enum, downcast, some_argument, Reached, Reaching, testing, naming, through_arguments}
use Rattle.counting.specs.Counting.{one, total}
use Rattle.counting.proofs.Passing.{mode_of}
use Rattle.counting.proofs.Naming.{through_downcast, some_downcast}
use Rattle.fitted.proofs.Walks.{on_kept}
use Rattle.room.specs.Elements.{most_of_arguments}
use Rattle.room.proofs.Telling.{Origin, Sound}
use Rattle.room.proofs.Building.{has_by}
use Rattle.room.proofs.Spending.{idle_naming, free_testing, free_naming, Ends, Spends, spends_none, spends_as, spends_under, spends_refused, spends_both, spends_test, spends_behind}
use Rattle.room.proofs.Rows.{Each, Row, Pays, spends_row, spends_fields}
use Rattle.room.proofs.Testing.{sound_discriminant}

-- what is done by the type of a place, which is known
spends_needed : {A : Type 0} {base : Origin} {image : List ℕ} {ty : PlaceTy} {fails : Bool} {deep : ℕ} {rs : ℕ → List Reached} (p : ℕ) (l : Shape → Lowering) →
    Spends A base image ty (λ mode c current els place. needed p (shape_of image ty) (λ s. l s mode c current els place)) fails deep rs →
    Spends A base image ty (λ mode c current els place. needed p (shape_of image (place_ty image c.state place)) (λ s. l s mode c current els place)) fails deep rs
spends_needed {A = A} {base = base} {image = image} {ty = ty} {deep = deep} p l g =
    record {
      above = g.above;
      goes = λ pass k T F m c current els place at len f h.
          subst (λ (t : PlaceTy). Sound A base (Ends A base T F m pass place deep) (needed p (shape_of image t) (λ s. l s (mode_of pass) c current els place)))
          (sym (on_kept {c = base.ctx} {c' = c} h.kept at.on).typed) (g.goes pass k T F m c current els place at len f h);
    }

module _ {A : Type 0} {base : Origin} {image : List ℕ} (ty : PlaceTy) where
  -- a Tuple
  pub spends_tuple : {ls : List Lowering} {fs : List (PlaceTy → Bool)} {rs : List Reaching} {ds : List (PlaceTy → ℕ)} (h : Head) (ellipsis : Option ℕ) → Each A base image ls fs rs ds →
      Spends A base image ty (tuple_pattern image h.number ls ellipsis) (some_argument image ty (in_a_row ellipsis (field_count (shape_of image ty)) fs))
      (most_of_arguments image ty (in_a_row ellipsis (field_count (shape_of image ty)) ds)) (λ k. testing h k false 0 0 ∷ through_arguments image ty k (in_a_row ellipsis (field_count (shape_of image ty)) rs))
  unfolding tuple_pattern tuple_on field_count tuple_fields
  spends_tuple {ls = ls} {fs = fs} {rs = rs} {ds = ds} h ellipsis e =
      let g = spends_needed h.number (λ s. tuple_on s h.number ls ellipsis) (by (shape_of image ty)) in record { above = g.above; goes = g.goes }
    where
      inner : (n : ℕ) → Spends A base image ty (pattern_match_tuple_like h.number ls (ellipsis_at ellipsis ls) n) (some_argument image ty (in_a_row ellipsis n fs)) (most_of_arguments image ty (in_a_row ellipsis n ds))
          (λ k. testing h k false 0 0 ∷ through_arguments image ty k (in_a_row ellipsis n rs))
      inner n = spends_under (λ k. testing h k false 0 0) (free_testing h) (spends_row h.number n ty ellipsis e)

      by : (o : Option Shape) → Spends A base image ty (λ mode c current els place. needed h.number o (λ s. tuple_on s h.number ls ellipsis mode c current els place))
          (some_argument image ty (in_a_row ellipsis (field_count o) fs)) (most_of_arguments image ty (in_a_row ellipsis (field_count o) ds))
          (λ k. testing h k false 0 0 ∷ through_arguments image ty k (in_a_row ellipsis (field_count o) rs))
      by none = spends_refused MirLowerError.PlaceType h.number tt (inner 0).above
      by (some (integer size signed)) = spends_refused (MirLowerError.TypeError 1) h.number tt (inner 0).above
      by (some bool) = spends_refused (MirLowerError.TypeError 1) h.number tt (inner 0).above
      by (some char) = spends_refused (MirLowerError.TypeError 1) h.number tt (inner 0).above
      by (some str) = spends_refused (MirLowerError.TypeError 1) h.number tt (inner 0).above
      by (some (tuple fields)) = inner (length fields)
      by (some (adt kind variants)) = spends_refused (MirLowerError.TypeError 1) h.number tt (inner 0).above
      by (some (reference t)) = spends_refused (MirLowerError.TypeError 1) h.number tt (inner 0).above
      by (some (array t n)) = spends_refused (MirLowerError.TypeError 1) h.number tt (inner 0).above
      by (some (slice t)) = spends_refused (MirLowerError.TypeError 1) h.number tt (inner 0).above
      by (some unknown) = spends_refused (MirLowerError.TypeError 1) h.number tt (inner 0).above

  -- a Ref
  pub spends_ref : {l : Lowering} {fails : PlaceTy → Bool} {reach : Reaching} {deep : PlaceTy → ℕ} (h : Head) → Pays A base image l fails reach deep →
      Spends A base image ty (ref_pattern image h.number l) (fails (projection_ty ty image ProjectionElem.Deref)) (1 + deep (projection_ty ty image ProjectionElem.Deref))
      (λ k. testing h k false 0 0 ∷ reach (projection_ty ty image ProjectionElem.Deref) k false)
  unfolding ref_pattern ref_on
  spends_ref {l = l} {fails = fails} {reach = reach} {deep = deep} h pays =
      let g = spends_needed h.number (λ s. ref_on s h.number l) (by (shape_of image ty)) in record { above = g.above; goes = g.goes }
    where
      ty' : PlaceTy
      ty' = projection_ty ty image ProjectionElem.Deref

      inner : Spends A base image ty (λ mode c current els place. step h.number (project place ProjectionElem.Deref) (λ place'. l mode c current els place')) (fails ty') (1 + deep ty')
          (λ k. testing h k false 0 0 ∷ reach ty' k false)
      inner = spends_under (λ k. testing h k false 0 0) (free_testing h) (spends_behind h.number ProjectionElem.Deref tt (pays.spends ty'))

      by : (o : Option Shape) → Spends A base image ty (λ mode c current els place. needed h.number o (λ s. ref_on s h.number l mode c current els place)) (fails ty') (1 + deep ty')
          (λ k. testing h k false 0 0 ∷ reach ty' k false)
      by none = spends_refused MirLowerError.PlaceType h.number tt inner.above
      by (some (integer size signed)) = spends_refused (MirLowerError.TypeError 3) h.number tt inner.above
      by (some bool) = spends_refused (MirLowerError.TypeError 3) h.number tt inner.above
      by (some char) = spends_refused (MirLowerError.TypeError 3) h.number tt inner.above
      by (some str) = spends_refused (MirLowerError.TypeError 3) h.number tt inner.above
      by (some (tuple fields)) = spends_refused (MirLowerError.TypeError 3) h.number tt inner.above
      by (some (adt kind variants)) = spends_refused (MirLowerError.TypeError 3) h.number tt inner.above
      by (some (reference t)) = inner
      by (some (array t n)) = spends_refused (MirLowerError.TypeError 3) h.number tt inner.above
      by (some (slice t)) = spends_refused (MirLowerError.TypeError 3) h.number tt inner.above
      by (some unknown) = spends_refused (MirLowerError.TypeError 3) h.number tt inner.above

-- the fields of a variant with n take what their patterns take
pub record Fielded (A : Type 0) (base : Origin) (image : List ℕ) (shape : AdtPatternShape) (fs : ℕ → List (Argument (PlaceTy → Bool))) (ds : ℕ → List (Argument (PlaceTy → ℕ))) (rs : ℕ → List (Argument Reaching)) : Type 0 where
  pub goes : (p n : ℕ) (ty : PlaceTy) → Row A base image ty (variant_fields shape p n) (fs n) (ds n) (rs n)

-- in a row
pub fielded_row : {A : Type 0} {base : Origin} {image : List ℕ} {ls : List Lowering} {fs : List (PlaceTy → Bool)} {rs : List Reaching} {ds : List (PlaceTy → ℕ)} (ellipsis : Option ℕ) →
    Each A base image ls fs rs ds → Fielded A base image (AdtPatternShape.Tuple ls ellipsis) (λ n. in_a_row ellipsis n fs) (λ n. in_a_row ellipsis n ds) (λ n. in_a_row ellipsis n rs)
unfolding variant_fields
fielded_row ellipsis e = record { goes = λ p n ty. let g = spends_row p n ty ellipsis e in record { above = g.above; goes = g.goes } }

-- by fields
pub fielded_record : {A : Type 0} {base : Origin} {image : List ℕ} {ls : List Lowering} {fs : List (PlaceTy → Bool)} {rs : List Reaching} {ds : List (PlaceTy → ℕ)} (fields : List (Option ℕ)) →
    Each A base image ls fs rs ds → Fielded A base image (AdtPatternShape.Record fields ls) (λ n. by_fields fields fs) (λ n. by_fields fields ds) (λ n. by_fields fields rs)
unfolding variant_fields
fielded_record fields e = record { goes = λ p n ty. let g = spends_fields p n ty fields e in record { above = g.above; goes = g.goes } }

-- none
pub fielded_unit : (A : Type 0) (base : Origin) (image : List ℕ) → Fielded A base image AdtPatternShape.Unit (λ n. []) (λ n. []) (λ n. [])
unfolding variant_fields through_arguments some_argument most_of_arguments
fielded_unit A base image = record { goes = λ p n ty. let g = spends_none image ty in record { above = g.above; goes = g.goes } }

-- one more than the greater of two
one_max : (a b x : ℕ) → 1 + a ≤ x → 1 + b ≤ x → 1 + max a b ≤ x
one_max a b zero h k = omega arith
one_max a b (suc x) h k = let l : a ≤ x = omega (arith, h) in let r : b ≤ x = omega (arith, k) in let g = max-le l r in omega (arith, g)

-- behind a Downcast, one element more
most_downcast : (image : List ℕ) (ty : PlaceTy) (v : ℕ) (args : List (Argument (PlaceTy → ℕ))) →
    1 + most_of_arguments image (projection_ty ty image (ProjectionElem.Downcast v)) args ≤ max 1 (most_of_arguments image ty (downcast true v args))
unfolding most_of_arguments downcast multi_projection_ty
most_downcast image ty v [] = le-max_left 1 0
most_downcast image ty v (arg ∷ args) =
    let ty' = projection_ty ty image (ProjectionElem.Downcast v) in
    let n = length arg.elems + arg.what (multi_projection_ty image ty' arg.elems) in
    let n' = suc (length arg.elems) + arg.what (multi_projection_ty image ty' arg.elems) in
    let rest = most_of_arguments image ty (downcast true v args) in
    let a = le-max_left n' rest in
    let b = le-max_right n' rest in
    let c = le-max_right 1 (max n' rest) in
    let d = le-max_left 1 (max n' rest) in
    one_max n (most_of_arguments image ty' args) (max 1 (max n' rest)) (omega (arith, a, c)) (le_trans (most_downcast image ty v args) (max-le d (le_trans b c)))

-- and no more than that
most_within : (image : List ℕ) (ty : PlaceTy) (v : ℕ) (args : List (Argument (PlaceTy → ℕ))) →
    most_of_arguments image ty (downcast true v args) ≤ 1 + most_of_arguments image (projection_ty ty image (ProjectionElem.Downcast v)) args
unfolding most_of_arguments downcast multi_projection_ty
most_within image ty v [] = omega arith
most_within image ty v (arg ∷ args) =
    let ty' = projection_ty ty image (ProjectionElem.Downcast v) in
    let n = length arg.elems + arg.what (multi_projection_ty image ty' arg.elems) in
    let a = le-max_left n (most_of_arguments image ty' args) in
    let b = le-max_right n (most_of_arguments image ty' args) in
    let c = most_within image ty v args in
    max-le (omega (arith, a)) (omega (arith, b, c))

-- the most behind a Downcast
downcast_most : (image : List ℕ) (ty : PlaceTy) (v : ℕ) (args : List (Argument (PlaceTy → ℕ))) →
    1 + most_of_arguments image (projection_ty ty image (ProjectionElem.Downcast v)) args ≡ max 1 (most_of_arguments image ty (downcast true v args))
downcast_most image ty v args = le_antisymm (most_downcast image ty v args) (max-le (omega arith) (most_within image ty v args))

module _ {A : Type 0} {base : Origin} {image : List ℕ} (ty : PlaceTy) (h : Head) where
  -- the test of an enum
  spends_discriminant : (v : ℕ) → Spends A base image ty (λ mode c current els place. in_check mode (discriminant_test image h.number v c current els place) (out c current els)) true 0
      (λ k. naming h k false true ∷ [])
  unfolding total
  spends_discriminant v =
      spends_test true (λ k. naming h k false true) (λ c current els place. discriminant_test image h.number v c current els place) (idle_naming h true) (λ k T F m c current els place f room.
      sound_discriminant image h.number m c F v current els place (f refl) (has_by room _ (omega arith) (omega arith) (omega arith) (omega arith)))

  module _ {shape : AdtPatternShape} {fs : ℕ → List (Argument (PlaceTy → Bool))} {ds : ℕ → List (Argument (PlaceTy → ℕ))} {rs : ℕ → List (Argument Reaching)} (fielded : Fielded A base image shape fs ds rs) (v : ℕ) where
    -- how many fields the variant has
    abbrev count : ℕ
    count = length (variant_of image v).fields

    -- what is counted of a pattern that names a variant
    abbrev Names : Bool → Lowering → Type 0
    Names enum l =
        Spends A base image ty l (enum || some_argument image ty (downcast enum v (fs count))) (max (one enum) (most_of_arguments image ty (downcast enum v (ds count))))
        (λ k. naming h k false enum ∷ through_arguments image ty k (downcast enum v (rs count)))

    -- on a struct nothing is tested
    named_struct : Names false (variant_fields shape h.number count)
    unfolding downcast
    named_struct = spends_as refl (sym (zero-max (most_of_arguments image ty (ds count)))) (λ k. refl) (spends_under (λ k. naming h k false false) (free_naming h) (fielded.goes h.number count ty))

    -- an enum: the test, and then the fields behind a Downcast
    named_enum : Names true (variant_on AdtKind.Enum image h.number v shape)
    unfolding variant_on
    named_enum =
        let ty' = projection_ty ty image (ProjectionElem.Downcast v) in
        let behind = spends_behind h.number (ProjectionElem.Downcast v) tt (fielded.goes h.number count ty') in
        let g = spends_as (ap (λ (b : Bool). true || b) (some_downcast image ty v (fs count))) (zero-max _ ∙ downcast_most image ty v (ds count))
        (λ k. ap (λ (l : List Reached). naming h k false true ∷ l) (through_downcast image ty k v (rs count)))
        (spends_both _ _ (spends_discriminant v) behind) in
        record { above = g.above; goes = g.goes }

    -- an ADT by its kind
    named_kind : (kind : AdtKind) (variants : List ℕ) → Names (is_enum (some (adt kind variants))) (variant_on kind image h.number v shape)
    unfolding variant_on is_enum
    named_kind AdtKind.Struct variants = record { above = named_struct.above; goes = named_struct.goes }
    named_kind AdtKind.Enum variants = named_enum
    named_kind AdtKind.Union variants = let g = spends_refused (MirLowerError.TypeError 6) h.number tt named_struct.above in record { above = g.above; goes = g.goes }
    named_kind AdtKind.Unknown variants = let g = spends_refused (MirLowerError.TypeError 6) h.number tt named_struct.above in record { above = g.above; goes = g.goes }

    -- one that has the variant
    named_member : (kind : AdtKind) (variants : List ℕ) (has : Bool) → Names (is_enum (some (adt kind variants)))
        (λ mode c current els place. cond has (variant_on kind image h.number v shape mode c current els place) (refused (MirLowerError.TypeError 5) h.number))
    named_member kind variants true = named_kind kind variants
    named_member kind variants false = spends_refused (MirLowerError.TypeError 5) h.number tt (named_kind kind variants).above

    -- by what the type of its place is
    named_by_lem : (o : Option Shape) → Names (is_enum o) (λ mode c current els place. needed h.number o (λ s. adt_on s image h.number v shape mode c current els place))
    unfolding adt_on is_enum
    named_by_lem none = spends_refused MirLowerError.PlaceType h.number tt named_struct.above
    named_by_lem (some (integer size signed)) = spends_refused (MirLowerError.TypeError 4) h.number tt named_struct.above
    named_by_lem (some bool) = spends_refused (MirLowerError.TypeError 4) h.number tt named_struct.above
    named_by_lem (some char) = spends_refused (MirLowerError.TypeError 4) h.number tt named_struct.above
    named_by_lem (some str) = spends_refused (MirLowerError.TypeError 4) h.number tt named_struct.above
    named_by_lem (some (tuple fields)) = spends_refused (MirLowerError.TypeError 4) h.number tt named_struct.above
    named_by_lem (some (adt kind variants)) = named_member kind variants (member v variants)
    named_by_lem (some (reference t)) = spends_refused (MirLowerError.TypeError 4) h.number tt named_struct.above
    named_by_lem (some (array t n)) = spends_refused (MirLowerError.TypeError 4) h.number tt named_struct.above
    named_by_lem (some (slice t)) = spends_refused (MirLowerError.TypeError 4) h.number tt named_struct.above
    named_by_lem (some unknown) = spends_refused (MirLowerError.TypeError 4) h.number tt named_struct.above

    -- a pattern that names a variant
    pub spends_named : Names (is_enum (shape_of image ty)) (pattern_matching_variant image h.number v shape)
    unfolding pattern_matching_variant
    spends_named = let g = spends_needed h.number (λ s. adt_on s image h.number v shape) (named_by_lem (shape_of image ty)) in record { above = g.above; goes = g.goes }
