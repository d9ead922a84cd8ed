-- Variants, and the fields of variants and tuples: a law for each way through the functions. Assumes nothing.
use Rattle.std.specs.Prelude.{Ok, Err}
use mathlib.Core.Path.{◌≡◌, refl, sym, ap, ◌∙◌}
use mathlib.Core.Bool.{true, false}
use mathlib.Core.List.{List}
use Prim.Native.Nat.{ℕ, ◌+◌, ◌-◌, ◌≤◌, ◌<◌}
use native.Mathlib.Omega.{arith}
use lib.ListN.{length, get_or}
use Rattle.refusals.specs.declared.MirLowerError.{MirLowerError}
use Rattle.image.specs.declared.PatId.{PatId}
use Rattle.image.specs.declared.kinds.AdtKind.{AdtKind}
use Rattle.image.specs.Types.{variant_of}
use Rattle.image.specs.Tree.{word?}
use Rattle.place.specs.declared.Place.{Place}
use Rattle.place.specs.declared.Projected.{Projected}
use Rattle.place.specs.declared.elems.ProjectionElem.{ProjectionElem}
use Rattle.place.specs.declared.place_ty.PlaceTy.{PlaceTy}
use Rattle.place.specs.Places.{projection_of, Projects}
use Rattle.place.specs.PlaceTypes.{multi_projection_ty}
use Rattle.mir.specs.declared.BasicBlockId.{BasicBlockId}
use Rattle.mir.specs.declared.Counts.{Counts}
use Rattle.mir.specs.Locals.{local_ty}
use Rattle.lower_spec.specs.Results.{OptBlock}
use Rattle.pattern_matching.specs.declared.MatchingMode.{MatchingMode}
use Rattle.pattern_matching.specs.Walking.{Ctx, Out, Walk, next, step, project}
use Rattle.pattern_matching.specs.Variants as defined
use Rattle.pattern_matching.specs.Variants.{place_ty, pattern_match_tuple_like, ellipsis_at, variant_fields, variant_on, pattern_matching_variant, variant_pattern}
use Rattle.pattern_walk_spec.specs.Results.{Lowered}
use Rattle.pattern_walk_spec.specs.Answers.{Begins, Placed, Lowers, Walks}
use Rattle.pattern_walk_spec.proofs.Sequences.{lowers_walks, walks_by, walks_stops, walks_then}
use Rattle.pattern_parts.specs.Parts.{adt_at, adt_result, fields_there}
use Rattle.pattern_entering.proofs.Visiting.{project_stops, project_goes}
use Rattle.pattern_parts.proofs.Needed.{adt_needed}
use Rattle.pattern_rows.specs.declared.AdtPatternShape.{AdtPatternShape}
use Rattle.pattern_rows.specs.declared.ArgumentRow.{ArgumentRow}
use Rattle.pattern_rows.specs.Rows.{before_ellipsis, smaller}
use Rattle.pattern_nodes.specs.Modes.{enum_test}
use Rattle.pattern_nodes.specs.Arguments.{lowered, shape_of}
use Rattle.pattern_nodes.proofs.Nodes.{applied}
use Rattle.pattern_nodes.proofs.Arguments.{arguments_from, zero_smaller, tuple_like_refused, tuple_like_by_rows}
use Rattle.pattern_nodes.proofs.Shapes.{tuple_shape, record_by_rows, record_refused, unit_shape}
use Rattle.pattern_nodes.proofs.Branches.{no_variant, with_variant}
use Rattle.pattern_walk_laws.proofs.Arguments.{arguments_end}
use Rattle.pattern_walk_laws.proofs.Looking.{walks_refuses, walks_skips, looks_stops, looks_then, place_ty_now}
use Rattle.state.specs.State.{Body}
use Rattle.state.specs.Promises.{Ready}
use Rattle.pattern_parts.specs.declared.adts.VariantOf.{VariantOf}

module _ (image bindings : List ℕ) (p : PatId) (mode : MatchingMode) (c : Counts) (current : BasicBlockId) (els : OptBlock) (place : Place) (t : Body) (v : List ℕ) where
  -- `pattern_match_tuple_like`
  module _ (from count ellipsis fields before : ℕ) (is : before ≡ before_ellipsis ellipsis count) where
    -- what it promises
    abbrev TupleLike : Lowered → Body → List ℕ → Type 0
    TupleLike =
        Walks (λ ctx. pattern_match_tuple_like p.0 (lowered image bindings from count) (ellipsis_at (word? ellipsis) (lowered image bindings from count)) fields mode ctx current els place) c current els t v

    -- more arguments before the ellipsis than there are
    pub tuple_like_stops : count < before → TupleLike (Err (MirLowerError.Ellipsis, p)) t v
    tuple_like_stops h = walks_refuses (λ visits. sym (applied (tuple_like_refused image bindings p.0 from count ellipsis fields (rw is at h)) mode _ current els place))

    module _ (h : before ≤ count) (m : ℕ) (few : m ≡ smaller before fields) where
      -- the arguments behind the ellipsis
      abbrev behind_ellipsis : Out → Walk Out
      behind_ellipsis r = arguments_from ArgumentRow.LastFields image bindings p.0 (from + count) fields 0 (smaller (count - before) fields) mode r.ctx r.then r.else place

      tuple_like_as : (ctx : Ctx) →
          next (arguments_from ArgumentRow.Fields image bindings p.0 from fields 0 m mode ctx current els place) behind_ellipsis
          ≡ pattern_match_tuple_like p.0 (lowered image bindings from count) (ellipsis_at (word? ellipsis) (lowered image bindings from count)) fields mode ctx current els place
      tuple_like_as ctx = rw (few, is) (sym (applied (tuple_like_by_rows image bindings p.0 from count ellipsis fields (rw is at h)) mode ctx current els place))

      -- one before the ellipsis is refused
      pub tuple_like_first : {x : MirLowerError} {at : PatId} {t₁ : Body} {v₁ : List ℕ} →
          Walks (λ ctx. arguments_from ArgumentRow.Fields image bindings p.0 from fields 0 m mode ctx current els place) c current els t v (Err (x, at)) t₁ v₁ → TupleLike (Err (x, at)) t₁ v₁
      tuple_like_first W = walks_by tuple_like_as (walks_stops behind_ellipsis W)

      -- those behind it
      pub tuple_like_then : {c₁ : Counts} {then : BasicBlockId} {other : OptBlock} {t₁ : Body} {v₁ : List ℕ} (n : ℕ) {r : Lowered} {t₂ : Body} {v₂ : List ℕ} → Ready t c →
          Walks (λ ctx. arguments_from ArgumentRow.Fields image bindings p.0 from fields 0 m mode ctx current els place) c current els t v (Ok (c₁, then, other)) t₁ v₁ →
          n ≡ smaller (count - before) fields →
          Walks (λ ctx. arguments_from ArgumentRow.LastFields image bindings p.0 (from + count) fields 0 n mode ctx then other place) c₁ then other t₁ v₁ r t₂ v₂ → TupleLike r t₂ v₂
      tuple_like_then n P W last S = walks_by tuple_like_as (walks_then W P behind_ellipsis (rw last at S))

      -- none is behind it
      pub tuple_like_none_behind : {c₁ : Counts} {then : BasicBlockId} {other : OptBlock} {t₁ : Body} {v₁ : List ℕ} → Ready t c →
          Walks (λ ctx. arguments_from ArgumentRow.Fields image bindings p.0 from fields 0 m mode ctx current els place) c current els t v (Ok (c₁, then, other)) t₁ v₁ →
          count ≡ before → TupleLike (Ok (c₁, then, other)) t₁ v₁
      tuple_like_none_behind {c₁} {then} {other} {t₁} {v₁} P W none =
          let e : count - before ≡ 0 = omega (arith, none) in
          tuple_like_then 0 P W (sym (ap (λ (k : ℕ). smaller k fields) e ∙ zero_smaller fields))
          (arguments_end ArgumentRow.LastFields image bindings p (from + count) fields 0 mode place 0 c₁ then other t₁ v₁ (omega arith) W.onward.begins)

  -- `pattern_matching_variant_fields`
  module _ (fields : ℕ) where
    -- what it promises
    abbrev VariantFields : AdtPatternShape → Lowered → Body → List ℕ → Type 0
    VariantFields shape = Walks (λ ctx. variant_fields (shape_of image bindings shape) p.0 fields mode ctx current els place) c current els t v

    -- none
    pub fields_unit : Begins c current els → VariantFields AdtPatternShape.Unit (Ok (c, current, els)) t v
    fields_unit B = walks_skips (λ ctx. sym (applied (unit_shape image bindings p.0 fields) mode ctx current els place)) B

    -- in a row
    pub fields_tuple : (from count ellipsis : ℕ) {r : Lowered} {t₁ : Body} {v₁ : List ℕ} →
        Walks (λ ctx. pattern_match_tuple_like p.0 (lowered image bindings from count) (ellipsis_at (word? ellipsis) (lowered image bindings from count)) fields mode ctx current els place) c current els t v r t₁ v₁ →
        VariantFields (AdtPatternShape.Tuple from count ellipsis) r t₁ v₁
    fields_tuple from count ellipsis W = walks_by (λ ctx. sym (applied (tuple_shape image bindings p.0 fields from count ellipsis) mode ctx current els place)) W

    -- by fields, one of which is not there
    pub fields_absent : (from count : ℕ) → fields_there image from count fields ≡ false → VariantFields (AdtPatternShape.Record from count) (Err (MirLowerError.UnresolvedField, p)) t v
    unfolding fields_there
    fields_absent from count e = walks_refuses (λ visits. sym (applied (record_refused image bindings p.0 fields from count e) mode _ current els place))

    -- by fields that are all there
    pub fields_record : (from count : ℕ) {r : Lowered} {t₁ : Body} {v₁ : List ℕ} → fields ≤ 65535 → fields_there image from count fields ≡ true →
        Walks (λ ctx. arguments_from ArgumentRow.RecordFields image bindings p.0 from fields 0 count mode ctx current els place) c current els t v r t₁ v₁ →
        VariantFields (AdtPatternShape.Record from count) r t₁ v₁
    unfolding fields_there
    fields_record from count few e W = walks_by (λ ctx. sym (applied (record_by_rows image bindings p.0 fields from count few e) mode ctx current els place)) W

  -- `pattern_matching_variant`: the variant w, whose arguments have a shape
  module _ (w : ℕ) (shape : AdtPatternShape) where
    -- what it promises
    abbrev Variant : Lowered → Body → List ℕ → Type 0
    Variant = Walks (λ ctx. pattern_matching_variant image p.0 w (shape_of image bindings shape) mode ctx current els place) c current els t v

    module _ {ty : PlaceTy} (P : Placed image t c place) (is : ty ≡ multi_projection_ty image (local_ty (get_or t.locals place.local.0 0)) (projection_of place)) where
      variant_looks : (ctx : Ctx) →
          pattern_matching_variant image p.0 w (shape_of image bindings shape) mode ctx current els place
          ≡ step p.0 (adt_at (defined.shape_of image (place_ty image ctx.state place)) w) (λ kind. variant_on kind image p.0 w (shape_of image bindings shape) mode ctx current els place)
      unfolding pattern_matching_variant
      variant_looks ctx = adt_needed p.0 mode ctx current els place image w (shape_of image bindings shape) (defined.shape_of image (place_ty image ctx.state place))

      -- there is no ADT that has the variant
      pub variant_refused : {x : MirLowerError} → adt_result (Err x) ≡ adt_at (defined.shape_of image ty) w → Variant (Err (x, p)) t v
      variant_refused n =
          looks_stops p (λ ctx. adt_at (defined.shape_of image (place_ty image ctx.state place)) w)
          (λ kind ctx. variant_on kind image p.0 w (shape_of image bindings shape) mode ctx current els place) variant_looks
          (λ visits. n ∙ ap (λ (s : PlaceTy). adt_at (defined.shape_of image s) w) (place_ty_now image t c place P is))

      -- a struct
      pub variant_struct : {r : Lowered} {t₁ : Body} {v₁ : List ℕ} (fields : ℕ) → adt_result (Ok VariantOf.Struct) ≡ adt_at (defined.shape_of image ty) w → fields ≡ length (variant_of image w).fields →
          Walks (λ ctx. variant_fields (shape_of image bindings shape) p.0 fields mode ctx current els place) c current els t v r t₁ v₁ → Variant r t₁ v₁
      unfolding variant_on
      variant_struct fields n many W =
          looks_then p (λ ctx. adt_at (defined.shape_of image (place_ty image ctx.state place)) w)
          (λ kind ctx. variant_on kind image p.0 w (shape_of image bindings shape) mode ctx current els place) variant_looks
          (λ visits. n ∙ ap (λ (s : PlaceTy). adt_at (defined.shape_of image s) w) (place_ty_now image t c place P is))
          (walks_by (λ ctx. ap (λ (m : ℕ). variant_fields (shape_of image bindings shape) p.0 m mode ctx current els place) many) W)

      -- an enum
      pub variant_enum : {r : Lowered} {t₁ : Body} {v₁ : List ℕ} → adt_result (Ok VariantOf.Enum) ≡ adt_at (defined.shape_of image ty) w →
          Walks (λ ctx. variant_on AdtKind.Enum image p.0 w (shape_of image bindings shape) mode ctx current els place) c current els t v r t₁ v₁ → Variant r t₁ v₁
      variant_enum n W =
          looks_then p (λ ctx. adt_at (defined.shape_of image (place_ty image ctx.state place)) w)
          (λ kind ctx. variant_on kind image p.0 w (shape_of image bindings shape) mode ctx current els place) variant_looks
          (λ visits. n ∙ ap (λ (s : PlaceTy). adt_at (defined.shape_of image s) w) (place_ty_now image t c place P is)) W

    -- what an enum's variant promises
    abbrev Enum : Lowered → Body → List ℕ → Type 0
    Enum = Walks (λ ctx. variant_on AdtKind.Enum image p.0 w (shape_of image bindings shape) mode ctx current els place) c current els t v

    -- behind the test of an enum: the fields, on the variant
    abbrev behind_test : Out → Walk Out
    behind_test r =
        step p.0 (project place (ProjectionElem.Downcast w)) (λ chosen.
        variant_fields (shape_of image bindings shape) p.0 (length (variant_of image w).fields) mode r.ctx r.then r.else chosen)

    enum_as : (ctx : Ctx) → next (enum_test image p.0 w mode ctx current els place) behind_test ≡ variant_on AdtKind.Enum image p.0 w (shape_of image bindings shape) mode ctx current els place
    unfolding variant_on enum_test
    enum_as ctx = refl

    -- the test is refused
    pub enum_refused : {x : MirLowerError} {at : PatId} {t₁ : Body} →
        Lowers (λ ctx. enum_test image p.0 w mode ctx current els place) c current els t (Err (x, at)) t₁ → Enum (Err (x, at)) t₁ v
    enum_refused L = walks_by enum_as (walks_stops behind_test (lowers_walks v L))

    module _ {c₁ : Counts} {then : BasicBlockId} {other : OptBlock} {t₁ : Body} (P : Ready t c)
        (L : Lowers (λ ctx. enum_test image p.0 w mode ctx current els place) c current els t (Ok (c₁, then, other)) t₁) (chosen : Projected) (Q : Projects place (ProjectionElem.Downcast w) chosen) where
      -- there is no room for the choice of the variant
      pub enum_full : chosen.ok ≡ false → Enum (Err (MirLowerError.Limit, p)) t₁ v
      enum_full e =
          walks_by enum_as
          (walks_then (lowers_walks v L) P behind_test
          (looks_stops p (λ ctx. project place (ProjectionElem.Downcast w)) (λ to ctx. variant_fields (shape_of image bindings shape) p.0 (length (variant_of image w).fields) mode ctx then other to) (λ ctx. refl) (λ visits. project_stops place (ProjectionElem.Downcast w) Q e)))

      -- the fields
      pub enum_fields : {r : Lowered} {t₂ : Body} {v₂ : List ℕ} (fields : ℕ) → chosen.ok ≡ true → fields ≡ length (variant_of image w).fields →
          Walks (λ ctx. variant_fields (shape_of image bindings shape) p.0 fields mode ctx then other chosen.place) c₁ then other t₁ v r t₂ v₂ → Enum r t₂ v₂
      enum_fields fields e many W =
          walks_by enum_as
          (walks_then (lowers_walks v L) P behind_test
          (looks_then p (λ ctx. project place (ProjectionElem.Downcast w)) (λ to ctx. variant_fields (shape_of image bindings shape) p.0 (length (variant_of image w).fields) mode ctx then other to) (λ ctx. refl) (λ visits. project_goes place (ProjectionElem.Downcast w) Q e)
          (walks_by (λ ctx. ap (λ (m : ℕ). variant_fields (shape_of image bindings shape) p.0 m mode ctx then other chosen.place) many) W)))

    -- in `kind`: the word is absent
    pub variant_none : w ≡ 65535 → Walks (λ ctx. variant_pattern image p.0 (word? w) (shape_of image bindings shape) mode ctx current els place) c current els t v (Err (MirLowerError.NotSupported, p)) t v
    variant_none e = walks_refuses (λ visits. sym (applied (no_variant image p.0 w (shape_of image bindings shape) e) mode _ current els place))

    -- it is there
    pub variant_some : {r : Lowered} {t₁ : Body} {v₁ : List ℕ} → (w ≡ 65535 → ⊥) → Variant r t₁ v₁ →
        Walks (λ ctx. variant_pattern image p.0 (word? w) (shape_of image bindings shape) mode ctx current els place) c current els t v r t₁ v₁
    variant_some d W = walks_by (λ ctx. sym (applied (with_variant image p.0 w (shape_of image bindings shape) d) mode ctx current els place)) W
