-- `pattern_match_inner`: a law for each way through it, before its kind is looked at and by its kind. Assumes nothing.
use Rattle.std.specs.Prelude.{Ok, Err}
use mathlib.Core.Path.{◌≡◌, sym, ap, ◌∙◌}
use mathlib.Core.Bool.{Bool, true, false, cond}
use mathlib.Core.List.{List}
use Prim.Native.Nat.{ℕ, ◌+◌, ◌<◌}
use lib.ListN.{get_or}
use Rattle.refusals.specs.declared.MirLowerError.{MirLowerError}
use Rattle.refusals.specs.Refusals.{done, stopped}
use Rattle.image.specs.declared.PatId.{PatId}
use Rattle.image.specs.declared.rows.PatRow.{PatRow}
use Rattle.image.specs.Tables.{pattern_count}
use Rattle.image.specs.Kinds.{pat_kind, path_kind, binding_mode}
use Rattle.image.specs.Rows.{pat_at}
use Rattle.image.specs.Valid.{valid}
use Rattle.image.specs.Types.{ty_of}
use Rattle.image.specs.Tree.{tree, tree?, word?}
use Rattle.place.specs.declared.Place.{Place}
use Rattle.place.specs.declared.Projected.{Projected}
use Rattle.place.specs.declared.place_ty.PlaceTy.{PlaceTy}
use Rattle.place.specs.Places.{projection_of}
use Rattle.place.specs.PlaceTypes.{multi_projection_ty}
use Rattle.mir.specs.declared.BasicBlockId.{BasicBlockId}
use Rattle.mir.specs.declared.Counts.{Counts}
use Rattle.mir.specs.Locals.{local_ty}
use Rattle.lower_spec.specs.Results.{OptBlock}
use Rattle.pattern_matching.specs.declared.MatchingMode.{MatchingMode}
use Rattle.pattern_matching.specs.Walking.{Ctx, step}
use Rattle.pattern_matching.specs.Variants.{place_ty, shape_of, pattern_match_tuple_like, ellipsis_at, tuple_pattern, ref_pattern, variant_pattern}
use Rattle.pattern_matching.specs.Slices.{slice_on}
use Rattle.pattern_matching.specs.Patterns.{or_pattern, bind_pattern, rest_of, pattern_match_inner, lowering?}
use Rattle.pattern_walk_spec.specs.Results.{Lowered}
use Rattle.pattern_walk_spec.specs.Answers.{Placed, Walks}
use Rattle.pattern_walk_spec.proofs.Sequences.{walks_by}
use Rattle.pattern_entering.specs.Entering.{projected_result, derefs_of}
use Rattle.pattern_parts.specs.Parts.{tuple_at, tuple_result}
use Rattle.pattern_entering.proofs.Visiting.{Reached, derefs_reach, visited_in, enter_stops, enter_goes}
use Rattle.pattern_parts.proofs.Needed.{tuple_needed}
use Rattle.pattern_rows.specs.declared.CompoundKind.{CompoundKind}
use Rattle.pattern_rows.specs.Rows.{compound_kind, variant_word, variant_shape}
use Rattle.pattern_nodes.specs.Leaves.{is_leaf}
use Rattle.pattern_nodes.specs.Arguments as arguments
use Rattle.pattern_nodes.specs.Arguments.{lowered}
use Rattle.pattern_nodes.specs.Nodes.{kind_pattern}
use Rattle.pattern_nodes.proofs.Nodes.{by_read_row, applied}
use Rattle.pattern_nodes.proofs.Branches.{tuple_by_kind, or_by_kind, slice_by_kind, bind_by_kind, ref_by_kind, variant_by_kind}
use Rattle.pattern_walk_laws.specs.Walk.{Inner}
use Rattle.pattern_walk_laws.proofs.Looking.{looks_stops, looks_then, place_ty_now}
use Rattle.state.specs.State.{Body}

-- the derefs of a pattern: there is no room for them, or the place behind them
derefs_full : (place : Place) (n : ℕ) (b : Projected) → projected_result b ≡ derefs_of place n → b.ok ≡ false → stopped MirLowerError.Limit ≡ derefs_of place n
derefs_full place n b is e = ap (λ (t : Bool). cond t (done b.place) (stopped MirLowerError.Limit)) (sym e) ∙ is

pub derefs_done : (place : Place) (n : ℕ) (b : Projected) → projected_result b ≡ derefs_of place n → b.ok ≡ true → done b.place ≡ derefs_of place n
derefs_done place n b is e = ap (λ (t : Bool). cond t (done b.place) (stopped MirLowerError.Limit)) (sym e) ∙ is

pub derefs_reached : (place : Place) (n : ℕ) (b : Projected) → projected_result b ≡ derefs_of place n → b.ok ≡ true → Reached place b.place
derefs_reached place n b is e = derefs_reach place n (derefs_done place n b is e)

-- `pattern_match_inner`: v is the visits' table before, and v₁ the one after p is visited
module _ (image bindings : List ℕ) (p : PatId) (row : PatRow) (mode : MatchingMode) (c : Counts) (current : BasicBlockId) (els : OptBlock) (place : Place) (t : Body) (v : List ℕ) {v₁ : List ℕ} (b : Projected)
    (good : valid image ≡ true) (h : p.0 < pattern_count image) (same : row ≡ pat_at image p.0) (seen : v₁ ≡ visited_in v p) (is : projected_result b ≡ derefs_of place row.derefs) where
  -- there is no room for the derefs
  pub inner_stops : b.ok ≡ false → Inner image bindings p mode c current els place t v (Err (MirLowerError.Limit, p)) t v₁
  inner_stops e =
      rw seen
      (walks_by (λ ctx. sym (applied (by_read_row image bindings p.0 row good h same) mode ctx current els place))
      (enter_stops p row.derefs (kind_pattern (pat_kind row.kind) image bindings p.0 row) mode c current els place t v (derefs_full place row.derefs b is e)))

  -- it goes on by its kind
  pub inner_goes : {r : Lowered} {t₂ : Body} {v₂ : List ℕ} → b.ok ≡ true →
      Walks (λ ctx. kind_pattern (pat_kind row.kind) image bindings p.0 row mode ctx current els b.place) c current els t v₁ r t₂ v₂ → Inner image bindings p mode c current els place t v r t₂ v₂
  inner_goes e W =
      walks_by (λ ctx. sym (applied (by_read_row image bindings p.0 row good h same) mode ctx current els place))
      (enter_goes p row.derefs (kind_pattern (pat_kind row.kind) image bindings p.0 row) mode c current els place t v (derefs_done place row.derefs b is e) (rw seen at W))

-- by its kind
module _ (image bindings : List ℕ) (p : PatId) (row : PatRow) (mode : MatchingMode) (c : Counts) (current : BasicBlockId) (els : OptBlock) (place : Place) (t : Body) (v : List ℕ) where
  -- what it promises
  abbrev Kind : Lowered → Body → List ℕ → Type 0
  Kind = Walks (λ ctx. kind_pattern (pat_kind row.kind) image bindings p.0 row mode ctx current els place) c current els t v

  module _ (e : compound_kind (pat_kind row.kind) ≡ CompoundKind.Tuple) {ty : PlaceTy} (P : Placed image t c place)
      (is : ty ≡ multi_projection_ty image (local_ty (get_or t.locals place.local.0 0)) (projection_of place)) where
    -- a Tuple pattern, by how many fields the tuple at the place has
    tuple_looks : (ctx : Ctx) →
        kind_pattern (pat_kind row.kind) image bindings p.0 row mode ctx current els place
        ≡ step p.0 (tuple_at (shape_of image (place_ty image ctx.state place))) (λ n. pattern_match_tuple_like p.0 (lowered image bindings row.a row.b) (ellipsis_at (word? row.c) (lowered image bindings row.a row.b)) n mode ctx current els place)
    unfolding tuple_pattern
    tuple_looks ctx =
        applied (tuple_by_kind (pat_kind row.kind) image bindings p.0 row e) mode ctx current els place
        ∙ tuple_needed p.0 mode ctx current els place (shape_of image (place_ty image ctx.state place)) (lowered image bindings row.a row.b) (word? row.c)

    pub kind_no_tuple : {x : MirLowerError} → tuple_result (Err x) ≡ tuple_at (shape_of image ty) → Kind (Err (x, p)) t v
    kind_no_tuple n =
        looks_stops p (λ ctx. tuple_at (shape_of image (place_ty image ctx.state place)))
        (λ fields ctx. pattern_match_tuple_like p.0 (lowered image bindings row.a row.b) (ellipsis_at (word? row.c) (lowered image bindings row.a row.b)) fields mode ctx current els place)
        tuple_looks (λ visits. n ∙ ap (λ (s : PlaceTy). tuple_at (shape_of image s)) (place_ty_now image t c place P is))

    pub kind_tuple : {fields : ℕ} {r : Lowered} {t₁ : Body} {v₁ : List ℕ} → tuple_result (Ok fields) ≡ tuple_at (shape_of image ty) →
        Walks (λ ctx. pattern_match_tuple_like p.0 (lowered image bindings row.a row.b) (ellipsis_at (word? row.c) (lowered image bindings row.a row.b)) fields mode ctx current els place) c current els t v r t₁ v₁ →
        Kind r t₁ v₁
    kind_tuple n W =
        looks_then p (λ ctx. tuple_at (shape_of image (place_ty image ctx.state place)))
        (λ fields ctx. pattern_match_tuple_like p.0 (lowered image bindings row.a row.b) (ellipsis_at (word? row.c) (lowered image bindings row.a row.b)) fields mode ctx current els place)
        tuple_looks (λ visits. n ∙ ap (λ (s : PlaceTy). tuple_at (shape_of image s)) (place_ty_now image t c place P is)) W

  module _ {r : Lowered} {t₁ : Body} {v₁ : List ℕ} where
    -- an Or
    pub kind_or : compound_kind (pat_kind row.kind) ≡ CompoundKind.Or →
        Walks (λ ctx. or_pattern p.0 (lowered image bindings row.a row.b) mode ctx current els place) c current els t v r t₁ v₁ → Kind r t₁ v₁
    kind_or e W = walks_by (λ ctx. sym (applied (or_by_kind (pat_kind row.kind) image bindings p.0 row e) mode ctx current els place)) W

    -- a Slice
    pub kind_slice : compound_kind (pat_kind row.kind) ≡ CompoundKind.Slice →
        Walks (λ ctx. slice_on (ty_of image row.ty).shape image bindings p.0 (lowered image bindings row.a row.b) (rest_of (tree? (tree image) row.d)) (lowered image bindings (row.a + row.b) row.c) mode ctx current els place) c current els t v r t₁ v₁ →
        Kind r t₁ v₁
    kind_slice e W = walks_by (λ ctx. sym (applied (slice_by_kind (pat_kind row.kind) image bindings p.0 row e) mode ctx current els place)) W

    -- a Bind
    pub kind_bind : compound_kind (pat_kind row.kind) ≡ CompoundKind.Bind →
        Walks (λ ctx. bind_pattern bindings p.0 row.a (binding_mode row.c) (lowering? image bindings (tree? (tree image) row.b)) mode ctx current els place) c current els t v r t₁ v₁ → Kind r t₁ v₁
    kind_bind e W = walks_by (λ ctx. sym (applied (bind_by_kind (pat_kind row.kind) image bindings p.0 row e) mode ctx current els place)) W

    -- a Ref
    pub kind_ref : compound_kind (pat_kind row.kind) ≡ CompoundKind.Ref →
        Walks (λ ctx. ref_pattern image p.0 (pattern_match_inner image bindings (tree image row.a)) mode ctx current els place) c current els t v r t₁ v₁ → Kind r t₁ v₁
    kind_ref e W = walks_by (λ ctx. sym (applied (ref_by_kind (pat_kind row.kind) image bindings p.0 row e) mode ctx current els place)) W

    -- one that names a variant
    pub kind_variant : valid image ≡ true → p.0 < pattern_count image → row ≡ pat_at image p.0 → is_leaf (pat_kind row.kind) (path_kind row.a) ≡ false →
        compound_kind (pat_kind row.kind) ≡ CompoundKind.Variant →
        Walks (λ ctx. variant_pattern image p.0 (word? (variant_word row)) (arguments.shape_of image bindings (variant_shape row)) mode ctx current els place) c current els t v r t₁ v₁ → Kind r t₁ v₁
    kind_variant good h same leaf e W = walks_by (λ ctx. sym (applied (variant_by_kind image p.0 row good h same bindings leaf e) mode ctx current els place)) W
