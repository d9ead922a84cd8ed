-- Ref patterns in `kind`, and `bound`: a law for each way through them. Assumes nothing.
use Rattle.std.specs.Prelude.{Ok, Err}
use mathlib.Core.Path.{◌≡◌, refl, sym, ap, ◌∙◌}
use mathlib.Core.Bool.{true, false}
use mathlib.Core.List.{List}
use Prim.Native.Nat.{ℕ}
use lib.ListN.{get_or}
use Rattle.refusals.specs.declared.MirLowerError.{MirLowerError}
use Rattle.image.specs.declared.PatId.{PatId}
use Rattle.image.specs.declared.kinds.BindingMode.{BindingMode}
use Rattle.image.specs.Tree.{tree, tree?}
use Rattle.place.specs.declared.Place.{Place}
use Rattle.place.specs.declared.Projected.{Projected}
use Rattle.place.specs.declared.elems.ProjectionElem.{ProjectionElem}
use Rattle.place.specs.declared.place_ty.PlaceTy.{PlaceTy}
use Rattle.place.specs.Places.{projection_of, Projects}
use Rattle.place.specs.PlaceTypes.{multi_projection_ty}
use Rattle.mir.specs.declared.BasicBlockId.{BasicBlockId}
use Rattle.mir.specs.declared.Counts.{Counts}
use Rattle.mir.specs.Locals.{local_ty}
use Rattle.lower_spec.specs.Results.{OptBlock}
use Rattle.pattern_matching.specs.declared.MatchingMode.{MatchingMode}
use Rattle.pattern_matching.specs.Walking.{Ctx, Out, Walk, Lowering, next, step, project}
use Rattle.pattern_matching.specs.Variants.{place_ty, shape_of, ref_pattern}
use Rattle.pattern_matching.specs.Patterns.{passing, bind_pattern, pattern_match_inner, lowering?}
use Rattle.pattern_walk_spec.specs.Results.{Lowered}
use Rattle.pattern_walk_spec.specs.Answers.{Placed, Lowers, Walks}
use Rattle.pattern_walk_spec.proofs.Sequences.{lowers_walks, walks_by, walks_stops, walks_then}
use Rattle.pattern_parts.specs.Parts.{reference_at, reference_result}
use Rattle.pattern_entering.proofs.Visiting.{project_stops, project_goes}
use Rattle.pattern_parts.proofs.Needed.{reference_needed}
use Rattle.pattern_nodes.specs.Modes.{bound}
use Rattle.pattern_nodes.proofs.Branches.{no_subpattern, with_subpattern}
use Rattle.pattern_walk_laws.proofs.Looking.{looks_stops, looks_then, place_ty_now}
use Rattle.state.specs.State.{Body}
use Rattle.state.specs.Promises.{Ready}

-- a Ref pattern
module _ (image : List ℕ) (p : PatId) (sub : Lowering) (mode : MatchingMode) (c : Counts) (current : BasicBlockId) (els : OptBlock) (place : Place) (t : Body) (v : List ℕ) where
  -- what it promises
  abbrev Ref : Lowered → Body → List ℕ → Type 0
  Ref = Walks (λ ctx. ref_pattern image p.0 sub mode ctx current els place) c current els t v

  -- the subpattern on what the reference refers to
  abbrev referent : Ctx → Walk Out
  referent ctx = step p.0 (project place ProjectionElem.Deref) (λ onward. sub mode ctx current els onward)

  ref_looks : (ctx : Ctx) → ref_pattern image p.0 sub mode ctx current els place ≡ step p.0 (reference_at (shape_of image (place_ty image ctx.state place))) (λ there. referent ctx)
  unfolding ref_pattern
  ref_looks ctx = reference_needed p.0 mode ctx current els place (shape_of image (place_ty image ctx.state place)) sub

  module _ {ty : PlaceTy} (P : Placed image t c place) (is : ty ≡ multi_projection_ty image (local_ty (get_or t.locals place.local.0 0)) (projection_of place)) where
    -- there is no reference
    pub ref_refused : {x : MirLowerError} → reference_result (Err x) ≡ reference_at (shape_of image ty) → Ref (Err (x, p)) t v
    ref_refused n =
        looks_stops p (λ ctx. reference_at (shape_of image (place_ty image ctx.state place))) (λ there ctx. referent ctx) ref_looks
        (λ visits. n ∙ ap (λ (s : PlaceTy). reference_at (shape_of image s)) (place_ty_now image t c place P is))

    module _ (n : reference_result (Ok tt) ≡ reference_at (shape_of image ty)) {b : Projected} (Q : Projects place ProjectionElem.Deref b) where
      ref_there : {r : Lowered} {t₁ : Body} {v₁ : List ℕ} → Walks referent c current els t v r t₁ v₁ → Ref r t₁ v₁
      ref_there W =
          looks_then p (λ ctx. reference_at (shape_of image (place_ty image ctx.state place))) (λ there ctx. referent ctx) ref_looks
          (λ visits. n ∙ ap (λ (s : PlaceTy). reference_at (shape_of image s)) (place_ty_now image t c place P is)) W

      -- there is no room for the deref
      pub ref_stops : b.ok ≡ false → Ref (Err (MirLowerError.Limit, p)) t v
      ref_stops e =
          ref_there (looks_stops p (λ ctx. project place ProjectionElem.Deref) (λ onward ctx. sub mode ctx current els onward) (λ ctx. refl) (λ visits. project_stops place ProjectionElem.Deref Q e))

      -- the subpattern
      pub ref_goes : {r : Lowered} {t₁ : Body} {v₁ : List ℕ} → b.ok ≡ true → Walks (λ ctx. sub mode ctx current els b.place) c current els t v r t₁ v₁ → Ref r t₁ v₁
      ref_goes e W =
          ref_there (looks_then p (λ ctx. project place ProjectionElem.Deref) (λ onward ctx. sub mode ctx current els onward) (λ ctx. refl) (λ visits. project_goes place ProjectionElem.Deref Q e) W)

-- `bound`: q is the word of the subpattern
module _ (image bindings : List ℕ) (p : PatId) (b q : ℕ) (how : BindingMode) (mode : MatchingMode) (c : Counts) (current : BasicBlockId) (els : OptBlock) (place : Place) where
  -- what it promises
  abbrev Bind : Body → List ℕ → Lowered → Body → List ℕ → Type 0
  Bind = Walks (λ ctx. bind_pattern bindings p.0 b how (lowering? image bindings (tree? (tree image) q)) mode ctx current els place) c current els

  -- the binding, behind the subpattern
  abbrev behind_sub : Out → Walk Out
  behind_sub r = bound bindings p.0 b how mode r.ctx r.then r.else place

  bind_as : (sub : Lowering) (ctx : Ctx) → bind_pattern bindings p.0 b how sub mode ctx current els place ≡ next (sub mode ctx current els place) behind_sub
  unfolding bind_pattern bound
  bind_as sub ctx = refl

  -- no subpattern
  pub bind_alone : {t t₁ : Body} {v : List ℕ} {r : Lowered} → q ≡ 65535 →
      Lowers (λ ctx. bound bindings p.0 b how mode ctx current els place) c current els t r t₁ → Bind t v r t₁ v
  bind_alone {v = v} none F =
      walks_by (λ ctx. sym (ap (λ (sub : Lowering). bind_pattern bindings p.0 b how sub mode ctx current els place) (no_subpattern image bindings q none) ∙ bind_as passing ctx)) (lowers_walks v F)

  module _ (some : q ≡ 65535 → ⊥) where
    bind_with : (ctx : Ctx) →
        next (pattern_match_inner image bindings (tree image q) mode ctx current els place) behind_sub
        ≡ bind_pattern bindings p.0 b how (lowering? image bindings (tree? (tree image) q)) mode ctx current els place
    bind_with ctx =
        sym (ap (λ (sub : Lowering). bind_pattern bindings p.0 b how sub mode ctx current els place) (with_subpattern image bindings q some) ∙ bind_as (pattern_match_inner image bindings (tree image q)) ctx)

    -- the subpattern is refused
    pub bind_stops : {t t₁ : Body} {v v₁ : List ℕ} {x : MirLowerError} {at : PatId} →
        Walks (λ ctx. pattern_match_inner image bindings (tree image q) mode ctx current els place) c current els t v (Err (x, at)) t₁ v₁ → Bind t v (Err (x, at)) t₁ v₁
    bind_stops W = walks_by bind_with (walks_stops behind_sub W)

    -- the binding behind it
    pub bind_then : {t t₁ t₂ : Body} {v v₁ : List ℕ} {c₁ : Counts} {then : BasicBlockId} {other : OptBlock} {r : Lowered} → Ready t c →
        Walks (λ ctx. pattern_match_inner image bindings (tree image q) mode ctx current els place) c current els t v (Ok (c₁, then, other)) t₁ v₁ →
        Lowers (λ ctx. bound bindings p.0 b how mode ctx then other place) c₁ then other t₁ r t₂ → Bind t v r t₂ v₁
    bind_then {v₁ = v₁} P W F = walks_by bind_with (walks_then W P behind_sub (lowers_walks v₁ F))
