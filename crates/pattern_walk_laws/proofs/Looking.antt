-- Parts of the walk that look at something before anything is done, and parts of it by what they promise. Assumes nothing.
use Rattle.std.specs.Prelude.{Ok, Err}
use mathlib.Core.Path.{◌≡◌, sym, ap, ◌∙◌}
use mathlib.Core.Bool.{true}
use mathlib.Core.List.{List}
use Prim.Native.Nat.{ℕ}
use lib.ListN.{get_or}
use lib.Seq.{get_or-take}
use Rattle.refusals.specs.declared.MirLowerError.{MirLowerError}
use Rattle.refusals.specs.Refusals.{Result}
use Rattle.refusals.specs.Refusals.{done, stopped}
use Rattle.image.specs.declared.PatId.{PatId}
use Rattle.row_tables.specs.Rows.{zeros}
use Rattle.place.specs.declared.Place.{Place}
use Rattle.place.specs.declared.Projected.{Projected}
use Rattle.place.specs.declared.elems.ProjectionElem.{ProjectionElem}
use Rattle.place.specs.declared.place_ty.PlaceTy.{PlaceTy}
use Rattle.place.specs.Places.{projection_of, Projects}
use Rattle.place.specs.PlaceTypes.{multi_projection_ty}
use Rattle.mir.specs.declared.BasicBlockId.{BasicBlockId}
use Rattle.mir.specs.declared.Counts.{Counts}
use Rattle.mir.specs.Locals.{local_ty}
use Rattle.state.specs.State.{Body, decode}
use Rattle.state.proofs.Answering.{kept_refl}
use Rattle.lower_spec.specs.Results.{OptBlock}
use Rattle.pattern_matching.specs.Walking.{Ctx, Out, Walk, refused, step, out}
use Rattle.pattern_matching.specs.Variants.{place_ty}
use Rattle.pattern_walk_spec.specs.Results.{Lowered}
use Rattle.pattern_walk_spec.specs.Answers.{Begins, Placed, ctx_of, Walks}
use Rattle.pattern_walk_spec.proofs.Following.{refuses, answers_by}
use Rattle.pattern_walk_spec.proofs.Sequences.{lowers_skips, lowers_walks}
use Rattle.pattern_entering.proofs.Visiting.{Reached, project_goes, project_reaches}
use Rattle.state.specs.Promises.{Ready}

module _ {defined : Ctx → Walk Out} {c : Counts} {current : BasicBlockId} {els : OptBlock} {t₀ : Body} {v₀ : List ℕ} where
  -- the same by a definition that is equal for these tables
  pub walks_at : {defined₁ : Ctx → Walk Out} {r : Lowered} {t : Body} {v : List ℕ} →
      ((visits : List ℕ) → defined (ctx_of t₀ c visits) ≡ defined₁ (ctx_of t₀ c visits)) →
      Walks defined c current els t₀ v₀ r t v → Walks defined₁ c current els t₀ v₀ r t v
  walks_at same W = record {
    answers = λ visits R H. let F = W.answers visits R H in record { visits' = F.visits'; holds = F.holds; answers = answers_by (same visits) F.answers };
    leaves = W.leaves;
    onward = W.onward;
  }

  -- a refusal before anything is done
  pub walks_refuses : {e : MirLowerError} {p : PatId} → ((visits : List ℕ) → refused e p.0 ≡ defined (ctx_of t₀ c visits)) →
      Walks defined c current els t₀ v₀ (Err (e, p)) t₀ v₀
  walks_refuses same = record {
    answers = λ visits R H. record { visits' = visits; holds = H; answers = refuses (same visits) };
    leaves = λ P. (tt, kept_refl c current.0 t₀);
    onward = tt;
  }

  -- nothing to do
  pub walks_skips : ((ctx : Ctx) → out ctx current els ≡ defined ctx) → Begins c current els → Walks defined c current els t₀ v₀ (Ok (c, current, els)) t₀ v₀
  walks_skips same h = lowers_walks v₀ (lowers_skips same h)

  -- a step that looks at something: it refuses, or the walk goes on with what it saw
  module _ {A : Type 0} (p : PatId) (look : Ctx → Result A) (k : A → Ctx → Walk Out) (same : (ctx : Ctx) → defined ctx ≡ step p.0 (look ctx) (λ a. k a ctx)) where
    pub looks_stops : {e : MirLowerError} → ((visits : List ℕ) → stopped e ≡ look (ctx_of t₀ c visits)) →
        Walks defined c current els t₀ v₀ (Err (e, p)) t₀ v₀
    looks_stops seen = walks_refuses (λ visits.
        ap (λ (r : Result A). step p.0 r (λ a. k a (ctx_of t₀ c visits))) (seen visits)
        ∙ sym (same (ctx_of t₀ c visits)))

    pub looks_then : {a : A} {r : Lowered} {t : Body} {v : List ℕ} → ((visits : List ℕ) → done a ≡ look (ctx_of t₀ c visits)) →
        Walks (λ ctx. k a ctx) c current els t₀ v₀ r t v → Walks defined c current els t₀ v₀ r t v
    looks_then {a = a} seen W = record {
      answers = λ visits R H.
          let F = W.answers visits R H in
          record {
            visits' = F.visits';
            holds = F.holds;
            answers = answers_by
                (ap (λ (r : Result A). step p.0 r (λ a. k a (ctx_of t₀ c visits))) (seen visits) ∙ sym (same (ctx_of t₀ c visits)))
                F.answers;
          };
      leaves = W.leaves;
      onward = W.onward;
    }

-- the type of a place by the words of the body is that by its state
pub place_ty_now : (image : List ℕ) (t : Body) (c : Counts) (place : Place) {ty : PlaceTy} → Placed image t c place →
    ty ≡ multi_projection_ty image (local_ty (get_or t.locals place.local.0 0)) (projection_of place) → ty ≡ place_ty image (decode t c) place
unfolding place_ty decode
place_ty_now image t c place P is =
    is ∙ ap (λ (w : ℕ). multi_projection_ty image (local_ty w) (projection_of place)) (sym (get_or-take c.locals t.locals place.local.0 0 P.root))

-- a place one element on
module _ (place : Place) (elem : ProjectionElem) {onward : Projected} (P : Projects place elem onward) where
  pub projected_reaches : onward.ok ≡ true → Reached place onward.place
  projected_reaches e = project_reaches place elem (project_goes place elem P e)
