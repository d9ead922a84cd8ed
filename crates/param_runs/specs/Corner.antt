-- The start of the corners on parameters, block 0 open and one scope open, with no local yet, and what parameters come to from there.
-- Assumes nothing: these are definitions.
use Rattle.std.specs.Prelude.{ℕ, Bool, not, cond, ◌&&◌, List, [], ◌∷◌, map}
use Rattle.refusals.specs.Refusals.{Refusal, breaks_a_rule, refusal_at}
use Rattle.row_tables.specs.Rows.{zeros}
use Rattle.image.specs.Tables.{pattern_count, binding_count}
use Rattle.image.specs.Lists.{up_from}
use Rattle.image.specs.Valid.{valid}
use Rattle.mir.specs.declared.BasicBlockId.{BasicBlockId}
use Rattle.views.specs.Views.{Mir, mir_of}
use Rattle.pattern_matching.specs.Walking.{Ctx, Walk, ok, refused}
use Rattle.params_spec.specs.Results.{SelfParam}
use Rattle.params_spec.specs.Params.{Param, ParamsOut, lower_params_and_bindings}
use Rattle.params_spec.specs.Calls.{receiver_apart}
use Rattle.meaning.specs.Values.{Value}
use Rattle.param_runs.specs.Through.{all_fit, bindings_differ}

-- the start
unfoldable pub params_start : List ℕ → Ctx
params_start image =
    record { state = record { blocks = zeros 12 ∷ []; statements = []; locals = []; scopes = 0 ∷ []; entries = [] }; visits = zeros (pattern_count image) }

-- no binding has a local
unfoldable pub unbound : List ℕ → List ℕ
unbound image = map (λ b. 65535) (up_from 0 (binding_count image))

-- the block to go on from, the bindings' locals, the whole content of the listing, and the visits; or the three numbers of a refusal
pub data ParamsAnswer : Type 0 where
  accepted_params : BasicBlockId → List ℕ → Mir → List ℕ → ParamsAnswer
  refused_params : Refusal → ParamsAnswer

-- the answer of a walk
abbrev pub corner_answer_of : Walk ParamsOut → ParamsAnswer
corner_answer_of (ok r) = accepted_params r.then r.bindings (mir_of r.ctx.state) r.ctx.visits
corner_answer_of (refused e p) = refused_params (refusal_at e p)

-- a list of parameters of a valid image, lowered from there, or refused where one is self's binding again
unfoldable pub corner_answer : List ℕ → SelfParam → List Param → ParamsAnswer
corner_answer image self params =
    cond (not (valid image && receiver_apart image self params)) (refused_params breaks_a_rule)
    (corner_answer_of (lower_params_and_bindings image self params (unbound image) (params_start image) (record { 0 = 0 })))

-- a corner: an image, self, the parameters, and the answer that is wanted; values for self and the parameters, and whether these fit
pub record ParamsRow : Type 0 where
  pub image : List ℕ
  pub self : SelfParam
  pub params : List Param
  pub wanted : ParamsAnswer
  pub values : List Value
  pub fit : Bool

-- the bindings' locals of an answer
abbrev pub bound_after : ParamsAnswer → List ℕ
bound_after (accepted_params then bindings body visits) = bindings
bound_after (refused_params numbers) = []

-- the parameters of a corner fit its values, and no binding stands in two of them
unfoldable pub corner_fits : ParamsRow → Bool
corner_fits row =
    all_fit row.image (bound_after row.wanted) row.self row.params 0 row.values && bindings_differ row.image row.self row.params
