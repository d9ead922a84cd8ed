-- Document 01's start of its corners, "block 0 open, no else, place local 0, one scope open", and what a lowering from there comes to.
-- Assumes nothing: these are definitions.
use Rattle.std.specs.Prelude.{None}
use Rattle.std.specs.Prelude.{ℕ, ◌-◌, not, cond, List, [], ◌∷◌, map}
use Rattle.refusals.specs.Refusals.{Refusal, breaks_a_rule, refusal_at}
use Rattle.row_tables.specs.Rows.{zeros}
use Rattle.image.specs.Tables.{pattern_count, binding_count}
use Rattle.image.specs.Lists.{up_from}
use Rattle.image.specs.Types.{binding_of}
use Rattle.image.specs.Tree.{Pat, tree}
use Rattle.image.specs.Valid.{valid}
use Rattle.place.specs.declared.Place.{Place}
use Rattle.mir.specs.declared.BasicBlockId.{BasicBlockId}
use Rattle.state.specs.State.{State}
use Rattle.lower_spec.specs.Results.{OptBlock}
use Rattle.views.specs.Views.{Mir, mir_of}
use Rattle.pattern_matching.specs.Walking.{Ctx, Out, Walk, ok, refused, local_place}

-- local 0 has the type t, and the locals of the bindings follow in order
unfoldable pub start_state : List ℕ → ℕ → State
start_state image t =
    record {
      blocks = zeros 12 ∷ [];
      statements = [];
      locals = t ∷ map (λ b. (binding_of image b).ty) (up_from 0 (binding_count image));
      scopes = 0 ∷ [];
      entries = [];
    }

unfoldable pub start : List ℕ → ℕ → Ctx
start image t = record { state = start_state image t; visits = zeros (pattern_count image) }

-- a lowering: of an image's patterns, whose bindings' locals are given, from a context, a block, an else or none, and a place
abbrev pub Lowers : Type 0
Lowers = List ℕ → List ℕ → Pat → Ctx → BasicBlockId → OptBlock → Place → Walk Out

-- an answer with the whole content of its listing, and the visits; or the three numbers of a refusal
pub data Answer : Type 0 where
  lowers_to : BasicBlockId → OptBlock → Mir → List ℕ → Answer
  refusal : Refusal → Answer

abbrev pub answer_of : Walk Out → Answer
answer_of (ok r) = lowers_to r.then r.else (mir_of r.ctx.state) r.ctx.visits
answer_of (refused e p) = refusal (refusal_at e p)

-- the last pattern of a valid image, lowered against local 0 of the type t
unfoldable pub answer_by : Lowers → List ℕ → ℕ → Answer
answer_by lowers image t =
    cond (not (valid image)) (refusal breaks_a_rule)
    (answer_of
    (lowers image (up_from 1 (binding_count image)) (tree image (pattern_count image - 1)) (start image t) (record { 0 = 0 }) None (local_place (record { 0 = 0 }))))

-- a corner: an image, the type of local 0, and the answer that is wanted
pub record Row : Type 0 where
  pub image : List ℕ
  pub ty : ℕ
  pub wanted : Answer
