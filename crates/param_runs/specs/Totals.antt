-- How many blocks and statements a list of parameters makes: document 01's counts, over those parameters that are lowered. Assumes nothing: these are definitions.
use Rattle.std.specs.Prelude.{None}
use Rattle.std.specs.Prelude.{ℕ, ◌+◌, ◌<◌, ◌≡◌, cond, List, [], ◌∷◌, ◌++◌, length, get_or}
use Rattle.image.specs.Tree.{tree}
use Rattle.place.specs.declared.place_ty.PlaceTy.{PlaceTy}
use Rattle.pattern_matching.specs.Walking.{Ctx}
use Rattle.params_spec.specs.Results.{SelfParam}
use Rattle.params_spec.specs.Params.{Param, ParamsOut, self_count}
use Rattle.counting.specs.Reaching.{Reached}
use Rattle.counting.specs.Counting.{total, reached_from, visits_of, new_blocks, statements_of}
use Rattle.param_runs.specs.Returned.{own_local}

module _ (image bindings : List ℕ) where
  -- the patterns reached from the parameters that are lowered; the local of the first parameter is l, and the others follow
  unfoldable pub params_reached : List Param → ℕ → List Reached
  params_reached [] l = []
  params_reached (q ∷ qs) l =
      cond (own_local bindings (tree image q.pattern) l) [] (reached_from image (tree image q.pattern) (PlaceTy.Ty q.ty)) ++ params_reached qs (l + 1)

  -- the total of their new blocks
  unfoldable pub params_blocks : List Param → ℕ → ℕ
  params_blocks [] l = 0
  params_blocks (q ∷ qs) l =
      cond (own_local bindings (tree image q.pattern) l) 0 (new_blocks image (tree image q.pattern) (PlaceTy.Ty q.ty) None) + params_blocks qs (l + 1)

  -- the total of their new statements
  unfoldable pub params_statements : List Param → ℕ → ℕ
  params_statements qs l = total statements_of (params_reached qs l)

-- the local of the first parameter: behind self's, if there is one, which is the next one when the call comes
abbrev pub first_local : SelfParam → Ctx → ℕ
first_local self ctx = length ctx.state.locals + self_count self

-- what is counted of a list of parameters lowered from ctx on, which gave r
pub record ParamsCounted (image : List ℕ) (self : SelfParam) (params : List Param) (ctx : Ctx) (r : ParamsOut) : Type 0 where
  -- the new blocks and statements are the totals of the lowered parameters' counts
  pub blocks : length r.ctx.state.blocks ≡ length ctx.state.blocks + params_blocks image r.bindings params (first_local self ctx)
  pub statements : length r.ctx.state.statements ≡ length ctx.state.statements + params_statements image r.bindings params (first_local self ctx)
  -- and so are the visits to each pattern
  pub visits : (n : ℕ) → n < length ctx.visits → get_or r.ctx.visits n 0 ≡ get_or ctx.visits n 0 + visits_of n (params_reached image r.bindings params (first_local self ctx))
