-- The new blocks and statements of a list of parameters are the totals of the lowered parameters' counts. Assumes nothing.
use Rattle.std.specs.Prelude.{None}
use Prim.Native.Nat.{ℕ, ◌+◌, ◌*◌, ◌≤◌, ◌<◌}
use native.Mathlib.Omega.{arith}
use mathlib.Core.Path.{◌≡◌, refl, sym, subst}
use mathlib.Core.Bool.{Bool, true, false, cond}
use mathlib.Core.List.{List, [], ◌∷◌}
use lib.ListN.{length, get_or}
use Rattle.image.specs.Tables.{pattern_count}
use Rattle.image.specs.Valid.{valid}
use Rattle.image.specs.Tree.{tree}
use Rattle.place.specs.declared.place_ty.PlaceTy.{PlaceTy}
use Rattle.mir.specs.declared.BasicBlockId.{BasicBlockId}
use Rattle.pattern_matching.specs.Walking.{Ctx, Out, ok, with_state, local_place}
use Rattle.params_spec.specs.Results.{SelfParam}
use Rattle.params_spec.specs.Params.{Param, ParamsOut, lower_param, lower_params, lower_params_and_bindings}
use Rattle.params_spec.specs.Calls.{params_named}
use Rattle.counting.specs.Reaching.{Reached}
use Rattle.counting.specs.Counting.{total, reached_from, visits_of, new_blocks}
use Rattle.counting.proofs.Ors.{visits_few}
use Rattle.growth.proofs.Walks.{ok_is, walked}
use Rattle.param_runs.specs.Returned.{own_local}
use Rattle.param_runs.specs.Totals.{params_reached, params_blocks, params_statements, first_local, ParamsCounted}
use Rattle.param_runs.proofs.Shutting.{shut_out}
use Rattle.param_runs.proofs.Owning.{param_case}
use Rattle.param_runs.proofs.Declaring.{all_made}
use Rattle.param_runs.proofs.Stepping.{steps}
use Rattle.param_runs.proofs.Tallying.{Tally, visits_append, tally_seq, tally_locals, tally_none, tally_pattern}
use Rattle.param_runs.proofs.Typing.{TypedFrom, typed_later, typed_made, NamedParam, named_first, named_rest, local_typed}

module _ (image bindings : List ℕ) (image_valid : valid image ≡ true) where
  -- a parameter, whose local l has its type
  param_tallied : (q : Param) (l : ℕ) (ctx : Ctx) (current : BasicBlockId) (r : Out) → NamedParam image q → l < length ctx.state.locals → get_or ctx.state.locals l 0 ≡ q.ty →
      lower_param image bindings q.pattern l ctx current ≡ ok r →
      Tally ctx r.ctx (cond (own_local bindings (tree image q.pattern) l) 0 (new_blocks image (tree image q.pattern) (PlaceTy.Ty q.ty) None))
      (cond (own_local bindings (tree image q.pattern) l) [] (reached_from image (tree image q.pattern) (PlaceTy.Ty q.ty)))
  unfolding local_place
  param_tallied q l ctx current r named there typed e =
      param_case image bindings l ctx current P r q.pattern (λ own. rw own (tally_none ctx))
      (λ r₁ other e₁.
      rw other (subst (λ (t : PlaceTy). Tally ctx (shut_out r₁).ctx (new_blocks image (tree image q.pattern) t None) (reached_from image (tree image q.pattern) t))
      (local_typed image ctx.state l q.ty image_valid named.ty typed)
      (tally_pattern image bindings ctx current r₁ (tree image q.pattern) (local_place (record { 0 = l })) there refl e₁))) e
    where
      P : Out → Type 0
      P r =
          Tally ctx r.ctx (cond (own_local bindings (tree image q.pattern) l) 0 (new_blocks image (tree image q.pattern) (PlaceTy.Ty q.ty) None))
          (cond (own_local bindings (tree image q.pattern) l) [] (reached_from image (tree image q.pattern) (PlaceTy.Ty q.ty)))

  -- each parameter in order
  params_tallied : (params : List Param) (l : ℕ) (ctx : Ctx) (current : BasicBlockId) (r : Out) → params_named image params ≡ true → TypedFrom ctx.state.locals l params →
      lower_params image bindings params l ctx current ≡ ok r → Tally ctx r.ctx (params_blocks image bindings params l) (params_reached image bindings params l)
  unfolding lower_params params_blocks params_reached
  params_tallied [] l ctx current r named typed e = subst (λ (r : Out). Tally ctx r.ctx 0 []) (ok_is e) (tally_none ctx)
  params_tallied (q ∷ qs) l ctx current r named (there, is, typed) e =
      walked (lower_param image bindings q.pattern l ctx current) _ e (λ r₁ e₁ e₂.
      let t = param_tallied q l ctx current r₁ (named_first image q qs named) there is e₁ in
      tally_seq t
      (params_tallied qs (l + 1) r₁.ctx r₁.then r (named_rest image q qs named) (typed_later ctx.state.locals r₁.ctx.state.locals (l + 1) qs t.locals t.kept typed) e₂))

-- what is counted from the call to its result
all_tallied : (image : List ℕ) (self : SelfParam) (params : List Param) (bindings : List ℕ) (ctx : Ctx) (current : BasicBlockId) (r : ParamsOut) → valid image ≡ true →
    params_named image params ≡ true → lower_params_and_bindings image self params bindings ctx current ≡ ok r →
    Tally ctx r.ctx (0 + params_blocks image r.bindings params (first_local self ctx)) (params_reached image r.bindings params (first_local self ctx))
all_tallied image self params bindings ctx current r v named e =
    let s = steps image self params bindings ctx current r e in
    let m = (all_made image self params (record { state = ctx.state; bindings = bindings })).at s.made s.declared in
    let t = tally_locals ctx s.made.state _ m.makes in
    let typed = typed_made self params m.others m.makes in
    let w = params_tallied image s.made.bindings v params (first_local self ctx) (with_state ctx s.made.state) current s.end named typed s.params_lowered in
    subst (λ (r : ParamsOut). Tally ctx r.ctx (0 + params_blocks image r.bindings params (first_local self ctx)) (params_reached image r.bindings params (first_local self ctx)))
    (sym s.is) (tally_seq t w)

-- Of every accepted call whose parameters name patterns and types of a valid image.
pub params_counted : (image : List ℕ) (self : SelfParam) (params : List Param) (bindings : List ℕ) (ctx : Ctx) (current : BasicBlockId) (r : ParamsOut) → valid image ≡ true →
    params_named image params ≡ true → lower_params_and_bindings image self params bindings ctx current ≡ ok r → ParamsCounted image self params ctx r
unfolding params_statements
params_counted image self params bindings ctx current r v named e =
    let all = all_tallied image self params bindings ctx current r v named e in
    record { blocks = omega (arith, all.blocks); statements = omega (arith, all.statements); visits = all.visits }

-- the visits of as many patterns are counted as before
pub params_visits_kept : (image : List ℕ) (self : SelfParam) (params : List Param) (bindings : List ℕ) (ctx : Ctx) (current : BasicBlockId) (r : ParamsOut) → valid image ≡ true →
    params_named image params ≡ true → lower_params_and_bindings image self params bindings ctx current ≡ ok r → length r.ctx.visits ≡ length ctx.visits
params_visits_kept image self params bindings ctx current r v named e = (all_tallied image self params bindings ctx current r v named e).listed

-- and there are few of each
pub params_visits_few : (image bindings : List ℕ) (n : ℕ) → valid image ≡ true → pattern_count image ≤ 512 → (params : List Param) (l : ℕ) → params_named image params ≡ true →
    visits_of n (params_reached image bindings params l) ≤ 513 * length params
unfolding params_reached visits_of total
params_visits_few image bindings n v most [] l named = omega arith
params_visits_few image bindings n v most (q ∷ qs) l named =
    let first = (named_first image q qs named).pattern in
    let rs = reached_from image (tree image q.pattern) (PlaceTy.Ty q.ty) in
    let own = own_local bindings (tree image q.pattern) l in
    let one = visits_few image q.pattern (PlaceTy.Ty q.ty) n v first in
    let here = only own rs (omega (arith, one, first, most)) in
    let others = params_visits_few image bindings n v most qs (l + 1) (named_rest image q qs named) in
    let both = visits_append n (cond own [] rs) (params_reached image bindings qs (l + 1)) in
    omega (arith, here, others, both)
  where
    only : (own : Bool) (rs : List Reached) → visits_of n rs ≤ 513 → visits_of n (cond own [] rs) ≤ 513
    only true rs h = omega arith
    only false rs h = h
