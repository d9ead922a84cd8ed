-- The public call, by what `open_params` answers. Assumes nothing.
use Rattle.std.specs.Prelude.{Err}
use Prim.Native.Nat.{ℕ}
use mathlib.Core.Path.{◌≡◌, refl}
use mathlib.Core.Bool.{Bool, ◌&&◌}
use mathlib.Core.List.{List}
use Rattle.image.specs.declared.Tables.{Tables}
use Rattle.image.specs.Valid.{valid}
use Rattle.image.proofs.Bools.{and_true}
use Rattle.mir.specs.declared.BasicBlockId.{BasicBlockId}
use Rattle.mir.specs.declared.Counts.{Counts}
use Rattle.state.specs.State.{Body}
use Rattle.calls_spec.specs.Calls.{Called}
use Rattle.calls_spec.proofs.Calling.{no_rules, no_names_lem, steps, gives_bad_image, gives_bad_call}
use Rattle.body_calls_spec.specs.Calls.{body_taken}
use Rattle.pattern_walk_spec.specs.Calls.{by_walk, start_ctx}
use Rattle.params_spec.specs.Results.{SelfParam}
use Rattle.params_spec.specs.Results.{ParamsCall}
use Rattle.params_spec.specs.Params.{ParamsOut, lower_params_and_bindings}
use Rattle.params_spec.specs.Calls.{params_of, list_holds, params_hold, params_call, params_way, GivesParams}
use Rattle.param_locals.specs.Looking.{opened_params, ParamsTaken}
use Rattle.param_locals.proofs.Opening.{not_image, not_call}
use Rattle.params_laws.proofs.Stepping.{params_by}
use Rattle.body_calls_spec.specs.declared.Unopened.{Unopened}
use Rattle.body_calls_spec.specs.Unopened.{pattern_call_error}
use Rattle.body_calls_spec.specs.declared.PatternCallError.{PatternCallError}

module _ (image words : List ℕ) (self : SelfParam) (bindings : List ℕ) (b : Body) (c : Counts) (current : BasicBlockId) where
  -- whether image and list keep the rules, and whether all else names something
  abbrev rules : Bool
  rules = valid image && list_holds image self words

  abbrev names : Bool
  names = body_taken image b c && params_hold image self bindings b.blocks c current

  -- the call's own step
  abbrev own : Called ParamsOut
  own = by_walk (lower_params_and_bindings image self (params_of words) bindings (start_ctx b c) current)

  -- the image or the list breaks a rule
  bad_image_lem : {visits : List ℕ} → (Err Unopened.BadImage) ≡ opened_params image words self bindings b c current →
      GivesParams bindings b visits c (params_call image words self bindings b c current) (Err PatternCallError.BadImage) bindings b visits
  unfolding params_call
  bad_image_lem e = params_by (no_rules rules names own (not_image image words self bindings b c current e)) (record { visits = record { gives = gives_bad_image params_way refl; visits = refl }; locals = refl })

  -- the body or a value of the call names nothing
  bad_call_lem : {visits : List ℕ} → (Err Unopened.BadCall) ≡ opened_params image words self bindings b c current →
      GivesParams bindings b visits c (params_call image words self bindings b c current) (Err PatternCallError.BadCall) bindings b visits
  unfolding params_call
  bad_call_lem e =
      let n = not_call image words self bindings b c current e in
      params_by (no_names_lem rules names own n.0 n.1) (record { visits = record { gives = gives_bad_call params_way refl; visits = refl }; locals = refl })

  pub not_opened_lem : {visits : List ℕ} (why : Unopened) → Err why ≡ opened_params image words self bindings b c current →
      GivesParams bindings b visits c (params_call image words self bindings b c current) (Err (pattern_call_error why)) bindings b visits
  not_opened_lem Unopened.BadImage e = bad_image_lem e
  not_opened_lem Unopened.BadCall e = bad_call_lem e

  -- all is taken, and the call comes to its own step
  pub goes_on_lem : {tables : Tables} {r : ParamsCall} {visits m v : List ℕ} {b₁ : Body} → ParamsTaken image tables words self bindings b c current →
      GivesParams bindings b visits c own r m b₁ v → GivesParams bindings b visits c (params_call image words self bindings b c current) r m b₁ v
  unfolding params_call
  goes_on_lem T G =
      params_by
      (steps rules names own (and_true (valid image) _ T.both.valid_image T.list) (and_true (body_taken image b c) _ T.both.body T.call))
      G
