-- The step of `push_drop_scope`, by the contracts of what it calls. Assumes nothing.
use Rattle.std.specs.Prelude.{Ok, Err}
use mathlib.Core.Path.{◌≡◌, refl, sym, ap, ◌∙◌}
use Rattle.refusals.specs.declared.MirLowerError.{MirLowerError}
use Rattle.refusals.specs.Refusals.{no_pattern}
use Rattle.mir.specs.declared.Counts.{Counts}
use Rattle.state.specs.State.{Body, decode}
use Rattle.state.specs.Steps.{try_scope}
use Rattle.calls_spec.specs.Calls.{by_step}
use Rattle.body_calls_spec.specs.Sizes.{Sized}
use Rattle.body_calls_spec.proofs.Clearing.{Cleared, counted}
use Rattle.body_scopes.specs.Promises.{Opens}
use Rattle.calls_spec.specs.Promises.{Gives}
use Rattle.body_calls_spec.specs.Answers.{scope_way}
use Rattle.body_calls_spec.proofs.Replying.{accepts, refuses}
use Rattle.body_calls_spec.specs.declared.CallError.{CallError}

-- the body b was found, b₁ is the one after zeros were written above the counts c, and b₂ the one behind the step
module _ {b b₁ b₂ : Body} {c : Counts} (C : Cleared b c b₁) where
  -- a scope is opened
  pub scope_pushed : {c' : Counts} → Opens c b₁ (Ok c') b₂ → Gives scope_way b c (by_step (try_scope (decode b c))) (Ok c') b₂
  scope_pushed {c' = c'} O =
      let N = O.adds 0 C.ready in
      accepts c' (decode b₂ c') (ap by_step (N.says ∙ ap try_scope C.same)) refl N.goes.0 (ap Ok (sym (counted b₂ c' N.goes.0))) refl

  -- there is no room for it
  pub no_room : {err : MirLowerError} → Sized b c → Opens c b₁ (Err err) b₂ → Gives scope_way b c (by_step (try_scope (decode b c))) (Err (CallError.Refused err)) b₂
  no_room {err = err} S O = refuses err no_pattern S (ap by_step ((O.adds 0 C.ready).says ∙ ap try_scope C.same)) (O.untouched refl ∙ C.holds) refl refl
