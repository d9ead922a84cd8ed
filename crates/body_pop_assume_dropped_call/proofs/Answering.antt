-- The step of `pop_assume_dropped`, by the contracts of what it calls. Assumes nothing.
use Rattle.std.specs.Prelude.{Ok, Err}
use mathlib.Core.Path.{◌≡◌, refl, sym, ap, ◌∙◌}
use Rattle.refusals.specs.declared.MirLowerError.{MirLowerError}
use Rattle.refusals.specs.Refusals.{no_pattern}
use Rattle.mir.specs.declared.Counts.{Counts}
use Rattle.state.specs.State.{Body, decode}
use Rattle.drop_scopes_spec.specs.Dropping.{pop_assume_dropped}
use Rattle.calls_spec.specs.Calls.{by_step}
use Rattle.body_calls_spec.specs.Sizes.{Sized}
use Rattle.body_calls_spec.proofs.Clearing.{Cleared, counted}
use Rattle.body_scopes.specs.Promises.{Closes}
use Rattle.calls_spec.specs.Promises.{Gives}
use Rattle.body_calls_spec.specs.Answers.{scope_way}
use Rattle.body_calls_spec.proofs.Replying.{accepts, refuses}
use Rattle.body_calls_spec.specs.declared.CallError.{CallError}

-- the body b was found, b₁ is the one after zeros were written above the counts c, and b₂ the one behind the step
module _ {b b₁ b₂ : Body} {c : Counts} (C : Cleared b c b₁) where
  -- the last scope is closed
  pub scope_closed : {c' : Counts} → Closes c b₁ (Ok c') b₂ → Gives scope_way b c (by_step (pop_assume_dropped (decode b c))) (Ok c') b₂
  scope_closed {c' = c'} P =
      let ready = P.goes C.ready in
      accepts c' (decode b₂ c') (ap by_step (P.says C.ready ∙ ap pop_assume_dropped C.same)) refl ready (ap Ok (sym (counted b₂ c' ready))) refl

  -- there is none
  pub no_scope : {err : MirLowerError} → Sized b c → Closes c b₁ (Err err) b₂ → Gives scope_way b c (by_step (pop_assume_dropped (decode b c))) (Err (CallError.Refused err)) b₂
  no_scope {err = err} S P = refuses err no_pattern S (ap by_step (P.says C.ready ∙ ap pop_assume_dropped C.same)) (P.untouched refl ∙ C.holds) refl refl
