-- The steps of an accepted call: the locals are made, and then the parameters are lowered. Assumes nothing.
use Prim.Native.Nat.{ℕ, ◌+◌}
use mathlib.Core.Path.{◌≡◌, refl, sym}
use mathlib.Core.List.{List}
use lib.ListN.{length}
use Rattle.refusals.specs.Refusals.{Result, no_pattern}
use Rattle.refusals.specs.Refusals.{done, stopped}
use Rattle.mir.specs.declared.BasicBlockId.{BasicBlockId}
use Rattle.pattern_matching.specs.Walking.{Ctx, Out, Walk, ok, step, with_state}
use Rattle.params_spec.specs.Results.{SelfParam}
use Rattle.params_spec.specs.Params.{Param, Declared, ParamsOut, declare, self_count, lower_params, lower_all, lower_params_and_bindings}
use Rattle.growth.proofs.Walks.{not_ok, ok_is, walked}

-- what each step gave
pub record Steps (image : List ℕ) (self : SelfParam) (params : List Param) (bindings : List ℕ) (ctx : Ctx) (current : BasicBlockId) (r : ParamsOut) : Type 0 where
  pub made : Declared
  pub declared : declare image self params (record { state = ctx.state; bindings = bindings }) ≡ done made
  pub end : Out
  pub params_lowered : lower_params image made.bindings params (length ctx.state.locals + self_count self) (with_state ctx made.state) current ≡ ok end
  pub is : r ≡ record { ctx = end.ctx; then = end.then; bindings = made.bindings }

-- a step, and what followed it
stepped : {A B C : Type 0} (p : ℕ) (x : Result A) (k : A → Walk B) {b : B} → step p x k ≡ ok b → ((a : A) → x ≡ done a → k a ≡ ok b → C) → C
stepped p (done a) k e f = f a refl e
stepped p (stopped x) k e f = absurd (not_ok e)

-- those of an accepted call
pub steps : (image : List ℕ) (self : SelfParam) (params : List Param) (bindings : List ℕ) (ctx : Ctx) (current : BasicBlockId) (r : ParamsOut) →
    lower_params_and_bindings image self params bindings ctx current ≡ ok r → Steps image self params bindings ctx current r
unfolding lower_params_and_bindings lower_all
steps image self params bindings ctx current r e =
    stepped no_pattern (declare image self params (record { state = ctx.state; bindings = bindings })) _ e (λ d e₁ e₂.
    walked (lower_params image d.bindings params (length ctx.state.locals + self_count self) (with_state ctx d.state) current) _ e₂ (λ r₁ e₃ e₄.
    record { made = d; declared = e₁; end = r₁; params_lowered = e₃; is = sym (ok_is e₄) }))
