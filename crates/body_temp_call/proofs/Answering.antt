-- The step of `temp`, by the contracts of what it calls. Assumes nothing.
use Rattle.std.specs.Prelude.{Ok, Err}
use Prim.Native.Nat.{ℕ}
use mathlib.Core.Path.{◌≡◌, refl, sym, ap, ap₂, ◌∙◌}
use mathlib.Core.List.{List}
use Rattle.refusals.specs.declared.MirLowerError.{MirLowerError}
use Rattle.refusals.specs.Refusals.{no_pattern}
use Rattle.place.specs.declared.LocalId.{LocalId}
use Rattle.mir.specs.declared.BasicBlockId.{BasicBlockId}
use Rattle.mir.specs.declared.Counts.{Counts}
use Rattle.state.specs.State.{Body, decode, encode}
use Rattle.lower_spec.specs.Temps.{temp}
use Rattle.calls_spec.specs.Calls.{by_step}
use Rattle.body_calls_spec.specs.Sizes.{Sized}
use Rattle.body_calls_spec.proofs.Clearing.{Cleared, counted}
use Rattle.body_temps.specs.Promises.{Makes}
use Rattle.calls_spec.specs.Promises.{Gives}
use Rattle.body_calls_spec.specs.Answers.{temp_way}
use Rattle.body_calls_spec.proofs.Replying.{accepts, refuses}
use Rattle.body_opening.proofs.Replying.{all_below_lem}
use Rattle.body_calls_spec.specs.declared.CallError.{CallError}

-- the body b was found, b₁ is the one after zeros were written above the counts c, and b₂ the one behind the step
module _ {b b₁ b₂ : Body} {c : Counts} (image : List ℕ) (word : ℕ) (block : BasicBlockId) (C : Cleared b c b₁) where
  -- a temporary is made
  pub temp_made : {c' : Counts} {n : LocalId} → Makes (λ st. temp image st word block) c b₁ (Ok (c', n)) b₂ →
      Gives temp_way b c (by_step (temp image (decode b c) word block)) (Ok (c', n)) b₂
  temp_made {c' = c'} M =
      let N = M.answers 0 C.ready in
      accepts c' (decode b₂ c') (ap by_step (N.says ∙ ap (λ st. temp image st word block) C.same)) refl N.goes.0
      (ap₂ (λ (k : Counts) (l : LocalId). Ok (k, l)) (sym (counted b₂ c' N.goes.0)) M.number) refl

  -- none is, and zeros are written above the counts again
  pub temp_refused : {err : MirLowerError} {b₃ : Body} → Sized b c → Makes (λ st. temp image st word block) c b₁ (Err err) b₂ → b₃ ≡ encode (decode b₂ c) →
      Gives temp_way b c (by_step (temp image (decode b c) word block)) (Err (CallError.Refused err)) b₃
  temp_refused {err = err} S M is =
      let N = M.answers c.blocks C.ready in
      refuses err no_pattern S (ap by_step (N.says ∙ ap (λ st. temp image st word block) C.same)) (is ∙ ap encode (all_below_lem c b₁ b₂ N.kept ∙ C.same)) refl refl
