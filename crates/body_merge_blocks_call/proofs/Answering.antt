-- The step of `merge_blocks`, by the contracts of what it calls. Assumes nothing.
use Rattle.std.specs.Prelude.{Ok, Err}
use mathlib.Core.Path.{◌≡◌, refl, sym, ap, ap₂, ◌∙◌}
use Rattle.refusals.specs.declared.MirLowerError.{MirLowerError}
use Rattle.refusals.specs.Refusals.{no_pattern}
use Rattle.mir.specs.declared.Counts.{Counts}
use Rattle.state.specs.State.{Body, decode}
use Rattle.lower_spec.specs.Results.{OptBlock}
use Rattle.lower_spec.specs.Merging.{merge_blocks}
use Rattle.calls_spec.specs.Calls.{by_step}
use Rattle.body_calls_spec.specs.Sizes.{Sized}
use Rattle.body_calls_spec.proofs.Clearing.{Cleared, counted}
use Rattle.body_merging.specs.Promises.{Merges}
use Rattle.calls_spec.specs.Promises.{Gives}
use Rattle.body_calls_spec.specs.Answers.{merge_way}
use Rattle.body_calls_spec.proofs.Replying.{accepts, refuses}
use Rattle.body_calls_spec.specs.declared.CallError.{CallError}

-- the body b was found, b₁ is the one after zeros were written above the counts c, and b₂ the one behind the step
module _ {b b₁ b₂ : Body} {c : Counts} (x y : OptBlock) (C : Cleared b c b₁) where
  -- they go on at one block
  pub merged : {c' : Counts} {m : OptBlock} → Merges c x y b₁ (Ok (c', m)) b₂ → Gives (merge_way x y) b c (by_step (merge_blocks (decode b c) x y)) (Ok (c', m)) b₂
  merged {c' = c'} M =
      let ready = (M.goes C.ready).0 in
      accepts c' (decode b₂ c') (ap by_step (M.says C.ready ∙ ap (λ st. merge_blocks st x y) C.same)) refl ready
      (ap₂ (λ (k : Counts) (n : OptBlock). Ok (k, n)) (sym (counted b₂ c' ready)) M.number) refl

  -- there is no room for it
  pub not_merged : {err : MirLowerError} → Sized b c → Merges c x y b₁ (Err err) b₂ →
      Gives (merge_way x y) b c (by_step (merge_blocks (decode b c) x y)) (Err (CallError.Refused err)) b₂
  not_merged {err = err} S M = refuses err no_pattern S (ap by_step (M.says C.ready ∙ ap (λ st. merge_blocks st x y) C.same)) (M.untouched refl ∙ C.holds) refl refl
