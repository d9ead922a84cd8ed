-- The steps of the calls by which locals leave, by the contracts of what they call. Assumes nothing.
use Rattle.std.specs.Prelude.{Ok, Err}
use Prim.Native.Nat.{ℕ, ◌*◌, ◌<◌}
use mathlib.Core.Path.{◌≡◌, refl, sym, ap, ◌∙◌}
use mathlib.Core.List.{List}
use lib.ListN.{length}
use Rattle.refusals.specs.declared.MirLowerError.{MirLowerError}
use Rattle.refusals.specs.Refusals.{no_pattern, Result}
use Rattle.row_tables.specs.Rows.{row_at, stored}
use Rattle.mir.specs.declared.BasicBlockId.{BasicBlockId}
use Rattle.mir.specs.declared.Counts.{Counts}
use Rattle.state.specs.State.{Body, State, decode, encode}
use Rattle.drop_scopes_spec.specs.Dropping.{At}
use Rattle.drop_scopes_spec.specs.Promises.{Pops}
use Rattle.calls_spec.specs.Calls.{by_step}
use Rattle.calls_spec.specs.Promises.{Gives}
use Rattle.body_calls_spec.specs.Answers.{drop_way}
use Rattle.body_calls_spec.specs.Sizes.{Sized}
use Rattle.body_calls_spec.proofs.Clearing.{Cleared, counted}
use Rattle.body_calls_spec.proofs.Restoring.{put_back}
use Rattle.mir.specs.Blocks.{block_width, block_words}
use Rattle.body_tables.specs.Layout.{with_blocks}
use Rattle.body_calls_spec.proofs.Replying.{accepts, refuses}
use Rattle.body_calls_spec.specs.declared.CallError.{CallError}

-- a call that gives `defined`: the body b was found, and b₁ is the one after zeros were written above the counts c
module _ (defined : State → Result At) {b b₁ : Body} {c : Counts} {block : BasicBlockId} (C : Cleared b c b₁) where
  -- the locals have left
  pub dropped : {c' : Counts} {k : BasicBlockId} {b₂ : Body} → Pops defined c block b₁ (Ok (c', k)) b₂ → Gives drop_way b c (by_step (defined (decode b c))) (Ok (c', k)) b₂
  dropped {c' = c'} {k = k} {b₂ = b₂} P =
      let ready = P.goes C.ready in
      accepts c' (record { state = decode b₂ c'; block = k }) (ap by_step (P.says C.ready ∙ ap defined C.same)) refl ready (ap (λ n. Ok (n, k)) (sym (counted b₂ c' ready))) refl

  -- a refusal: b₂ is the body behind the step, and the row of the block is put back
  pub not_dropped : {err : MirLowerError} {row : List ℕ} {b₂ b₃ b₄ : Body} → Sized b c → Pops defined c block b₁ (Err err) b₂ → block.0 < c.blocks →
      row ≡ row_at block_width b₁.blocks block.0 → b₃ ≡ with_blocks b₂ (stored b₂.blocks (block_width * block.0) row) → b₄ ≡ encode (decode b₃ c) → length b₂.blocks ≡ block_words →
      Gives drop_way b c (by_step (defined (decode b c))) (Err (CallError.Refused err)) b₄
  not_dropped {err = err} {b₂ = b₂} S P h row back is long =
      let R = C.ready in
      let rest = put_back c block.0 b₁ b₂ h R.block_count_lem R.blocks long (P.kept R refl) in
      let at = back ∙ ap (λ r. with_blocks b₂ (stored b₂.blocks (block_width * block.0) r)) row in
      refuses err no_pattern S (ap by_step (P.says R ∙ ap defined C.same)) (is ∙ ap (λ x. encode (decode x c)) at ∙ ap encode (rest ∙ C.same)) refl refl
