-- What the call's own step gives, on a body and values that were looked at. Assumes nothing.
use Rattle.std.specs.Prelude.{None, Ok, Err}
use Prim.Native.Nat.{ℕ, ◌*◌, ◌<◌}
use mathlib.Core.Path.{◌≡◌, refl, ap, ◌∙◌}
use mathlib.Core.List.{List, []}
use lib.ListN.{length}
use Rattle.refusals.specs.declared.MirLowerError.{MirLowerError}
use Rattle.refusals.specs.Refusals.{no_pattern}
use Rattle.row_tables.specs.Rows.{zeros, row_at, stored}
use Rattle.image.specs.declared.PatId.{PatId}
use Rattle.image.specs.declared.kinds.BindingMode.{BindingMode}
use Rattle.place.specs.declared.LocalId.{LocalId}
use Rattle.mir.specs.declared.BasicBlockId.{BasicBlockId}
use Rattle.mir.specs.declared.Counts.{Counts}
use Rattle.state.specs.State.{Body, State, decode, encode}
use Rattle.lower_spec.specs.Results.{OptBlock}
use Rattle.calls_spec.specs.Promises.{Gives}
use Rattle.body_calls_spec.specs.Sizes.{Sized}
use Rattle.body_calls_spec.proofs.Clearing.{Cleared}
use Rattle.body_calls_spec.proofs.Replying.{refuses}
use Rattle.body_calls_spec.proofs.Restoring.{put_back}
use Rattle.mir.specs.Blocks.{block_width, block_words}
use Rattle.body_tables.specs.Layout.{with_blocks}
use Rattle.pattern_matching.specs.Walking.{Ctx, Out, Walk, local_place}
use Rattle.pattern_matching.specs.Tests.{pattern_match_binding}
use Rattle.pattern_walk_spec.specs.Answers.{Lowers}
use Rattle.pattern_walk_spec.proofs.Sequences.{lowers_walks}
use Rattle.pattern_walk_spec.specs.Calls.{by_walk, start_ctx}
use Rattle.pattern_calls_spec.specs.Calls.{match_way}
use Rattle.pattern_calls_spec.proofs.Stepping.{walk_accepted}
use Rattle.body_calls_spec.specs.declared.PatternCallError.{PatternCallError}

-- the body b was found, and b₁ is the one after zeros were written above the counts c
module _ (bindings : List ℕ) (binding : ℕ) (current : BasicBlockId) (l : LocalId) {b b₁ : Body} {c : Counts} (C : Cleared b c b₁) where
  -- the binding is filled with a copy of the local
  abbrev self : Ctx → Walk Out
  self ctx = pattern_match_binding bindings no_pattern no_pattern binding BindingMode.Value ctx current None (local_place l)

  pub self_matched : {c' : Counts} {then : BasicBlockId} {els' : OptBlock} {b₂ : Body} → Lowers self c current None b₁ (Ok (c', then, els')) b₂ →
      Gives match_way b c (by_walk (self (start_ctx b c))) (Ok (c', then, els')) b₂
  self_matched L = (walk_accepted self {v = []} C refl (lowers_walks (zeros 512) L)).gives

  -- a refusal: b₂ is the body behind the step, the row of the block is put back, and zeros are written above the counts again
  pub self_not_matched : {err : MirLowerError} {q : PatId} {row : List ℕ} {b₂ b₃ b₄ : Body} → Sized b c → Lowers self c current None b₁ (Err (err, q)) b₂ → current.0 < c.blocks →
      row ≡ row_at block_width b₁.blocks current.0 → b₃ ≡ with_blocks b₂ (stored b₂.blocks (block_width * current.0) row) → b₄ ≡ encode (decode b₃ c) → length b₂.blocks ≡ block_words →
      Gives match_way b c (by_walk (self (start_ctx b c))) (Err (PatternCallError.Refused err q)) b₄
  self_not_matched {err = err} {q = q} {b₂ = b₂} S L h row back is long =
      let R = C.ready in
      let A = L.answers (zeros 512) R in
      let rest = put_back c current.0 b₁ b₂ h R.block_count_lem R.blocks long A.kept in
      let at = back ∙ ap (λ r. with_blocks b₂ (stored b₂.blocks (block_width * current.0) r)) row in
      refuses err q.0 S (ap by_walk (A.says ∙ ap (λ (st : State). self (record { state = st; visits = zeros 512 })) C.same))
      (is ∙ ap (λ x. encode (decode x c)) at ∙ ap encode (rest ∙ C.same)) refl refl
