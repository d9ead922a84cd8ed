-- The calls' own steps: what each gives, by what the walk promises. Assumes nothing.
use Rattle.std.specs.Prelude.{Ok, Err}
use Prim.Native.Nat.{ℕ, ◌*◌, ◌<◌}
use mathlib.Core.Path.{◌≡◌, refl, sym, ap, subst, ◌∙◌}
use mathlib.Core.List.{List}
use lib.ListN.{length}
use Rattle.refusals.specs.declared.MirLowerError.{MirLowerError}
use Rattle.row_tables.specs.Rows.{zeros, row_at, stored}
use Rattle.image.specs.declared.PatId.{PatId}
use Rattle.mir.specs.declared.BasicBlockId.{BasicBlockId}
use Rattle.mir.specs.declared.Counts.{Counts}
use Rattle.state.specs.State.{Body, State, decode, encode}
use Rattle.mir.specs.Blocks.{block_width, block_words}
use Rattle.body_tables.specs.Layout.{with_blocks}
use Rattle.lower_spec.specs.Results.{OptBlock}
use Rattle.calls_spec.specs.Calls.{Called}
use Rattle.body_calls_spec.specs.Sizes.{Sized}
use Rattle.body_calls_spec.proofs.Clearing.{Cleared, counted}
use Rattle.body_calls_spec.proofs.Replying.{accepts, refuses}
use Rattle.body_calls_spec.proofs.Restoring.{put_back}
use Rattle.pattern_matching.specs.Walking.{Ctx, Out, Walk}
use Rattle.pattern_walk_spec.specs.Answers.{Walks}
use Rattle.pattern_walk_spec.specs.Calls.{by_walk, start_ctx, Visits}
use Rattle.pattern_calls_spec.specs.Results.{MatchCall}
use Rattle.pattern_calls_spec.specs.Calls.{match_way, match_ctx}
use Rattle.pattern_calls_spec.proofs.Starting.{no_visits, row_found}
use Rattle.body_calls_spec.specs.declared.PatternCallError.{PatternCallError}

-- the same by another name
pub visits_by : {b b' : Body} {v v' : List ℕ} {c : Counts} {given defined : Called Out} {r : MatchCall} → given ≡ defined → Visits match_way match_ctx b v c given r b' v' →
    Visits match_way match_ctx b v c defined r b' v'
visits_by {b = b} {b' = b'} {v = v} {v' = v'} {c = c} {r = r} e G = subst (λ x. Visits match_way match_ctx b v c x r b' v') e G

-- A call that gives `defined`. The body b and the visits v were found; b₁ and v₁ are those after zeros were written above the counts c, and in the visits' table.
module _ (defined : Ctx → Walk Out) {b b₁ : Body} {v v₁ : List ℕ} {c : Counts} {current : BasicBlockId} {els : OptBlock} (C : Cleared b c b₁) (zero : v₁ ≡ zeros 512) where
  -- the walk is accepted
  pub walk_accepted : {c' : Counts} {then : BasicBlockId} {els' : OptBlock} {b₂ : Body} {v' : List ℕ} → Walks defined c current els b₁ v₁ (Ok (c', then, els')) b₂ v' →
      Visits match_way match_ctx b v c (by_walk (defined (start_ctx b c))) (Ok (c', then, els')) b₂ v'
  walk_accepted {c' = c'} {then = then} {els' = els'} {b₂ = b₂} W =
      let A = W.answers (zeros 512) C.ready (zero ∙ no_visits) in
      let ready = A.answers.goes.0 in
      let is = A.answers.says ∙ ap (λ (st : State). defined (record { state = st; visits = zeros 512 })) C.same in
      visits_by (ap by_walk is)
      (record {
        gives = accepts c' _ refl refl ready (ap (λ (n : Counts). Ok (n, then, els')) (sym (counted b₂ c' ready))) refl;
        visits = A.holds;
      })

  -- the walk is refused and leaves b₂: b₃ is the body after the row of the block where it started was put back, and b₄ the one after zeros were written again
  pub walk_refused : {e : MirLowerError} {q : PatId} {v' v₄ row : List ℕ} {b₂ b₃ b₄ : Body} → Sized b c → Walks defined c current els b₁ v₁ (Err (e, q)) b₂ v' → current.0 < c.blocks →
      length b₂.blocks ≡ block_words → row ≡ row_at block_width b.blocks current.0 → b₃ ≡ with_blocks b₂ (stored b₂.blocks (block_width * current.0) row) → b₄ ≡ encode (decode b₃ c) →
      v₄ ≡ zeros 512 → Visits match_way match_ctx b v c (by_walk (defined (start_ctx b c))) (Err (PatternCallError.Refused e q)) b₄ v₄
  walk_refused {e = e} {q = q} {row = row} {b₂ = b₂} S W start long is_row back is zero₄ =
      let R = C.ready in
      let A = W.answers (zeros 512) R (zero ∙ no_visits) in
      let found = is_row ∙ row_found b c b₁ current.0 C start in
      let Stored-row = back ∙ ap (λ (r : List ℕ). with_blocks b₂ (stored b₂.blocks (block_width * current.0) r)) found in
      let rest = put_back c current.0 b₁ b₂ start R.block_count_lem R.blocks long A.answers.kept in
      let is-walk = A.answers.says ∙ ap (λ (st : State). defined (record { state = st; visits = zeros 512 })) C.same in
      visits_by (ap by_walk is-walk)
      (record {
        gives = refuses e q.0 S refl (is ∙ ap (λ (x : Body). encode (decode x c)) Stored-row ∙ ap encode (rest ∙ C.same)) refl refl;
        visits = zero₄;
      })
