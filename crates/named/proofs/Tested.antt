-- The test of an enum makes a local of its own, live in its block: the one that comes next. Assumes nothing.
use Rattle.std.specs.Prelude.{Some, None}
use Prim.Native.Nat.{ℕ, ◌≤◌}
use mathlib.Core.Path.{◌≡◌, refl, ap, ap₂, ◌∙◌}
use mathlib.Core.Bool.{Bool, true, false}
use mathlib.Core.List.{List, [], ◌∷◌, ◌++◌, map, map-append, append_assoc}
use lib.Dec.{eqb, ltb}
use lib.ListN.{length}
use Rattle.refusals.specs.declared.MirLowerError.{MirLowerError}
use Rattle.refusals.specs.Refusals.{and_then}
use Rattle.place.specs.declared.Place.{Place}
use Rattle.mir.specs.declared.BasicBlockId.{BasicBlockId}
use Rattle.mir.specs.declared.blocks.Terminator.{Terminator}
use Rattle.mir.specs.declared.rvalues.PlaceRvalue.{PlaceRvalue}
use Rattle.mir.specs.Blocks.{block_limit}
use Rattle.mir.specs.Statements.{statement_limit}
use Rattle.mir.specs.Locals.{local_limit}
use Rattle.mir.specs.Scopes.{entry_limit}
use Rattle.mir.specs.Rvalues.{live_row, place_rvalue_row}
use Rattle.state.specs.State.{State}
use Rattle.state.specs.Steps.{within, next_local, new_block, push_statement, new_local, push_entry, set_terminator, try_block, try_statement, try_local, try_entry}
use Rattle.lower_spec.specs.Results.{OptBlock}
use Rattle.lower_spec.specs.Temps.{is_slice, mark_live, temp, discr_temp_place}
use Rattle.views.specs.Views.{Line, line_of, mir_of}
use Rattle.views.proofs.ReadBack.{live_back, place_rvalue_back}
use Rattle.pattern_matching.specs.Walking.{Ctx, Out, ok, else_state}
use Rattle.pattern_matching.specs.Variants.{discriminant_test}
use Rattle.counting.proofs.Holding.{Holds, Gives, holds, gives, stops, holds_step, gives_then}
use Rattle.named.specs.Named.{TestLocal}
use Rattle.named.proofs.Keeping.{guarded}

-- a step within a limit gives what it says
exactly : {A : Type 0} (b : Bool) (a : A) → Gives (λ (x : A). x ≡ a) (within b a)
exactly true a = gives (λ x. x ≡ a) a refl
exactly false a = stops (λ x. x ≡ a) MirLowerError.Limit

-- statements, locals and entries are the same
record Beside (st st₁ : State) : Type 0 where
  statements : st₁.statements ≡ st.statements
  locals : st₁.locals ≡ st.locals
  entries : st₁.entries ≡ st.entries

-- one block more
beside_block : (st : State) → Gives (Beside st) (try_block st)
unfolding try_block new_block
beside_block st = by (ltb (length st.blocks) block_limit)
  where
    by : (b : Bool) → Gives (Beside st) (within b (new_block st))
    by true = gives (Beside st) (new_block st) (record { statements = refl; locals = refl; entries = refl })
    by false = stops (Beside st) MirLowerError.Limit

-- an else
beside_else : (st : State) (els : OptBlock) → Gives (Beside st) (else_state st els)
unfolding else_state
beside_else st None = beside_block st
beside_else st (Some b) = gives (Beside st) st (record { statements = refl; locals = refl; entries = refl })

-- what a temporary adds
record Temporary (word : ℕ) (block : BasicBlockId) (st st₁ : State) : Type 0 where
  statements : st₁.statements ≡ st.statements ++ (live_row block (next_local st) ∷ [])
  locals : st₁.locals ≡ st.locals ++ (word ∷ [])
  entries : st₁.entries ≡ st.entries ++ (length st.locals ∷ [])

temporary : (image : List ℕ) (st : State) (word : ℕ) (block : BasicBlockId) → Gives (Temporary word block st) (temp image st word block)
unfolding temp try_local mark_live try_entry try_statement new_local push_entry push_statement
temporary image st word block =
    let l = next_local st in
    guarded (is_slice image word) MirLowerError.UnsizedTemporary (and_then (try_local st word) (λ st₁. mark_live false st₁ l block))
    (gives_then {Q = Temporary word block st} (try_local st word) (λ st₁. mark_live false st₁ l block) (exactly (ltb (length st.locals) local_limit) (new_local st word)) (λ st₁ e₁.
    guarded (eqb (length st₁.scopes) 0) MirLowerError.NoScope (and_then (try_entry st₁ l) (λ st₂. try_statement st₂ (live_row block l)))
    (gives_then {Q = Temporary word block st} (try_entry st₁ l) (λ st₂. try_statement st₂ (live_row block l)) (exactly (ltb (length st₁.entries) entry_limit) (push_entry st₁ l)) (λ st₂ e₂.
    record {
      at = λ st₃ is.
          let e₃ = (exactly (ltb (length st₂.statements) statement_limit) (push_statement st₂ (live_row block l))).at st₃ is in
          record {
            statements = ap (λ (s : State). s.statements) e₃ ∙ ap (λ (s : State). s.statements ++ (live_row block l ∷ [])) e₂ ∙ ap (λ (s : State). s.statements ++ (live_row block l ∷ [])) e₁;
            locals = ap (λ (s : State). s.locals) e₃ ∙ ap (λ (s : State). s.locals) e₂ ∙ ap (λ (s : State). s.locals) e₁;
            entries = ap (λ (s : State). s.entries) e₃ ∙ ap (λ (s : State). s.entries) e₂ ∙ ap (λ (s : State). s.entries ++ (l.0 ∷ [])) e₁;
          };
    }))))

-- The test of an enum sets the local that is made for it.
pub test_local : (image : List ℕ) (p v : ℕ) (ctx : Ctx) (current : BasicBlockId) (els : OptBlock) (place : Place) (r : Out) → place.len ≤ 16 → length place.elems ≡ 16 →
    discriminant_test image p v ctx current els place ≡ ok r → TestLocal ctx.state current place r.ctx.state
unfolding discriminant_test try_statement push_statement set_terminator mir_of
test_local image p v ctx current els place r short whole e = tested.at r e
  where
    st : State
    st = ctx.state

    row : List ℕ
    row = place_rvalue_row current (next_local ctx.state) PlaceRvalue.Discr place

    lined : (st₁ st₂ st₃ st₄ st₅ : State) → Temporary 258 current st st₁ → st₂ ≡ push_statement st₁ row → Beside st₂ st₃ → Beside st₃ st₄ → Beside st₄ st₅ → TestLocal st current place st₅
    lined st₁ st₂ st₃ st₄ st₅ t e₂ b₃ b₄ b₅ =
        record {
          local = b₅.locals ∙ b₄.locals ∙ b₃.locals ∙ ap (λ (s : State). s.locals) e₂ ∙ t.locals;
          entry = b₅.entries ∙ b₄.entries ∙ b₃.entries ∙ ap (λ (s : State). s.entries) e₂ ∙ t.entries;
          lines =
              ap (map line_of)
              (b₅.statements ∙ b₄.statements ∙ b₃.statements ∙ ap (λ (s : State). s.statements) e₂ ∙ ap (λ (s : List (List ℕ)). s ++ (row ∷ [])) t.statements
              ∙ append_assoc st.statements (live_row current (next_local st) ∷ []) (row ∷ []))
              ∙ map-append line_of st.statements (live_row current (next_local st) ∷ row ∷ [])
              ∙ ap (λ (ls : List Line). map line_of st.statements ++ ls)
              (ap₂ (λ (x y : Line). x ∷ y ∷ []) (live_back current (next_local st)) (place_rvalue_back current (next_local st) PlaceRvalue.Discr place short whole));
        }

    closed : (s : State) (t : Terminator) → Beside s (set_terminator s current t)
    closed s t = record { statements = refl; locals = refl; entries = refl }

    tested : Holds (λ (r : Out). TestLocal st current place r.ctx.state) (discriminant_test image p v ctx current els place)
    tested =
        holds_step p (discr_temp_place image st current) _ (temporary image st 258 current) (λ st₁ t.
        holds_step p (try_statement st₁ row) _ (pushed st₁) (λ st₂ e₂.
        holds_step p (try_block st₂) _ (beside_block st₂) (λ st₃ b₃.
        holds_step p (else_state st₃ els) _ (beside_else st₃ els) (λ st₄ b₄.
        holds (λ (r : Out). TestLocal st current place r.ctx.state) _ (lined st₁ st₂ st₃ st₄ _ t e₂ b₃ b₄ (closed st₄ _))))))
      where
        pushed : (st₁ : State) → Gives (λ (x : State). x ≡ push_statement st₁ row) (try_statement st₁ row)
        pushed st₁ = exactly (ltb (length st₁.statements) statement_limit) (push_statement st₁ row)
